-- The board by its fields. (Own definitions.)
use Rattle.std.specs.Prelude.{◌≡◌, false}
use Rattle.vt_base.specs.Numbers.{IsBytes}
use Rattle.ctrl_codec.specs.Reading.{ReaderState}
use Rattle.vt_emulator.specs.CoreStates.{CoreState}
use Rattle.vt_emulator.specs.declared.emulator_core.EmulatorCore.TheInside.{Inside}

abbrev pub core_state : Inside → CoreState
core_state b = record {
  emulator = record { tpm = b.tpm; on = b.on; stored = b.stored; gathers = b.blobs; piece = b.piece; buffer = b.buffer; held = b.commands.held; closed = b.closed };
  command = b.commands.begun;
}

-- a reader that refused bytes has closed the channel, and what it holds are bytes
pub record IsListening (reader : ReaderState) (core : CoreState) : Type 0 where
  pub listens : core.emulator.closed ≡ false → reader.failed ≡ false
  pub bytes : IsBytes reader.begun
