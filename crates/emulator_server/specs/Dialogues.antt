-- What decides a dialogue over a channel. (Own definitions.)
use Rattle.std.specs.Prelude.{◌≡◌, ◌⊎◌, ℕ, false, List}
use Rattle.vt_base.specs.declared.types.Chan.{Chan}
use Rattle.ctrl_model.specs.Emulator.{EmulatorState}
use Rattle.emulator_server.specs.Messages.{has_message, TakesNone}

-- bytes behind the last message that bring no other: none is whole in them, or the channel is closed
abbrev pub BringsNone : Chan → List ℕ → EmulatorState → Type 0
BringsNone chan rest d = (has_message chan rest ≡ false) ⊎ TakesNone chan d
