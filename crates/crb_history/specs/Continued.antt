-- A history that goes on from the values at its end.
use Rattle.std.specs.Prelude.{◌&&◌, List, ℕ}
use Rattle.crb_regs.specs.Registers.{is_executing}
use Rattle.crb_history.specs.Bytes.{bytes_at}
use Rattle.crb_machine.specs.Values.{DeviceValues}
use Rattle.crb_history.specs.Snapshot.{Snapshot}
use Rattle.crb_history.specs.Event.{History}
use Rattle.crb_history.specs.Device.{phase_of, is_granted, is_cancel, number_of, buffer, executed}
use Rattle.crb_history.specs.Cancelling.{cancelled_before_claim}
use Rattle.crb_history.specs.Legal.{MayReset}
use Rattle.tpm_core.specs.Answers.{values_after}

-- the bytes of the buffer at the end of a history
unfoldable pub content_after : Snapshot → History → List ℕ
content_after b h = bytes_at (buffer b h) 0 3968

-- the device's values at the end of a history; a command that is under way waits, and was held back or not
abbrev pub device_after : Snapshot → History → DeviceValues
device_after b h = record {
  granted = is_granted b h;
  cancel = is_cancel b h;
  phase = phase_of b h;
  cancelled = is_executing (phase_of b h) && cancelled_before_claim b h;
  content = content_after b h;
  number = number_of b h;
}

-- all values at the end of a history
abbrev pub snapshot_after : Snapshot → History → Snapshot
snapshot_after b h = record { tpm = values_after b.tpm (executed b h); device = device_after b h }

-- A suspension may come here: the device isn't lost, and no command is claimed and unfinished. The same is asked of a reset.
abbrev pub MaySuspend : Snapshot → History → Type 0
MaySuspend b h = MayReset b h
