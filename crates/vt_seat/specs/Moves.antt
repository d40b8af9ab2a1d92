-- A guest that goes on, at its seat or at another one, after its device was stopped. (Own definitions.)
use Rattle.std.specs.Prelude.{◌≡◌, ◌≢◌, false, Some, None}
use Rattle.crb_regs.specs.declared.phase.Phase.TheVariants.{Lost}
use Rattle.crb_machine.specs.Over.{plain_device}
use Rattle.crb_machine.specs.State.Slot.{Claimed}
use Rattle.crb_machine.specs.Steps.{collected}
use Rattle.crb_machine.specs.Values.{IsUnclaimed, values_at}
use Rattle.crb_worker.specs.declared.progress.Progress.TheVariants.{Free}
use Rattle.tpm_core.specs.declared.parts.TpmParts.{TpmParts}
use Rattle.tpm_core.specs.Steps.{IsValid}
use Rattle.ctrl_client.specs.Exchange.{IsQuiet}
use Rattle.ctrl_model.specs.Link.{Link, empty_channel}
use Rattle.crb_history.specs.Snapshot.{Snapshot}
use Rattle.crb_history.specs.Continued.{device_after}
use Rattle.crb_history.specs.Device.{phase_of}
use Rattle.vt_transcript.specs.OneHost.{OneHost}
use Rattle.vt_transcript.specs.Replies.{is_under_way}
use Rattle.vt_seat.specs.Follows.{RefinesOneHost, IsEmulator, tpm_at}
use Rattle.vt_seat.specs.State.{WorldState}

-- the emulator behind a link is on, with this TPM, and waits for a command
pub record EmulatorRests (tpm : TpmParts) (l : Link) : Type 0 where
  pub quiet : IsQuiet l
  pub emulator : IsEmulator l.emulator tpm None
  pub channel : l.commands ≡ empty_channel

-- what is known of a guest leads here; its device isn't lost, no command is claimed and unfinished, and no call is to fail
pub record CanGo (b : Snapshot) (s : OneHost) (w : WorldState) : Type 0 where
  pub follows : RefinesOneHost b s w
  pub unordered : s.injected_fault ≡ None
  pub working : phase_of b s.history ≢ Lost
  pub unclaimed : is_under_way b s.history ≡ false

-- Such a guest's worker has nothing in hand. Its device's values are those at the end of the history, and give all of it, and its emulator waits, with
-- the TPM that the history leaves.
pub record IsAtRest (b : Snapshot) (s : OneHost) (w : WorldState) : Type 0 where
  pub free : w.progress ≡ Free
  pub unclaimed : (collected (plain_device w.device)).slot ≢ Claimed
  pub exact : IsUnclaimed (collected (plain_device w.device))
  pub values : values_at (collected (plain_device w.device)) ≡ device_after b s.history
  pub working : (collected (plain_device w.device)).regs.phase ≢ Lost
  pub emulator : EmulatorRests (tpm_at b s.history) w.link
  pub fit : IsValid (tpm_at b s.history)
  pub calls_to_fault : w.calls_to_fault ≡ None

-- The guest goes on: its device is as it was but for an answer that it took, and an emulator with the same TPM waits for it.
pub record GoesOnFrom (old new : WorldState) : Type 0 where
  pub device : plain_device new.device ≡ collected (plain_device old.device)
  pub free : new.progress ≡ Free
  pub emulator : (tpm : TpmParts) → old.link.emulator.tpm ≡ Some tpm → EmulatorRests tpm new.link
  pub calls_to_fault : new.calls_to_fault ≡ None
