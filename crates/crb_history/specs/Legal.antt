-- The histories of one device over one TPM.
use Rattle.std.specs.Prelude.{◌≡◌, ◌≢◌, ◌≤◌, ◌+◌, true, [], ◌∷◌}
use Rattle.crb_regs.specs.LittleEndian.{little_endian_at}
use Rattle.crb_regs.specs.declared.phase.Phase.TheVariants.{Execution, Lost}
use Rattle.crb_port.specs.declared.job.Outcome.TheVariants.{Done, Cancelled, Lost as EndedLost}
use Rattle.crb_history.specs.Snapshot.{Snapshot}
use Rattle.crb_history.specs.Event.{Event, History}
use Rattle.crb_history.specs.Event.Event.{Read, Write, Claim, Sent, Exec, Finish, Ask, Reset, ResetLost}
use Rattle.crb_history.specs.Device.{phase_of, shown_byte, stage_of, JobStage}
use Rattle.crb_history.specs.Device.JobStage.{Waiting, Claimed, HasSent, HasHeader}
use Rattle.crb_history.specs.Cancelling.{cancel_requested}

-- a command is under way, and its stages so far are these
pub record IsAt (b : Snapshot) (p : History) (stage : JobStage) : Type 0 where
  pub executing : phase_of b p ≡ Execution
  pub reached : stage_of b p ≡ stage

-- a command is under way and claimed
pub record IsClaimed (b : Snapshot) (p : History) : Type 0 where
  pub executing : phase_of b p ≡ Execution
  pub claimed : stage_of b p ≢ Waiting

-- the device isn't lost, and no command is claimed and unfinished
pub record MayReset (b : Snapshot) (p : History) : Type 0 where
  pub working : phase_of b p ≢ Lost
  pub unclaimed : phase_of b p ≡ Execution → stage_of b p ≡ Waiting

-- the event may come after these
abbrev pub IsEnabled : Snapshot → History → Event → Type 0
IsEnabled b p (Read access value) = (access.offset + access.size ≤ 0x1000) × (value ≡ little_endian_at (shown_byte b p) access.offset access.size)
IsEnabled b p (Write access) = Unit {0}
IsEnabled b p Claim = IsAt b p Waiting
IsEnabled b p Sent = IsAt b p Claimed
IsEnabled b p Exec = IsAt b p HasSent
IsEnabled b p (Finish Done) = IsAt b p HasHeader
IsEnabled b p (Finish Cancelled) = IsClaimed b p × (cancel_requested b p ≡ true)
IsEnabled b p (Finish EndedLost) = IsClaimed b p
IsEnabled b p (Ask arrived) = Unit {0}
IsEnabled b p Reset = MayReset b p
IsEnabled b p ResetLost = MayReset b p

-- one device over one TPM may have this history
abbrev pub Legal : Snapshot → History → Type 0
Legal b [] = Unit {0}
Legal b (e ∷ p) = Legal b p × IsEnabled b p e
