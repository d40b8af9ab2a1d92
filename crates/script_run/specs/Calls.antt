-- What the commands of a driver lead to, one after the other. (Own definitions.)
use Rattle.std.specs.Prelude.{◌≡◌, ◌<◌, ◌-◌, ◌^◌, List, ◌∷◌, ◌++◌, ℕ}
use Rattle.crb_port.specs.declared.job.PortState.{PortState}
use Rattle.crb_regs.specs.declared.phase.Phase.TheVariants.{Idle}
use Rattle.tpm_core.specs.Answers.{answer}
use Rattle.tpm_core.specs.Answers.Entry.{Executed}
use Rattle.crb_history.specs.Snapshot.{Snapshot}
use Rattle.crb_history.specs.Device.{phase_of, executed}
use Rattle.crb_history.specs.Event.{History}
use Rattle.vt_script.specs.declared.drive.DriveLine.{DriveLine}
use Rattle.vt_seat.specs.Follows.{tpm_at}
use Rattle.vt_seat.specs.State.{WorldState}
use Rattle.vt_world.specs.Bus.{IsBusAfter}
use Rattle.vt_world.specs.Pairs.{running_world}
use Rattle.vt_world.specs.State.{PairState}
use Rattle.vt_world.specs.Placement.{Placement, running_top}
use Rattle.vt_world.specs.Movable.{IsMovable}
use Rattle.script_run.specs.Driven.{past_of, past_with, written_for}
use Rattle.script_run.specs.Placed.{pieces_of_move, placed, placed_by}
use Rattle.script_run.specs.Start.{base_of}
use Rattle.script_run.specs.declared.start.Start.{Start}

-- no command is prepared
pub record IsAtRest (b : Snapshot) (p : History) (w : WorldState) : Type 0 where
  pub after : IsBusAfter b p w
  pub idle : phase_of b p ≡ Idle

-- the command was executed and its answer was read, and the interface was given back
pub record Calls (b : Snapshot) (p : History) (command response : List ℕ) (new : WorldState) : Type 0 where
  pub answered : response ≡ answer b.tpm (executed b p) command
  pub history : History
  pub rest : IsAtRest b history new
  pub past : executed b history ≡ Executed command ∷ executed b p

-- the guest that runs waits for its next command, and can be moved from where it is placed
pub record IsWaiting (start : Start) (p : History) (s : Placement) (w : PairState PortState) : Type 0 where
  pub rest : IsAtRest (base_of start) p (running_world w)
  pub movable : IsMovable start.piece s w

-- the guest waits somewhere, and the next epoch isn't the last
pub record CanRespond (w : PairState PortState) : Type 0 where
  pub start : Start
  pub history : History
  pub placement : Placement
  pub waits : IsWaiting start history placement w
  pub more : running_top placement < 2 ^ 64 - 1

-- The line was done: its command was executed and the text of the answer was appended, or the guest was moved and nothing was.
pub record Responds (start : Start) (p : History) (s : Placement) (line : DriveLine) (old new : List ℕ) (w : PairState PortState) : Type 0 where
  pub history : History
  pub waits : IsWaiting start history (placed_by line (pieces_of_move start.piece (tpm_at (base_of start) p)) s) w
  pub past : executed (base_of start) history ≡ past_with line (executed (base_of start) p)
  pub appended : new ≡ old ++ written_for (base_of start).tpm (executed (base_of start) p) line

-- the commands of these lines were executed and their moves were made, and the guest waits for the next line
pub record HasDriven (start : Start) (lines : List DriveLine) (pair : PairState PortState) : Type 0 where
  pub history : History
  pub waits : IsWaiting start history (placed start lines) pair
  pub past : executed (base_of start) history ≡ past_of lines
