-- What can happen to the device and its TPM. No event speaks of a move.
use Rattle.std.specs.Prelude.{ℕ, Bool, List}
use Rattle.crb_regs.specs.Access.{Access}
use Rattle.crb_port.specs.declared.job.Outcome.{Outcome}

pub data Event : Type 0 where
  -- the guest read this value
  Read : (access : Access) (value : ℕ) → Event
  -- the guest wrote
  Write : (access : Access) → Event
  -- the worker claimed the last command, sent it, and had it executed
  Claim : Event
  Sent : Event
  Exec : Event
  -- the last command ended
  Finish : (outcome : Outcome) → Event
  -- a cancel was asked for beside the registers, and arrived or not
  Ask : (arrived : Bool) → Event
  -- the guest was reset; with the TPM powered on anew, or with the TPM lost
  Reset : Event
  ResetLost : Event

-- the events so far, the latest first
abbrev pub History : Type 0
History = List Event
