-- The device over a port whose state is known. (Own definitions.)
use Rattle.std.specs.Prelude.{ℕ, List, Bool, true, false}
use Rattle.crb_regs.specs.declared.registers.Regs.{Regs}
use Rattle.crb_port.specs.declared.job.Job.{Job}
use Rattle.crb_port.specs.declared.job.Answer.{Answer}

-- where the buffer is: with the device, in a job that waits, out with a claimed job, or in an answer
pub data Slot : Type 0 where
  InDevice : List ℕ → Slot
  Queued : Job → Slot
  Claimed : Slot
  Answered : Answer → Slot

-- the registers, the number of the last job, and where the buffer is
pub record DeviceState : Type 0 where
  pub regs : Regs
  pub number : ℕ
  pub slot : Slot

-- whether the buffer is with the device
abbrev pub is_in_device : Slot → Bool
is_in_device (InDevice buf) = true
is_in_device _ = false
