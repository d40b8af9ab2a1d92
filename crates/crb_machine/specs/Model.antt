-- What contracts see of a device over any port. (Own definition.)
use Rattle.std.specs.Prelude.{ℕ, List, Bool, Option}
use Rattle.crb_regs.specs.declared.registers.Regs.{Regs}

-- The registers, the number of the last job, the buffer's bytes while the device has it, whether the device is held, whether
-- the job that waits in a held device is cancelled, and the port.
pub record DeviceModel (P : Type 0) : Type 0 where
  pub regs : Regs
  pub number : ℕ
  pub own_buffer : Option (List ℕ)
  pub held : Bool
  pub cancelled : Bool
  pub port : P
