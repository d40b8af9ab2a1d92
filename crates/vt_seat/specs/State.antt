-- What contracts see of a seat, and of what its guest sees. (Own definitions.)
use Rattle.std.specs.Prelude.{ℕ, Option}
use Rattle.crb_machine.specs.Model.{DeviceModel}
use Rattle.crb_port.specs.declared.job.PortState.{PortState}
use Rattle.crb_worker.specs.declared.progress.Progress.{Progress}
use Rattle.ctrl_model.specs.Link.{Link}
use Rattle.move_core.specs.Model.{HostModel}

-- a world, seen part by part
pub record WorldState : Type 0 where
  pub device : DeviceModel PortState
  pub progress : Progress
  pub link : Link
  pub calls_to_fault : Option ℕ
  pub faults : ℕ

-- the host, how far its worker is, the link to its emulator, how many calls on the wires come before the one that is to
-- fail, where one is, and how many have failed
pub record SeatState (P : Type 0) : Type 0 where
  pub host : HostModel P
  pub progress : Progress
  pub link : Link
  pub calls_to_fault : Option ℕ
  pub faults : ℕ
