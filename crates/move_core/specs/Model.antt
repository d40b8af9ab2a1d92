-- What contracts see of a host over any port. (Own definition.)
use Rattle.std.specs.Prelude.{ℕ, List}
use Rattle.vt_base.specs.declared.types.HostName.{HostName}
use Rattle.crb_machine.specs.Model.{DeviceModel}
use Rattle.move_core.specs.declared.stage.MoveStage.{MoveStage}

-- Its name, the most bytes that a piece of its record has, the greatest epoch that it has seen, its side with what it
-- knows of the move there, the bytes of the record in that move, and its device.
pub record HostModel (P : Type 0) : Type 0 where
  pub name : HostName
  pub piece : ℕ
  pub top : ℕ
  pub stage : MoveStage
  pub record_bytes : List ℕ
  pub device : DeviceModel P
