-- What a run may end with, whatever its input. (Own definitions.)
use Rattle.std.specs.Prelude.{◌≡◌, ◌≢◌, ℕ, Bool, List, Option, IsTrue}
use Rattle.std.specs.Io.KnownBytes.{IsAtEnd}
use Rattle.vt_base.specs.Faults.{Rose}
use Rattle.vt_base.specs.declared.status.Status.{Status}
use Rattle.vt_base.specs.declared.status.Status.TheVariants.{Ok, Usage, ReadFault, WriteFault}

-- the causes of a status: a good end is at the end of the input, and a fault is counted
pub record HasCauses (status : Status) (sure : Bool) (left : Option (List ℕ)) (reads reads_now writes writes_now : ℕ) : Type 0 where
  pub read_to_end : status ≡ Ok → IsAtEnd left
  pub read_fault : status ≡ ReadFault → Rose reads reads_now
  pub write_fault : status ≡ WriteFault → Rose writes writes_now
  pub reads_if_promised : IsTrue sure → status ≢ ReadFault
  pub not_usage : status ≢ Usage
