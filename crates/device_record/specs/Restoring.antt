-- What a record gives a device that is to get its values. (Own definitions.)
use Rattle.std.specs.Prelude.{◌≡◌, ◌≢◌, ℕ, ◌+◌, ◌≤◌, true, List, length, drop}
use Rattle.crb_regs.specs.declared.phase.Phase.TheVariants.{Execution, Lost}
use Rattle.device_record.specs.declared.fields.Fields.{Fields}
use Rattle.device_record.specs.Records.{values_of, IsRecord}

-- The bytes are the record of these fields and of the content behind its header, and a device can have them.
pub record Restores (f : Fields) (bytes : List ℕ) : Type 0 where
  pub is_record : IsRecord bytes (values_of f (drop 23 bytes))
  pub size : length bytes ≡ 23 + f.count
  pub within_limit : f.count ≤ 3968
  pub working : f.regs.phase ≢ Lost
  pub waits : f.cancelled ≡ true → f.regs.phase ≡ Execution
