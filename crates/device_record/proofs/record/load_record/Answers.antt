use Rattle.device_record.proofs.Values.{values_restored, restored_as, idle_restored}
use Rattle.device_record.proofs.record.load_record.Goals as goal

pub returns-clause-ok : goal.returns-clause-ok
returns-clause-ok g c = values_restored c.in_ok-fields.fields c.args.bytes.now _ c.in_ok-fields.ensures.ok c.set_state.ensures.values

pub returns-clause-restored : goal.returns-clause-restored
returns-clause-restored g c = λ v is_record. restored_as c.in_ok-fields.fields c.args.bytes.now v c.args.device.now c.set_state.new.self c.in_ok-fields.ensures.ok is_record c.set_state.ensures.restored

pub set_state-requires-clause-idle : goal.set_state-requires-clause-idle
set_state-requires-clause-idle g c = idle_restored c.in_ok-fields.fields c.args.bytes.now c.in_ok-fields.ensures.ok
