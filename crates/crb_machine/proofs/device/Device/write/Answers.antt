use Rattle.crb_machine.specs.Parts.{model_of}
use Rattle.crb_machine.proofs.device.Device.write.Goals as goal

pub returns-clause-writes : goal.returns-clause-writes
returns-clause-writes g c = rw (← c.self.view_is) (model_of c.collect_answer.new.self, c.collect_answer.ensures.collects, c.write.ensures.writes)
