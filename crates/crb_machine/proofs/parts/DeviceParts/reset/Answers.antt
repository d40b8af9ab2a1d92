use Rattle.std.proofs.Common.{rules}
use Rattle.crb_machine.specs.Parts.{model_of}
use Rattle.crb_machine.proofs.parts.DeviceParts.reset.Goals as goal

pub returns-in-Lost-clause-resets : goal.returns-in-Lost-clause-resets
returns-in-Lost-clause-resets g c = (model_of c.stop.new.self, search rules, search rules)

pub returns-in-Some-clause-resets : goal.returns-in-Some-clause-resets
returns-in-Some-clause-resets g c = (model_of c.stop.new.self, search rules, search rules)
