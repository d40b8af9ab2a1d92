use Rattle.std.proofs.Common.{rules}
use Rattle.crb_shared.proofs.WorkerSteps.{adds_posted}
use Rattle.crb_shared.proofs.steps.add_posted.Goals as goal

pub load-requires : goal.load-requires
load-requires g c = (search rules, search rules, adds_posted _ _ _ g.E.GivenAnswer.answer c.requires.id.2 c.requires.me.0 c.requires.me.1 c.requires.number)
