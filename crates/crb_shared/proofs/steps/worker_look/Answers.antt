use Rattle.std.proofs.Common.{rules}
use Rattle.crb_shared.proofs.WorkerSteps.{sees_word}
use Rattle.crb_shared.proofs.steps.worker_look.Goals as goal

pub load-requires : goal.load-requires
load-requires c = (search rules, search rules, sees_word _ _ _ c.requires.id.2 c.requires.me)
