use Rattle.std.proofs.Common.{rules}
use Rattle.crb_shared.proofs.WorkerSteps.{claims_as}
use Rattle.crb_shared.proofs.steps.set_claimed.Goals as goal

pub compare_exchange-requires : goal.compare_exchange-requires
compare_exchange-requires c = (search rules, search rules, claims_as _ _ _ _ c.requires.id.2 c.requires.me.0 c.requires.me.1 c.requires.waiting)
