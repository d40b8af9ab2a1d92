use Rattle.std.proofs.Common.{rules}
use Rattle.crb_shared.proofs.GuestSteps.{adds_queued}
use Rattle.crb_shared.proofs.steps.add_queued.Goals as goal

pub load-requires : goal.load-requires
load-requires g c = (search rules, search rules, adds_queued _ _ _ g.E.GivenJob.job c.requires.id.2 c.requires.me.0 c.requires.me.1)
