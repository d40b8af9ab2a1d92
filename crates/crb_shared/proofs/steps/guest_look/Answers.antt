use Rattle.std.proofs.Common.{rules}
use Rattle.crb_shared.proofs.GuestSteps.{looks}
use Rattle.crb_shared.proofs.steps.guest_look.Goals as goal

pub load-requires : goal.load-requires
load-requires c = (search rules, search rules, looks _ _ _ c.requires.id.2 c.requires.me)
