use Rattle.std.proofs.Common.{rules}
use Rattle.crb_shared.proofs.GuestSteps.{cancels}
use Rattle.crb_shared.proofs.steps.cancel.Goals as goal

pub compare_exchange-requires : goal.compare_exchange-requires
compare_exchange-requires c = (search rules, search rules, cancels _ _ _ c.requires.id.2 c.requires.me)
