use Rattle.std.proofs.Common.{rules}
use Rattle.crb_shared.proofs.EndSteps.{opens_as}
use Rattle.crb_shared.proofs.steps.open_at.Goals as goal

pub store-requires : goal.store-requires
store-requires g c = (search rules, search rules, opens_as g.B.GivenTable.table _ _ _ c.requires.id.2 c.requires.me)
