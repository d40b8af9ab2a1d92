use Rattle.std.proofs.Common.{rules, ap}
use Rattle.crb_shared.proofs.EndSteps.{parts}
use Rattle.crb_shared.proofs.Frame.{PortMe}
use Rattle.crb_shared.proofs.steps.open.Goals as goal

pub split_seat-worker-requires : goal.split_seat-worker-requires
split_seat-worker-requires c = (search rules, search rules, parts _ _ (ap (λ (m : PortMe). m.0.role) c.open_at.ensures.me) (ap (λ (m : PortMe). m.0.phase) c.open_at.ensures.me))
