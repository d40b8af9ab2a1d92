use Rattle.std.proofs.Common.{rules, refl}
use Rattle.crb_shared.proofs.EndSteps.{closes, compares}
use Rattle.crb_shared.proofs.WorkerSteps.{leaves}
use Rattle.crb_shared.proofs.steps.close.Goals as goal

pub join_seat-requires : goal.join_seat-requires
join_seat-requires c = (search rules, search rules, search rules, search rules, closes _ _ _ _ c.requires.guest.0 (search rules) c.requires.guest.1 (search rules))

pub load-requires-2 : goal.load-requires-2
load-requires-2 c = (search rules, search rules, compares _ _ _ (search rules) (search rules))

pub load-requires : goal.load-requires
load-requires c = (search rules, search rules, leaves _ _ _ c.args.worker.me.0.phase (c.requires.id.0.2) c.requires.worker.0 c.requires.worker.1 refl c.requires.worker.2)
