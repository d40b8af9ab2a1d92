use Rattle.own_store.proofs.Openings.{is_ready_by_steps}
use Rattle.own_store.proofs.ledger.Ledger+MemDisk.room.Goals as goal

pub invariant_of-self : goal.invariant_of-self
invariant_of-self c =
    λ usable. is_ready_by_steps c.self.inside.disk c.room.new.self c.self.inside.spare c.self.inside.spare_open c.self.inside.version
    c.room.ensures.steps (c.self.invariant usable)
