use Rattle.std.proofs.Common.{ap}
use Rattle.own_store.specs.MemDisk.{MemoryDisk}
use Rattle.own_store.proofs.Openings.{is_ready_by_steps}
use Rattle.own_store.proofs.ledger.Ledger+MemDisk.lose_at.Goals as goal

pub invariant_of-self : goal.invariant_of-self
invariant_of-self c =
    λ usable. is_ready_by_steps c.self.inside.disk c.lose_at.new.self c.self.inside.spare c.self.inside.spare_open c.self.inside.version
    (ap (λ (d : MemoryDisk). d.steps) c.lose_at.ensures.injected) (c.self.invariant usable)
