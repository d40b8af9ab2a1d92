use Rattle.std.proofs.Common.{◌≡◌, ◌-◌, length, take, drop, subst}
use Rattle.state_blobs.specs.Gathering.{Gathering}
use Rattle.state_blobs.specs.Partial.{body_in}
use Rattle.state_blobs.proofs.Places.{body_so_far}
use Rattle.state_blobs.proofs.gather.Gather.fields.Goals as goal

pub returns-clause-body : goal.returns-clause-body
returns-clause-body c =
    rw c.deref.ensures (subst (λ (g : Gathering). drop 9 g.begun ≡ take (length g.begun - 9) (body_in g.kind c.self.inside.reading.value.fields)) c.self.view_is
    (body_so_far c.self.inside.kind c.self.inside.reading.value c.self.invariant))
