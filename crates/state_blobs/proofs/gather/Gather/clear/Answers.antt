use Rattle.std.proofs.Common.{ap, sym, subst, refl}
use Rattle.state_blobs.specs.Gathering.{Gathering}
use Rattle.state_blobs.specs.Partial.{AreValid}
use Rattle.state_blobs.specs.declared.reading.Reading.{Reading}
use Rattle.state_blobs.proofs.Places.{reads_nothing, gathering_nothing}
use Rattle.state_blobs.proofs.gather.Gather.clear.Goals as goal

pub invariant_of-self : goal.invariant_of-self
invariant_of-self c =
    let valid : AreValid c.deref_mut.result.now.fields = subst (λ (r : Reading). AreValid r.fields) (sym c.deref_mut.ensures.value) c.self.invariant.valid in
    reads_nothing c.self.inside.kind (record c.deref_mut.result.now { place = 0 }) valid refl

pub returns : goal.returns
returns c = gathering_nothing c.self.inside.kind c.args.self.now.kind (record c.deref_mut.result.now { place = 0 }) (ap (λ (g : Gathering). g.kind) c.self.view_is) refl
