use Rattle.std.proofs.Common.{ap, sym, subst, refl, ◌∙◌}
use Rattle.state_blobs.specs.Partial.{AreValid}
use Rattle.state_blobs.specs.declared.reading.Reading.{Reading}
use Rattle.state_blobs.proofs.Places.{reads_nothing, gathering_nothing}
use Rattle.state_blobs.proofs.gather.Gather.new.Goals as goal

pub invariant_of-result : goal.invariant_of-result
invariant_of-result c =
    let valid : AreValid c.in_ok-new.field-0.value.fields = subst (λ (r : Reading). AreValid r.fields) (sym c.in_ok-new.ensures.ok) c.unread.ensures.valid in
    reads_nothing c.args.kind c.in_ok-new.field-0.value valid (ap (λ (r : Reading). r.place) c.in_ok-new.ensures.ok ∙ c.unread.ensures.place)

pub returns : goal.returns
returns c = gathering_nothing c.args.kind c.args.kind c.in_ok-new.field-0.value refl (ap (λ (r : Reading). r.place) c.in_ok-new.ensures.ok ∙ c.unread.ensures.place)
