use Rattle.std.proofs.Common.{length, ap, sym, ◌∙◌}
use Rattle.state_blobs.specs.Gathering.{Gathering}
use Rattle.state_blobs.specs.declared.reading.Reading.{Reading}
use Rattle.state_blobs.proofs.Places.{length-read}
use Rattle.state_blobs.proofs.gather.Gather.len.Goals as goal

pub returns-clause-count : goal.returns-clause-count
returns-clause-count c =
    ap (λ (r : Reading). r.place) c.deref.ensures
    ∙ sym (length-read c.self.inside.kind c.self.inside.reading.value c.self.invariant)
    ∙ ap (λ (g : Gathering). length g.begun) c.self.view_is
