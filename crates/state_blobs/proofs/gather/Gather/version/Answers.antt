use Rattle.std.proofs.Common.{◌∙◌, sym, ap}
use Rattle.state_blobs.specs.Numbers.{version_of}
use Rattle.state_blobs.specs.declared.reading.Reading.{Reading}
use Rattle.state_blobs.proofs.Places.{version_seen}
use Rattle.state_blobs.proofs.gather.Gather.version.Goals as goal

pub returns : goal.returns
returns c lt =
    c.version_of.ensures
    ∙ ap (λ (r : Reading). version_of r.header.banks) c.deref.ensures
    ∙ sym (version_seen c.self.inside.kind c.self.inside.reading.value c.args.self.now c.self.invariant c.self.view_is lt)
