use Rattle.std.proofs.Common.{◌++◌, ap, ◌∙◌}
use Rattle.state_blobs.specs.Partial.{bytes_read}
use Rattle.state_blobs.specs.declared.reading.Reading.{Reading}
use Rattle.state_blobs.proofs.Places.{blob_on_true, cut_on_false}
use Rattle.state_blobs.proofs.gather.Gather.push.Goals as goal

pub returns-clause-whole : goal.returns-clause-whole
returns-clause-whole c =
    blob_on_true c.self.inside.kind c.self.inside.reading.value c.read_bytes.new.reading c.args.self.now c.is_whole.result c.args.bytes.now c.in_ok-read_bytes.ensures.reading c.self.view_is
    (c.in_ok-read_bytes.ensures.ok ∙ ap (λ (r : Reading). bytes_read c.self.inside.kind r ++ c.args.bytes.now) c.deref_mut.ensures.value) c.is_whole.ensures

pub returns-clause-cut : goal.returns-clause-cut
returns-clause-cut c =
    cut_on_false c.self.inside.kind c.self.inside.reading.value c.read_bytes.new.reading c.args.self.now c.is_whole.result c.args.bytes.now c.in_ok-read_bytes.ensures.reading c.self.view_is
    (c.in_ok-read_bytes.ensures.ok ∙ ap (λ (r : Reading). bytes_read c.self.inside.kind r ++ c.args.bytes.now) c.deref_mut.ensures.value) c.is_whole.ensures
