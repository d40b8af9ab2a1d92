use Rattle.std.proofs.Common.{◌≡◌, [], take, refl, ap, ◌∙◌}
use Rattle.state_blobs.specs.Gathering.{Gathering}
use Rattle.saved_stream.specs.declared.part.Part.TheVariants.{Blob}
use Rattle.saved_stream.proofs.Ends.{blob_few, part_to_end, part_up_to, blob_behind, blob_if, refused_if}
use Rattle.saved_stream.proofs.reading.blob_in.Goals as goal

pub returns-in-Ok-true-clause-part : goal.returns-in-Ok-true-clause-part
returns-in-Ok-true-clause-part c =
    let kind = c.args.gather.now.kind in
    let is = blob_if kind kind c.args.gather.now.begun c.split_at.result.1.now c.in-Ok-true.field-0 c.requires.empty refl c.in-Ok-true.field-0-test c.in-Ok-true.ensures.whole in
    part_to_end (Blob kind) c.args.bytes.now c.split_at.result.1.now c.args.from c.split_at.ensures.back c.requires.from (blob_few c.blobs_are_prefix_free.ensures.blob kind _ is) is

pub returns-clause-part : goal.returns-clause-part
returns-clause-part c =
    let kind = c.args.gather.now.kind in
    let rest = c.split_at.result.1.now in
    let none : c.push.new.self.begun ≡ [] = ap (λ (x : Gathering). x.begun) c.in-Err.ensures.err ∙ c.requires.empty in
    let is = blob_if c.push.new.self.kind kind c.push.new.self.begun (take c.in-Err.fault.place rest) c.in-Ok-true-push.field-0 none c.in-Err.ensures.kind c.in-Ok-true-push.field-0-test c.in-Ok-true-push.ensures.whole in
    let refused = refused_if kind kind c.args.gather.now.begun rest c.in-Err.fault c.requires.empty refl c.in-Err.ensures.refused in
    part_up_to (Blob kind) c.args.bytes.now rest c.args.from c.in-Err.fault.place c.split_at.ensures.back c.requires.from (blob_behind kind c.in-Err.fault rest refused c.in-Extra.is).0
    (blob_few c.blobs_are_prefix_free.ensures.blob kind _ is) is
