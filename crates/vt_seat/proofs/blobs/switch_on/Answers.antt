use Rattle.std.proofs.Common.{◌∙◌, ap}
use Rattle.vt_base.specs.declared.types.Kind.TheVariants.{Volatile, Saved}
use Rattle.vt_seat.specs.Blobs.{given_blob}
use Rattle.vt_seat.proofs.Pieces.{switches}
use Rattle.vt_seat.proofs.blobs.switch_on.Goals as goal

pub unreachable-requires : goal.unreachable-requires
unreachable-requires c =
    let laws = c.tpms_are_assembled_once.ensures in
    let t = c.args.tpm.now in
    let blobs = laws.blobs t c.requires.fit in
    let link = c.put_blob-3.ensures.link ∙ ap (given_blob Saved t) (c.put_blob-2.ensures.link ∙ ap (given_blob Volatile t) c.put_blob.ensures.link) in
    let switched = switches t c.requires.fresh.0 c.args.wires.now c.put_blob-3.new.wires.link c.init.new.wires.link c.put_blob-3.new.wires.calls_to_fault c.init.new.wires.calls_to_fault c.init.result
    (record { once = λ a is. laws.once _ _ _ a t is blobs; no_fault = λ fault is. laws.not_both _ _ _ t fault blobs is }) c.requires.fresh.1 link c.put_blob-3.ensures.calls_to_fault c.init.ensures.exact in
    c.in_default.not-Ok tt switched.answer_is

pub returns-clause-link : goal.returns-clause-link
returns-clause-link c = λ piece fresh.
    let laws = c.tpms_are_assembled_once.ensures in
    let t = c.args.tpm.now in
    let blobs = laws.blobs t c.requires.fit in
    let link = c.put_blob-3.ensures.link ∙ ap (given_blob Saved t) (c.put_blob-2.ensures.link ∙ ap (given_blob Volatile t) c.put_blob.ensures.link) in
    (switches t piece c.args.wires.now c.put_blob-3.new.wires.link c.init.new.wires.link c.put_blob-3.new.wires.calls_to_fault c.init.new.wires.calls_to_fault c.init.result
    (record { once = λ a is. laws.once _ _ _ a t is blobs; no_fault = λ fault is. laws.not_both _ _ _ t fault blobs is }) fresh link c.put_blob-3.ensures.calls_to_fault c.init.ensures.exact).link
