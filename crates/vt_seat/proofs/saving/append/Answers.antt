use Rattle.std.proofs.Common.{◌∙◌, ◌++◌, ap, List, ℕ}
use Rattle.vt_base.specs.declared.types.Kind.TheVariants.{Permanent, Volatile, Saved}
use Rattle.vt_seat.proofs.Pieces.{whole_rest, readable_on}
use Rattle.vt_seat.proofs.Savings.{ok_map, parts_are}
use Rattle.vt_seat.proofs.saving.append.Goals as goal

pub fetch-permanent_length-requires : goal.fetch-permanent_length-requires
fetch-permanent_length-requires c =
    let laws = c.blobs_are_prefix_free.ensures in
    let t = c.requires.readable.0 in
    let ready = c.requires.readable.1 in
    record { has_rest = (t, ready, whole_rest Permanent t (laws.blob _ _ (laws.texts Permanent t ready.fit))) }

pub fetch-volatile_length-requires : goal.fetch-volatile_length-requires
fetch-volatile_length-requires c =
    let laws = c.blobs_are_prefix_free.ensures in
    let t = c.requires.readable.0 in
    let ready = c.requires.readable.1 in
    record { has_rest = (t, readable_on c.args.wires.now c.fetch-permanent_length.new.wires t c.fetch-permanent_length.ensures.link c.fetch-permanent_length.ensures.calls_to_fault ready, whole_rest Volatile t (laws.blob _ _ (laws.texts Volatile t ready.fit))) }

pub fetch-saved_length-requires : goal.fetch-saved_length-requires
fetch-saved_length-requires c =
    let laws = c.blobs_are_prefix_free.ensures in
    let t = c.requires.readable.0 in
    let ready = c.requires.readable.1 in
    record {
      has_rest = (
        t,
        readable_on c.args.wires.now c.fetch-volatile_length.new.wires t (c.fetch-volatile_length.ensures.link ∙ c.fetch-permanent_length.ensures.link) c.fetch-volatile_length.ensures.calls_to_fault ready,
        whole_rest Saved t (laws.blob _ _ (laws.texts Saved t ready.fit)),
      );
    }

pub returns-clause-ok : goal.returns-clause-ok
returns-clause-ok c = ok_map c.write_stream.result _ _ (λ appended. λ t v ready text.
    let laws = c.blobs_are_prefix_free.ensures in
    let next = readable_on c.args.wires.now c.fetch-permanent_length.new.wires t c.fetch-permanent_length.ensures.link c.fetch-permanent_length.ensures.calls_to_fault ready in
    let last = readable_on c.args.wires.now c.fetch-volatile_length.new.wires t (c.fetch-volatile_length.ensures.link ∙ c.fetch-permanent_length.ensures.link) c.fetch-volatile_length.ensures.calls_to_fault ready in
    appended ∙ ap (λ (text : List ℕ). c.args.into.now.items ++ text) (parts_are v t _ _ _ _ text
    (c.fetch-permanent_length.ensures.bytes t ready (whole_rest Permanent t (laws.blob _ _ (laws.texts Permanent t ready.fit))))
    (c.fetch-volatile_length.ensures.bytes t next (whole_rest Volatile t (laws.blob _ _ (laws.texts Volatile t ready.fit))))
    (c.fetch-saved_length.ensures.bytes t last (whole_rest Saved t (laws.blob _ _ (laws.texts Saved t ready.fit)))))) c.write_stream.ensures.ok
