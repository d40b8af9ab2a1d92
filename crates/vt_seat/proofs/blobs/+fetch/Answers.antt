use Rattle.std.proofs.Common.{rules, ◌≡◌, ◌-◌, ◌∙◌, length, arith}
use Rattle.vt_seat.proofs.Pieces.{fetched, last_piece, goes_on, readable_on, joined_pieces}
use Rattle.vt_seat.proofs.blobs.+fetch.Goals as goal

pub unreachable-requires : goal.unreachable-requires
unreachable-requires t c =
    let laws = c.blobs_are_prefix_free.ensures in
    let ready = c.requires.has_rest.1 in
    let f = fetched c.args.kind c.requires.has_rest.0 c.args.from c.args.wires.now c.get_piece.result c.args.into.now c.get_piece.new.into c.get_piece.new.wires.link c.get_piece.new.wires.calls_to_fault
    (laws.blob _ _ (laws.texts c.args.kind c.requires.has_rest.0 ready.fit)) ready c.requires.has_rest.2 c.get_piece.ensures.exact in
    c.in_default.not-Ok f.got f.answer_is

pub returns-then-count-got-clause-bytes : goal.returns-then-count-got-clause-bytes
returns-then-count-got-clause-bytes t c = λ v ready rest.
    let laws = c.blobs_are_prefix_free.ensures in
    let f = fetched c.args.kind v c.args.from c.args.wires.now c.get_piece.result c.args.into.now c.get_piece.new.into c.get_piece.new.wires.link c.get_piece.new.wires.calls_to_fault
    (laws.blob _ _ (laws.texts c.args.kind v ready.fit)) ready rest c.get_piece.ensures.exact in
    last_piece c.args.kind v c.args.from c.args.wires.now c.get_piece.result c.args.into.now c.get_piece.new.into c.get_piece.new.wires.link c.get_piece.new.wires.calls_to_fault c.in-Ok.got f c.in-Ok.is
    (omega (arith, c.if-count-got.true))

pub returns-then-count-got-clause-link : goal.returns-then-count-got-clause-link
returns-then-count-got-clause-link t c =
    let laws = c.blobs_are_prefix_free.ensures in
    let ready = c.requires.has_rest.1 in
    (fetched c.args.kind c.requires.has_rest.0 c.args.from c.args.wires.now c.get_piece.result c.args.into.now c.get_piece.new.into c.get_piece.new.wires.link c.get_piece.new.wires.calls_to_fault
    (laws.blob _ _ (laws.texts c.args.kind c.requires.has_rest.0 ready.fit)) ready c.requires.has_rest.2 c.get_piece.ensures.exact).link

pub returns-then-count-got-clause-calls_to_fault : goal.returns-then-count-got-clause-calls_to_fault
returns-then-count-got-clause-calls_to_fault t c =
    let laws = c.blobs_are_prefix_free.ensures in
    let ready = c.requires.has_rest.1 in
    (fetched c.args.kind c.requires.has_rest.0 c.args.from c.args.wires.now c.get_piece.result c.args.into.now c.get_piece.new.into c.get_piece.new.wires.link c.get_piece.new.wires.calls_to_fault
    (laws.blob _ _ (laws.texts c.args.kind c.requires.has_rest.0 ready.fit)) ready c.requires.has_rest.2 c.get_piece.ensures.exact).none

pub fetch-requires : goal.fetch-requires
fetch-requires t c =
    let laws = c.blobs_are_prefix_free.ensures in
    let v = c.requires.has_rest.0 in
    let ready = c.requires.has_rest.1 in
    let f = fetched c.args.kind v c.args.from c.args.wires.now c.get_piece.result c.args.into.now c.get_piece.new.into c.get_piece.new.wires.link c.get_piece.new.wires.calls_to_fault
    (laws.blob _ _ (laws.texts c.args.kind v ready.fit)) ready c.requires.has_rest.2 c.get_piece.ensures.exact in
    let on = goes_on c.args.kind v c.args.from c.args.wires.now c.get_piece.result c.args.into.now c.get_piece.new.into c.get_piece.new.wires.link c.get_piece.new.wires.calls_to_fault c.in-Ok.got f
    ready c.requires.has_rest.2 c.in-Ok.is c.if-count-got.false in
    let whole : length c.get_piece.new.into ≡ length c.args.into.now = search rules in
    let back : length c.split_at_mut-rest.result.1.now ≡ length c.args.into.now - c.in-Ok.got.length = omega (arith, whole, c.split_at_mut-rest.ensures.back_len) in
    (omega (arith, on.some, on.fits, back), (v, readable_on c.args.wires.now c.get_piece.new.wires v f.link f.none ready, record { within = on.rest.within; fits = omega (arith, back, on.rest.fits) }))

pub returns-clause-bytes : goal.returns-clause-bytes
returns-clause-bytes t c = λ v ready rest.
    let laws = c.blobs_are_prefix_free.ensures in
    let f = fetched c.args.kind v c.args.from c.args.wires.now c.get_piece.result c.args.into.now c.get_piece.new.into c.get_piece.new.wires.link c.get_piece.new.wires.calls_to_fault
    (laws.blob _ _ (laws.texts c.args.kind v ready.fit)) ready rest c.get_piece.ensures.exact in
    let on = goes_on c.args.kind v c.args.from c.args.wires.now c.get_piece.result c.args.into.now c.get_piece.new.into c.get_piece.new.wires.link c.get_piece.new.wires.calls_to_fault c.in-Ok.got f
    ready rest c.in-Ok.is c.if-count-got.false in
    let whole : length c.get_piece.new.into ≡ length c.args.into.now = search rules in
    let back : length c.split_at_mut-rest.result.1.now ≡ length c.args.into.now - c.in-Ok.got.length = omega (arith, whole, c.split_at_mut-rest.ensures.back_len) in
    joined_pieces c.args.kind v c.args.from c.args.wires.now c.get_piece.result c.args.into.now c.get_piece.new.into c.split_at_mut-rest.result.0.now c.fetch.new.into c.get_piece.new.wires.link c.get_piece.new.wires.calls_to_fault
    c.in-Ok.got c.fetch.result f c.in-Ok.is on.rest.within c.split_at_mut-rest.ensures.front
    (c.fetch.ensures.bytes v (readable_on c.args.wires.now c.get_piece.new.wires v f.link f.none ready) (record { within = on.rest.within; fits = omega (arith, back, on.rest.fits) }))

pub returns-clause-link : goal.returns-clause-link
returns-clause-link t c =
    let laws = c.blobs_are_prefix_free.ensures in
    let ready = c.requires.has_rest.1 in
    c.fetch.ensures.link ∙ (fetched c.args.kind c.requires.has_rest.0 c.args.from c.args.wires.now c.get_piece.result c.args.into.now c.get_piece.new.into c.get_piece.new.wires.link c.get_piece.new.wires.calls_to_fault
    (laws.blob _ _ (laws.texts c.args.kind c.requires.has_rest.0 ready.fit)) ready c.requires.has_rest.2 c.get_piece.ensures.exact).link
