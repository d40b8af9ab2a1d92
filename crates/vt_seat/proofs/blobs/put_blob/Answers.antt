use Rattle.std.proofs.Common.{take, length, arith, ap, refl}
use Rattle.state_blobs.specs.Encodings.{encode_blob}
use Rattle.vt_seat.proofs.Pieces.{put-given, text-some, blob-length, whole_piece}
use Rattle.vt_seat.proofs.blobs.put_blob.Goals as goal

pub put_piece-requires-clause-some : goal.put_piece-requires-clause-some
put_piece-requires-clause-some c =
    let laws = c.blobs_are_prefix_free.ensures in
    let text = laws.texts c.args.kind c.args.tpm.now c.requires.fit in
    let within_limit = blob-length c.args.kind (encode_blob c.args.kind c.args.tpm.now) (laws.blob _ _ text) in
    let is = whole_piece c.args.kind c.args.tpm.now _ c.piece.new.into c.in-Some.got.length within_limit refl c.in-Some.ensures.length c.in-Some.ensures.bytes in
    omega (arith, text-some c.args.kind c.args.tpm.now, ap length is)

pub unreachable-requires-in_default-put_piece : goal.unreachable-requires-in_default-put_piece
unreachable-requires-in_default-put_piece c =
    let laws = c.blobs_are_prefix_free.ensures in
    let text = laws.texts c.args.kind c.args.tpm.now c.requires.fit in
    let within_limit = blob-length c.args.kind (encode_blob c.args.kind c.args.tpm.now) (laws.blob _ _ text) in
    let is = whole_piece c.args.kind c.args.tpm.now _ c.piece.new.into c.in-Some.got.length within_limit refl c.in-Some.ensures.length c.in-Some.ensures.bytes in
    let given = put-given c.args.kind c.args.tpm.now (take c.in-Some.got.length c.piece.new.into) c.args.wires.now c.put_piece.new.wires.link c.put_piece.new.wires.calls_to_fault c.put_piece.result is
    (λ fault. laws.not_refused c.args.kind fault _ text) c.requires.awaiting (c.put_piece.ensures.exact c.requires.awaiting.quiet) in
    c.in_default-put_piece.not-Ok tt given.answer_is

pub returns-clause-link : goal.returns-clause-link
returns-clause-link c =
    let laws = c.blobs_are_prefix_free.ensures in
    let text = laws.texts c.args.kind c.args.tpm.now c.requires.fit in
    let within_limit = blob-length c.args.kind (encode_blob c.args.kind c.args.tpm.now) (laws.blob _ _ text) in
    let is = whole_piece c.args.kind c.args.tpm.now _ c.piece.new.into c.in-Some.got.length within_limit refl c.in-Some.ensures.length c.in-Some.ensures.bytes in
    (put-given c.args.kind c.args.tpm.now (take c.in-Some.got.length c.piece.new.into) c.args.wires.now c.put_piece.new.wires.link c.put_piece.new.wires.calls_to_fault c.put_piece.result is
    (λ fault. laws.not_refused c.args.kind fault _ text) c.requires.awaiting (c.put_piece.ensures.exact c.requires.awaiting.quiet)).link
