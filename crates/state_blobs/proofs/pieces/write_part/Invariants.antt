use Rattle.std.proofs.Common.{◌≡◌, ◌+◌, ◌<◌, ℕ, get_or}
use Rattle.state_blobs.specs.Encodings.{encode_blob}
use Rattle.state_blobs.proofs.pieces.write_part.Given as goal

abbrev pub invariant-loop-i : goal.invariant-loop-i
invariant-loop-i l = (k : ℕ) → k < l.i → get_or l.into k 0 ≡ get_or (encode_blob l.kind l.parts) (l.offset + k) 0
