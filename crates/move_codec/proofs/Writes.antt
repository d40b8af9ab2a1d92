-- How long the fields of a body are at most.
use Rattle.std.proofs.Common.{◌≡◌, ℕ, ◌*◌, ◌≤◌, List, [], ◌∷◌, length, arith}
use Rattle.std.proofs.lemmas.List.{length-append}
use Rattle.vt_base.specs.Numbers.{number}
use Rattle.move_codec.specs.declared.message.Body.{Body}
use Rattle.move_codec.specs.declared.message.Body.TheVariants.{Offer, Need, Piece, Prepared, Commit, Abort, Refuse}
use Rattle.move_codec.specs.Encoding.{HasPiece, IsInRange, fields_of, numbers}

pub length-numbers : (ns : List ℕ) → length (numbers ns) ≡ 4 * length ns
length-numbers [] = omega arith
length-numbers (n ∷ ns) = omega (arith, length-append (number n) (numbers ns), length-numbers ns)

pub fields_room : (body : Body) → HasPiece body → IsInRange body → length (fields_of body) ≤ 4103
fields_room (Offer totals) piece in_range = omega (arith, length-numbers totals, in_range.0)
fields_room (Need part offset) piece in_range = omega arith
fields_room (Piece part offset bytes) piece in_range = omega (arith, piece.1)
fields_room Prepared piece in_range = omega arith
fields_room Commit piece in_range = omega arith
fields_room Abort piece in_range = omega arith
fields_room (Refuse reason value) piece in_range = omega arith
