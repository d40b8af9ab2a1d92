-- Messages but for the bytes of a piece. (Own definitions.)
use Rattle.std.specs.Prelude.{ℕ, List}
use Rattle.move_codec.specs.declared.message.Message.{Message}
use Rattle.move_codec.specs.declared.message.Body.{Body}
use Rattle.move_codec.specs.declared.message.Body.TheVariants.{Offer, Need, Piece, Prepared, Commit, Abort, Refuse}
use Rattle.move_codec.specs.declared.outline.Shape.{Shape}
use Rattle.move_codec.specs.declared.outline.Shape.TheVariants as shape
use Rattle.move_codec.specs.declared.outline.Outline.{Outline}

abbrev pub body_of : Shape → List ℕ → Body
body_of (shape.Offer totals) bytes = Offer totals
body_of (shape.Need part offset) bytes = Need part offset
body_of (shape.Piece part offset) bytes = Piece part offset bytes
body_of shape.Prepared bytes = Prepared
body_of shape.Commit bytes = Commit
body_of shape.Abort bytes = Abort
body_of (shape.Refuse reason value) bytes = Refuse reason value

-- the message, with these bytes where it is a piece
abbrev pub message_of : Outline → List ℕ → Message
message_of outline bytes = record { to = outline.to; epoch = outline.epoch; body = body_of outline.shape bytes }
