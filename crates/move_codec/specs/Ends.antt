-- What the layout of messages says of bytes. (Own definitions.)
use Rattle.std.specs.Prelude.{◌≡◌, ℕ, List, drop, Ok}
use Rattle.vt_base.specs.Numbers.{IsBytes}
use Rattle.vt_base.specs.Layout.{Encodes}
use Rattle.move_codec.specs.declared.message.Message.{Message}
use Rattle.move_codec.specs.declared.outline.Outline.{Outline}
use Rattle.move_codec.specs.Messages.{Ending, messages}
use Rattle.move_codec.specs.Outlines.{message_of}

-- bytes that end so
pub record EndsMessage (end : Ending) (bytes : List ℕ) : Type 0 where
  pub spelled : Encodes messages end bytes
  pub fits : IsBytes bytes

-- the bytes have the outline of the message, and end with its bytes
pub record Fills (m : Message) (bytes : List ℕ) : Type 0 where
  pub outline : Outline
  pub filled : m ≡ message_of outline (drop 26 bytes)
  pub exact : EndsMessage (Ok outline) bytes
