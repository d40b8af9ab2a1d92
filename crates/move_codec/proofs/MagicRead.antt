-- What is decoded behind the magic of a message.
use Rattle.std.proofs.Common.{◌≡◌, ℕ, List}
use Rattle.vt_base.specs.Magics.{magic_at, parsed_behind}
use Rattle.vt_base.specs.Parsing.{parsed}
use Rattle.vt_base.proofs.Magics.{parsed_magic}
use Rattle.move_codec.specs.Encoding.{magic}
use Rattle.move_codec.specs.Messages.{after_magic, messages}

pub parsed_message : (bytes : List ℕ) → parsed messages bytes ≡ parsed_behind (magic_at magic 0 bytes) after_magic
unfolding messages
parsed_message bytes = parsed_magic magic 0 after_magic bytes
