-- What is decoded behind the magic of a head.
use Rattle.std.proofs.Common.{◌≡◌, ℕ, List}
use Rattle.vt_base.specs.Magics.{magic_at, parsed_behind}
use Rattle.vt_base.specs.Parsing.{parsed}
use Rattle.vt_base.proofs.Magics.{parsed_magic}
use Rattle.saved_stream.specs.Streams.{magic}
use Rattle.saved_stream.specs.Refusals.{version_then, head}

pub parsed_head : (bytes : List ℕ) → parsed head bytes ≡ parsed_behind (magic_at magic 0 bytes) version_then
unfolding head
parsed_head bytes = parsed_magic magic 0 version_then bytes
