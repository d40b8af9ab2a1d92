-- What is decoded behind the magic of a record.
use Rattle.std.proofs.Common.{◌≡◌, ℕ, List}
use Rattle.vt_base.specs.Magics.{magic_at, parsed_behind}
use Rattle.vt_base.specs.Parsing.{parsed}
use Rattle.vt_base.proofs.Magics.{parsed_magic}
use Rattle.device_record.specs.Records.{magic}
use Rattle.device_record.specs.Layouts.{version_then, record_layout}

pub parsed_record : (bytes : List ℕ) → parsed record_layout bytes ≡ parsed_behind (magic_at magic 0 bytes) version_then
unfolding record_layout
parsed_record bytes = parsed_magic magic 0 version_then bytes
