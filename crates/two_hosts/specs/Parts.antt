-- What a move carries: the four parts that a saved stream has of the same values. (Own definitions.)
use Rattle.std.specs.Prelude.{ℕ, List, [], ◌∷◌, length}
use Rattle.vt_base.specs.declared.types.Kind.TheVariants as kind
use Rattle.device_record.specs.Records.{encode_record}
use Rattle.state_blobs.specs.Encodings.{encode_blob}
use Rattle.crb_history.specs.Snapshot.{Snapshot}
use Rattle.move_codec.specs.declared.names.Part.{Part}
use Rattle.move_codec.specs.declared.names.Part.TheVariants.{Record, Permanent, Volatile, Saved}

-- the bytes of a part of these values
abbrev pub part_bytes : Snapshot → Part → List ℕ
part_bytes b Record = encode_record b.device
part_bytes b Permanent = encode_blob kind.Permanent b.tpm
part_bytes b Volatile = encode_blob kind.Volatile b.tpm
part_bytes b Saved = encode_blob kind.Saved b.tpm

-- the lengths of the four parts, as an offer has them
abbrev pub totals_of : Snapshot → List ℕ
totals_of b = length (part_bytes b Record) ∷ length (part_bytes b Permanent) ∷ length (part_bytes b Volatile) ∷ length (part_bytes b Saved) ∷ []
