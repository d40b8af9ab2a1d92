-- How the values of a device and of its TPM are encoded as a stream. (Own definitions. Numbers are big-endian.)
use Rattle.std.specs.Prelude.{◌≡◌, ℕ, List, [], ◌∷◌, ◌++◌, length}
use Rattle.vt_base.specs.Numbers.{number}
use Rattle.vt_base.specs.declared.types.Kind.TheVariants.{Permanent, Volatile, Saved}
use Rattle.device_record.specs.Records.{encode_record}
use Rattle.state_blobs.specs.Encodings.{encode_blob}
use Rattle.crb_history.specs.Snapshot.{Snapshot, IsValidSnapshot}
use Rattle.saved_stream.specs.Numbers.{format_version}

-- C, R, B, S
abbrev pub magic : List ℕ
magic = 67 ∷ 82 ∷ 66 ∷ 83 ∷ []

-- the bytes behind a head: the magic, the version, and how many bytes follow
abbrev pub with_head : List ℕ → List ℕ
with_head bytes = magic ++ format_version ∷ [] ++ number (length bytes) ++ bytes

-- the record of the device, and the three blobs of the TPM
abbrev pub encode_parts : Snapshot → List ℕ
encode_parts b = encode_record b.device ++ encode_blob Permanent b.tpm ++ encode_blob Volatile b.tpm ++ encode_blob Saved b.tpm

-- the stream of these values
unfoldable pub encode_stream : Snapshot → List ℕ
encode_stream b = with_head (encode_parts b)

-- The bytes are the stream of these values, which a device and a TPM can have.
pub record IsStream (bytes : List ℕ) (b : Snapshot) : Type 0 where
  pub fit : IsValidSnapshot b
  pub spelled : bytes ≡ encode_stream b
