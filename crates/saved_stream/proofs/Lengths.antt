-- How long streams are.
use Rattle.std.proofs.Common.{◌≡◌, ℕ, ◌+◌, ◌≤◌, Bool, true, false, cond, List, ◌++◌, length, ap, arith}
use Rattle.std.proofs.lemmas.List.{length-append}
use Rattle.vt_base.specs.Numbers.{number}
use Rattle.vt_base.specs.declared.types.Kind.TheVariants.{Permanent, Volatile, Saved}
use Rattle.device_record.specs.Records.{encode_record}
use Rattle.tpm_core.specs.declared.algorithm.Banks.{Banks}
use Rattle.tpm_core.specs.declared.algorithm.Banks.TheVariants.{One, Two}
use Rattle.state_blobs.specs.Numbers.{volatile_length, saved_length}
use Rattle.state_blobs.specs.Encodings.{encode_blob}
use Rattle.crb_history.specs.Snapshot.{Snapshot}
use Rattle.saved_stream.specs.Streams.{encode_parts, IsStream}
use Rattle.saved_stream.proofs.Heads.{begin}
use Rattle.saved_stream.proofs.Once.{stream_behind}

-- the head, and the four parts
pub stream_size : (bytes : List ℕ) (b : Snapshot) → IsStream bytes b
    → length bytes ≡ 9 + length (encode_record b.device) + length (encode_blob Permanent b.tpm) + length (encode_blob Volatile b.tpm) + length (encode_blob Saved b.tpm)
stream_size bytes b s =
    let r = encode_record b.device in
    let p = encode_blob Permanent b.tpm in
    let v = encode_blob Volatile b.tpm in
    let z = encode_blob Saved b.tpm in
    omega (
      arith,
      ap length (stream_behind bytes b s),
      length-append (begin ++ number (length (encode_parts b))) (encode_parts b),
      length-append (r ++ p ++ v) z,
      length-append (r ++ p) v,
      length-append r p,
    )

-- a volatile blob, whichever its TPM
pub volatile_bounds : (on : Bool) (banks : Banks) → (10 ≤ cond on (9 + volatile_length banks) 10) × (cond on (9 + volatile_length banks) 10 ≤ 1942)
volatile_bounds true One = (omega arith, omega arith)
volatile_bounds true Two = (omega arith, omega arith)
volatile_bounds false banks = (omega arith, omega arith)

-- and a saved one
pub saved_bounds : (there : Bool) (banks : Banks) → (10 ≤ cond there (9 + saved_length banks) 10) × (cond there (9 + saved_length banks) 10 ≤ 1294)
saved_bounds true One = (omega arith, omega arith)
saved_bounds true Two = (omega arith, omega arith)
saved_bounds false banks = (omega arith, omega arith)
