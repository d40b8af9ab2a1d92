-- How long blobs are.
use Rattle.std.proofs.Common.{◌≡◌, ℕ, ◌+◌, ◌-◌, ◌≤◌, Bool, true, false, cond, List, [], ◌∷◌, ◌++◌, length, drop, take, Option, Some, None, Ok, refl, ap, arith, length-append}
use Rattle.std.specs.Prelude.{if◌then◌else◌, is_some}
use Rattle.std.proofs.lemmas.List.{length-drop}
use Rattle.vt_base.specs.Layout.{Layout, Ends, Field, Encodes, IsWithin}
use Rattle.vt_base.specs.declared.types.Kind.{Kind}
use Rattle.vt_base.specs.declared.types.Kind.TheVariants.{Permanent, Volatile, Saved}
use Rattle.tpm_core.specs.declared.parts.TpmParts.{TpmParts}
use Rattle.tpm_core.specs.declared.parts.SavedParts.{SavedParts}
use Rattle.vt_base.specs.Numbers.{long}
use Rattle.tpm_core.specs.declared.algorithm.Banks.{Banks}
use Rattle.tpm_core.specs.Banks.{bank_of}
use Rattle.state_blobs.specs.Numbers.{volatile_length, saved_length}
use Rattle.state_blobs.specs.Encodings.{encode_blob, body_of, volatile_body, saved_body, counted}
use Rattle.state_blobs.specs.Blobs.{blob}
use Rattle.state_blobs.specs.Room.{blob_within}
use Rattle.tpm_core.specs.Steps.{IsValid}
use Rattle.state_blobs.proofs.Bodies.{blob_is_decoded, length-started, length-kept_too}
use Rattle.state_blobs.proofs.Fields.{permanent_size, length-text}
use Rattle.state_blobs.proofs.Apart.{text_is_blob}

-- what encodes a message of a layout is no longer than the layout's messages are
spells-within : {E : Type 0} (layout : Layout E) (end : E) (room : ℕ) (bytes : List ℕ) → Encodes layout end bytes → IsWithin layout room → length bytes ≤ room
spells-within (Ends e) end room bytes spells within = rw spells.1 (omega arith)
spells-within (Field n next) end room bytes spells within =
    let rest : length (drop n bytes) ≤ room - n = spells-within (next (take n bytes)) end (room - n) (drop n bytes) spells.1 (within.1 (take n bytes)) in
    omega (arith, rest, length-drop n bytes, within.0, spells.0)

-- a blob has at most as many bytes as the longest
pub blob-length : (kind : Kind) (bytes : List ℕ) → Encodes (blob kind) (Ok tt) bytes → length bytes ≤ 1942
blob-length kind bytes spells = spells-within (blob kind) (Ok tt) 1942 bytes spells (blob_within kind)

volatile_some : (started : Bool) (v : TpmParts) → 1 ≤ length (if started then (1 ∷ long v.draws) ++ counted v.banks v.counter (λ a. bank_of a v) else 0 ∷ [])
volatile_some true v = omega arith
volatile_some false v = omega arith

body_some : (kind : Kind) (v : TpmParts) → 1 ≤ length (body_of kind v)
body_some Permanent v = omega (arith, length-append v.seed (long v.boots))
body_some Volatile v = volatile_some v.started v
body_some Saved v = saved_some v.banks v.saved
  where
    saved_some : (banks : Banks) (state : Option SavedParts) → 1 ≤ length (saved_body banks state)
    saved_some banks None = omega arith
    saved_some banks (Some s) = omega arith

-- and more than its header
pub text_least : (kind : Kind) (v : TpmParts) → 10 ≤ length (encode_blob kind v)
unfolding encode_blob
text_least kind v = omega (arith, body_some kind v)

-- the blob of values that a TPM can have is no longer than the longest
pub text_most : (kind : Kind) (v : TpmParts) → IsValid v → length (encode_blob kind v) ≤ 1942
text_most kind v fit = blob-length kind (encode_blob kind v) (blob_is_decoded kind (encode_blob kind v) (text_is_blob kind v fit))

-- the blob of each kind, by the values
pub permanent_length : (v : TpmParts) → IsValid v → length (encode_blob Permanent v) ≡ 49
permanent_length v fit = permanent_size (encode_blob Permanent v) (text_is_blob Permanent v fit)

volatile_if : (v : TpmParts) → IsValid v → (on : Bool) → v.started ≡ on → length (encode_blob Volatile v) ≡ cond on (9 + volatile_length v.banks) 10
volatile_if v fit true on = omega (arith, length-text Volatile v, length-started Volatile v fit refl on)
volatile_if v fit false off =
    let alone : volatile_body v ≡ 0 ∷ [] = ap (λ (b : Bool). cond b ((1 ∷ long v.draws) ++ counted v.banks v.counter (λ a. bank_of a v)) (0 ∷ [])) off in
    omega (arith, length-text Volatile v, ap length alone)

pub volatile_text_length : (v : TpmParts) → IsValid v → length (encode_blob Volatile v) ≡ (if v.started then 9 + volatile_length v.banks else 10)
volatile_text_length v fit = volatile_if v fit v.started refl

saved_if : (v : TpmParts) → IsValid v → (saved : Option SavedParts) → v.saved ≡ saved → length (encode_blob Saved v) ≡ cond (is_some saved) (9 + saved_length v.banks) 10
saved_if v fit None is = omega (arith, length-text Saved v, ap (λ (s : Option SavedParts). length (saved_body v.banks s)) is)
saved_if v fit (Some state) is =
    let there : is_some v.saved ≡ true = ap (λ (s : Option SavedParts). is_some s) is in
    omega (arith, length-text Saved v, length-kept_too Saved v fit refl there)

pub saved_text_length : (v : TpmParts) → IsValid v → length (encode_blob Saved v) ≡ (if is_some v.saved then 9 + saved_length v.banks else 10)
saved_text_length v fit = saved_if v fit v.saved refl
