-- Fields at their places in whole blobs.
use Rattle.std.proofs.Common.{◌≡◌, ℕ, ◌+◌, ◌≤◌, Bool, true, false, cond, eqb, List, [], ◌∷◌, ◌++◌, length, take, drop, get_or, Option, Some, None, refl, sym, ap, ◌∙◌, arith, inl, inr}
use Rattle.std.specs.Prelude.{is_some}
use Rattle.std.specs.Int.{w64, from_be_bytes}
use Rattle.std.proofs.lemmas.List.{length-append, take_at, drop_at, drop-drop}
use Rattle.std.proofs.lemmas.Nat.{from_be_bytes-to_be_bytes_8}
use Rattle.vt_base.specs.Numbers.{long}
use Rattle.vt_base.specs.declared.types.Kind.{Kind}
use Rattle.vt_base.specs.declared.types.Kind.TheVariants.{Permanent, Volatile, Saved}
use Rattle.tpm_core.specs.declared.algorithm.Algorithm.{Algorithm}
use Rattle.tpm_core.specs.declared.algorithm.Algorithm.TheVariants.{Sha256, Sha384}
use Rattle.tpm_core.specs.declared.algorithm.Banks.{Banks}
use Rattle.tpm_core.specs.declared.parts.SavedParts.{SavedParts}
use Rattle.tpm_core.specs.declared.parts.TpmParts.{TpmParts}
use Rattle.tpm_core.specs.Banks.{bank_of, kept_bank_of}
use Rattle.tpm_core.specs.Steps.{IsValid}
use Rattle.state_blobs.specs.Numbers.{version_of, volatile_length, saved_length}
use Rattle.state_blobs.specs.Encodings.{counted, saved_body, body_of, encode_blob, slice, IsBlob}
use Rattle.state_blobs.specs.Assembly.{EncodesVolatile, EncodesSaved, version_in}
use Rattle.state_blobs.proofs.Magics.{same_version}
use Rattle.state_blobs.proofs.Bodies.{length-started, length-kept_too}

-- ---- how long they are

pub length-text : (kind : Kind) (v : TpmParts) → length (encode_blob kind v) ≡ 9 + length (body_of kind v)
unfolding encode_blob
length-text kind v = omega arith

pub permanent_size : (bytes : List ℕ) → IsBlob Permanent bytes → length bytes ≡ 49
permanent_size bytes is = omega (arith, ap length is.spelled, length-text Permanent is.values, length-append is.values.seed (long is.values.boots), is.fit.seed)

-- no bytes are no blob
pub blob_there : (kind : Kind) (bytes : List ℕ) → IsBlob kind bytes → 9 ≤ length bytes
blob_there kind bytes is = omega (arith, ap length is.spelled, length-text kind is.values)

pub not_empty : (kind : Kind) (bytes : List ℕ) → bytes ≡ [] → IsBlob kind bytes → ⊥
not_empty kind bytes none is = omega (arith, ap length none, blob_there kind bytes is)

-- ---- in the header

text_version : (kind : Kind) (v : TpmParts) → version_in (encode_blob kind v) ≡ version_of v.banks
unfolding encode_blob
text_version kind v = refl

pub version_encoded : (kind : Kind) (v : TpmParts) (bytes : List ℕ) → bytes ≡ encode_blob kind v → version_in bytes ≡ version_of v.banks
version_encoded kind v bytes is = ap version_in is ∙ text_version kind v

pub banks_read : (kind : Kind) (v : TpmParts) (bytes : List ℕ) (banks : Banks) → bytes ≡ encode_blob kind v → version_in bytes ≡ version_of banks → banks ≡ v.banks
banks_read kind v bytes banks is named = same_version banks v.banks (sym named ∙ version_encoded kind v bytes is)

-- ---- the permanent blob

pub seed_read : (v : TpmParts) (bytes : List ℕ) → IsValid v → bytes ≡ encode_blob Permanent v → slice bytes 9 32 ≡ v.seed
unfolding encode_blob
seed_read v bytes fit is = rw is (take_at v.seed (long v.boots) 32 fit.seed)

pub boots_read : (v : TpmParts) (bytes : List ℕ) → IsValid v → bytes ≡ encode_blob Permanent v → from_be_bytes w64 (slice bytes 41 8) ≡ v.boots
unfolding encode_blob
boots_read v bytes fit is = rw is (ap (λ (rest : List ℕ). from_be_bytes w64 (take 8 rest)) (drop_at v.seed (long v.boots) 32 fit.seed) ∙ from_be_bytes-to_be_bytes_8 v.boots fit.boots)

-- ---- behind the flag

volatile_flag : (v : TpmParts) → get_or (encode_blob Volatile v) 9 0 ≡ cond v.started 1 0
unfolding encode_blob
volatile_flag v = flag_of v.started
  where
    flag_of : (on : Bool) → get_or (cond on ((1 ∷ long v.draws) ++ counted v.banks v.counter (λ a. bank_of a v)) (0 ∷ [])) 0 0 ≡ cond on 1 0
    flag_of true = refl
    flag_of false = refl

pub started_read : (v : TpmParts) (bytes : List ℕ) → EncodesVolatile bytes v → eqb (get_or bytes 9 0) 1 ≡ v.started
started_read v bytes (inl is) = ap (λ (b : List ℕ). eqb (get_or b 9 0) 1) is ∙ ap (λ (n : ℕ). eqb n 1) (volatile_flag v) ∙ flagged v.started
  where
    flagged : (on : Bool) → eqb (cond on 1 0) 1 ≡ on
    flagged true = refl
    flagged false = refl
started_read v bytes (inr (none, off)) = ap (λ (b : List ℕ). eqb (get_or b 9 0) 1) none ∙ sym off

saved_flag : (v : TpmParts) → eqb (get_or (encode_blob Saved v) 9 0) 1 ≡ is_some v.saved
unfolding encode_blob
saved_flag v = flag_of v.saved
  where
    flag_of : (saved : Option SavedParts) → eqb (get_or (saved_body v.banks saved) 0 0) 1 ≡ is_some saved
    flag_of None = refl
    flag_of (Some state) = refl

pub saved_read : (v : TpmParts) (bytes : List ℕ) → EncodesSaved bytes v → eqb (get_or bytes 9 0) 1 ≡ is_some v.saved
saved_read v bytes (inl is) = ap (λ (b : List ℕ). eqb (get_or b 9 0) 1) is ∙ saved_flag v
saved_read v bytes (inr (none, gone)) = ap (λ (b : List ℕ). eqb (get_or b 9 0) 1) none ∙ sym (ap (λ (saved : Option SavedParts). is_some saved) gone)

-- ---- a started TPM

pub decoded_running : (v : TpmParts) (bytes : List ℕ) → EncodesVolatile bytes v → v.started ≡ true → bytes ≡ encode_blob Volatile v
decoded_running v bytes (inl is) on = is
decoded_running v bytes (inr (none, off)) on = absurd cc

pub volatile_size : (v : TpmParts) (bytes : List ℕ) → IsValid v → EncodesVolatile bytes v → v.started ≡ true → length bytes ≡ 9 + volatile_length v.banks
volatile_size v bytes fit exact on = omega (arith, ap length (decoded_running v bytes exact on), length-text Volatile v, length-started Volatile v fit refl on)

-- what stands behind the header of its volatile blob
running_body : (v : TpmParts) → v.started ≡ true → drop 9 (encode_blob Volatile v) ≡ (1 ∷ long v.draws) ++ counted v.banks v.counter (λ a. bank_of a v)
unfolding encode_blob
running_body v on = ap (λ (b : Bool). cond b ((1 ∷ long v.draws) ++ counted v.banks v.counter (λ a. bank_of a v)) (0 ∷ [])) on

pub volatile_read : (v : TpmParts) (bytes : List ℕ) → EncodesVolatile bytes v → v.started ≡ true → drop 9 bytes ≡ (1 ∷ long v.draws) ++ counted v.banks v.counter (λ a. bank_of a v)
volatile_read v bytes exact on = ap (drop 9) (decoded_running v bytes exact on) ∙ running_body v on

pub draws_read : (v : TpmParts) (bytes : List ℕ) → IsValid v → EncodesVolatile bytes v → v.started ≡ true → from_be_bytes w64 (slice bytes 10 8) ≡ v.draws
draws_read v bytes fit exact on =
    ap (λ (rest : List ℕ). from_be_bytes w64 (take 8 rest)) (sym (drop-drop 1 9 bytes) ∙ ap (drop 1) (volatile_read v bytes exact on))
    ∙ from_be_bytes-to_be_bytes_8 v.draws fit.draws

-- ---- a saved state

pub decoded_saved : (v : TpmParts) (bytes : List ℕ) → EncodesSaved bytes v → is_some v.saved ≡ true → bytes ≡ encode_blob Saved v
decoded_saved v bytes (inl is) there = is
decoded_saved v bytes (inr (none, gone)) there = let never : is_some v.saved ≡ false = ap (λ (saved : Option SavedParts). is_some saved) gone in absurd cc

saved_body_read : (v : TpmParts) → drop 9 (encode_blob Saved v) ≡ saved_body v.banks v.saved
unfolding encode_blob
saved_body_read v = refl

some_is : (saved : Option SavedParts) (state : SavedParts) → saved ≡ Some state → is_some saved ≡ true
some_is saved state is = ap (λ (s : Option SavedParts). is_some s) is

pub state_read : (v : TpmParts) (state : SavedParts) (bytes : List ℕ) → EncodesSaved bytes v → v.saved ≡ Some state → drop 9 bytes ≡ 1 ∷ counted v.banks state.counter (λ a. kept_bank_of a state)
state_read v state bytes exact is =
    ap (drop 9) (decoded_saved v bytes exact (some_is v.saved state is)) ∙ saved_body_read v ∙ ap (λ (saved : Option SavedParts). saved_body v.banks saved) is

pub saved_size : (v : TpmParts) (bytes : List ℕ) → IsValid v → EncodesSaved bytes v → is_some v.saved ≡ true → length bytes ≡ 9 + saved_length v.banks
saved_size v bytes fit exact there = omega (arith, ap length (decoded_saved v bytes exact there), length-text Saved v, length-kept_too Saved v fit refl there)

is_none : (saved : Option SavedParts) → is_some saved ≡ false → saved ≡ None
is_none None off = refl
is_none (Some state) off = absurd cc

pub no_state_read : (v : TpmParts) (bytes : List ℕ) → EncodesSaved bytes v → eqb (get_or bytes 9 0) 1 ≡ false → v.saved ≡ None
no_state_read v bytes exact flag = is_none v.saved (sym (saved_read v bytes exact) ∙ flag)

-- states that agree in each field
pub same_state : (r s : SavedParts) → r.counter ≡ s.counter → ((a : Algorithm) → kept_bank_of a r ≡ kept_bank_of a s) → r ≡ s
same_state r s a b =
    ap (λ (x : ℕ). record r { counter = x }) a
    ∙ ap (λ (x : List (List ℕ)). record s { pcr = x; pcr384 = r.pcr384 }) (b Sha256)
    ∙ ap (λ (x : List (List ℕ)). record s { pcr384 = x }) (b Sha384)
