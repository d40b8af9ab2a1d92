-- How the values of a TPM are encoded as three blobs. (Own definitions. Numbers are big-endian, as in the TPM 2.0 Library.)
use Rattle.std.specs.Prelude.{◌≡◌, ℕ, ◌+◌, List, [], ◌∷◌, ◌++◌, length, take, drop, Option, Some, None, if◌then◌else◌, Bool, true, ◌||◌, ◌==◌}
use Rattle.std.specs.List.{concat}
use Rattle.vt_base.specs.Numbers.{number, long}
use Rattle.state_blobs.specs.Numbers.{version_of, permanent_length, flag_alone, volatile_length, saved_length}
use Rattle.vt_base.specs.declared.types.Kind.{Kind}
use Rattle.vt_base.specs.declared.types.Kind.TheVariants.{Permanent, Volatile, Saved}
use Rattle.tpm_core.specs.declared.algorithm.Algorithm.{Algorithm}
use Rattle.tpm_core.specs.declared.algorithm.Algorithm.TheVariants.{Sha256, Sha384}
use Rattle.tpm_core.specs.declared.algorithm.Banks.{Banks}
use Rattle.tpm_core.specs.declared.algorithm.Banks.TheVariants.{One, Two}
use Rattle.tpm_core.specs.declared.parts.SavedParts.{SavedParts}
use Rattle.tpm_core.specs.declared.parts.TpmParts.{TpmParts}
use Rattle.tpm_core.specs.Banks.{bank_of, kept_bank_of}
use Rattle.tpm_core.specs.Steps.{IsValid}

-- the letter that distinguishes the kinds: P, V or Z
abbrev pub letter_of : Kind → ℕ
letter_of Permanent = 80
letter_of Volatile = 86
letter_of Saved = 90

-- C, R, B and the letter of the kind
abbrev pub magic_of : Kind → List ℕ
magic_of kind = 67 ∷ 82 ∷ 66 ∷ letter_of kind ∷ []

-- the magic, the version, and how many bytes follow
abbrev pub header_of : Kind → Banks → ℕ → List ℕ
header_of kind banks count = magic_of kind ++ version_of banks ∷ [] ++ number count

-- bytes behind their header
abbrev pub with_header : Kind → Banks → List ℕ → List ℕ
with_header kind banks body = header_of kind banks (length body) ++ body

-- the registers of each bank that there is, one bank behind the other
abbrev pub registers_of : Banks → (Algorithm → List (List ℕ)) → List ℕ
registers_of One bank = concat (bank Sha256)
registers_of Two bank = concat (bank Sha256) ++ concat (bank Sha384)

-- a counter, and the registers behind it
abbrev pub counted : Banks → ℕ → (Algorithm → List (List ℕ)) → List ℕ
counted banks counter bank = number counter ++ registers_of banks bank

-- what outlives every power cycle
abbrev pub permanent_body : TpmParts → List ℕ
permanent_body v = v.seed ++ long v.boots

-- a flag, and where the TPM is started what it loses with its power
abbrev pub volatile_body : TpmParts → List ℕ
volatile_body v = if v.started then (1 ∷ long v.draws) ++ counted v.banks v.counter (λ a. bank_of a v) else 0 ∷ []

-- a flag, and the saved state if there is one
abbrev pub saved_body : Banks → Option SavedParts → List ℕ
saved_body banks None = 0 ∷ []
saved_body banks (Some state) = 1 ∷ counted banks state.counter (λ a. kept_bank_of a state)

abbrev pub body_of : Kind → TpmParts → List ℕ
body_of Permanent v = permanent_body v
body_of Volatile v = volatile_body v
body_of Saved v = saved_body v.banks v.saved

-- the blob of a kind: the one encoding of these values
unfoldable pub encode_blob : Kind → TpmParts → List ℕ
encode_blob kind v = with_header kind v.banks (body_of kind v)

-- whether so many bytes may follow the length field of a blob of a TPM with these banks
abbrev pub is_length : Kind → Banks → ℕ → Bool
is_length Permanent banks count = count == permanent_length
is_length Volatile banks count = count == flag_alone || count == volatile_length banks
is_length Saved banks count = count == flag_alone || count == saved_length banks

-- the flag at the start of so many bytes: 1 where values follow it
abbrev pub flag_for : ℕ → ℕ
flag_for count = if count == flag_alone then 0 else 1

-- whether the byte behind the header may stand there: that of a permanent blob is no flag
abbrev pub flag_fits : Kind → ℕ → ℕ → Bool
flag_fits Permanent count flag = true
flag_fits Volatile count flag = flag == flag_for count
flag_fits Saved count flag = flag == flag_for count

-- the part of a list that begins at a place and has so many elements
abbrev pub slice : List ℕ → ℕ → ℕ → List ℕ
slice list offset count = take count (drop offset list)

-- the parts of these lengths that follow one another from a place on
abbrev pub slices : List ℕ → ℕ → List ℕ → List (List ℕ)
slices list offset [] = []
slices list offset (count ∷ counts) = slice list offset count ∷ slices list (offset + count) counts

-- These bytes are a blob: the one encoding of values that a TPM can have.
pub record IsBlob (kind : Kind) (bytes : List ℕ) : Type 0 where
  pub values : TpmParts
  pub fit : IsValid values
  pub spelled : bytes ≡ encode_blob kind values
