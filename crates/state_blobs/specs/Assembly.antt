-- What the bytes of three gathers make: a TPM, or a fault of the first that is to blame. (Own definitions.)
use Rattle.std.specs.Prelude.{◌≡◌, ◌≢◌, ℕ, ◌⊎◌, true, false, List, [], length, slice_index, Some, None, IsSome}
use Rattle.vt_base.specs.declared.types.Kind.{Kind}
use Rattle.vt_base.specs.declared.types.Kind.TheVariants.{Permanent, Volatile, Saved}
use Rattle.vt_base.specs.declared.types.Why.{Why}
use Rattle.vt_base.specs.declared.types.Why.TheVariants.{Version, Value, Cut}
use Rattle.vt_base.specs.Refusing.{malformed}
use Rattle.tpm_core.specs.declared.parts.TpmParts.{TpmParts}
use Rattle.tpm_core.specs.Answers.{kept}
use Rattle.tpm_core.specs.Steps.{IsValid}
use Rattle.state_blobs.specs.declared.types.BlobFault.{BlobFault}
use Rattle.state_blobs.specs.Numbers.{version_place}
use Rattle.state_blobs.specs.Encodings.{encode_blob, IsBlob}
use Rattle.state_blobs.specs.Refusals.{FirstDiffersAt}

-- the blob of what a TPM loses with its power: it may be left out where the TPM isn't started
abbrev pub EncodesVolatile : List ℕ → TpmParts → Type 0
EncodesVolatile bytes tpm = (bytes ≡ encode_blob Volatile tpm) ⊎ ((bytes ≡ []) × (tpm.started ≡ false))

-- the blob of its saved state: it may be left out where there is none
abbrev pub EncodesSaved : List ℕ → TpmParts → Type 0
EncodesSaved bytes tpm = (bytes ≡ encode_blob Saved tpm) ⊎ ((bytes ≡ []) × (tpm.saved ≡ None))

-- The three are the blobs of this TPM.
pub record IsAssembled (permanent volatile saved : List ℕ) (tpm : TpmParts) : Type 0 where
  pub fit : IsValid tpm
  pub is_permanent : permanent ≡ encode_blob Permanent tpm
  pub is_volatile : EncodesVolatile volatile tpm
  pub is_saved : EncodesSaved saved tpm

-- a blob that may be left out, and isn't begun without being whole
abbrev pub IsNoneOrBlob : Kind → List ℕ → Type 0
IsNoneOrBlob kind bytes = (bytes ≡ []) ⊎ IsBlob kind bytes

-- a blob that is begun and not whole
abbrev pub IsUnfinished : Kind → List ℕ → Type 0
IsUnfinished kind bytes = (bytes ≢ []) × (IsBlob kind bytes → ⊥)

-- the version of a blob
abbrev pub version_in : List ℕ → ℕ
version_in bytes = slice_index bytes version_place

-- a blob of this version
abbrev pub IsOfVersion : Kind → ℕ → List ℕ → Type 0
IsOfVersion kind version bytes = IsBlob kind bytes × (version_in bytes ≡ version)

-- a blob of this version, or none: what isn't begun has no version
abbrev pub IsNoneOrOfVersion : Kind → ℕ → List ℕ → Type 0
IsNoneOrOfVersion kind version bytes = (bytes ≡ []) ⊎ IsOfVersion kind version bytes

-- a blob of another version
abbrev pub IsOfOtherVersion : Kind → ℕ → List ℕ → Type 0
IsOfOtherVersion kind version bytes = IsBlob kind bytes × (version_in bytes ≢ version)

-- the volatile blob is that of a started TPM, there is a saved state, and it isn't that of the registers: its blob first differs here
pub record Disagrees (place : ℕ) (volatile saved : List ℕ) : Type 0 where
  pub running : TpmParts
  pub is_fit : IsValid running
  pub is_started : running.started ≡ true
  pub is_volatile : volatile ≡ encode_blob Volatile running
  pub saving : TpmParts
  pub is_fit_too : IsValid saving
  pub is_there : IsSome saving.saved
  pub is_saved : saved ≡ encode_blob Saved saving
  pub first : FirstDiffersAt place saved (encode_blob Saved (record running { saved = Some (kept running) }))

-- the fault of a blob that ends too soon
abbrev pub cut_at : Kind → List ℕ → BlobFault
cut_at kind bytes = record { kind = kind; fault = malformed Cut (length bytes) }

-- the fault of a blob of another version than the permanent one
abbrev pub version_fault : Kind → BlobFault
version_fault kind = record { kind = kind; fault = malformed Version version_place }

-- The table of faults. Each row says that those before it don't hold.
abbrev pub IsFaultFor : Kind → Why → ℕ → List ℕ → List ℕ → List ℕ → Type 0
IsFaultFor Permanent Cut place permanent volatile saved = (place ≡ length permanent) × (IsBlob Permanent permanent → ⊥)
IsFaultFor Volatile Cut place permanent volatile saved = (place ≡ length volatile) × IsBlob Permanent permanent × IsUnfinished Volatile volatile
IsFaultFor Saved Cut place permanent volatile saved = (place ≡ length saved) × IsBlob Permanent permanent × IsNoneOrBlob Volatile volatile × IsUnfinished Saved saved
IsFaultFor Volatile Version place permanent volatile saved = (place ≡ version_place) × IsBlob Permanent permanent × IsOfOtherVersion Volatile (version_in permanent) volatile × IsNoneOrBlob Saved saved
IsFaultFor Saved Version place permanent volatile saved =
    (place ≡ version_place) × IsBlob Permanent permanent × IsNoneOrOfVersion Volatile (version_in permanent) volatile × IsOfOtherVersion Saved (version_in permanent) saved
IsFaultFor Saved Value place permanent volatile saved =
    IsBlob Permanent permanent × IsOfVersion Volatile (version_in permanent) volatile × IsOfVersion Saved (version_in permanent) saved × Disagrees place volatile saved
IsFaultFor kind why place permanent volatile saved = ⊥

-- why the three make no TPM
abbrev pub IsFault : List ℕ → List ℕ → List ℕ → BlobFault → Type 0
IsFault permanent volatile saved f = IsFaultFor f.kind f.fault.why f.fault.place permanent volatile saved
