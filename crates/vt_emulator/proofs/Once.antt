-- What a message does to an emulator, and its reply, are deterministic.
use Rattle.std.proofs.Common.{◌≡◌, ℕ, Bool, true, false, List, [], ◌∷◌, Option, Some, None, sym, ap, ◌∙◌, inl, inr, eqb}
use Rattle.std.specs.Prelude.{nat_lt}
use Rattle.vt_base.specs.declared.types.Kind.{Kind}
use Rattle.tpm_core.specs.declared.parts.TpmParts.{TpmParts}
use Rattle.state_blobs.specs.declared.types.BlobFault.{BlobFault}
use Rattle.state_blobs.specs.Assembly.{IsAssembled, IsFault}
use Rattle.ctrl_codec.specs.declared.request.Request.TheVariants.{GetCapability, Init, Shutdown, GetEstablished, SetLocality, CancelCommand, StoreVolatile, ResetEstablished, GetStateBlob, SetStateBlob, Stop, GetConfig, SetBufferSize}
use Rattle.ctrl_model.specs.Numbers.{success, delete_volatile}
use Rattle.ctrl_model.specs.Emulator.{EmulatorState, RequestOutcome, InitsBy, StartsBy, Assembled, TakesPiece, BlobTaken, is_nothing, volatile_taken, kind_of, resulted, switched_on, started_with}
use Rattle.ctrl_model.specs.Link.{Heard, Hears}
use Rattle.ctrl_model.specs.Link.Heard.{Asked, Refused}

piece_once : (kind : Option Kind) (bytes : List ℕ) (d : EmulatorState) (s t : RequestOutcome) → TakesPiece kind bytes d s → TakesPiece kind bytes d t → s ≡ t
piece_once None bytes d s t first second = first ∙ sym second
piece_once (Some kind) [] d s t first second = first ∙ sym second
piece_once (Some kind) (b ∷ bytes) d s t (inl (good, is)) (inl (same, was)) = is ∙ sym was
piece_once (Some kind) (b ∷ bytes) d s t (inl (good, is)) (inr (fault, refused, was)) = absurd (good fault refused)
piece_once (Some kind) (b ∷ bytes) d s t (inr (fault, refused, is)) (inl (good, was)) = absurd (good fault refused)
piece_once (Some kind) (b ∷ bytes) d s t (inr (fault, refused, is)) (inr (other, again, was)) = is ∙ sym was

taken_once : (on plain : Bool) (type : ℕ) (bytes : List ℕ) (d : EmulatorState) (s t : RequestOutcome) → BlobTaken on plain type bytes d s → BlobTaken on plain type bytes d t → s ≡ t
taken_once true plain type bytes d s t first second = first ∙ sym second
taken_once false false type bytes d s t first second = first ∙ sym second
taken_once false true type bytes d s t first second = piece_once (kind_of type) bytes d s t first second

module _ (once : (p v z : List ℕ) (a b : TpmParts) → IsAssembled p v z a → IsAssembled p v z b → a ≡ b) (not_both : (p v z : List ℕ) (a : TpmParts) (f : BlobFault) → IsAssembled p v z a → IsFault p v z f → ⊥) where
  assembled_once : (volatile : List ℕ) (d : EmulatorState) (s t : RequestOutcome) → Assembled volatile d s → Assembled volatile d t → s ≡ t
  assembled_once volatile d s t (inl (a, whole, is)) (inl (b, again, was)) =
      is ∙ ap (λ (tpm : TpmParts). resulted success (switched_on (started_with volatile tpm) d)) (once d.gathers.permanent volatile d.gathers.saved a b whole again) ∙ sym was
  assembled_once volatile d s t (inl (a, whole, is)) (inr (fault, why, was)) = absurd (not_both d.gathers.permanent volatile d.gathers.saved a fault whole why)
  assembled_once volatile d s t (inr (fault, why, is)) (inl (a, whole, was)) = absurd (not_both d.gathers.permanent volatile d.gathers.saved a fault whole why)
  assembled_once volatile d s t (inr (fault, why, is)) (inr (other, again, was)) = is ∙ sym was

  starts_once : (nothing : Bool) (flags : ℕ) (d : EmulatorState) (s t : RequestOutcome) → StartsBy nothing flags d s → StartsBy nothing flags d t → s ≡ t
  starts_once true flags d s t first second = first ∙ sym second
  starts_once false flags d s t first second = assembled_once (volatile_taken flags d.gathers) d s t first second

  inits_once : (bad : Bool) (flags : ℕ) (d : EmulatorState) (s t : RequestOutcome) → InitsBy bad flags d s → InitsBy bad flags d t → s ≡ t
  inits_once true flags d s t first second = first ∙ sym second
  inits_once false flags d s t first second = starts_once (is_nothing d.gathers) flags d s t first second

  pub hears_once : (heard : Heard) (d : EmulatorState) (s t : RequestOutcome) → Hears heard d s → Hears heard d t → s ≡ t
  hears_once (Asked GetCapability bytes) d s t first second = first ∙ sym second
  hears_once (Asked (Init flags) bytes) d s t first second = inits_once (nat_lt delete_volatile flags) flags d s t first second
  hears_once (Asked Shutdown bytes) d s t first second = first ∙ sym second
  hears_once (Asked GetEstablished bytes) d s t first second = first ∙ sym second
  hears_once (Asked (SetLocality locality) bytes) d s t first second = first ∙ sym second
  hears_once (Asked CancelCommand bytes) d s t first second = first ∙ sym second
  hears_once (Asked StoreVolatile bytes) d s t first second = first ∙ sym second
  hears_once (Asked (ResetEstablished locality) bytes) d s t first second = first ∙ sym second
  hears_once (Asked (GetStateBlob flags type offset) bytes) d s t first second = first ∙ sym second
  hears_once (Asked (SetStateBlob flags type size) bytes) d s t first second = taken_once d.on (eqb flags 0) type bytes d s t first second
  hears_once (Asked Stop bytes) d s t first second = first ∙ sym second
  hears_once (Asked GetConfig bytes) d s t first second = first ∙ sym second
  hears_once (Asked (SetBufferSize size) bytes) d s t first second = first ∙ sym second
  hears_once (Refused fault) d s t first second = first ∙ sym second
