-- Which messages close the channel.
use Rattle.std.proofs.Common.{◌≡◌, ℕ, Bool, true, false, cond, List, [], ◌∷◌, Option, Some, None, refl, ap, ◌∙◌, inl, inr, eqb}
use Rattle.std.specs.Prelude.{nat_lt}
use Rattle.vt_base.specs.declared.types.Kind.{Kind}
use Rattle.tpm_core.specs.declared.parts.TpmParts.{TpmParts}
use Rattle.ctrl_codec.specs.declared.request.Request.TheVariants.{GetCapability, Init, Shutdown, GetEstablished, SetLocality, CancelCommand, StoreVolatile, ResetEstablished, GetStateBlob, SetStateBlob, Stop, GetConfig, SetBufferSize}
use Rattle.ctrl_model.specs.Numbers.{delete_volatile}
use Rattle.ctrl_model.specs.Emulator.{EmulatorState, RequestOutcome, InitsBy, StartsBy, Assembled, TakesPiece, BlobTaken, started_here, blob_given, is_nothing, volatile_taken, kind_of}
use Rattle.ctrl_model.specs.Link.{Heard, Hears}
use Rattle.ctrl_model.specs.Link.Heard.{Asked, Refused}
use Rattle.vt_emulator.specs.Emulator.{closes}

-- the turn leaves the channel as it was
abbrev Leaves : EmulatorState → RequestOutcome → Type 0
Leaves d request_outcome = request_outcome.emulator.closed ≡ d.closed

same : (d : EmulatorState) (request_outcome like : RequestOutcome) → request_outcome ≡ like → Leaves d like → Leaves d request_outcome
same d request_outcome like is left = ap (λ (t : RequestOutcome). t.emulator.closed) is ∙ left

start_leaves : (flags : ℕ) (tpm : Option TpmParts) (d : EmulatorState) → Leaves d (started_here flags tpm d)
start_leaves flags None d = refl
start_leaves flags (Some t) d = refl

assembled_leaves : (volatile : List ℕ) (d : EmulatorState) (request_outcome : RequestOutcome) → Assembled volatile d request_outcome → Leaves d request_outcome
assembled_leaves volatile d request_outcome (inl (t, whole, is)) = same d request_outcome _ is refl
assembled_leaves volatile d request_outcome (inr (fault, why, is)) = same d request_outcome _ is refl

starts_leave : (nothing : Bool) (flags : ℕ) (d : EmulatorState) (request_outcome : RequestOutcome) → StartsBy nothing flags d request_outcome → Leaves d request_outcome
starts_leave true flags d request_outcome is = same d request_outcome _ is (start_leaves flags d.tpm d)
starts_leave false flags d request_outcome step = assembled_leaves (volatile_taken flags d.gathers) d request_outcome step

inits_leave : (bad : Bool) (flags : ℕ) (d : EmulatorState) (request_outcome : RequestOutcome) → InitsBy bad flags d request_outcome → Leaves d request_outcome
inits_leave true flags d request_outcome is = same d request_outcome _ is refl
inits_leave false flags d request_outcome step = starts_leave (is_nothing d.gathers) flags d request_outcome step

piece_leaves : (kind : Option Kind) (bytes : List ℕ) (d : EmulatorState) (request_outcome : RequestOutcome) → TakesPiece kind bytes d request_outcome → Leaves d request_outcome
piece_leaves None bytes d request_outcome is = same d request_outcome _ is refl
piece_leaves (Some kind) [] d request_outcome is = same d request_outcome _ is refl
piece_leaves (Some kind) (b ∷ bytes) d request_outcome (inl (good, is)) = same d request_outcome _ is refl
piece_leaves (Some kind) (b ∷ bytes) d request_outcome (inr (fault, bad, is)) = same d request_outcome _ is refl

taken_leaves : (on plain : Bool) (type : ℕ) (bytes : List ℕ) (d : EmulatorState) (request_outcome : RequestOutcome) → BlobTaken on plain type bytes d request_outcome → Leaves d request_outcome
taken_leaves true plain type bytes d request_outcome is = same d request_outcome _ is refl
taken_leaves false false type bytes d request_outcome is = same d request_outcome _ is refl
taken_leaves false true type bytes d request_outcome step = piece_leaves (kind_of type) bytes d request_outcome step

either : (b : Bool) (d : EmulatorState) (s t : RequestOutcome) → Leaves d s → Leaves d t → Leaves d (cond b s t)
either true d s t p q = p
either false d s t p q = q

given_leaves : (kind : Option Kind) (offset : ℕ) (tpm : Option TpmParts) (d : EmulatorState) → Leaves d (blob_given kind offset tpm d)
given_leaves None offset tpm d = refl
given_leaves (Some kind) offset None d = refl
given_leaves (Some kind) offset (Some t) d = either _ d _ _ refl refl

pub hears_closing : (heard : Heard) (d : EmulatorState) (request_outcome : RequestOutcome) → d.closed ≡ false → Hears heard d request_outcome → request_outcome.emulator.closed ≡ closes heard
hears_closing (Asked GetCapability bytes) d request_outcome listens is = same d request_outcome _ is refl ∙ listens
hears_closing (Asked (Init flags) bytes) d request_outcome listens step = inits_leave (nat_lt delete_volatile flags) flags d request_outcome step ∙ listens
hears_closing (Asked Shutdown bytes) d request_outcome listens is = ap (λ (t : RequestOutcome). t.emulator.closed) is
hears_closing (Asked GetEstablished bytes) d request_outcome listens is = same d request_outcome _ is refl ∙ listens
hears_closing (Asked (SetLocality locality) bytes) d request_outcome listens is = same d request_outcome _ is refl ∙ listens
hears_closing (Asked CancelCommand bytes) d request_outcome listens is = same d request_outcome _ is refl ∙ listens
hears_closing (Asked StoreVolatile bytes) d request_outcome listens is = same d request_outcome _ is (either d.on d _ _ refl refl) ∙ listens
hears_closing (Asked (ResetEstablished locality) bytes) d request_outcome listens is = same d request_outcome _ is refl ∙ listens
hears_closing (Asked (GetStateBlob flags type offset) bytes) d request_outcome listens is = same d request_outcome _ is (either (eqb flags 0) d _ _ (given_leaves (kind_of type) offset d.tpm d) refl) ∙ listens
hears_closing (Asked (SetStateBlob flags type size) bytes) d request_outcome listens step = taken_leaves d.on (eqb flags 0) type bytes d request_outcome step ∙ listens
hears_closing (Asked Stop bytes) d request_outcome listens is = same d request_outcome _ is refl ∙ listens
hears_closing (Asked GetConfig bytes) d request_outcome listens is = same d request_outcome _ is refl ∙ listens
hears_closing (Asked (SetBufferSize size) bytes) d request_outcome listens is = same d request_outcome _ is refl ∙ listens
hears_closing (Refused fault) d request_outcome listens is = ap (λ (t : RequestOutcome). t.emulator.closed) is
