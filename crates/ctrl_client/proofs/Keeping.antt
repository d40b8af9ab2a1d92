-- What an emulator gives of a blob, and what no request changes.
use Rattle.std.proofs.Common.{◌≡◌, ◌≢◌, ℕ, zero, suc, ◌-◌, ◌≤◌, Bool, true, false, List, [], ◌∷◌, length, Option, Some, None, Ok, refl, ap, ◌∙◌, arith, inl, inr}
use Rattle.std.specs.Prelude.{min, nat_lt, ◌==◌, if◌then◌else◌}
use Rattle.std.proofs.lemmas.Bool.Decides.{nat_tests}
use Rattle.vt_base.specs.declared.types.Kind.{Kind}
use Rattle.tpm_core.specs.declared.parts.TpmParts.{TpmParts}
use Rattle.state_blobs.specs.Encodings.{encode_blob}
use Rattle.ctrl_codec.specs.declared.request.Request.{Request}
use Rattle.ctrl_codec.specs.declared.request.Request.TheVariants.{GetCapability, Init, Shutdown, GetEstablished, SetLocality, CancelCommand, StoreVolatile, ResetEstablished, GetStateBlob, SetStateBlob, Stop, GetConfig, SetBufferSize}
use Rattle.ctrl_model.specs.Emulator.{EmulatorState, RequestOutcome, HandlesRequest, InitsBy, StartsBy, Assembled, BlobTaken, TakesPiece, started_here, blob_given, piece_of, no_blob, kind_of, is_nothing, volatile_taken, resulted}
use Rattle.ctrl_client.specs.Pieces.{BlobFields, is_misfit, checked_fields, fields_at, fields_of_tpm, piece_given}

-- ---- a piece of a blob

-- the length of a piece that has room: it has a byte where one is left
none_misfit : (most left room : ℕ) → min most left ≤ room → 1 ≤ most → is_misfit (min most left) left room ≡ false
none_misfit most zero room fits some =
    let none : min most 0 ≡ 0 = omega arith in
    let held : nat_lt room 0 ≡ false = grind (arith, nat_tests) in
    rw (none, held) refl
none_misfit most (suc left) room fits some =
    let far : nat_lt (suc left) (min most (suc left)) ≡ false = grind (arith, nat_tests) in
    let held : nat_lt room (min most (suc left)) ≡ false = grind (arith, nat_tests) in
    let there : (min most (suc left) == 0) ≡ false = grind (arith, nat_tests) in
    rw (far, held, there) refl

given_is : (text : List ℕ) (offset most room : ℕ) → offset ≤ length text → min most (length text - offset) ≤ room → 1 ≤ most
    → checked_fields (fields_at text offset most) offset room ≡ Ok (record { total = length text; length = min most (length text - offset) })
given_is text offset most room within fits some =
    let far : nat_lt (length text) offset ≡ false = grind (arith, nat_tests) in
    let fields : fields_at text offset most ≡ record { result = 0; flags = 0; total = length text; size = min most (length text - offset) } = rw far refl in
    ap (λ (f : BlobFields). checked_fields f offset room) fields ∙ rw (far, none_misfit most (length text - offset) room fits some) refl

pub piece_is_given : (kind : Kind) (offset room : ℕ) (d : EmulatorState) (t : TpmParts) → d.tpm ≡ Some t → offset ≤ length (encode_blob kind t)
    → 1 ≤ d.piece → min d.piece (length (encode_blob kind t) - offset) ≤ room
    → piece_given kind offset room d ≡ Ok (record { total = length (encode_blob kind t); length = min d.piece (length (encode_blob kind t) - offset) })
piece_is_given kind offset room d t tpm within some fits =
    ap (λ (o : Option TpmParts). checked_fields (fields_of_tpm kind offset d.piece o) offset room) tpm
    ∙ given_is (encode_blob kind t) offset d.piece room within fits some

-- ---- what requests leave as it is

record Keeps (d e : EmulatorState) : Type 0 where
  piece : e.piece ≡ d.piece
  closed : e.closed ≡ d.closed

-- the emulator after these turns
is_kept : (d : EmulatorState) (request_outcome now : RequestOutcome) → request_outcome ≡ now → Keeps d now.emulator → Keeps d request_outcome.emulator
is_kept d request_outcome now is keeps = record { piece = ap (λ (x : RequestOutcome). x.emulator.piece) is ∙ keeps.piece; closed = ap (λ (x : RequestOutcome). x.emulator.closed) is ∙ keeps.closed }

same : (d : EmulatorState) → Keeps d d
same d = record { piece = refl; closed = refl }

either : (d : EmulatorState) (b : Bool) (x y : RequestOutcome) → Keeps d x.emulator → Keeps d y.emulator → Keeps d (if b then x else y).emulator
either d true x y first second = first
either d false x y first second = second

here : (flags : ℕ) (o : Option TpmParts) (d : EmulatorState) → Keeps d (started_here flags o d).emulator
here flags None d = same d
here flags (Some t) d = record { piece = refl; closed = refl }

assembled : (volatile : List ℕ) (d : EmulatorState) (request_outcome : RequestOutcome) → Assembled volatile d request_outcome → Keeps d request_outcome.emulator
assembled volatile d request_outcome (inl (t, parts, is)) = record { piece = ap (λ (x : RequestOutcome). x.emulator.piece) is; closed = ap (λ (x : RequestOutcome). x.emulator.closed) is }
assembled volatile d request_outcome (inr (fault, bad, is)) = is_kept d request_outcome (resulted 3 d) is (same d)

starts : (b : Bool) (flags : ℕ) (d : EmulatorState) (request_outcome : RequestOutcome) → StartsBy b flags d request_outcome → Keeps d request_outcome.emulator
starts true flags d request_outcome is = is_kept d request_outcome (started_here flags d.tpm d) is (here flags d.tpm d)
starts false flags d request_outcome made = assembled (volatile_taken flags d.gathers) d request_outcome made

inits : (b : Bool) (flags : ℕ) (d : EmulatorState) (request_outcome : RequestOutcome) → InitsBy b flags d request_outcome → Keeps d request_outcome.emulator
inits true flags d request_outcome is = is_kept d request_outcome (resulted 3 d) is (same d)
inits false flags d request_outcome obeys = starts (is_nothing d.gathers) flags d request_outcome obeys

takes : (o : Option Kind) (bytes : List ℕ) (d : EmulatorState) (request_outcome : RequestOutcome) → TakesPiece o bytes d request_outcome → Keeps d request_outcome.emulator
takes None bytes d request_outcome is = is_kept d request_outcome (resulted 3 d) is (same d)
takes (Some kind) [] d request_outcome is = is_kept d request_outcome (resulted 0 d) is (same d)
takes (Some kind) (b ∷ bytes) d request_outcome (inl (fine, is)) = record { piece = ap (λ (x : RequestOutcome). x.emulator.piece) is; closed = ap (λ (x : RequestOutcome). x.emulator.closed) is }
takes (Some kind) (b ∷ bytes) d request_outcome (inr (fault, bad, is)) = is_kept d request_outcome (resulted 3 d) is (same d)

taken : (on plain : Bool) (type : ℕ) (bytes : List ℕ) (d : EmulatorState) (request_outcome : RequestOutcome) → BlobTaken on plain type bytes d request_outcome → Keeps d request_outcome.emulator
taken true plain type bytes d request_outcome is = is_kept d request_outcome (resulted 0x0A d) is (same d)
taken false false type bytes d request_outcome is = is_kept d request_outcome (resulted 3 d) is (same d)
taken false true type bytes d request_outcome obeys = takes (kind_of type) bytes d request_outcome obeys

gives : (o : Option Kind) (offset : ℕ) (tpm : Option TpmParts) (d : EmulatorState) → Keeps d (blob_given o offset tpm d).emulator
gives None offset tpm d = same d
gives (Some kind) offset None d = same d
gives (Some kind) offset (Some t) d = either d (nat_lt (length (encode_blob kind t)) offset) (no_blob 3 d) (piece_of (encode_blob kind t) offset d) (same d) (same d)

keeps : (q : Request) (bytes : List ℕ) (d : EmulatorState) (request_outcome : RequestOutcome) → q ≢ Shutdown → HandlesRequest q bytes d request_outcome → Keeps d request_outcome.emulator
keeps GetCapability bytes d request_outcome other is = record { piece = ap (λ (x : RequestOutcome). x.emulator.piece) is; closed = ap (λ (x : RequestOutcome). x.emulator.closed) is }
keeps (Init flags) bytes d request_outcome other obeys = inits (nat_lt 1 flags) flags d request_outcome obeys
keeps Shutdown bytes d request_outcome other is = absurd (other refl)
keeps GetEstablished bytes d request_outcome other is = record { piece = ap (λ (x : RequestOutcome). x.emulator.piece) is; closed = ap (λ (x : RequestOutcome). x.emulator.closed) is }
keeps (SetLocality locality) bytes d request_outcome other is = record { piece = ap (λ (x : RequestOutcome). x.emulator.piece) is; closed = ap (λ (x : RequestOutcome). x.emulator.closed) is }
keeps CancelCommand bytes d request_outcome other is = record { piece = ap (λ (x : RequestOutcome). x.emulator.piece) is; closed = ap (λ (x : RequestOutcome). x.emulator.closed) is }
keeps StoreVolatile bytes d request_outcome other is =
    is_kept d request_outcome _ is (either d d.on (resulted 0 (record d { stored = true })) (resulted 0x0A d) (record { piece = refl; closed = refl }) (same d))
keeps (ResetEstablished locality) bytes d request_outcome other is = record { piece = ap (λ (x : RequestOutcome). x.emulator.piece) is; closed = ap (λ (x : RequestOutcome). x.emulator.closed) is }
keeps (GetStateBlob flags type offset) bytes d request_outcome other is =
    is_kept d request_outcome _ is (either d (flags == 0) (blob_given (kind_of type) offset d.tpm d) (no_blob 3 d) (gives (kind_of type) offset d.tpm d) (same d))
keeps (SetStateBlob flags type size) bytes d request_outcome other obeys = taken d.on (flags == 0) type bytes d request_outcome obeys
keeps Stop bytes d request_outcome other is = record { piece = ap (λ (x : RequestOutcome). x.emulator.piece) is; closed = ap (λ (x : RequestOutcome). x.emulator.closed) is }
keeps GetConfig bytes d request_outcome other is = record { piece = ap (λ (x : RequestOutcome). x.emulator.piece) is; closed = ap (λ (x : RequestOutcome). x.emulator.closed) is }
keeps (SetBufferSize size) bytes d request_outcome other is = record { piece = ap (λ (x : RequestOutcome). x.emulator.piece) is; closed = ap (λ (x : RequestOutcome). x.emulator.closed) is }

pub piece_is_kept : (q : Request) (bytes : List ℕ) (d : EmulatorState) (request_outcome : RequestOutcome) → q ≢ Shutdown → HandlesRequest q bytes d request_outcome → request_outcome.emulator.piece ≡ d.piece
piece_is_kept q bytes d request_outcome other obeys = (keeps q bytes d request_outcome other obeys).piece

pub channel_stays_open : (q : Request) (bytes : List ℕ) (d : EmulatorState) (request_outcome : RequestOutcome) → q ≢ Shutdown → HandlesRequest q bytes d request_outcome → request_outcome.emulator.closed ≡ d.closed
channel_stays_open q bytes d request_outcome other obeys = (keeps q bytes d request_outcome other obeys).closed
