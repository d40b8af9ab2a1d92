-- A piece of a blob is asked for, or another size of the buffer, over a link that is quiet. (Own definitions.)
use Rattle.std.specs.Prelude.{◌≡◌, ◌+◌, ◌-◌, ◌<◌, ◌≤◌, ◌^◌, ℕ, Bool, true, false, not, ◌==◌, ◌||◌, ◌&&◌, nat_lt, min, if◌then◌else◌, ◌⊎◌, List, [], ◌++◌, length, take, drop, Option, Some, None, IfSome, Result, Ok, Err}
use Rattle.vt_base.specs.declared.types.Kind.{Kind}
use Rattle.tpm_core.specs.declared.parts.TpmParts.{TpmParts}
use Rattle.state_blobs.specs.Encodings.{encode_blob, slice}
use Rattle.state_blobs.specs.declared.types.Piece.{Piece}
use Rattle.ctrl_client.specs.declared.fault.ClientFault.{ClientFault}
use Rattle.ctrl_client.specs.declared.fault.ClientFault.TheVariants.{Link as LinkFault, Result as BadResult, Reply as BadReply}
use Rattle.ctrl_model.specs.Numbers.{success, bad_parameter, bad_ordinal, flags_place, total_place, length_place, greatest_buffer}
use Rattle.ctrl_model.specs.Emulator.{EmulatorState, buffer_for}
use Rattle.vt_base.specs.declared.types.Chan.TheVariants.{Ctrl}
use Rattle.ctrl_model.specs.Link.{Link, receivable, received}
use Rattle.ctrl_client.specs.Schedules.{fails_within, schedule_after}
use Rattle.ctrl_client.specs.Exchange.{IsQuiet}

-- ---- a piece of a blob

-- the fixed fields of the reply
pub record BlobFields : Type 0 where
  pub result : ℕ
  pub flags : ℕ
  pub total : ℕ
  pub size : ℕ

-- a length that can't stand: above what is left of the blob, above the room, or none of what is left
abbrev pub is_misfit : ℕ → ℕ → ℕ → Bool
is_misfit size left room = nat_lt left size || nat_lt room size || (size == 0 && nat_lt 0 left)

-- the piece that the fields give, or the first of them that can't stand
abbrev pub checked_fields : BlobFields → ℕ → ℕ → Result Piece ClientFault
checked_fields f offset room =
    if not (f.result == success) then Err (BadResult f.result)
    else (if not (f.flags == 0) then Err (BadReply flags_place)
    else (if nat_lt f.total offset then Err (BadReply total_place)
    else (if is_misfit f.size (f.total - offset) room then Err (BadReply length_place)
    else Ok (record { total = f.total; length = f.size }))))

-- a piece that begins at this place of its blob, and has room
pub record IsPiece (offset room : ℕ) (p : Piece) : Type 0 where
  pub within : offset + p.length ≤ p.total
  pub fits : p.length ≤ room
  pub some : offset < p.total → 0 < p.length

-- a field of the reply begins at this place
abbrev pub IsPlace : ℕ → Type 0
IsPlace place = (place ≡ flags_place) ⊎ ((place ≡ total_place) ⊎ (place ≡ length_place))

-- the fields of a reply that gives nothing of a blob
abbrev pub refused_fields : ℕ → BlobFields
refused_fields result = record { result = result; flags = 0; total = 0; size = 0 }

-- those of a reply that gives a piece of this blob, as long as the emulator gives one
abbrev pub fields_at : List ℕ → ℕ → ℕ → BlobFields
fields_at text offset most =
    if nat_lt (length text) offset then refused_fields bad_parameter
    else record { result = success; flags = 0; total = length text; size = min most (length text - offset) }

abbrev pub fields_of_tpm : Kind → ℕ → ℕ → Option TpmParts → BlobFields
fields_of_tpm kind offset most None = refused_fields bad_ordinal
fields_of_tpm kind offset most (Some t) = fields_at (encode_blob kind t) offset most

-- the fields that the emulator's reply has
abbrev pub fields_of_reply : Kind → ℕ → EmulatorState → BlobFields
fields_of_reply kind offset d = fields_of_tpm kind offset d.piece d.tpm

-- the answer that they make with so much room, and the bytes that come with it
abbrev pub piece_given : Kind → ℕ → ℕ → EmulatorState → Result Piece ClientFault
piece_given kind offset room d = checked_fields (fields_of_reply kind offset d) offset room

abbrev pub bytes_at : Result Piece ClientFault → List ℕ → ℕ → List ℕ
bytes_at (Ok p) text offset = slice text offset p.length
bytes_at (Err fault) text offset = []

abbrev pub encode_blob_if_any : Kind → Option TpmParts → List ℕ
encode_blob_if_any kind None = []
encode_blob_if_any kind (Some t) = encode_blob kind t

abbrev pub bytes_given : Kind → ℕ → ℕ → EmulatorState → List ℕ
bytes_given kind offset room d = bytes_at (piece_given kind offset room d) (encode_blob_if_any kind d.tpm) offset

-- whether bytes of a reply that isn't taken may wait: those of one that is malformed, and data that a refusal names
abbrev pub leaves_bytes : Result Piece ClientFault → ℕ → Bool
leaves_bytes (Ok p) size = false
leaves_bytes (Err (BadReply place)) size = true
leaves_bytes (Err (BadResult result)) size = nat_lt 0 size
leaves_bytes (Err LinkFault) size = nat_lt 0 size

-- a call for the request, one for the fixed fields, and one for data, if a piece with data is taken
abbrev pub calls_for : Result Piece ClientFault → ℕ
calls_for (Ok p) = if nat_lt 0 p.length then 3 else 2
calls_for (Err fault) = 2

-- a link that is quiet, to an emulator whose blob's length fits its field
pub record HasField (kind : Kind) (l : Link) : Type 0 where
  pub quiet : IsQuiet l
  pub total : IfSome l.emulator.tpm (λ t. length (encode_blob kind t) < 2 ^ 32)

-- One piece is asked for, and checked by the fields of the reply. Where it is taken its bytes stand in front. The emulator
-- and the link stay as they were: of a reply that isn't taken no byte waits.
pub record Fetches {P : Type 0} (fails : P → Bool) (later : P → P) (kind : Kind) (offset room : ℕ) (l : Link) (schedule : P) (answer : Result Piece ClientFault) (old new : List ℕ) (after : Option Link) (schedule_now : P) : Type 0 where
  pub schedule_is : schedule_now ≡ schedule_after fails later (calls_for (piece_given kind offset room l.emulator)) schedule
  pub link : after ≡ Some l
  pub answer_is : answer ≡ (if fails_within fails later (calls_for (piece_given kind offset room l.emulator)) schedule then Err LinkFault else piece_given kind offset room l.emulator)
  pub bytes : fails_within fails later (calls_for (piece_given kind offset room l.emulator)) schedule ≡ false
      → new ≡ bytes_given kind offset room l.emulator ++ drop (length (bytes_given kind offset room l.emulator)) old
  -- also where the data was lost, the slice behind it is as it was; and all of it where the request or the fields were
  pub rest : drop (length (bytes_given kind offset room l.emulator)) new ≡ drop (length (bytes_given kind offset room l.emulator)) old
  pub untouched : fails_within fails later 2 schedule ≡ true → new ≡ old

-- by whether there is data: it was received over this link, or the call failed
abbrev pub TakesData : {P : Type 0} → Bool → (P → Bool) → (P → P) → Piece → Link → P → Result Piece ClientFault → List ℕ → List ℕ → Option Link → P → Type 0
TakesData false fails later p m schedule answer old new after schedule_now = (answer ≡ Ok p) × (new ≡ old) × (after ≡ Some m) × (schedule_now ≡ schedule)
TakesData true fails later p m schedule answer old new after schedule_now =
    (answer ≡ (if fails schedule then Err LinkFault else Ok p))
    × (fails schedule ≡ false → new ≡ take p.length (receivable Ctrl m) ++ drop p.length old)
    × (after ≡ Some (received (not (fails schedule)) Ctrl p.length m)) × (schedule_now ≡ later schedule)
    × (drop p.length new ≡ drop p.length old)

-- ---- the size of the buffer

-- by whether the send failed, and whether a call did
abbrev pub SizedBy : Bool → Bool → ℕ → Link → Result ℕ ClientFault → Option Link → Type 0
SizedBy true lost size l answer after = (answer ≡ Err LinkFault) × (after ≡ Some l)
SizedBy false lost size l answer after =
    (after ≡ Some (record l { emulator = record l.emulator { buffer = buffer_for size l.emulator.buffer } }))
    × (answer ≡ (if lost then Err LinkFault else Ok (buffer_for size l.emulator.buffer)))

-- the size is asked for, and what the emulator took is answered
pub record Sizes {P : Type 0} (fails : P → Bool) (later : P → P) (size : ℕ) (l : Link) (schedule : P) (answer : Result ℕ ClientFault) (after : Option Link) (schedule_now : P) : Type 0 where
  pub schedule_is : schedule_now ≡ schedule_after fails later 2 schedule
  pub link : SizedBy (fails_within fails later 1 schedule) (fails_within fails later 2 schedule) size l answer after

-- a link that is quiet, to an emulator whose buffer is no larger than the profile's
pub record IsSized (l : Link) : Type 0 where
  pub quiet : IsQuiet l
  pub most : l.emulator.buffer ≤ greatest_buffer
