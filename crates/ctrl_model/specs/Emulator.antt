-- The emulator: what each whole control message does to it. (Own definitions; the messages are after swtpm's manual.)
use Rattle.std.specs.Prelude.{◌≡◌, ◌-◌, ℕ, Bool, true, false, not, ◌&&◌, ◌==◌, nat_lt, if◌then◌else◌, List, [], ◌∷◌, ◌++◌, length, min, max, Option, Some, None, option_map, ◌⊎◌}
use Rattle.vt_base.specs.declared.types.Kind.{Kind}
use Rattle.vt_base.specs.declared.types.Kind.TheVariants.{Permanent, Volatile, Saved}
use Rattle.vt_base.specs.declared.types.Malformed.{Malformed}
use Rattle.tpm_frame.specs.Numbers.{rc_failure, rc_canceled}
use Rattle.tpm_frame.specs.Frame.{short}
use Rattle.tpm_core.specs.declared.parts.TpmParts.{TpmParts}
use Rattle.tpm_core.specs.Answers.{powered_on, values_after, answer}
use Rattle.tpm_core.specs.Answers.Entry.{Executed}
use Rattle.state_blobs.specs.Encodings.{encode_blob, slice}
use Rattle.state_blobs.specs.Refusals.{IsRefused}
use Rattle.state_blobs.specs.declared.types.BlobFault.{BlobFault}
use Rattle.state_blobs.specs.Assembly.{IsAssembled, IsFault}
use Rattle.ctrl_model.specs.Numbers.{success, bad_parameter, bad_ordinal, capabilities, delete_volatile, permanent_blob, volatile_blob, saved_blob, least_buffer, greatest_buffer}
use Rattle.ctrl_codec.specs.declared.request.Request.{Request}
use Rattle.ctrl_codec.specs.declared.request.Request.TheVariants.{GetCapability, Init, Shutdown, GetEstablished, SetLocality, CancelCommand, StoreVolatile, ResetEstablished, GetStateBlob, SetStateBlob, Stop, GetConfig, SetBufferSize}
use Rattle.ctrl_codec.specs.declared.request.RequestFault.{RequestFault}
use Rattle.ctrl_codec.specs.declared.request.RequestFault.TheVariants.{Code, Length}
use Rattle.ctrl_codec.specs.declared.reply.Reply.{Reply}
use Rattle.ctrl_codec.specs.declared.reply.Reply.TheVariants as reply

-- a command that is held, and whether a cancel came since
pub record PendingCommand : Type 0 where
  pub command : List ℕ
  pub cancelled : Bool

-- the bytes of each blob that came so far
pub record Gathers : Type 0 where
  pub permanent : List ℕ
  pub volatile : List ℕ
  pub saved : List ℕ

-- An emulator: its TPM if it has one, whether that is on, whether its volatile state was stored, the blobs that are
-- gathered for another TPM, how many bytes of a blob one reply has at most, the size of its buffer, the pending command,
-- and whether its control channel is closed.
pub record EmulatorState : Type 0 where
  pub tpm : Option TpmParts
  pub on : Bool
  pub stored : Bool
  pub gathers : Gathers
  pub piece : ℕ
  pub buffer : ℕ
  pub held : Option PendingCommand
  pub closed : Bool

-- nothing of any blob
abbrev pub no_gathers : Gathers
no_gathers = record { permanent = []; volatile = []; saved = [] }

-- the bytes of one blob
abbrev pub gather_of : Kind → Gathers → List ℕ
gather_of Permanent g = g.permanent
gather_of Volatile g = g.volatile
gather_of Saved g = g.saved

abbrev pub with_gather : Kind → List ℕ → Gathers → Gathers
with_gather Permanent bytes g = record g { permanent = bytes }
with_gather Volatile bytes g = record g { volatile = bytes }
with_gather Saved bytes g = record g { saved = bytes }

-- the kind of blob of a type, if there is one
abbrev pub kind_of : ℕ → Option Kind
kind_of type =
    if type == permanent_blob then Some Permanent
    else (if type == volatile_blob then Some Volatile
    else (if type == saved_blob then Some Saved
    else None))

-- the type of a kind
abbrev pub type_of : Kind → ℕ
type_of Permanent = permanent_blob
type_of Volatile = volatile_blob
type_of Saved = saved_blob

-- the emulator after a message, and the reply with its data
pub record RequestOutcome : Type 0 where
  pub emulator : EmulatorState
  pub reply : Reply
  pub payload : List ℕ

-- a reply without data
abbrev pub replied : Reply → EmulatorState → RequestOutcome
replied r d = record { emulator = d; reply = r; payload = [] }

-- a result alone
abbrev pub resulted : ℕ → EmulatorState → RequestOutcome
resulted result d = replied (reply.Result result) d

-- ---- INIT

-- no element
abbrev pub is_nil : List ℕ → Bool
is_nil [] = true
is_nil (x ∷ xs) = false

-- switched on with this TPM
abbrev pub switched_on : TpmParts → EmulatorState → EmulatorState
switched_on t d = record d { tpm = Some t; on = true; stored = false; gathers = no_gathers }

-- with nothing gathered, the TPM that is there is powered on anew, unless its volatile state was stored and is kept
abbrev pub started_here : ℕ → Option TpmParts → EmulatorState → RequestOutcome
started_here flags None d = resulted bad_ordinal d
started_here flags (Some t) d = resulted success (switched_on (if d.stored && flags == 0 then t else powered_on t) d)

-- the volatile blob that counts
abbrev pub volatile_taken : ℕ → Gathers → List ℕ
volatile_taken flags g = if flags == delete_volatile then [] else g.volatile

-- a TPM with no volatile state is powered on
abbrev pub started_with : List ℕ → TpmParts → TpmParts
started_with [] t = powered_on t
started_with (b ∷ bytes) t = t

-- the TPM is assembled from the blobs that were gathered, or they are refused
abbrev pub Assembled : List ℕ → EmulatorState → RequestOutcome → Type 0
Assembled volatile d request_outcome =
    ((t : TpmParts) × IsAssembled d.gathers.permanent volatile d.gathers.saved t × (request_outcome ≡ resulted success (switched_on (started_with volatile t) d)))
    ⊎ ((fault : BlobFault) × IsFault d.gathers.permanent volatile d.gathers.saved fault × (request_outcome ≡ resulted bad_parameter d))

-- whether no byte of a blob was gathered
abbrev pub is_nothing : Gathers → Bool
is_nothing g = is_nil g.permanent && is_nil g.volatile && is_nil g.saved

-- by whether nothing is gathered
abbrev pub StartsBy : Bool → ℕ → EmulatorState → RequestOutcome → Type 0
StartsBy true flags d request_outcome = request_outcome ≡ started_here flags d.tpm d
StartsBy false flags d request_outcome = Assembled (volatile_taken flags d.gathers) d request_outcome

-- by whether a bit of the flags is set that says nothing
abbrev pub InitsBy : Bool → ℕ → EmulatorState → RequestOutcome → Type 0
InitsBy true flags d request_outcome = request_outcome ≡ resulted bad_parameter d
InitsBy false flags d request_outcome = StartsBy (is_nothing d.gathers) flags d request_outcome

-- ---- blobs

-- a blob's answer with no data
abbrev pub no_blob : ℕ → EmulatorState → RequestOutcome
no_blob result d = replied (reply.Blob result 0 0 0) d

-- a piece of a blob, as long as the emulator gives one
abbrev pub piece_of : List ℕ → ℕ → EmulatorState → RequestOutcome
piece_of text offset d =
    let size = min d.piece (length text - offset) in
    record { emulator = d; reply = reply.Blob success 0 (length text) size; payload = slice text offset size }

abbrev pub blob_given : Option Kind → ℕ → Option TpmParts → EmulatorState → RequestOutcome
blob_given None offset tpm d = no_blob bad_parameter d
blob_given (Some kind) offset None d = no_blob bad_ordinal d
blob_given (Some kind) offset (Some t) d =
    if nat_lt (length (encode_blob kind t)) offset then no_blob bad_parameter d else piece_of (encode_blob kind t) offset d

-- a piece is added to what was gathered; one that no blob goes on with is refused, and changes nothing
abbrev pub TakesPiece : Option Kind → List ℕ → EmulatorState → RequestOutcome → Type 0
TakesPiece None bytes d request_outcome = request_outcome ≡ resulted bad_parameter d
TakesPiece (Some kind) [] d request_outcome = request_outcome ≡ resulted success d
TakesPiece (Some kind) (b ∷ bytes) d request_outcome =
    let all = gather_of kind d.gathers ++ b ∷ bytes in
    (((fault : Malformed) → IsRefused kind fault all → ⊥) × (request_outcome ≡ resulted success (record d { gathers = with_gather kind all d.gathers })))
    ⊎ ((fault : Malformed) × IsRefused kind fault all × (request_outcome ≡ resulted bad_parameter d))

-- by whether the TPM is on, and whether the flags are 0
abbrev pub BlobTaken : Bool → Bool → ℕ → List ℕ → EmulatorState → RequestOutcome → Type 0
BlobTaken true plain type bytes d request_outcome = request_outcome ≡ resulted bad_ordinal d
BlobTaken false false type bytes d request_outcome = request_outcome ≡ resulted bad_parameter d
BlobTaken false true type bytes d request_outcome = TakesPiece (kind_of type) bytes d request_outcome

-- ---- the other messages

-- a cancel came for the command that is held
abbrev pub cancelled_command : PendingCommand → PendingCommand
cancelled_command h = record h { cancelled = true }

-- switched off; the TPM stays
abbrev pub switched_off : EmulatorState → EmulatorState
switched_off d = record d { on = false; gathers = no_gathers }

-- the size of the buffer that was asked for, brought into its range; 0 asks for it
abbrev pub buffer_for : ℕ → ℕ → ℕ
buffer_for size now = if size == 0 then now else min (max size least_buffer) greatest_buffer

abbrev pub with_buffer : ℕ → EmulatorState → RequestOutcome
with_buffer size d = replied (reply.Buffer success size least_buffer greatest_buffer) (record d { buffer = size })

-- what a whole request with its data does to an emulator whose control channel is open, and the reply
abbrev pub HandlesRequest : Request → List ℕ → EmulatorState → RequestOutcome → Type 0
HandlesRequest GetCapability bytes d request_outcome = request_outcome ≡ replied (reply.Capability capabilities) d
HandlesRequest (Init flags) bytes d request_outcome = InitsBy (nat_lt delete_volatile flags) flags d request_outcome
HandlesRequest Shutdown bytes d request_outcome = request_outcome ≡ resulted success (record (switched_off d) { closed = true })
HandlesRequest GetEstablished bytes d request_outcome = request_outcome ≡ replied (reply.Established success 0) d
HandlesRequest (SetLocality locality) bytes d request_outcome = request_outcome ≡ resulted (if locality == 0 then success else bad_parameter) d
HandlesRequest CancelCommand bytes d request_outcome = request_outcome ≡ resulted success (record d { held = option_map cancelled_command d.held })
HandlesRequest StoreVolatile bytes d request_outcome = request_outcome ≡ (if d.on then resulted success (record d { stored = true }) else resulted bad_ordinal d)
HandlesRequest (ResetEstablished locality) bytes d request_outcome = request_outcome ≡ resulted success d
HandlesRequest (GetStateBlob flags type offset) bytes d request_outcome = request_outcome ≡ (if flags == 0 then blob_given (kind_of type) offset d.tpm d else no_blob bad_parameter d)
HandlesRequest (SetStateBlob flags type size) bytes d request_outcome = BlobTaken d.on (flags == 0) type bytes d request_outcome
HandlesRequest Stop bytes d request_outcome = request_outcome ≡ resulted success (switched_off d)
HandlesRequest GetConfig bytes d request_outcome = request_outcome ≡ replied (reply.Config success 0) d
HandlesRequest (SetBufferSize size) bytes d request_outcome = request_outcome ≡ with_buffer (buffer_for size d.buffer) d

-- a code outside the profile, and a blob's length above the limit, close the channel
abbrev pub fault_result : RequestFault → ℕ
fault_result (Code code) = bad_ordinal
fault_result (Length size) = bad_parameter

abbrev pub closed_for : RequestFault → EmulatorState → RequestOutcome
closed_for fault d = resulted (fault_result fault) (record d { closed = true })

-- ---- commands

-- a command that is whole is held
abbrev pub holding : List ℕ → EmulatorState → EmulatorState
holding command d = record d { held = Some (record { command = command; cancelled = false }) }

-- the response of the TPM that is on
abbrev pub response_of : Option TpmParts → List ℕ → List ℕ
response_of None command = short rc_failure
response_of (Some t) command = answer t [] command

-- the TPM once it executed a command
abbrev pub executed_by : List ℕ → TpmParts → TpmParts
executed_by command t = values_after t (Executed command ∷ [])

-- the response to the command that is held
abbrev pub response_to : PendingCommand → EmulatorState → List ℕ
response_to h d = if d.on then (if h.cancelled then short rc_canceled else response_of d.tpm h.command) else short rc_failure

-- the emulator once it answered the command that it held: it is executed where the TPM is on and no cancel came
abbrev pub ran : PendingCommand → EmulatorState → EmulatorState
ran h d =
    if d.on && not h.cancelled then record d { tpm = option_map (executed_by h.command) d.tpm; stored = false; held = None }
    else record d { held = None }
