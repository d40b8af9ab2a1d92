-- Requests and their replies over a link that is quiet. (Own definitions.)
use Rattle.std.specs.Prelude.{◌≡◌, ℕ, suc, Bool, true, false, not, ◌==◌, if◌then◌else◌, List, [], ◌∷◌, length, take, Option, Some, Result, Ok, Err, ⊤}
use Rattle.ctrl_codec.specs.declared.request.Request.{Request}
use Rattle.ctrl_codec.specs.declared.request.Request.TheVariants.{Init, CancelCommand, SetStateBlob, Stop}
use Rattle.ctrl_codec.specs.declared.reply.Reply.{Reply}
use Rattle.ctrl_codec.specs.declared.reply.Reply.TheVariants as reply
use Rattle.ctrl_codec.specs.Replies.{encode_reply}
use Rattle.ctrl_client.specs.declared.fault.ClientFault.{ClientFault}
use Rattle.ctrl_client.specs.declared.fault.ClientFault.TheVariants.{Link as LinkFault, Result as BadResult}
use Rattle.ctrl_model.specs.Numbers.{success}
use Rattle.ctrl_model.specs.Emulator.{RequestOutcome, HandlesRequest}
use Rattle.ctrl_model.specs.Link.{Link, empty_channel, with_outcome, taken}
use Rattle.vt_base.specs.declared.types.Chan.TheVariants.{Ctrl}
use Rattle.vt_base.specs.Faults.{IsCounted}
use Rattle.ctrl_client.specs.Schedules.{fails_within, schedule_after}

-- no byte waits on the control channel, and it is open
pub record IsQuiet (l : Link) : Type 0 where
  pub nothing : l.control ≡ empty_channel
  pub listens : l.emulator.closed ≡ false

-- how many sends a request with this data takes
abbrev pub sends_of : List ℕ → ℕ
sends_of [] = 1
sends_of (b ∷ bytes) = 2

-- the result in a reply, its first number
abbrev pub result_of : Reply → ℕ
result_of (reply.Capability value) = 0
result_of (reply.Result result) = result
result_of (reply.Established result bit) = result
result_of (reply.Blob result flags total size) = result
result_of (reply.Config result flags) = result
result_of (reply.Buffer result size least greatest) = result

-- ---- a request goes out

-- a request, by whether one of its sends failed: none of it reached the emulator, or its reply waits
abbrev pub SentOut : Bool → Request → List ℕ → Link → Option Link → Type 0
SentOut true q bytes l after = after ≡ Some l
SentOut false q bytes l after = (request_outcome : RequestOutcome) × HandlesRequest q bytes l.emulator request_outcome × (after ≡ Some (with_outcome request_outcome l))

pub record SendsRequest {P : Type 0} (fails : P → Bool) (later : P → P) (q : Request) (bytes : List ℕ) (l : Link) (schedule : P) (sent : Bool) (after : Option Link) (schedule_now : P) : Type 0 where
  pub schedule_is : schedule_now ≡ schedule_after fails later (sends_of bytes) schedule
  pub sent_is : sent ≡ not (fails_within fails later (sends_of bytes) schedule)
  pub link : SentOut (fails_within fails later (sends_of bytes) schedule) q bytes l after

-- ---- and the first bytes of its reply are read

abbrev pub calls_of : List ℕ → ℕ
calls_of bytes = suc (sends_of bytes)

-- what is left once as many bytes of a reply were read, or the read failed
abbrev pub read_off : Bool → ℕ → Link → Link
read_off true count l = record l { control = empty_channel }
read_off false count l = taken Ctrl count l

-- the request, by whether it went out, with as many bytes of its reply
abbrev pub ExchangedBy : Bool → Bool → Request → List ℕ → ℕ → Link → List ℕ → Option Link → Type 0
ExchangedBy true lost q bytes count l into after = after ≡ Some l
ExchangedBy false lost q bytes count l into after =
    (request_outcome : RequestOutcome) × HandlesRequest q bytes l.emulator request_outcome × (after ≡ Some (read_off lost count (with_outcome request_outcome l)))
    × (lost ≡ false → into ≡ take count (encode_reply request_outcome.reply request_outcome.payload))

pub record Exchanges {P : Type 0} (fails : P → Bool) (later : P → P) (q : Request) (bytes : List ℕ) (l : Link) (schedule : P) (got : Bool) (into : List ℕ) (after : Option Link) (schedule_now : P) : Type 0 where
  pub schedule_is : schedule_now ≡ schedule_after fails later (calls_of bytes) schedule
  pub got_is : got ≡ not (fails_within fails later (calls_of bytes) schedule)
  pub link : ExchangedBy (fails_within fails later (sends_of bytes) schedule) (fails_within fails later (calls_of bytes) schedule) q bytes (length into) l into after

-- ---- requests that are answered by a result alone

-- its reply is a result
abbrev pub HasResult : Request → Type 0
HasResult (Init flags) = ⊤
HasResult CancelCommand = ⊤
HasResult (SetStateBlob flags type size) = ⊤
HasResult Stop = ⊤
HasResult q = ⊥

-- what is answered for a result
abbrev pub checked_result : ℕ → Result (Unit {0}) ClientFault
checked_result result = if result == success then Ok tt else Err (BadResult result)

-- by whether a send failed, and whether any call did
abbrev pub CommandedBy : Bool → Bool → Request → List ℕ → Link → Result (Unit {0}) ClientFault → Option Link → Type 0
CommandedBy true lost q bytes l answer after = (answer ≡ Err LinkFault) × (after ≡ Some l)
CommandedBy false lost q bytes l answer after =
    (request_outcome : RequestOutcome) × HandlesRequest q bytes l.emulator request_outcome × (after ≡ Some (record l { emulator = request_outcome.emulator }))
    × (answer ≡ (if lost then Err LinkFault else checked_result (result_of request_outcome.reply)))

-- One request over a quiet link, and its result: one step of the emulator where the request went out.
pub record Commands {P : Type 0} (fails : P → Bool) (later : P → P) (q : Request) (bytes : List ℕ) (l : Link) (schedule : P) (answer : Result (Unit {0}) ClientFault) (after : Option Link) (schedule_now : P) : Type 0 where
  pub schedule_is : schedule_now ≡ schedule_after fails later (calls_of bytes) schedule
  pub link : CommandedBy (fails_within fails later (sends_of bytes) schedule) (fails_within fails later (calls_of bytes) schedule) q bytes l answer after

-- with `Link` one fault of the wires was counted, and with any other answer none
abbrev pub CountsLink : {T : Type 0} → ℕ → ℕ → Result T ClientFault → Type 0
CountsLink before now (Err LinkFault) = IsCounted before now
CountsLink before now answer = now ≡ before
