-- What is known of a link to an emulator, and what each call on its wires does to it. (Own definitions.)
use Rattle.std.specs.Prelude.{◌≡◌, ℕ, Bool, true, false, not, ◌&&◌, List, [], ◌∷◌, ◌++◌, take, drop, Option, Some, None, is_some, Result, Ok, Err, IsSomeAnd}
use Rattle.vt_base.specs.declared.types.Chan.{Chan}
use Rattle.vt_base.specs.declared.types.Chan.TheVariants.{Data, Ctrl}
use Rattle.vt_base.specs.declared.grammar.Missing.{Missing}
use Rattle.vt_base.specs.Parsing.{parsed}
use Rattle.tpm_frame.specs.Frames.{frames, frame_length_of}
use Rattle.ctrl_codec.specs.declared.request.Request.{Request}
use Rattle.ctrl_codec.specs.declared.request.Request.TheVariants.{SetStateBlob}
use Rattle.ctrl_codec.specs.declared.request.RequestFault.{RequestFault}
use Rattle.ctrl_codec.specs.Numbers.{data_place}
use Rattle.ctrl_codec.specs.Requests.{requests}
use Rattle.ctrl_codec.specs.Replies.{encode_reply}
use Rattle.ctrl_model.specs.Emulator.{EmulatorState, PendingCommand, RequestOutcome, HandlesRequest, closed_for, holding, response_to, ran, is_nil}

-- the bytes of a channel: the part of a message that went to the emulator, and what came back and wasn't received
pub record ChannelState : Type 0 where
  pub begun : List ℕ
  pub pending : List ℕ

-- no bytes
abbrev pub empty_channel : ChannelState
empty_channel = record { begun = []; pending = [] }

-- an emulator, and the bytes of its control channel and of its channel of commands
pub record Link : Type 0 where
  pub emulator : EmulatorState
  pub control : ChannelState
  pub commands : ChannelState

abbrev pub channel_of : Chan → Link → ChannelState
channel_of Data l = l.commands
channel_of Ctrl l = l.control

abbrev pub with_channel : Chan → ChannelState → Link → Link
with_channel Data channel l = record l { commands = channel }
with_channel Ctrl channel l = record l { control = channel }

-- the bytes that wait on a channel are forgotten, those of both directions
abbrev pub cut : Chan → Link → Link
cut chan l = with_channel chan empty_channel l

-- ---- bytes go to the emulator, up to the end of one message

-- what stands at the start of control bytes: a request with its data, or bytes that are refused
pub data Heard : Type 0 where
  Asked : (request : Request) (bytes : List ℕ) → Heard
  Refused : (fault : RequestFault) → Heard

-- the data of a request, in its bytes
abbrev pub data_in : Request → List ℕ → List ℕ
data_in (SetStateBlob flags type size) bytes = take size (drop data_place bytes)
data_in request bytes = []

abbrev pub heard_by : Result (Result Request RequestFault) Missing → List ℕ → Option Heard
heard_by (Err missing) bytes = None
heard_by (Ok (Ok request)) bytes = Some (Asked request (data_in request bytes))
heard_by (Ok (Err fault)) bytes = Some (Refused fault)

-- the message that is whole at the start of these bytes
unfoldable pub heard_in : List ℕ → Option Heard
heard_in bytes = heard_by (parsed requests bytes) bytes

-- what a message does to the emulator
abbrev pub Hears : Heard → EmulatorState → RequestOutcome → Type 0
Hears (Asked request bytes) d request_outcome = HandlesRequest request bytes d request_outcome
Hears (Refused fault) d request_outcome = request_outcome ≡ closed_for fault d

-- its reply waits
abbrev pub with_outcome : RequestOutcome → Link → Link
with_outcome request_outcome l = record l { emulator = request_outcome.emulator; control = record { begun = []; pending = encode_reply request_outcome.reply request_outcome.payload } }

-- control bytes with those before them: a whole message is heard
abbrev pub Asks : Option Heard → List ℕ → Link → Link → Type 0
Asks None all l m = m ≡ record l { control = record { begun = all; pending = [] } }
Asks (Some heard) all l m = (request_outcome : RequestOutcome) × Hears heard l.emulator request_outcome × (m ≡ with_outcome request_outcome l)

-- whether the emulator takes bytes: not while a reply waits, a command is held or the channel is closed
abbrev pub takes : Chan → Link → Bool
takes Data l = not (is_some l.emulator.held) && is_nil l.commands.pending
takes Ctrl l = not l.emulator.closed && is_nil l.control.pending

abbrev pub command_by : Result (Unit {0}) Missing → List ℕ → Option (List ℕ)
command_by (Err missing) bytes = None
command_by (Ok whole) bytes = Some (take (frame_length_of (take 6 bytes)) bytes)

-- the command that is whole at the start of these bytes
unfoldable pub command_in : List ℕ → Option (List ℕ)
command_in bytes = command_by (parsed frames bytes) bytes

-- bytes of a command with those before them: once it is whole it is held
abbrev pub with_frame : Option (List ℕ) → List ℕ → Link → Link
with_frame None all l = record l { commands = record { begun = all; pending = [] } }
with_frame (Some command) all l = record l { emulator = holding command l.emulator; commands = empty_channel }

abbrev pub HandedBy : Bool → Chan → List ℕ → Link → Link → Type 0
HandedBy false chan bytes l m = m ≡ l
HandedBy true Data bytes l m = m ≡ with_frame (command_in (l.commands.begun ++ bytes)) (l.commands.begun ++ bytes) l
HandedBy true Ctrl bytes l m = Asks (heard_in (l.control.begun ++ bytes)) (l.control.begun ++ bytes) l m

-- bytes were handed to the emulator
abbrev pub Handed : Chan → List ℕ → Link → Link → Type 0
Handed chan bytes l m = HandedBy (takes chan l) chan bytes l m

-- a send, by whether it succeeded; one that failed reaches no emulator
abbrev pub SentBy : Bool → Chan → List ℕ → Link → Link → Type 0
SentBy true chan bytes l m = Handed chan bytes l m
SentBy false chan bytes l m = m ≡ cut chan l

-- where the link is known, it is known after a call too, and the call did this to it
abbrev pub LinkSteps : (Link → Link → Type 0) → Option Link → Option Link → Type 0
LinkSteps Step None after = after ≡ None
LinkSteps Step (Some l) after = IsSomeAnd after (λ m. Step l m)

-- ---- bytes come from the emulator

abbrev pub opened_by : List ℕ → Option PendingCommand → Link → Link
opened_by (x ∷ xs) held l = l
opened_by [] None l = l
opened_by [] (Some h) l = record l { emulator = ran h l.emulator; commands = record { begun = l.commands.begun; pending = response_to h l.emulator } }

-- a receive of commands' bytes runs the command that is held first, if no bytes wait
abbrev pub opened : Chan → Link → Link
opened Ctrl l = l
opened Data l = opened_by l.commands.pending l.emulator.held l

-- the bytes that a receive finds
abbrev pub receivable : Chan → Link → List ℕ
receivable chan l = (channel_of chan (opened chan l)).pending

-- as many bytes as a slice of that length holds were taken
abbrev pub taken : Chan → ℕ → Link → Link
taken chan count l = with_channel chan (record { begun = (channel_of chan l).begun; pending = drop count (channel_of chan l).pending }) l

-- a receive into a slice of that length, by whether it succeeded
abbrev pub received : Bool → Chan → ℕ → Link → Link
received true chan count l = taken chan count (opened chan l)
received false chan count l = cut chan l
