-- The emulator as bytes come to it: what each call does is a step of the definitions of ctrl_client. (Own definitions.)
use Rattle.std.specs.Prelude.{◌≡◌, ℕ, ◌≤◌, Bool, true, false, is_some, List, [], ◌++◌, length, take, Option, Some, None, IsSome, IfSome, IsSomeAnd}
use Rattle.vt_base.specs.Buffer.{followed_by_zeros}
use Rattle.tpm_core.specs.declared.parts.TpmParts.{TpmParts}
use Rattle.tpm_core.specs.Steps.{IsValid}
use Rattle.ctrl_codec.specs.Requests.{Asks, Refuses}
use Rattle.ctrl_codec.specs.Replies.{encode_reply}
use Rattle.ctrl_codec.specs.declared.request.Request.TheVariants.{Shutdown}
use Rattle.ctrl_codec.specs.Numbers.{largest_data}
use Rattle.ctrl_model.specs.Numbers.{least_buffer, greatest_buffer}
use Rattle.ctrl_model.specs.Emulator.{EmulatorState, PendingCommand, RequestOutcome, no_gathers, holding, response_to, ran}
use Rattle.ctrl_model.specs.Link.{Heard, heard_in, Hears, command_in}
use Rattle.ctrl_model.specs.Link.Heard.{Asked, Refused}

-- what whole messages see of an emulator, the part of a request that came so far, and the part of a command
pub record BufferedEmulator : Type 0 where
  pub emulator : EmulatorState
  pub request : List ℕ
  pub command : List ℕ

-- an emulator with this TPM or none, switched off, that gives pieces of so many bytes, before the first message
abbrev pub fresh_emulator : Option TpmParts → ℕ → BufferedEmulator
fresh_emulator tpm piece = record {
  emulator = record { tpm = tpm; on = false; stored = false; gathers = no_gathers; piece = piece; buffer = greatest_buffer; held = None; closed = false };
  request = [];
  command = [];
}

-- what each emulator keeps
pub record IsConsistentEmulator (d : EmulatorState) : Type 0 where
  pub fit : IfSome d.tpm IsValid
  pub powered : d.on ≡ true → IsSome d.tpm
  pub piece_least : 1 ≤ d.piece
  pub piece_most : d.piece ≤ largest_data
  pub buffer_least : least_buffer ≤ d.buffer
  pub buffer_most : d.buffer ≤ greatest_buffer

-- where the state is known, it is known after a call too, and the call took this step
abbrev pub EmulatorSteps : (BufferedEmulator → BufferedEmulator → Type 0) → Option BufferedEmulator → Option BufferedEmulator → Type 0
EmulatorSteps Step None after = after ≡ None
EmulatorSteps Step (Some e) after = IsSomeAnd after (λ f. Step e f)

-- ---- control bytes

-- these bytes, all of them, are the message
abbrev pub IsMessage : Heard → List ℕ → Type 0
IsMessage (Asked request payload) bytes = Asks request payload bytes
IsMessage (Refused fault) bytes = Refuses fault bytes

-- no message is whole: the bytes are kept, and nothing is answered
pub record Keeps (bytes : List ℕ) (used : ℕ) (reply : List ℕ) (e f : BufferedEmulator) : Type 0 where
  pub state : f ≡ record e { request = e.request ++ bytes }
  pub all_used : used ≡ length bytes
  pub no_reply : reply ≡ []

-- A message is whole, and its last byte is the last one that was taken: one step of the emulator, and its reply.
pub record Hearing (heard : Heard) (bytes : List ℕ) (used : ℕ) (reply : List ℕ) (e f : BufferedEmulator) : Type 0 where
  pub request_outcome : RequestOutcome
  pub hears : Hears heard e.emulator request_outcome
  pub state : f ≡ record e { emulator = request_outcome.emulator; request = [] }
  pub replies : reply ≡ encode_reply request_outcome.reply request_outcome.payload
  pub message : IsMessage heard (e.request ++ take used bytes)

-- the channel is closed: nothing is taken, and nothing happens
pub record Ignores (used : ℕ) (reply : List ℕ) (e f : BufferedEmulator) : Type 0 where
  pub state : f ≡ e
  pub none_used : used ≡ 0
  pub no_reply : reply ≡ []

-- by the message that is whole at the start of the bytes so far
abbrev pub HearsBy : Option Heard → List ℕ → ℕ → List ℕ → BufferedEmulator → BufferedEmulator → Type 0
HearsBy None bytes used reply e f = Keeps bytes used reply e f
HearsBy (Some heard) bytes used reply e f = Hearing heard bytes used reply e f

-- by whether the channel is closed
abbrev pub ControlsBy : Bool → List ℕ → ℕ → List ℕ → BufferedEmulator → BufferedEmulator → Type 0
ControlsBy true bytes used reply e f = Ignores used reply e f
ControlsBy false bytes used reply e f = HearsBy (heard_in (e.request ++ bytes)) bytes used reply e f

-- control bytes, of which so many are taken, and the reply
abbrev pub Controls : List ℕ → ℕ → List ℕ → BufferedEmulator → BufferedEmulator → Type 0
Controls bytes used reply e f = ControlsBy e.emulator.closed bytes used reply e f

-- whether a message closes the channel
abbrev pub closes : Heard → Bool
closes (Asked Shutdown payload) = true
closes (Asked request payload) = false
closes (Refused fault) = true

-- ---- bytes of commands

-- no command is whole: the bytes are kept
pub record KeepsPart (bytes : List ℕ) (used : ℕ) (whole : Bool) (e f : BufferedEmulator) : Type 0 where
  pub state : f ≡ record e { command = e.command ++ bytes }
  pub all_used : used ≡ length bytes
  pub not_whole : whole ≡ false

-- a command is whole, and its last byte is the last one that was taken: it is held, and not cancelled
pub record Holds (command bytes : List ℕ) (used : ℕ) (whole : Bool) (e f : BufferedEmulator) : Type 0 where
  pub state : f ≡ record e { emulator = holding command e.emulator; command = [] }
  pub is_whole : whole ≡ true
  pub taken : command ≡ e.command ++ take used bytes

-- a command is held: nothing is taken, and nothing happens
pub record HoldsAlready (used : ℕ) (whole : Bool) (e f : BufferedEmulator) : Type 0 where
  pub state : f ≡ e
  pub none_used : used ≡ 0
  pub is_whole : whole ≡ true

abbrev pub HoldsBy : Option (List ℕ) → List ℕ → ℕ → Bool → BufferedEmulator → BufferedEmulator → Type 0
HoldsBy None bytes used whole e f = KeepsPart bytes used whole e f
HoldsBy (Some command) bytes used whole e f = Holds command bytes used whole e f

abbrev pub FeedsBy : Bool → List ℕ → ℕ → Bool → BufferedEmulator → BufferedEmulator → Type 0
FeedsBy true bytes used whole e f = HoldsAlready used whole e f
FeedsBy false bytes used whole e f = HoldsBy (command_in (e.command ++ bytes)) bytes used whole e f

-- bytes of a command, of which so many are taken, and whether a whole one is held then
abbrev pub Feeds : List ℕ → ℕ → Bool → BufferedEmulator → BufferedEmulator → Type 0
Feeds bytes used whole e f = FeedsBy (is_some e.emulator.held) bytes used whole e f

-- ---- responses

-- the command that was held is answered, once, and dropped
pub record Responds (h : PendingCommand) (size : ℕ) (into : List ℕ) (e f : BufferedEmulator) : Type 0 where
  pub state : f ≡ record e { emulator = ran h e.emulator }
  pub size_is : size ≡ length (response_to h e.emulator)
  pub response : into ≡ followed_by_zeros (response_to h e.emulator)

-- no command is held: nothing happens
pub record DoesNothing (size : ℕ) (was into : List ℕ) (e f : BufferedEmulator) : Type 0 where
  pub state : f ≡ e
  pub size_is : size ≡ 0
  pub kept : into ≡ was

abbrev pub RunsBy : Option PendingCommand → ℕ → List ℕ → List ℕ → BufferedEmulator → BufferedEmulator → Type 0
RunsBy None size was into e f = DoesNothing size was into e f
RunsBy (Some h) size was into e f = Responds h size into e f

-- the command that is held is run, if there is one
abbrev pub Runs : ℕ → List ℕ → List ℕ → BufferedEmulator → BufferedEmulator → Type 0
Runs size was into e f = RunsBy e.emulator.held size was into e f
