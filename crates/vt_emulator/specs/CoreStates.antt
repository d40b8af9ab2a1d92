-- What stands behind the two channels, part by part. (Own definitions.)
use Rattle.std.specs.Prelude.{◌≡◌, ℕ, Bool, true, false, if◌then◌else◌, List, [], ◌++◌, length, take, Option, Some, None, Result, Ok, Err, ◌==◌}
use Rattle.vt_base.specs.declared.types.Kind.TheVariants.{Permanent, Volatile, Saved}
use Rattle.vt_base.specs.Buffer.{followed_by_zeros}
use Rattle.state_blobs.specs.declared.types.Piece.{Piece}
use Rattle.state_blobs.specs.Gathering.{Gathering}
use Rattle.ctrl_codec.specs.declared.request.Request.{Request}
use Rattle.ctrl_codec.specs.declared.reply.Reply.TheVariants as reply
use Rattle.ctrl_codec.specs.Replies.{encode_reply}
use Rattle.ctrl_model.specs.Numbers.{success, bad_parameter}
use Rattle.ctrl_model.specs.Link.{command_in}
use Rattle.ctrl_model.specs.Emulator.{EmulatorState, PendingCommand, RequestOutcome, HandlesRequest, kind_of, blob_given, no_blob, response_to, ran}

-- ---- the pending command

-- the part of a command that came so far, and the whole one that is held
pub record CommandChannel : Type 0 where
  pub begun : List ℕ
  pub held : Option PendingCommand

-- by whether the bytes are a whole command
abbrev pub command_channel : Bool → Bool → List ℕ → CommandChannel
command_channel false cancelled bytes = record { begun = bytes; held = None }
command_channel true cancelled bytes = record { begun = []; held = Some (record { command = bytes; cancelled = cancelled }) }

-- no command is whole: the bytes are kept
pub record KeepsPart (bytes : List ℕ) (used : ℕ) (whole : Bool) (c d : CommandChannel) : Type 0 where
  pub state : d ≡ record c { begun = c.begun ++ bytes }
  pub all_used : used ≡ length bytes
  pub not_whole : whole ≡ false

-- a command is whole with the last byte that was taken
pub record KeepsWhole (command bytes : List ℕ) (used : ℕ) (whole : Bool) (c d : CommandChannel) : Type 0 where
  pub state : d ≡ command_channel true false command
  pub taken : command ≡ c.begun ++ take used bytes
  pub is_whole : whole ≡ true

-- a command is held already
pub record KeepsAll (used : ℕ) (whole : Bool) (c d : CommandChannel) : Type 0 where
  pub state : d ≡ c
  pub none_used : used ≡ 0
  pub is_whole : whole ≡ true

-- bytes of a command came
abbrev pub TakesBy : Option (List ℕ) → List ℕ → ℕ → Bool → CommandChannel → CommandChannel → Type 0
TakesBy None bytes used whole c d = KeepsPart bytes used whole c d
TakesBy (Some command) bytes used whole c d = KeepsWhole command bytes used whole c d

abbrev pub Takes : Bool → List ℕ → ℕ → Bool → CommandChannel → CommandChannel → Type 0
Takes true bytes used whole c d = KeepsAll used whole c d
Takes false bytes used whole c d = TakesBy (command_in (c.begun ++ bytes)) bytes used whole c d

-- ---- the blobs

-- each gather is of its kind; the last is another volatile one, of which nothing is ever gathered
pub record AreInPlace (permanent volatile saved none : Gathering) : Type 0 where
  pub first : permanent.kind ≡ Permanent
  pub second : volatile.kind ≡ Volatile
  pub third : saved.kind ≡ Saved
  pub fourth : none.kind ≡ Volatile
  pub nothing : none.begun ≡ []

-- the volatile blob that counts, by whether it is deleted
abbrev pub counting : Bool → List ℕ → List ℕ
counting deleted bytes = if deleted then [] else bytes

-- ---- the core

-- what whole messages see of it, and the part of a command that came so far
pub record CoreState : Type 0 where
  pub emulator : EmulatorState
  pub command : List ℕ

-- what GET_STATEBLOB comes to
abbrev pub blob_outcome : ℕ → ℕ → ℕ → EmulatorState → RequestOutcome
blob_outcome flags type offset d = if flags == 0 then blob_given (kind_of type) offset d.tpm d else no_blob bad_parameter d

-- the same by its parts: what stands in a buffer of a piece that there is, or a result
abbrev pub outcome_of_parts : Result Piece ℕ → List ℕ → EmulatorState → RequestOutcome
outcome_of_parts (Ok p) into d = record { emulator = d; reply = reply.Blob success 0 p.total p.length; payload = take p.length into }
outcome_of_parts (Err result) into d = no_blob result d

-- A request was obeyed: one step of the emulator, and its reply.
pub record HandledRequest (request : Request) (payload out : List ℕ) (b c : CoreState) : Type 0 where
  pub request_outcome : RequestOutcome
  pub obeys : HandlesRequest request payload b.emulator request_outcome
  pub state : c ≡ record b { emulator = request_outcome.emulator }
  pub replies : out ≡ encode_reply request_outcome.reply request_outcome.payload

-- the pending command, and a core with another one
abbrev pub command_channel_of : CoreState → CommandChannel
command_channel_of b = record { begun = b.command; held = b.emulator.held }

abbrev pub with_command_channel : CommandChannel → CoreState → CoreState
with_command_channel channel b = record { emulator = record b.emulator { held = channel.held }; command = channel.begun }

-- the command that was held is answered, once, and dropped
pub record AnswersCommand (h : PendingCommand) (size : ℕ) (into : List ℕ) (b c : CoreState) : Type 0 where
  pub state : c ≡ record b { emulator = ran h b.emulator }
  pub size_is : size ≡ length (response_to h b.emulator)
  pub response : into ≡ followed_by_zeros (response_to h b.emulator)

-- none is held
pub record RunsNothing (size : ℕ) (was into : List ℕ) (b c : CoreState) : Type 0 where
  pub state : c ≡ b
  pub size_is : size ≡ 0
  pub kept : into ≡ was

abbrev pub RunsHeld : Option PendingCommand → ℕ → List ℕ → List ℕ → CoreState → CoreState → Type 0
RunsHeld None size was into b c = RunsNothing size was into b c
RunsHeld (Some h) size was into b c = AnswersCommand h size into b c
