-- Whole messages of a channel, and what an emulator does and answers to each. (Own definitions.)
use Rattle.std.specs.Prelude.{◌≡◌, ◌⊎◌, ⊤, ℕ, Bool, true, false, is_some, List, [], ◌∷◌, ◌++◌, None}
use Rattle.vt_base.specs.declared.types.Chan.{Chan}
use Rattle.vt_base.specs.declared.types.Chan.TheVariants.{Data, Ctrl}
use Rattle.tpm_frame.specs.Frames.{IsFrame}
use Rattle.ctrl_codec.specs.Replies.{encode_reply}
use Rattle.ctrl_model.specs.Emulator.{EmulatorState, PendingCommand, RequestOutcome, holding, response_to, ran}
use Rattle.ctrl_model.specs.Link.{Heard, heard_in, Hears, command_in}
use Rattle.vt_emulator.specs.Emulator.{BufferedEmulator, IsMessage}

-- a whole message, and what is written for it
pub record AnsweredMessage : Type 0 where
  pub message : List ℕ
  pub reply : List ℕ

-- Over an open channel a control message is done or refused, and its reply written.
pub record RepliesToRequest (x : AnsweredMessage) (d f : EmulatorState) : Type 0 where
  pub heard : Heard
  pub outcome : RequestOutcome
  pub message : IsMessage heard x.message
  pub listens : d.closed ≡ false
  pub hears : Hears heard d outcome
  pub reply : x.reply ≡ encode_reply outcome.reply outcome.payload
  pub after : f ≡ outcome.emulator

-- a command that came whole, before any cancel
abbrev pub uncancelled : List ℕ → PendingCommand
uncancelled command = record { command = command; cancelled = false }

-- A command is run as soon as it is whole, and its response written.
pub record RespondsToCommand (x : AnsweredMessage) (d f : EmulatorState) : Type 0 where
  pub message : IsFrame x.message
  pub reply : x.reply ≡ response_to (uncancelled x.message) (holding x.message d)
  pub after : f ≡ ran (uncancelled x.message) (holding x.message d)

-- a whole message of a channel takes the emulator from d to f
abbrev pub AnswersMessage : Chan → AnsweredMessage → EmulatorState → EmulatorState → Type 0
AnswersMessage Data x d f = RespondsToCommand x d f
AnswersMessage Ctrl x d f = RepliesToRequest x d f

-- several do, in the order in which they came
abbrev pub AnswersMessages : Chan → List AnsweredMessage → EmulatorState → EmulatorState → Type 0
AnswersMessages chan [] d f = f ≡ d
AnswersMessages chan (x ∷ later) d f = (e : EmulatorState) × AnswersMessage chan x d e × AnswersMessages chan later e f

-- the bytes of their messages
abbrev pub messages_read : List AnsweredMessage → List ℕ
messages_read [] = []
messages_read (x ∷ later) = x.message ++ messages_read later

-- and those of their replies
abbrev pub replies_written : List AnsweredMessage → List ℕ
replies_written [] = []
replies_written (x ∷ later) = x.reply ++ replies_written later

-- ---- the state of a channel

-- whether a message of the channel is whole at the start of these bytes
abbrev pub has_message : Chan → List ℕ → Bool
has_message Data bytes = is_some (command_in bytes)
has_message Ctrl bytes = is_some (heard_in bytes)

-- the part of a message that came on a channel
abbrev pub begun_on : Chan → BufferedEmulator → List ℕ
begun_on Data e = e.command
begun_on Ctrl e = e.request

-- the emulator in another state, with this part of a message on a channel
abbrev pub with_begun : Chan → EmulatorState → List ℕ → BufferedEmulator → BufferedEmulator
with_begun Data d begun e = record e { emulator = d; command = begun }
with_begun Ctrl d begun e = record e { emulator = d; request = begun }

-- the emulator takes the bytes of another message: it holds no command, or its control channel is open
abbrev pub TakesMessages : Chan → EmulatorState → Type 0
TakesMessages Data d = d.held ≡ None
TakesMessages Ctrl d = d.closed ≡ false

-- it takes none any more: its control channel is closed
abbrev pub TakesNone : Chan → EmulatorState → Type 0
TakesNone chan d = (chan ≡ Ctrl) × (d.closed ≡ true)

-- no whole message waits on the channel: a command may be held, a request never is
abbrev pub HoldsNone : Chan → EmulatorState → Type 0
HoldsNone Data d = d.held ≡ None
HoldsNone Ctrl d = ⊤

-- no message is held on the channel, and no byte of one came
pub record IsFreshChannel (chan : Chan) (e : BufferedEmulator) : Type 0 where
  pub none_held : HoldsNone chan e.emulator
  pub none_begun : begun_on chan e ≡ []

-- a part of a message came on the channel, or nothing
pub record AwaitsBytes (chan : Chan) (e : BufferedEmulator) : Type 0 where
  pub takes : TakesMessages chan e.emulator ⊎ TakesNone chan e.emulator
  pub part : has_message chan (begun_on chan e) ≡ false
