-- What serving one connection does to an emulator, and what is written. (Own definitions.)
use Rattle.std.specs.Prelude.{◌≡◌, ◌⊎◌, ◌==◌, if◌then◌else◌, ℕ, ◌<◌, ◌≤◌, false, ⊤, List, [], ◌++◌, length, take, Option, MatchResult, Result}
use Rattle.std.specs.Io.KnownBytes.{Appends, Consumes, IsAtEnd}
use Rattle.vt_base.specs.Output.{AppendsPrefix}
use Rattle.vt_base.specs.declared.types.Chan.{Chan}
use Rattle.ctrl_model.specs.Emulator.{EmulatorState}
use Rattle.vt_emulator.specs.Emulator.{BufferedEmulator}
use Rattle.emulator_server.specs.Messages.{AnsweredMessage, AnswersMessage, AnswersMessages, messages_read, replies_written, has_message, begun_on, with_begun, TakesMessages, TakesNone}
use Rattle.emulator_server.specs.declared.serve.MessageProgress.{MessageProgress}
use Rattle.emulator_server.specs.declared.serve.MessageProgress.TheVariants as progress
use Rattle.emulator_server.specs.declared.served.Served.{Served}
use Rattle.emulator_server.specs.declared.served.Served.TheVariants.{Ended, Closed, Cut, Bad, ReadFault, WriteFault, Wires, Turns, Memory}

-- ---- bytes of one message

-- a message became whole with so many of these bytes, and was answered
pub record AnswersWhole (chan : Chan) (bytes : List ℕ) (used : ℕ) (reply : List ℕ) (e f : BufferedEmulator) : Type 0 where
  pub answers : AnswersMessage chan (record { message = begun_on chan e ++ take used bytes; reply = reply }) e.emulator f.emulator
  pub state : f ≡ with_begun chan f.emulator [] e

-- no message became whole, and all bytes were kept
pub record KeepsBytes (chan : Chan) (bytes : List ℕ) (e f : BufferedEmulator) : Type 0 where
  pub state : f ≡ with_begun chan e.emulator (begun_on chan e ++ bytes) e
  pub part : has_message chan (begun_on chan e ++ bytes) ≡ false

-- no more bytes are used than there are
abbrev pub FitsProgress : List ℕ → MessageProgress → Type 0
FitsProgress bytes progress.Part = ⊤
FitsProgress bytes (progress.Answered used) = used ≤ length bytes
FitsProgress bytes progress.Closed = ⊤

-- bytes were given to the emulator, and all that was due was written
abbrev pub AdvancesTo : MessageProgress → Chan → List ℕ → BufferedEmulator → BufferedEmulator → Option (List ℕ) → Option (List ℕ) → Type 0
AdvancesTo progress.Part chan bytes e f was written = KeepsBytes chan bytes e f × TakesMessages chan f.emulator × Appends was written []
AdvancesTo (progress.Answered used) chan bytes e f was written =
    (reply : List ℕ) × AnswersWhole chan bytes used reply e f × TakesMessages chan f.emulator × Appends was written reply
AdvancesTo progress.Closed chan bytes e f was written =
    ((used : ℕ) × (reply : List ℕ) × AnswersWhole chan bytes used reply e f × TakesNone chan f.emulator × Appends was written reply)
    ⊎ (TakesNone chan e.emulator × (f ≡ e) × Appends was written [])

-- the same, or a write of a reply failed
abbrev pub Advances : {E : Type 0} → Result MessageProgress E → Chan → List ℕ → BufferedEmulator → BufferedEmulator → Option (List ℕ) → Option (List ℕ) → Type 0
Advances result chan bytes e f was written =
    MatchResult result
    (λ p. AdvancesTo p chan bytes e f was written)
    (λ _. (used : ℕ) × (reply : List ℕ) × AnswersWhole chan bytes used reply e f × AppendsPrefix was written reply)

-- ---- a connection

-- the channel takes messages, or it was closed from the start
abbrev pub TakesUnlessShut : Chan → List AnsweredMessage → List ℕ → EmulatorState → Type 0
TakesUnlessShut chan messages rest d = TakesMessages chan d ⊎ (TakesNone chan d × (messages ≡ []) × (rest ≡ []))

-- So far these messages were answered. A part of one came, and these bytes of the last read are to be looked at. Each
-- round read a byte at least.
pub record ServesSoFar (chan : Chan) (left now was written : Option (List ℕ)) (count begun rounds : ℕ) (rest : List ℕ) (e f : BufferedEmulator) : Type 0 where
  pub messages : List AnsweredMessage
  pub part : List ℕ
  pub steps : AnswersMessages chan messages e.emulator f.emulator
  pub state : f ≡ with_begun chan f.emulator part e
  pub takes : TakesUnlessShut chan messages part f.emulator
  pub not_whole : has_message chan part ≡ false
  pub read : Consumes left now ((messages_read messages ++ part) ++ rest)
  pub wrote : Appends was written (replies_written messages)
  pub counted : count ≡ length messages
  pub begun_is : begun ≡ length part
  pub progressed : rounds ≤ length ((messages_read messages ++ part) ++ rest)

-- what was written of the replies: all, or a prefix where a write failed
abbrev pub WritesReplies : Served → Option (List ℕ) → Option (List ℕ) → List ℕ → Type 0
WritesReplies WriteFault was written replies = AppendsPrefix was written replies
WritesReplies served was written replies = Appends was written replies

-- how it ended, by the messages, the bytes read behind the last of them, and the channel
abbrev pub EndsServing : Served → Chan → List AnsweredMessage → List ℕ → Option (List ℕ) → EmulatorState → Type 0
EndsServing Ended chan messages rest now d = (rest ≡ []) × IsAtEnd now × TakesUnlessShut chan messages rest d × (length messages < 1000000)
EndsServing (Cut n) chan messages rest now d = (n ≡ length rest) × (0 < n) × (has_message chan rest ≡ false) × IsAtEnd now × TakesMessages chan d × (length messages < 1000000)
EndsServing Closed chan messages rest now d = TakesNone chan d × (0 < length (messages_read messages ++ rest))
EndsServing ReadFault chan messages rest now d = (has_message chan rest ≡ false) × TakesUnlessShut chan messages rest d × (length messages < 1000000)
EndsServing WriteFault chan messages rest now d = ⊤
EndsServing Turns chan messages rest now d = (length messages ≡ 1000000) × TakesMessages chan d
EndsServing Memory chan messages rest now d = (messages ≡ []) × (rest ≡ [])
EndsServing (Bad place) chan messages rest now d = ⊥
EndsServing (Wires fault) chan messages rest now d = ⊥

-- A connection was served: the bytes read began with these messages, each of them was one step of the emulator,
-- and their replies were written.
pub record Serves (chan : Chan) (left now was written : Option (List ℕ)) (served : Served) (e f : BufferedEmulator) : Type 0 where
  pub messages : List AnsweredMessage
  pub rest : List ℕ
  pub steps : AnswersMessages chan messages e.emulator f.emulator
  pub state : (part : List ℕ) × (f ≡ with_begun chan f.emulator part e)
  pub read : Consumes left now (messages_read messages ++ rest)
  pub wrote : WritesReplies served was written (replies_written messages)
  pub within_limit : length messages ≤ 1000000
  pub ended : EndsServing served chan messages rest now f.emulator

-- serving an emulator doesn't end by a migration message or a host's request
abbrev pub IsOfEmulator : Served → Type 0
IsOfEmulator (Bad place) = ⊥
IsOfEmulator (Wires fault) = ⊥
IsOfEmulator served = ⊤

-- how an input ends that has so many bytes behind its last whole message
abbrev pub end_with_part : ℕ → Served
end_with_part begun = if begun == 0 then Ended else Cut begun
