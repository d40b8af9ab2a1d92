-- How long messages and their parts are.
use Rattle.std.proofs.Common.{◌≡◌, ℕ, ◌-◌, ◌*◌, ◌≤◌, false, List, [], ◌∷◌, length, take, drop, Result, Ok, Err, refl, ap, arith}
use Rattle.std.specs.Prelude.{is_some}
use Rattle.std.proofs.lemmas.List.{length-append, length-drop}
use Rattle.vt_base.specs.declared.grammar.Missing.{Missing}
use Rattle.vt_base.specs.declared.types.Chan.{Chan}
use Rattle.vt_base.specs.declared.types.Chan.TheVariants.{Data, Ctrl}
use Rattle.vt_base.specs.Layout.{Layout, Ends, Field, Encodes, IsWithin}
use Rattle.vt_base.specs.Parsing.{parsed}
use Rattle.vt_base.proofs.Layouts.{wants_within}
use Rattle.tpm_frame.specs.Frames.{frames, frames_within}
use Rattle.ctrl_codec.specs.Requests.{requests, Ending}
use Rattle.ctrl_codec.specs.RequestRoom.{requests_within}
use Rattle.ctrl_codec.proofs.Requests.{open_nil, asks_back, refuses_back}
use Rattle.ctrl_model.specs.Emulator.{EmulatorState}
use Rattle.ctrl_model.specs.Link.Heard.{Asked, Refused}
use Rattle.ctrl_model.specs.Link.{Heard, heard_in, heard_by, command_in, command_by}
use Rattle.ctrl_model.proofs.Hearing.{heard_open}
use Rattle.vt_emulator.specs.Emulator.{IsMessage}
use Rattle.vt_emulator.proofs.Frames.{part_nil, command_part}
use Rattle.emulator_server.specs.Messages.{AnsweredMessage, AnswersMessage, AnswersMessages, messages_read, has_message}

request_part_short : (bytes : List ℕ) → is_some (heard_in bytes) ≡ false → length bytes ≤ 4112
unfolding heard_in
request_part_short bytes none = go (parsed requests bytes) refl none
  where
    go : (read : Result Ending Missing) → parsed requests bytes ≡ read → is_some (heard_by read bytes) ≡ false → length bytes ≤ 4112
    go (Err m) is part = let fits = wants_within requests 4112 bytes m.0 requests_within is in omega (arith, fits)
    go (Ok (Ok q)) is part = absurd cc
    go (Ok (Err fault)) is part = absurd cc

command_part_short : (bytes : List ℕ) → is_some (command_in bytes) ≡ false → length bytes ≤ 4112
unfolding command_in
command_part_short bytes none = go (parsed frames bytes) refl none
  where
    go : (read : Result (Unit {0}) Missing) → parsed frames bytes ≡ read → is_some (command_by read bytes) ≡ false → length bytes ≤ 4112
    go (Err m) is part = let fits = wants_within frames 3968 bytes m.0 frames_within is in omega (arith, fits)
    go (Ok whole) is part = absurd cc

-- bytes without a whole message are few
pub part_short : (chan : Chan) (bytes : List ℕ) → has_message chan bytes ≡ false → length bytes ≤ 4112
part_short Data bytes none = command_part_short bytes none
part_short Ctrl bytes none = request_part_short bytes none

-- a message has at most as many bytes as its format has room for
encodes_within : {E : Type 0} (layout : Layout E) (room : ℕ) (bytes : List ℕ) (end : E) → IsWithin layout room → Encodes layout end bytes → length bytes ≤ room
encodes_within (Ends e) room bytes end within is = omega (arith, ap length is.1)
encodes_within (Field n next) room bytes end within is =
    let rest = encodes_within (next (take n bytes)) (room - n) (drop n bytes) end (within.1 (take n bytes)) is.1 in
    omega (arith, within.0, is.0, rest, length-drop n bytes)

message_short : (heard : Heard) (bytes : List ℕ) → IsMessage heard bytes → length bytes ≤ 4112
message_short (Asked q payload) bytes asks = encodes_within requests 4112 bytes (Ok q) requests_within (asks_back q payload bytes asks)
message_short (Refused fault) bytes refuses = encodes_within requests 4112 bytes (Err fault) requests_within (refuses_back fault bytes refuses)

answered_short : (chan : Chan) (x : AnsweredMessage) (d f : EmulatorState) → AnswersMessage chan x d f → length x.message ≤ 4112
answered_short Data x d f answers = let fits = encodes_within frames 3968 x.message tt frames_within answers.message in omega (arith, fits)
answered_short Ctrl x d f answers = message_short answers.heard x.message answers.message

-- so many messages have not more bytes
pub messages_short : (chan : Chan) (xs : List AnsweredMessage) (d f : EmulatorState) → AnswersMessages chan xs d f → length (messages_read xs) ≤ 4112 * length xs
messages_short chan [] d f steps = omega arith
messages_short chan (x ∷ later) d f steps =
    let few = messages_short chan later steps.0 f steps.2 in
    let short = answered_short chan x d steps.0 steps.1 in
    omega (arith, few, short, length-append x.message (messages_read later))

-- no message is whole in no bytes
pub none_in_nothing : (chan : Chan) → has_message chan [] ≡ false
none_in_nothing Data = ap is_some (command_part [] (part_nil [] refl))
none_in_nothing Ctrl = ap is_some (heard_open [] (open_nil [] refl))
