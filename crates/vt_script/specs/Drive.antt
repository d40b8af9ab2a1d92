-- The lines that send commands to a TPM and move it, and the text of a response. (Own definitions.)
use Rattle.std.specs.Prelude.{ℕ, ◌≡◌, if◌then◌else◌, List, [], ◌∷◌, ◌++◌, Option, Some, None, option_and_then, Result, Ok, Err, ⊤}
use Rattle.std.specs.Str.{bytes_eq}
use lib.Chars.{codes}
use Rattle.hex.specs.Hex.{decode_of}
use Rattle.hex.specs.declared.error.FromHexError.{FromHexError}
use Rattle.tpm_frame.specs.Sizes.{IsWellSized, is_well_sized}
use Rattle.vt_script.specs.declared.drive.DriveLine.{DriveLine}
use Rattle.vt_script.specs.declared.drive.DriveLine.TheVariants.{Cmd, Move, MoveFail}
use Rattle.vt_script.specs.Numbers.{space}
use Rattle.vt_script.specs.Script.{parts_of, ordinal_of, IsOrdinal}
pub use Rattle.vt_script.specs.Replies.{hex_line}

-- the line of a command that was decoded, where it is well sized
abbrev pub sized_command : Result (List ℕ) FromHexError → Option DriveLine
sized_command (Ok bytes) = if is_well_sized bytes then Some (Cmd bytes) else None
sized_command (Err fault) = None

-- what the words after `cmd` ask for: two hexadecimal digits of either case for each byte of a command
abbrev pub command_of : List (List ℕ) → Option DriveLine
command_of (digits ∷ []) = sized_command (decode_of digits)
command_of _ = None

-- what the words after `movefail` ask for: which message of a move is lost
abbrev pub lost_message_of : List (List ℕ) → Option DriveLine
lost_message_of (message ∷ []) = option_and_then (λ k. Some (MoveFail k)) (ordinal_of message)
lost_message_of _ = None

-- what a line of one word asks for
abbrev pub drive_word : List ℕ → Option DriveLine
drive_word word = if bytes_eq word (codes "move") then Some Move else None

-- what a line of a name and more words asks for
abbrev pub drive_words : List ℕ → List (List ℕ) → Option DriveLine
drive_words name words =
    if bytes_eq name (codes "cmd") then command_of words
    else (if bytes_eq name (codes "movefail") then lost_message_of words
    else None)

-- what the words of a line ask for
abbrev pub drive_of_words : List (List ℕ) → Option DriveLine
drive_of_words [] = None
drive_of_words (word ∷ []) = drive_word word
drive_of_words (name ∷ first ∷ words) = drive_words name (first ∷ words)

-- what a line asks for; `None` where it isn't in the grammar
unfoldable pub drive_of : List ℕ → Option DriveLine
drive_of line = drive_of_words (parts_of space line)

-- a line can ask for this: a command is well sized, and a message is counted from 1
abbrev pub IsDriveLine : DriveLine → Type 0
IsDriveLine (Cmd bytes) = IsWellSized bytes
IsDriveLine Move = ⊤
IsDriveLine (MoveFail message) = IsOrdinal message

-- a line that spells a command: `cmd`, a space, and digits that are decoded to this well-sized command
pub record SpellsCommand (bytes line : List ℕ) : Type 0 where
  pub digits : List ℕ
  pub spelling : line ≡ codes "cmd " ++ digits
  pub decoded : decode_of digits ≡ Ok bytes
  pub sized : IsWellSized bytes
