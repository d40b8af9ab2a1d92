-- What `bulk` writes: how many lines there were of each kind, and the digest of what `drive` writes for them. (Own definitions.)
use Rattle.std.specs.Prelude.{◌≡◌, ℕ, ◌+◌, List, [], ◌∷◌, ◌++◌}
use Rattle.std.specs.Fmt.{decimal}
use lib.Chars.{codes}
use Rattle.hex.specs.Hex.{encode_lower}
use Rattle.sha2.specs.Sha256.{sha256}
use Rattle.sha2.specs.Hashers.{Holds256}
use Rattle.vt_script.specs.Replies.{ended}
use Rattle.vt_script.specs.declared.drive.DriveLine.{DriveLine}
use Rattle.vt_script.specs.declared.drive.DriveLine.TheVariants.{Cmd, Move, MoveFail}
use Rattle.bulk_lines.specs.declared.summary.Summary.{Summary}

-- whether a line sends a command: 1 or 0
abbrev pub commands_of : DriveLine → ℕ
commands_of (Cmd bytes) = 1
commands_of Move = 0
commands_of (MoveFail message) = 0

-- whether it moves
abbrev pub moves_of : DriveLine → ℕ
moves_of (Cmd bytes) = 0
moves_of Move = 1
moves_of (MoveFail message) = 1

-- how many lines send a command
abbrev pub command_count : List DriveLine → ℕ
command_count [] = 0
command_count (line ∷ lines) = command_count lines + commands_of line

-- how many move
abbrev pub move_count : List DriveLine → ℕ
move_count [] = 0
move_count (line ∷ lines) = move_count lines + moves_of line

-- the text of a summary: the two counts in decimal, and the digest in lower-case hexadecimal, ended by LF
unfoldable pub summary_line : ℕ → ℕ → List ℕ → List ℕ
summary_line commands moves digest =
    ended (codes "commands " ++ decimal commands ++ codes " moves " ++ decimal moves ++ codes " sha256 " ++ encode_lower digest)

-- the summary of so many commands and moves and of what is written for them
abbrev pub summary_text : ℕ → ℕ → List ℕ → List ℕ
summary_text commands moves output = summary_line commands moves (sha256 output)

-- what `bulk` writes for these lines, of which `drive` writes this output
abbrev pub bulk_text : List DriveLine → List ℕ → List ℕ
bulk_text lines output = summary_text (command_count lines) (move_count lines) output

-- a summary so far: of so many commands and moves and of this output
pub record IsSummaryOf (summary : Summary) (commands moves : ℕ) (output : List ℕ) : Type 0 where
  pub commanded : summary.commands ≡ commands
  pub moved : summary.moves ≡ moves
  pub hashed : Holds256 summary.hasher output

-- how many lines a summary has taken in
abbrev pub lines_in : Summary → ℕ
lines_in summary = summary.commands + summary.moves
