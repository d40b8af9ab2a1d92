-- What drive lines lead to.
use Rattle.std.specs.Prelude.{List, [], ◌∷◌, ◌++◌, ℕ}
use Rattle.tpm_core.specs.declared.parts.TpmParts.{TpmParts}
use Rattle.tpm_core.specs.Answers.{Entry, answer}
use Rattle.tpm_core.specs.Answers.Entry.{Executed}
use Rattle.vt_script.specs.Drive.{hex_line}
use Rattle.vt_script.specs.declared.drive.DriveLine.{DriveLine}
use Rattle.vt_script.specs.declared.drive.DriveLine.TheVariants.{Cmd, Move, MoveFail}

-- what a TPM has gone through after one more line
abbrev pub past_with : DriveLine → List Entry → List Entry
past_with (Cmd command) past = Executed command ∷ past
past_with Move past = past
past_with (MoveFail message) past = past

-- the commands of these lines, as what a TPM went through; the latest line comes first
abbrev pub past_of : List DriveLine → List Entry
past_of [] = []
past_of (line ∷ lines) = past_with line (past_of lines)

-- what is written for a line: the TPM's answer to its command, and nothing for a move
abbrev pub written_for : TpmParts → List Entry → DriveLine → List ℕ
written_for t past (Cmd command) = hex_line (answer t past command)
written_for t past Move = []
written_for t past (MoveFail message) = []

-- what is written for each line, in the lines' order, after the commands before it; the latest line comes first
abbrev pub driven : TpmParts → List DriveLine → List ℕ
driven t [] = []
driven t (line ∷ lines) = driven t lines ++ written_for t (past_of lines) line
