-- What the program writes.
use Rattle.std.specs.Prelude.{◌≡◌, ◌≤◌, ◌⊎◌, ℕ, ◌+◌, ◌<◌, List, [], ◌∷◌, ◌++◌, length, take, map, slice_get, Option, Some, None}
use Rattle.vt_base.specs.declared.status.Status.{Status}
use Rattle.vt_base.specs.declared.status.Status.TheVariants.{Ok}
use Rattle.vt_script.specs.Script.{lines_of, event_of}
use Rattle.vt_script.specs.Replies.{reply_text, numbered}
use Rattle.vt_script.specs.Drive.{drive_of}
use Rattle.vt_script.specs.declared.drive.DriveLine.{DriveLine}
use Rattle.crb_history.specs.Snapshot.{Snapshot}
use Rattle.vt_transcript.specs.Replies.{Transcript, line_of}
use Rattle.two_hosts.specs.Replies.{IsRun}
use Rattle.script_run.specs.Driven.{driven}
pub use Rattle.line_loop.specs.Inputs.{InputReading, PrintsFirst, PrintsBadLine, PrintsLimit, PrintsFault, IsToPrint, Prints, Writes, Leaves, IsCramped, IsGood, after_lines, AreShort, IsWithinLimits, IsLine, PassesLimitAt, HasRead}
use Rattle.script_run.specs.Start.{base_of}
use Rattle.script_run.specs.declared.start.Start.{Start}

-- what the lines of a script say in a grammar
abbrev pub meanings : {L : Type 0} → (List ℕ → Option L) → List ℕ → List (Option L)
meanings grammar script = map grammar (lines_of script)

-- what a function says of the entries of a list that has its latest first, in their order
abbrev pub in_order : {A B : Type 0} → (A → B) → List A → List B
in_order f [] = []
in_order f (x ∷ earlier) = in_order f earlier ++ f x ∷ []

-- the entries of a list, the latest first
abbrev pub latest_first : {A : Type 0} → List A → List A
latest_first [] = []
latest_first (x ∷ later) = latest_first later ++ x ∷ []

-- a drive line that is in the grammar
abbrev pub spelled : DriveLine → Option DriveLine
spelled line = Some line

-- the replies of a transcript as text, in their order
abbrev pub texts : Transcript → List ℕ
texts [] = []
texts (x ∷ t) = texts t ++ reply_text x.reply

-- a run from these values, between two hosts, over as many first lines of the script; a piece has at most so many bytes
pub record IsRunOf (b : Snapshot) (piece : ℕ) (script : List ℕ) (t : Transcript) : Type 0 where
  pub lines : in_order line_of t ≡ take (length t) (meanings event_of script)
  pub run : IsRun b piece t

-- ---- an input, as a command reads it

-- line n may be read, and isn't in a grammar
abbrev pub IsOutside : {L : Type 0} → (List ℕ → Option L) → List ℕ → ℕ → Type 0
IsOutside grammar script n = (line : List ℕ) × IsLine script n line × (grammar line ≡ None)

-- a read fails where the LF of n lines was read, which give this
abbrev pub FaultsBehind : (ℕ → List ℕ → Type 0) → List ℕ → List ℕ → List ℕ → Type 0
FaultsBehind Gives script output left = (n : ℕ) × Gives n output × HasRead script n left

-- the end of a script that is within the limits says no more than what all lines give
abbrev pub GivesAll : (ℕ → List ℕ → Type 0) → List ℕ → Status → List ℕ → Type 0
GivesAll Gives script status output = (status ≡ Ok) × IsWithinLimits script × Gives (length (lines_of script)) output

-- as a script that goes on from these values: replies of one device over one TPM, between two hosts
abbrev pub RepliesTo : Snapshot → ℕ → List ℕ → ℕ → List ℕ → Type 0
RepliesTo b piece script n output = (t : Transcript) × IsRunOf b piece script t × (length t ≡ n) × (output ≡ texts t)

abbrev pub followed : Snapshot → ℕ → List ℕ → InputReading
followed b piece script = record {
  Gives = RepliesTo b piece script;
  IsBad = IsOutside event_of script;
  PassesLimit = PassesLimitAt script;
  Faults = FaultsBehind (RepliesTo b piece script) script;
  Ends = GivesAll (RepliesTo b piece script) script;
}

-- as a script of `replay`
abbrev pub replayed : Start → List ℕ → InputReading
replayed start script = followed (base_of start) start.piece script

-- as a script of `drive`: the answers of one TPM
abbrev pub Responses : Start → List ℕ → ℕ → List ℕ → Type 0
Responses start script n output =
    (lines : List DriveLine) × (in_order spelled lines ≡ take (length lines) (meanings drive_of script)) × (length lines ≡ n) × (output ≡ driven (base_of start).tpm lines)

abbrev pub driven_by : Start → List ℕ → InputReading
driven_by start script = record {
  Gives = Responses start script;
  IsBad = IsOutside drive_of script;
  PassesLimit = PassesLimitAt script;
  Faults = FaultsBehind (Responses start script) script;
  Ends = GivesAll (Responses start script) script;
}
