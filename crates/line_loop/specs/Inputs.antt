-- What a program makes of its input, and what it writes for it. (Own definitions.)
use Rattle.std.specs.Prelude.{◌≡◌, ◌≤◌, ◌<◌, ◌⊎◌, ⊤, ℕ, zero, suc, ◌+◌, false, List, [], ◌∷◌, ◌++◌, length, slice_get, Option, Some, None}
use Rattle.std.specs.Io.KnownBytes.{Appends}
use lib.Chars.{codes}
use Rattle.vt_base.specs.declared.status.Status.{Status}
use Rattle.vt_base.specs.declared.status.Status.TheVariants.{Ok, Usage, Script, ReadFault, WriteFault, Memory, Limit, Refused, NotYet}
use Rattle.vt_script.specs.Numbers.{line_feed}
use Rattle.vt_script.specs.Script.{lines_of}
use Rattle.vt_script.specs.Replies.{numbered}
use Rattle.vt_script.specs.Reading.{after_line, has_line}
use Rattle.line_loop.specs.Output.{SinkView, Wrote, Breaks}

-- ---- an input

-- An input as a program reads it: the first n lines may give an output; line n may not be in the grammar; behind n lines a limit may
-- be passed, of which a text says so; a read may fail after an output, when these bytes are unread; and at the end a status may come
-- with an output.
pub record InputReading : Type 1 where
  pub Gives : ℕ → List ℕ → Type 0
  pub IsBad : ℕ → Type 0
  pub PassesLimit : ℕ → List ℕ → Type 0
  pub Faults : List ℕ → List ℕ → Type 0
  pub Ends : Status → List ℕ → Type 0

-- what the first lines give, and nothing else
abbrev pub PrintsFirst : InputReading → List ℕ → Type 0
PrintsFirst r output = (n : ℕ) × r.Gives n output

-- what the lines before the first one give that isn't in the grammar, and its number
abbrev pub PrintsBadLine : InputReading → List ℕ → Type 0
PrintsBadLine r output = (n : ℕ) × (before : List ℕ) × r.Gives n before × r.IsBad n × (output ≡ before ++ numbered (codes "bad line ") (n + 1))

-- what the lines before a limit give, and which one it is
abbrev pub PrintsLimit : InputReading → List ℕ → Type 0
PrintsLimit r output = (n : ℕ) × (before : List ℕ) × (text : List ℕ) × r.Gives n before × r.PassesLimit n text × (output ≡ before ++ text)

-- what the lines give that were read before a fault
abbrev pub PrintsFault : InputReading → Option (List ℕ) → List ℕ → Type 0
PrintsFault r None output = ⊤
PrintsFault r (Some left) output = r.Faults output left

-- what was to be written, had the sink not failed
abbrev pub IsToPrint : InputReading → List ℕ → Type 0
IsToPrint r all = PrintsFirst r all ⊎ (PrintsBadLine r all ⊎ (PrintsLimit r all ⊎ ((status : Status) × r.Ends status all)))

-- what is written for an input of which these bytes are left, by the status
abbrev pub Prints : Status → InputReading → Option (List ℕ) → List ℕ → Type 0
Prints Ok r left output = r.Ends Ok output
Prints Refused r left output = r.Ends Refused output
Prints NotYet r left output = r.Ends NotYet output
Prints Script r left output = PrintsBadLine r output
Prints Limit r left output = PrintsLimit r output
Prints Memory r left output = (output ≡ []) ⊎ PrintsFirst r output
Prints ReadFault r left output = PrintsFault r left output
Prints WriteFault r left output = (rest : List ℕ) × IsToPrint r (output ++ rest)
Prints Usage r left output = ⊥

-- where the output is known, it grows by what the status says
abbrev pub Writes : Status → InputReading → Option (List ℕ) → Option (List ℕ) → Option (List ℕ) → Type 0
Writes status r left old new = (output : List ℕ) × Appends old new output × Prints status r left output

-- what a run leaves in the sink
abbrev pub Leaves : Status → InputReading → Option (List ℕ) → SinkView → SinkView → Type 0
Leaves WriteFault r left old new = (all : List ℕ) × IsToPrint r all × Breaks old new all
Leaves status r left old new = (output : List ℕ) × Wrote old new output × Prints status r left output

-- some output for the input is longer than the promised room
abbrev pub IsCramped : InputReading → ℕ → Type 0
IsCramped r room = (all : List ℕ) × IsToPrint r all × (length all ≤ room → ⊥)

-- each line is in the grammar, no limit is passed, and the end gives nothing but a good end
pub record IsGood (r : InputReading) : Type 0 where
  pub lines : (n : ℕ) → r.IsBad n → ⊥
  pub limits : (n : ℕ) (text : List ℕ) → r.PassesLimit n text → ⊥
  pub ends : (status : Status) (output : List ℕ) → r.Ends status output → status ≡ Ok

-- ---- the lines of an input

-- what stands behind the first n lines
abbrev pub after_lines : ℕ → List ℕ → List ℕ
after_lines zero input = input
after_lines (suc n) input = after_line (after_lines n input)

-- each line has at most 8256 bytes
abbrev pub AreShort : List (List ℕ) → Type 0
AreShort [] = ⊤
AreShort (line ∷ lines) = (length line ≤ 8256) × AreShort lines

-- an input within the limits
abbrev pub IsWithinLimits : List ℕ → Type 0
IsWithinLimits input = AreShort (lines_of input) × (length (lines_of input) ≤ 1000000)

-- line n may be read
abbrev pub IsLine : List ℕ → ℕ → List ℕ → Type 0
IsLine input n line = (n < 1000000) × (slice_get (lines_of input) n ≡ Some line) × (length line ≤ 8256)

-- line n has too many bytes, or is one too many; and the text that says so
abbrev pub PassesLimitAt : List ℕ → ℕ → List ℕ → Type 0
PassesLimitAt input n text =
    ((line : List ℕ) × (n < 1000000) × (slice_get (lines_of input) n ≡ Some line) × (8256 < length line) × (text ≡ numbered (codes "long line ") (n + 1)))
    ⊎ ((n ≡ 1000000) × (1000000 < length (lines_of input)) × (text ≡ codes "too many lines" ++ line_feed ∷ []))

-- of an input of which these bytes are left, the LF of n lines was read, and no other LF
abbrev pub HasRead : List ℕ → ℕ → List ℕ → Type 0
HasRead input n left = (pending : List ℕ) × (after_lines n input ≡ pending ++ left) × (has_line pending ≡ false)
