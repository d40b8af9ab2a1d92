-- What does the lines of an input. (Own definitions.)
use Rattle.std.specs.Prelude.{◌≡◌, ◌≤◌, ◌<◌, ◌⊎◌, ⊤, ℕ, List, [], ◌∷◌, ◌++◌, length, take, Option, Some, None, IfSome, IsSomeAnd}
use lib.Chars.{codes}
use Rattle.vt_base.specs.declared.status.Status.{Status}
use Rattle.vt_base.specs.declared.status.Status.TheVariants.{Ok, Script, Limit, Memory, ReadFault, WriteFault}
use Rattle.vt_script.specs.Script.{lines_of}
use Rattle.vt_script.specs.Replies.{numbered}
use Rattle.vt_script.specs.declared.line_reader.Next.{Next}
use Rattle.vt_script.specs.declared.line_reader.Next.TheVariants as next
use Rattle.line_loop.specs.declared.actor.Acted.{Acted}
use Rattle.line_loop.specs.declared.actor.Acted.TheVariants.{Done, NotInGrammar}
use Rattle.line_loop.specs.Output.{SinkView, Wrote, Breaks, Finishes, Flushes, FinishesBehind, HasWritten}
use Rattle.line_loop.specs.Inputs.{InputReading, after_lines, AreShort, IsWithinLimits, IsLine, PassesLimitAt, HasRead}

-- what lines do: the actor before the first of them, the lines, what is written for them, and the actor after the last
abbrev pub Course : Type 0 → Type 1
Course X = X → List (List ℕ) → List ℕ → X → Type 0

-- it has done some lines, and may do one more
pub record MayAct {X : Type 0} (goes : Course X) (now : X) : Type 0 where
  pub first : X
  pub lines : List (List ℕ)
  pub output : List ℕ
  pub here : goes first lines output now
  pub few : length lines < 1000000

-- a line was done, and what is written for it stands behind what was; or it isn't in the grammar, and nothing is written
abbrev pub Acts : {X : Type 0} → Course X → (List ℕ → Type 0) → Acted → List ℕ → X → X → List ℕ → List ℕ → Type 0
Acts {X} goes outside Done line old new before now =
    (added : List ℕ) × (now ≡ before ++ added) × ((first : X) (lines : List (List ℕ)) (output : List ℕ) → goes first lines output old → goes first (lines ++ line ∷ []) (output ++ added) new)
Acts goes outside NotInGrammar line old new before now = outside line × (now ≡ before)

-- the first n lines of an input give an output
pub record GivesBy {X : Type 0} (goes : Course X) (first : X) (input : List ℕ) (n : ℕ) (output : List ℕ) : Type 0 where
  pub lines : List (List ℕ)
  pub now : X
  pub are : lines ≡ take n (lines_of input)
  pub count : length lines ≡ n
  pub goes_here : goes first lines output now

-- an input whose lines are done one by one
abbrev pub done_by : {X : Type 0} → Course X → (List ℕ → Type 0) → X → List ℕ → InputReading
done_by goes outside first input = record {
  Gives = GivesBy goes first input;
  IsBad = λ n. (line : List ℕ) × IsLine input n line × outside line;
  PassesLimit = PassesLimitAt input;
  Faults = λ output left. (n : ℕ) × GivesBy goes first input n output × HasRead input n left;
  Ends = λ status output. (status ≡ Ok) × IsWithinLimits input × GivesBy goes first input (length (lines_of input)) output;
}

-- ---- where the loop stands

-- of an input, where it is known, these lines were given, and these bytes are left
pub record AreGiven (input : List ℕ) (lines : List (List ℕ)) (rest : List ℕ) : Type 0 where
  pub within_limit : length lines ≤ 1000000
  pub short : AreShort lines
  pub behind : rest ≡ after_lines (length lines) input
  pub parts : lines_of input ≡ lines ++ lines_of rest

abbrev pub AreGivenOf : Option (List ℕ) → List (List ℕ) → Option (List ℕ) → Type 0
AreGivenOf None lines rest = ⊤
AreGivenOf (Some input) lines None = ⊥
AreGivenOf (Some input) lines (Some rest) = AreGiven input lines rest

-- these lines were done, and what is written for them is written, or pending
pub record HasDone {X : Type 0} (goes : Course X) (first now : X) (number : ℕ) (input rest : Option (List ℕ)) (old new : SinkView) (pending : List ℕ) : Type 0 where
  pub lines : List (List ℕ)
  pub output : List ℕ
  pub goes_here : goes first lines output now
  pub count : length lines ≡ number
  pub written : HasWritten old new pending output
  pub given : AreGivenOf input lines rest

-- all lines were done, and all their output is written
pub record HasEnded {X : Type 0} (goes : Course X) (first now : X) (input : Option (List ℕ)) (old new : SinkView) : Type 0 where
  pub lines : List (List ℕ)
  pub output : List ℕ
  pub goes_here : goes first lines output now
  pub wrote : Wrote old new output
  pub all : IfSome input (λ bytes. IsWithinLimits bytes × (lines ≡ lines_of bytes))

-- ---- one line

-- the run goes on: what is pending after the line, or a prefix of it, is written
abbrev pub GoesOn : {X : Type 0} → Course X → (List ℕ → Type 0) → List ℕ → X → X → List ℕ → List ℕ → SinkView → SinkView → Type 0
GoesOn goes outside line old new before after sink_old sink_new = (now : List ℕ) × Acts goes outside Done line old new before now × Flushes sink_old sink_new now after

-- the run ends here: at a line that isn't in the grammar, for lack of memory, or since what is pending isn't written
abbrev pub EndsHere : {X : Type 0} → Course X → (List ℕ → Type 0) → List ℕ → X → X → ℕ → List ℕ → Status → SinkView → SinkView → Type 0
EndsHere goes outside line old new number pending status sink_old sink_new =
    (outside line × FinishesBehind Script pending (numbered (codes "bad line ") number) status sink_old sink_new)
    ⊎ (Finishes Memory (pending ++ []) status sink_old sink_new
    ⊎ ((status ≡ WriteFault) × (now : List ℕ) × Acts goes outside Done line old new pending now × Breaks sink_old sink_new now))

-- no line comes: the input ends, or a limit is passed, or a read failed
abbrev pub EndsAt : Next → List ℕ → Option Status → SinkView → SinkView → Type 0
EndsAt next.Line pending result old new = ⊥
EndsAt next.End pending result old new = ((result ≡ None) × Wrote old new pending) ⊎ ((result ≡ Some WriteFault) × Breaks old new pending)
EndsAt (next.TooLong number) pending result old new = IsSomeAnd result (λ status. FinishesBehind Limit pending (numbered (codes "long line ") number) status old new)
EndsAt next.TooMany pending result old new = IsSomeAnd result (λ status. Finishes Limit (pending ++ (codes "too many lines" ++ 10 ∷ [])) status old new)
EndsAt next.ReadFault pending result old new = IsSomeAnd result (λ status. Finishes ReadFault (pending ++ []) status old new)
