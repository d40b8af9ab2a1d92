-- What writing leaves in a sink. (Own definitions.)
use Rattle.std.specs.Prelude.{◌≡◌, ◌≤◌, ◌⊎◌, ℕ, ◌+◌, List, [], ◌++◌, length, Option}
use Rattle.std.specs.Io.KnownBytes.{Appends}
use Rattle.vt_base.specs.Faults.{Rose}
use Rattle.vt_base.specs.Output.{AppendsPrefix}
use Rattle.vt_base.specs.declared.status.Status.{Status}
use Rattle.vt_base.specs.declared.status.Status.TheVariants.{Memory, WriteFault}

-- a sink at one moment: the bytes written so far, where they are known; how many more it promises to take; how many writes failed
pub record SinkView : Type 0 where
  pub written : Option (List ℕ)
  pub room : ℕ
  pub faults : ℕ

abbrev pub seen : Option (List ℕ) → ℕ → ℕ → SinkView
seen written room faults = record { written = written; room = room; faults = faults }

-- all bytes of a text were written
pub record Wrote (old new : SinkView) (text : List ℕ) : Type 0 where
  pub appends : Appends old.written new.written text
  pub room : length text ≤ old.room → new.room + length text ≡ old.room
  pub faults : new.faults ≡ old.faults

-- a write failed behind a prefix of a text, and was counted; a text that the promised room holds doesn't end so
pub record Breaks (old new : SinkView) (text : List ℕ) : Type 0 where
  pub prefix : AppendsPrefix old.written new.written text
  pub room : length text ≤ old.room → ⊥
  pub faults : Rose old.faults new.faults

-- a last text is written, or writing it failed
abbrev pub Finishes : Status → List ℕ → Status → SinkView → SinkView → Type 0
Finishes status text result old new = ((result ≡ status) × Wrote old new text) ⊎ ((result ≡ WriteFault) × Breaks old new text)

-- a prefix of the pending bytes is written, and the others are pending still
abbrev pub Flushes : SinkView → SinkView → List ℕ → List ℕ → Type 0
Flushes old new pending after = (written : List ℕ) × Wrote old new written × (written ++ after ≡ pending)

-- a last text alone is written, or for lack of memory nothing
abbrev pub FinishesAlone : Status → List ℕ → Status → SinkView → SinkView → Type 0
FinishesAlone status text result old new = ((result ≡ Memory) × (new ≡ old)) ⊎ Finishes status text result old new

-- the pending bytes are written with a last text, or for lack of memory without it
abbrev pub FinishesBehind : Status → List ℕ → List ℕ → Status → SinkView → SinkView → Type 0
FinishesBehind status pending text result old new = Finishes Memory (pending ++ []) result old new ⊎ Finishes status (pending ++ text) result old new

-- the output so far is written, but for what is pending
pub record HasWritten (old now : SinkView) (pending output : List ℕ) : Type 0 where
  pub written : List ℕ
  pub wrote : Wrote old now written
  pub parts : written ++ pending ≡ output
