-- The calls that a list of them and the bytes of their writes stand for. (Own definitions.)
use Rattle.std.specs.Prelude.{ℕ, ◌+◌, List, [], ◌∷◌, take, drop}
use Rattle.own_store.specs.Steps.{Step}
use Rattle.own_store.specs.Steps.Step.{Wrote, Synced, Lost, Nothing}
use Rattle.own_store.specs.declared.call_log.Call.{Call}
use Rattle.own_store.specs.declared.call_log.Call.TheVariants.{Write, Sync, Loss, Read}

-- the calls that were done, and how many more calls and bytes there is memory for
pub record LoggedCalls : Type 0 where
  pub steps : List Step
  pub entries : ℕ
  pub bytes : ℕ

-- the steps of these calls, whose bytes are in one list, one write after the other
abbrev pub steps_of : List Call → List ℕ → List Step
steps_of [] written = []
steps_of (Write at count ∷ calls) written = Wrote at (take count written) ∷ steps_of calls (drop count written)
steps_of (Sync ∷ calls) written = Synced ∷ steps_of calls written
steps_of (Loss keep ∷ calls) written = Lost keep ∷ steps_of calls written
steps_of (Read ∷ calls) written = Nothing ∷ steps_of calls written

-- how many bytes they wrote
abbrev pub written_length : List Call → ℕ
written_length [] = 0
written_length (Write at count ∷ calls) = count + written_length calls
written_length (Sync ∷ calls) = written_length calls
written_length (Loss keep ∷ calls) = written_length calls
written_length (Read ∷ calls) = written_length calls

-- the step of a call that writes no bytes
abbrev pub bare : Call → Step
bare (Write at count) = Wrote at []
bare Sync = Synced
bare (Loss keep) = Lost keep
bare Read = Nothing

-- the call writes no bytes
abbrev pub IsBare : Call → Type 0
IsBare (Write at count) = ⊥
IsBare call = Unit {0}
