-- The calls that a disk in memory has done, and what they leave. (Own definitions.)
use Rattle.std.specs.Prelude.{◌≡◌, ◌⊎◌, ℕ, zero, suc, ◌+◌, Bool, true, false, List, [], ◌∷◌, ◌++◌, length, take, drop, slice_index}
use Rattle.vt_base.specs.Buffer.{zeros}
use Rattle.own_store.specs.Disk.{Image}

-- a call that was done
pub data Step : Type 0 where
  Wrote : (at : ℕ) → (bytes : List ℕ) → Step
  Synced : Step
  Lost : (keep : Bool) → Step
  Nothing : Step

-- what a read gives, and what a loss of power leaves that drops the pending writes
pub record State : Type 0 where
  pub content : List ℕ
  pub synced : List ℕ

-- these bytes over the old ones
unfoldable pub overwritten : List ℕ → ℕ → List ℕ → List ℕ
overwritten old at bytes = take at old ++ (bytes ++ drop (at + length bytes) old)

abbrev pub after : State → Step → State
after s (Wrote at bytes) = record { content = overwritten s.content at bytes; synced = s.synced }
after s Synced = record { content = s.content; synced = s.content }
after s (Lost true) = record { content = s.content; synced = s.content }
after s (Lost false) = record { content = s.synced; synced = s.synced }
after s Nothing = s

abbrev pub state_from : State → List Step → State
state_from s [] = s
state_from s (x ∷ xs) = state_from (after s x) xs

abbrev pub start : State
start = record { content = zeros 16384; synced = zeros 16384 }

-- the state after these calls
abbrev pub state : List Step → State
state steps = state_from start steps

abbrev pub byte_at : List ℕ → Image
byte_at bytes i = slice_index bytes i

-- what a crash may leave: the pending writes are done, or none is
abbrev pub IsLeft : State → Image → Type 0
IsLeft s c = (c ≡ byte_at s.content) ⊎ (c ≡ byte_at s.synced)

-- what a crash might have left at some moment since t, when these calls were made from s on
abbrev pub LeftFrom : State → List Step → ℕ → Image → Type 0
LeftFrom s [] t c = IsLeft s c
LeftFrom s (x ∷ xs) zero c = IsLeft s c ⊎ LeftFrom (after s x) xs zero c
LeftFrom s (x ∷ xs) (suc t) c = LeftFrom (after s x) xs t c

abbrev pub LeftSince : List Step → ℕ → Image → Type 0
LeftSince steps t c = LeftFrom start steps t c
