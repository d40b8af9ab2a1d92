-- The laws of a disk's moments, for calls that were done.
use Rattle.std.specs.Prelude.{ℕ, zero, suc, List, [], ◌∷◌, length}
use mathlib.Core.Logic.{inr}
use Rattle.own_store.specs.Disk.{Image}
use Rattle.own_store.specs.Steps.{Step, State, after, state_from, start, IsLeft, LeftFrom, LeftSince, state}

counts_from : (s : State) (xs : List Step) (t : ℕ) (c : Image) → IsLeft (state_from s xs) c → LeftFrom s xs t c
counts_from s [] t c left = left
counts_from s (x ∷ xs) zero c left = inr (counts_from (after s x) xs zero c left)
counts_from s (x ∷ xs) (suc t) c left = counts_from (after s x) xs t c left

pub counts : (steps : List Step) (t : ℕ) (c : Image) → IsLeft (state steps) c → LeftSince steps t c
counts steps t c left = counts_from start steps t c left

only_from : (s : State) (xs : List Step) (c : Image) → LeftFrom s xs (length xs) c → IsLeft (state_from s xs) c
only_from s [] c left = left
only_from s (x ∷ xs) c left = only_from (after s x) xs c left

pub only : (steps : List Step) (c : Image) → LeftSince steps (length steps) c → IsLeft (state steps) c
only steps c left = only_from start steps c left
