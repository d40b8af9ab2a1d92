-- One more call joins those that a disk has done.
use Rattle.std.proofs.Common.{◌≡◌, ◌⊎◌, inl, inr, ⊎_elim, ℕ, zero, suc, ◌≤◌, List, [], ◌∷◌, ◌++◌, length, refl, sym, subst, arith, length-append}
use Rattle.own_store.specs.Disk.{Image, Elapses}
use Rattle.own_store.specs.Steps.{Step, State, after, state_from, start, state, IsLeft, LeftFrom, LeftSince}

push_from : (s : State) (xs : List Step) (x : Step) → state_from s (xs ++ x ∷ []) ≡ after (state_from s xs) x
push_from s [] x = refl
push_from s (y ∷ ys) x = push_from (after s y) ys x

pub state-push : (xs : List Step) (x : Step) → state (xs ++ x ∷ []) ≡ after (state xs) x
state-push xs x = push_from start xs x

keeps_from : (s : State) (xs : List Step) (x : Step) (t : ℕ) (c : Image) → t ≤ length xs → LeftFrom s xs t c → LeftFrom s (xs ++ x ∷ []) t c
keeps_from s [] x zero c le left = inl left
keeps_from s [] x (suc t) c le left = absurd (omega arith)
keeps_from s (y ∷ ys) x zero c le left = ⊎_elim (λ now. inl now) (λ later. inr (keeps_from (after s y) ys x zero c (omega arith) later)) left
keeps_from s (y ∷ ys) x (suc t) c le left = keeps_from (after s y) ys x t c (omega arith) left

adds_from : (s : State) (xs : List Step) (x : Step) (t : ℕ) (c : Image) → t ≤ length xs → LeftFrom s (xs ++ x ∷ []) t c → LeftFrom s xs t c ⊎ IsLeft (after (state_from s xs) x) c
adds_from s [] x zero c le left = left
adds_from s [] x (suc t) c le left = absurd (omega arith)
adds_from s (y ∷ ys) x zero c le left =
    ⊎_elim (λ now. inl (inl now)) (λ later. ⊎_elim (λ was. inl (inr was)) (λ new. inr new) (adds_from (after s y) ys x zero c (omega arith) later)) left
adds_from s (y ∷ ys) x (suc t) c le left = adds_from (after s y) ys x t c (omega arith) left

-- no call is added
pub elapses_none : (xs : List Step) → Elapses (length xs) (length xs) (LeftSince xs) (LeftSince xs) (IsLeft (state xs))
elapses_none xs = record { later = omega arith; nothing_else = λ t c le left. inl left; keeps = λ t c le left. left }

-- one call is added
pub elapses : (xs : List Step) (x : Step) → Elapses (length xs) (length (xs ++ x ∷ [])) (LeftSince xs) (LeftSince (xs ++ x ∷ [])) (IsLeft (state (xs ++ x ∷ [])))
elapses xs x = record {
  later = omega (arith, length-append xs (x ∷ []));
  nothing_else = λ t c le left. ⊎_elim (λ was. inl was) (λ new. inr (subst (λ (s : State). IsLeft s c) (sym (state-push xs x)) new)) (adds_from start xs x t c le left);
  keeps = λ t c le left. keeps_from start xs x t c le left;
}
