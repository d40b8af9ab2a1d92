-- One write after another, and one read after another, where the bytes are known.
use Rattle.std.proofs.Common.{◌≡◌, ℕ, List, [], ◌++◌, take, drop, ap, sym, ◌∙◌, append_assoc, arith}
use Rattle.std.proofs.lemmas.Grind.{common_steps}
use Rattle.std.proofs.lemmas.List.{append-nil}
use Rattle.std.specs.Prelude.{Option, Some, None}
use Rattle.std.specs.Io.KnownBytes.{Appends, Consumes}

pub Appends-nothing : (a : Option (List ℕ)) → Appends a a []
Appends-nothing None = tt
Appends-nothing (Some xs) = sym (append-nil xs)

pub Appends-more : (a b c : Option (List ℕ)) (xs ys : List ℕ) → Appends a b xs → Appends b c ys → Appends a c (xs ++ ys)
Appends-more None b c xs ys first next = tt
Appends-more (Some olds) None c xs ys first next = absurd first
Appends-more (Some olds) (Some bs) None xs ys first next = absurd next
Appends-more (Some olds) (Some bs) (Some cs) xs ys first next = rw (next, first) (append_assoc olds xs ys)

pub Consumes-more : (a b c : Option (List ℕ)) (xs ys : List ℕ) → Consumes a b xs → Consumes b c ys → Consumes a c (xs ++ ys)
Consumes-more None b c xs ys first next = tt
Consumes-more (Some olds) None c xs ys first next = absurd first
Consumes-more (Some olds) (Some bs) None xs ys first next = absurd next
Consumes-more (Some olds) (Some bs) (Some cs) xs ys first next = rw (first, next) (sym (append_assoc xs ys cs))

-- one more write of a prefix of what is left
pub writes-more : (a b c : Option (List ℕ)) (prefix rest bytes : List ℕ) (n : ℕ) → prefix ++ rest ≡ bytes → Appends a b prefix → Appends b c (take n rest) → (x : List ℕ) × (x ++ drop n rest ≡ bytes) × Appends a c x
writes-more a b c prefix rest bytes n whole first next =
    (prefix ++ take n rest, append_assoc prefix (take n rest) (drop n rest) ∙ ap (λ r. prefix ++ r) (take_drop n rest) ∙ whole, Appends-more a b c prefix (take n rest) first next)
  where
    take_drop : (k : ℕ) (xs : List ℕ) → take k xs ++ drop k xs ≡ xs
    take_drop k xs = grind (arith, common_steps)
