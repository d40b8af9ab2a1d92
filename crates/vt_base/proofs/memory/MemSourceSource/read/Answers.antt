use Rattle.std.proofs.Common.{◌≡◌, ◌∙◌, ◌<◌, ℕ, ◌+◌, List, [], ◌++◌, length, min, take, drop, refl, sym, ap, arith}
use Rattle.std.proofs.lemmas.Grind.{common_steps}
use Rattle.std.proofs.lemmas.List.{drop-drop, take-append-drop}
use Rattle.vt_base.proofs.memory.MemSourceSource.read.Goals as goal

-- what was left is what was given and what is left now
given : (bytes after left : List ℕ) (place n : ℕ) → left ≡ drop place bytes → take n after ≡ take n left → drop place bytes ≡ take n after ++ drop (place + n) bytes
given bytes after left place n is same = sym (take-append-drop n (drop place bytes)) ∙ rw (drop-drop n place bytes, same, is) refl

-- nothing is given only where nothing is left
at_end : (bytes left : List ℕ) (place n room : ℕ) → left ≡ drop place bytes → n ≡ min (length left) room → n ≡ 0 → 0 < room → drop (place + n) bytes ≡ []
at_end bytes left place n room is least none some = grind (arith, common_steps)

pub returns-clause-bytes : goal.returns-clause-bytes
returns-clause-bytes c =
    let left = c.split_at.ensures.back ∙ ap (drop c.self.inside.place) c.as_slice.ensures.value in
    let copied = c.copy_prefix-count.ensures in
    (ap (λ s. s.left) (sym c.self.view_is) ∙ given _ _ _ _ _ left copied.prefix, λ none some. at_end _ _ _ _ _ left copied.count none (omega (arith, some, copied.length)))
