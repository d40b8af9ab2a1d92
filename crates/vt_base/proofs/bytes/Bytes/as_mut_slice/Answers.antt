use Rattle.std.proofs.Common.{◌≡◌, ℕ, List, ◌++◌, length, take, drop, refl, sym, ap, ◌∙◌}
use Rattle.vt_base.specs.Lending.{written_over}
use Rattle.vt_base.proofs.bytes.Bytes.as_mut_slice.Goals as goal

same : (xs ys w : List ℕ) (n : ℕ) → xs ≡ ys → n ≡ length xs → take n (w ++ drop (length w) xs) ≡ written_over ys w
same xs ys w n is size = rw (size, is) refl

pub returns : goal.returns
returns c =
    let size = sym c.as_mut_slice.ensures.len ∙ ap length c.as_mut_slice.ensures.value in
    ((refl, λ w. same _ _ w _ c.self.view_is size), record { writes_back = tt; value = c.as_mut_slice.ensures.value ∙ c.self.view_is })
