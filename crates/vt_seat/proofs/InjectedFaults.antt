-- The injected fault that is pending, counted down.
use Rattle.std.proofs.Common.{◌≡◌, ℕ, zero, suc, ◌+◌, ◌-◌, ◌<◌, ◌≤◌, true, false, refl, ap, subst, ◌∙◌, arith, Some, None}
use Rattle.std.specs.Prelude.{Option, nat_le}
use Rattle.std.proofs.lemmas.Bool.Decides.{nat_tests}
use Rattle.ctrl_client.specs.Schedules.{fails_within, schedule_after}
use Rattle.vt_transcript.specs.Replies.{reaches}
use Rattle.vt_seat.specs.Wires.{fails_next, after_call}
use Rattle.vt_seat.specs.Follows.{IsInjected}

-- whether one of so many next calls fails, by the count of those since the order's line
pub fails-reaches : (injected_fault : Option ℕ) (count : ℕ) (calls_to_fault : Option ℕ) (calls : ℕ) → 0 < calls → IsInjected injected_fault count calls_to_fault → fails_within fails_next after_call calls calls_to_fault ≡ reaches injected_fault (count + calls)
fails-reaches None count calls_to_fault calls some is = rw is (none calls)
  where
    none : (n : ℕ) → fails_within fails_next after_call n None ≡ false
    none zero = refl
    none (suc n) = none n
fails-reaches (Some call) count calls_to_fault calls some is = rw is.1 (go calls (call - 1 - count)) ∙ there call count calls some is.0
  where
    go : (n left : ℕ) → fails_within fails_next after_call n (Some left) ≡ nat_le (suc left) n
    go zero left = grind (arith, nat_tests)
    go (suc n) zero = grind (arith, nat_tests)
    go (suc n) (suc left) = go n left ∙ grind (arith, nat_tests)

    there : (k c n : ℕ) → 0 < n → c ≤ k - 1 → nat_le (suc (k - 1 - c)) n ≡ nat_le k (c + n)
    there k c n some below = grind (arith, nat_tests, some, below)

-- the order once so many calls were made without a fault
pub due-passed : (injected_fault : Option ℕ) (count : ℕ) (calls_to_fault : Option ℕ) (calls : ℕ) → fails_within fails_next after_call calls calls_to_fault ≡ false → IsInjected injected_fault count calls_to_fault → IsInjected injected_fault (count + calls) (schedule_after fails_next after_call calls calls_to_fault)
due-passed None count calls_to_fault calls none is = rw is (go calls)
  where
    go : (n : ℕ) → schedule_after fails_next after_call n None ≡ None
    go zero = refl
    go (suc n) = go n
due-passed (Some call) count calls_to_fault calls none is =
    let here : fails_within fails_next after_call calls (Some (call - 1 - count)) ≡ false = rw is.1 at none in
    let left = go calls (call - 1 - count) here in
    (below call count calls is.0 left.0, rw is.1 (left.1 ∙ ap Some (fewer call count calls)))
  where
    go : (n left : ℕ) → fails_within fails_next after_call n (Some left) ≡ false → (n ≤ left) × (schedule_after fails_next after_call n (Some left) ≡ Some (left - n))
    go zero left none = (omega arith, ap Some (omega arith))
    go (suc n) zero none = cc
    go (suc n) (suc left) none = let rest = go n left none in (omega arith, rest.1 ∙ ap Some (omega arith))

    below : (k c n : ℕ) → c ≤ k - 1 → n ≤ k - 1 - c → c + n ≤ k - 1
    below k c n before left = omega arith

    fewer : (k c n : ℕ) → k - 1 - c - n ≡ k - 1 - (c + n)
    fewer k c n = omega arith

-- a fault ends it
pub due-failed : (injected_fault : Option ℕ) (count : ℕ) (calls_to_fault : Option ℕ) (calls : ℕ) → fails_within fails_next after_call calls calls_to_fault ≡ true → IsInjected injected_fault count calls_to_fault → schedule_after fails_next after_call calls calls_to_fault ≡ None
due-failed injected_fault count calls_to_fault calls met is = go calls calls_to_fault met
  where
    go : (n : ℕ) (o : Option ℕ) → fails_within fails_next after_call n o ≡ true → schedule_after fails_next after_call n o ≡ None
    go zero o met = cc
    go (suc n) None met = go n None met
    go (suc n) (Some zero) met = refl
    go (suc n) (Some (suc left)) met = go n (Some left) met

-- nothing was called
pub due-same : (injected_fault : Option ℕ) (count : ℕ) (calls_to_fault : Option ℕ) → IsInjected injected_fault count calls_to_fault → IsInjected injected_fault (count + 0) calls_to_fault
due-same injected_fault count calls_to_fault is = subst (λ (n : ℕ). IsInjected injected_fault n calls_to_fault) (omega arith) is
