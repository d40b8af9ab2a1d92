-- Calls that are to fail, and the counter that passes them.
use Rattle.std.proofs.Common.{◌≡◌, ℕ, ◌≤◌, Result, Ok, Err, true, false, nat_eq, nat_lt, List, [], ◌∷◌, refl, arith}
use Rattle.std.proofs.lemmas.Grind.{common_steps}
use Rattle.std.specs.List.{list_all, list_any}
use Rattle.vt_base.specs.Faults.{counted, IsCounted, HasCause}
use Rattle.vt_base.specs.Memory.{Schedule, called, is_steady, is_to_fail}

none_at : (failing : List ℕ) (n : ℕ) → list_all (λ call. nat_lt call n) failing ≡ true → list_any (λ call. nat_eq call n) failing ≡ false
none_at [] n all = refl
none_at (call ∷ failing) n all = grind (arith, common_steps, none_at failing n)

all_below : (failing : List ℕ) (n m : ℕ) → n ≤ m → list_all (λ call. nat_lt call n) failing ≡ true → list_all (λ call. nat_lt call m) failing ≡ true
all_below [] n m le all = refl
all_below (call ∷ failing) n m le all = grind (arith, common_steps, all_below failing n m le)

-- where no call is to fail, the next one isn't
pub next_is_sure : (schedule : Schedule) → is_steady schedule ≡ true → is_to_fail schedule ≡ false
next_is_sure schedule succeeds_if_promised = none_at schedule.failing (counted schedule.calls) succeeds_if_promised

-- and none is after it
pub later_are_sure : (schedule : Schedule) → is_steady schedule ≡ true → is_steady (called schedule) ≡ true
later_are_sure schedule succeeds_if_promised = all_below schedule.failing (counted schedule.calls) (counted (counted schedule.calls)) (omega arith) succeeds_if_promised

-- one more that was counted is a cause
pub counted_is_cause : {T E : Type 0} (before now : ℕ) (result : Result T E) → IsCounted before now → HasCause before now result
counted_is_cause before now (Ok value) is = record { later = is.0; failed = tt }
counted_is_cause before now (Err e) is = record { later = is.0; failed = omega (arith, is.1) }
