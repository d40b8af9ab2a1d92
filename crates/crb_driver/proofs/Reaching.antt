-- Accesses one after another, and bytes in a row.
use Rattle.std.proofs.Common.{◌≡◌, ℕ, ◌+◌, ◌<◌, slice_set, List, [], ◌∷◌, ◌++◌, length, refl, arith}
use Rattle.std.proofs.lemmas.Grind.{common_steps}
use native.Mathlib.Numerals.{unary_clauses}
use Rattle.vt_base.specs.Numbers.{IsBytes}
use Rattle.crb_driver.specs.Bus.{Exchange, Relation, Reaches}
use Rattle.crb_driver.specs.Accesses.{one_by_one}

-- what is reached by some accesses and then by others is reached by all of them
pub reaches-append : {S : Type 0} (step : Relation S) (old middle new : S) (first then : List Exchange) → Reaches step old first middle → Reaches step middle then new → Reaches step old (first ++ then) new
reaches-append step old middle new [] then a b = rw a b
reaches-append step old middle new (e ∷ first) then a b = (a.0, a.1, reaches-append step a.0 middle new first then a.2 b)

-- likewise for one access at the start
pub reaches-cons : {S : Type 0} (step : Relation S) (old middle new : S) (e : Exchange) (then : List Exchange) → Reaches step old (e ∷ []) middle → Reaches step middle then new → Reaches step old (e ∷ then) new
reaches-cons step old middle new e then a b = reaches-append step old middle new (e ∷ []) then a b

-- bytes in a row, and more bytes behind them
pub one_by_one-append : (kind : ℕ → ℕ → ℕ → Exchange) (offset : ℕ) (first then : List ℕ) → one_by_one kind offset (first ++ then) ≡ one_by_one kind offset first ++ one_by_one kind (offset + length first) then
one_by_one-append kind offset [] then = simp unary_clauses refl
one_by_one-append kind offset (b ∷ first) then = grind (arith, common_steps, one_by_one-append kind (offset + 1) first then)

-- one more byte of a row
pub reaches-more : {S : Type 0} (step : Relation S) (old middle new : S) (kind : ℕ → ℕ → ℕ → Exchange) (offset i byte : ℕ) (bytes more : List ℕ)
    → more ≡ bytes ++ byte ∷ [] → length bytes ≡ i → Reaches step old (one_by_one kind offset bytes) middle → Reaches step middle (kind (offset + i) 1 byte ∷ []) new
    → Reaches step old (one_by_one kind offset more) new
reaches-more step old middle new kind offset i byte bytes more is size a b =
    rw (is, one_by_one-append kind offset bytes (byte ∷ []), size) (reaches-append step old middle new _ _ a b)

-- the same list of accesses
pub reaches-same : {S : Type 0} (step : Relation S) (old new : S) (list same : List Exchange) → list ≡ same → Reaches step old list new → Reaches step old same new
reaches-same step old new list same is a = rw (← is) a

-- one more byte that was read
pub bytes-set : (bytes : List ℕ) (i byte : ℕ) → i < length bytes → byte < 256 → IsBytes bytes → IsBytes (slice_set bytes i byte)
bytes-set bytes i byte below fits all j = grind (arith, common_steps, all j)
