-- Numbers by their hexadecimal digits.
use Rattle.std.proofs.Common.{◌≡◌, ℕ, zero, suc, ◌+◌, ◌-◌, ◌*◌, ◌/◌, ◌%◌, ◌^◌, ◌<◌, ◌≤◌, List, [], ◌∷◌, ◌++◌, refl, ap, ◌∙◌, append_assoc, arith, lit<}
use Rattle.std.proofs.Math.Nat.{pow-le-pow_left, pow-le-pow_right, pow-succ', mul-le-mul_right, suc-mul}
use Rattle.std.proofs.lemmas.Grind.{pow_more}
use Rattle.std.proofs.lemmas.Nat.{pow-add}
use Rattle.vt_script.specs.Replies.{hex_digit, hex_digits}

-- a number of n digits with one more digit has n + 1 digits
pub number_grows : (number base digit n : ℕ) → number < base ^ n → digit < base → number * base + digit < base ^ (n + 1)
number_grows number base digit n within_limit below =
    let more : suc number * base ≤ base ^ n * base = mul-le-mul_right base within_limit in
    let power : base ^ (n + 1) ≡ base ^ n * base = pow_more base n in
    let same : suc number * base ≡ number * base + base = suc-mul number base in
    omega arith

-- sixteen digits in a base of sixteen at most fit eight bytes
pub digits_fit : (base n : ℕ) → 1 ≤ base → base ≤ 16 → n ≤ 16 → base ^ n ≤ 16 ^ 16
digits_fit base n some small within_limit =
    let in_base : base ^ n ≤ 16 ^ n = pow-le-pow_left small n in
    let in_place : 16 ^ n ≤ 16 ^ 16 = pow-le-pow_right (lit< tt) within_limit in
    omega arith

pub power_grows : (base n m : ℕ) → 1 ≤ base → n ≤ m → base ^ n ≤ base ^ m
power_grows base n m some within_limit = pow-le-pow_right some within_limit

pub power256 : (n : ℕ) → 16 ^ (2 * n) ≡ 256 ^ n
power256 zero = refl
power256 (suc n) =
    let two : 2 * suc n ≡ 2 + 2 * n = omega arith in
    rw (two, pow-add 16 2 (2 * n), pow-succ' 256 n) (ap (λ m. 256 * m) (power256 n))

power16 : (n : ℕ) → 2 ^ (4 * n) ≡ 16 ^ n
power16 zero = refl
power16 (suc n) =
    let four : 4 * suc n ≡ 4 + 4 * n = omega arith in
    rw (four, pow-add 2 4 (4 * n), pow-succ' 16 n) (ap (λ m. 16 * m) (power16 n))

pub shift_digit : (value k : ℕ) → value / 2 ^ (4 * k) % 16 ≡ value / 16 ^ k % 16
shift_digit value k = rw (power16 k) refl

pub hex_digits-first : (count value : ℕ) → 0 < count → hex_digits count value ≡ hex_digit (value / 16 ^ (count - 1) % 16) ∷ hex_digits (count - 1) value
hex_digits-first zero value some = absurd (omega arith)
hex_digits-first (suc count) value some = let less : suc count - 1 ≡ count = omega arith in rw less refl

-- one more digit is written
pub digits-more : (old now whole : List ℕ) (count value digit : ℕ) → 0 < count → digit ≡ hex_digit (value / 16 ^ (count - 1) % 16) → old ++ hex_digits count value ≡ whole → now ≡ old ++ digit ∷ [] → now ++ hex_digits (count - 1) value ≡ whole
digits-more old now whole count value digit some is before more =
    rw (more, is) (append_assoc old _ _ ∙ rw (hex_digits-first count value some) at before)
