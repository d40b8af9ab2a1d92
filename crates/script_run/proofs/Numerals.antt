-- Words that are numbers in decimal.
use Rattle.std.proofs.Common.{◌≡◌, ◌≤◌, ◌<◌, ◌-◌, ◌^◌, ℕ, zero, suc, Bool, true, false, List, [], ◌∷◌, length, drop, get_or, refl, ap, sym, ◌∙◌, subst, arith}
use Rattle.std.specs.Prelude.{◌==◌, ◌&&◌, not, cond}
use Rattle.std.specs.Fmt.{decimal}
use Rattle.std.specs.Str.Parse.{AllDigits, IsNumeral, digits_value, without_leading_plus}
use Rattle.std.proofs.lemmas.Bool.Decides.{nat_tests}
use Rattle.std.proofs.lemmas.Fmt.{decimal_is_IsNumeral, decimal_digit, decimal_injective, first_decimal, decimal-digits_value}
use Rattle.std.proofs.lemmas.Str.Parse.{digit_from_value}
use Rattle.script_run.specs.Reading.{begins_well}

digits-begin : (xs : List ℕ) → AllDigits 10 xs → 0 < length xs → (1 < length xs → 48 < get_or xs 0 0) → begins_well xs ≡ true
digits-begin [] all some lead = absurd (omega arith)
digits-begin (c ∷ []) all some lead = grind (arith, nat_tests, digit_from_value c all.0)
digits-begin (c ∷ d ∷ xs) all some lead = grind (arith, nat_tests, digit_from_value c all.0, lead (omega arith))

one-digit : length (decimal 0) ≡ 1
one-digit = ap (λ (ds : List ℕ). length ds) (decimal_digit 0 (omega arith))

leads : (n : ℕ) → n < 2 ^ 64 → 1 < length (decimal n) → 48 < get_or (decimal n) 0 0
leads zero small more = absurd (omega (arith, one-digit, more))
leads (suc n) small more = first_decimal (suc n) (omega arith) small

-- a number in decimal begins well
pub decimal-begins : (n : ℕ) → n < 2 ^ 64 → begins_well (decimal n) ≡ true
decimal-begins n small = let is = (decimal_is_IsNumeral n small).0 in digits-begin (decimal n) is.1 is.0 (leads n small)

-- a word that begins well has no plus sign to leave out, and no leading zero
no-plus : (xs : List ℕ) → begins_well xs ≡ true → without_leading_plus xs ≡ xs
no-plus [] well = cc
no-plus (c ∷ []) well = plus (c == 43) refl well
  where
    plus : (test : Bool) → c == 43 ≡ test → not test ≡ true → drop (cond test 1 0) (c ∷ []) ≡ c ∷ []
    plus true is well = cc
    plus false is well = refl
no-plus (c ∷ d ∷ xs) well = plus (c == 43) (c == 48) well
  where
    plus : (test other : Bool) → (not test && not other) ≡ true → drop (cond test 1 0) (c ∷ d ∷ xs) ≡ c ∷ d ∷ xs
    plus true other well = cc
    plus false other well = refl

no-zero : (xs : List ℕ) → begins_well xs ≡ true → get_or xs 0 0 ≡ 48 → length xs ≡ 1
no-zero [] well is = cc
no-zero (c ∷ []) well is = refl
no-zero (c ∷ d ∷ xs) well is = absurd (grind (arith, nat_tests, is, well))

-- the digits of a word are a number that fits
abbrev Fits64 : List ℕ → Type 0
Fits64 word = IsNumeral 10 (without_leading_plus word) × (digits_value 10 (without_leading_plus word) < 2 ^ 64)

-- the number of a word that begins well and is parsed is spelled by the word
pub decimal-of : (word : List ℕ) (n : ℕ) → begins_well word ≡ true → Fits64 word × (n ≡ digits_value 10 (without_leading_plus word)) → word ≡ decimal n
decimal-of word n well parses =
    let is = no-plus word well in
    let numeral : IsNumeral 10 word = subst (IsNumeral 10) is parses.0.0 in
    let value : n ≡ digits_value 10 word = parses.1 ∙ ap (digits_value 10) is in
    let small : digits_value 10 word < 2 ^ 64 = omega (arith, parses.0.1, parses.1, value) in
    sym (ap decimal value ∙ decimal-digits_value (record { to = λ ds all. all; from = λ ds all. all; same = λ ds all. refl }) word numeral.1 numeral.0 (no-zero word well) small)

-- a number in decimal is parsed, and is that number
value-is : (word : List ℕ) (n : ℕ) → n < 2 ^ 64 → word ≡ decimal n → digits_value 10 (without_leading_plus word) ≡ n
value-is word n small is = ap (digits_value 10) (no-plus word (ap begins_well is ∙ decimal-begins n small) ∙ is) ∙ (decimal_is_IsNumeral n small).1

pub parsed-is : (word : List ℕ) (n m : ℕ) → n < 2 ^ 64 → word ≡ decimal n → m ≡ digits_value 10 (without_leading_plus word) → m ≡ n
parsed-is word n m small is value = value ∙ value-is word n small is

pub not-parsed : (word : List ℕ) (n : ℕ) → n < 2 ^ 64 → word ≡ decimal n → (Fits64 word → ⊥) → ⊥
not-parsed word n small is never =
    let same = no-plus word (ap begins_well is ∙ decimal-begins n small) in
    never (subst (IsNumeral 10) (sym (same ∙ is)) (decimal_is_IsNumeral n small).0, omega (arith, small, value-is word n small is))

-- a word is one number in decimal
pub one-number : (word : List ℕ) (n m : ℕ) → n < 2 ^ 64 → m < 2 ^ 64 → word ≡ decimal n → word ≡ decimal m → n ≡ m
one-number word n m first next is too = decimal_injective n m first next (sym is ∙ too)

pub false-true : (test : Bool) → test ≡ false → test ≡ true → ⊥
false-true test is too = cc
