-- Lists without the zeros at their end.
use Rattle.std.proofs.Common.{◌≡◌, ◌≢◌, ℕ, zero, suc, ◌+◌, ◌-◌, ◌<◌, ◌≤◌, Bool, true, false, cond, eqb, ◌&&◌, List, [], ◌∷◌, ◌++◌, length, take, get_or, replicate, refl, sym, ap, subst, ◌∙◌, arith}
use Rattle.std.proofs.lemmas.Bool.{eqb-true, ne_eqb}
use Rattle.std.proofs.lemmas.List.{take_more, take_all, take_at, length-append}
use Rattle.vt_base.specs.Buffer.{zeros, followed_by_zeros}
use Rattle.std.specs.Prelude.{nat_lt}
use Rattle.std.proofs.lemmas.Bool.Decides.{nat_tests}
use Rattle.device_record.specs.Records.{before, trimmed}
use Rattle.device_record.specs.Layouts.{ends_in_zero}

-- a last zero is left out
trimmed-zero : (bytes : List ℕ) → trimmed (bytes ++ 0 ∷ []) ≡ trimmed bytes
trimmed-zero [] = refl
trimmed-zero (b ∷ bytes) = ap (before b) (trimmed-zero bytes)

before_some : (b : ℕ) (bytes : List ℕ) → 0 < length bytes → before b bytes ≡ b ∷ bytes
before_some b [] some = absurd (omega arith)
before_some b (c ∷ rest) some = refl

-- and any other byte is kept, with all before it
trimmed-other : (bytes : List ℕ) (last : ℕ) → last ≢ 0 → trimmed (bytes ++ last ∷ []) ≡ bytes ++ last ∷ []
trimmed-other [] last other = rw (ne_eqb last 0 other) refl
trimmed-other (b ∷ bytes) last other =
    ap (before b) (trimmed-other bytes last other) ∙ before_some b (bytes ++ last ∷ []) (omega (arith, length-append bytes (last ∷ [])))

one_more : (bytes : List ℕ) (count : ℕ) → count < length bytes → take (suc count) bytes ≡ take count bytes ++ get_or bytes count 0 ∷ []
one_more bytes count less = let next : suc count ≡ count + 1 = omega arith in ap (λ (k : ℕ). take k bytes) next ∙ take_more bytes count 0 less

-- one step of the search for the last byte that isn't 0
pub trimmed_step : (bytes : List ℕ) (count : ℕ) → 0 < count → count ≤ length bytes → get_or bytes (count - 1) 0 ≡ 0 → trimmed (take (count - 1) bytes) ≡ trimmed (take count bytes)
trimmed_step bytes zero some le is = absurd (omega arith)
trimmed_step bytes (suc count) some le is =
    let less : suc count - 1 ≡ count = omega arith in
    let zero_there : get_or bytes count 0 ≡ 0 = subst (λ (k : ℕ). get_or bytes k 0 ≡ 0) less is in
    let prefix : take (suc count) bytes ≡ take count bytes ++ 0 ∷ [] = one_more bytes count (omega arith) ∙ ap (λ (b : ℕ). take count bytes ++ b ∷ []) zero_there in
    ap (λ (k : ℕ). trimmed (take k bytes)) less ∙ sym (ap trimmed prefix ∙ trimmed-zero (take count bytes))

-- where the last byte isn't 0, nothing is left out
pub trimmed_there : (bytes : List ℕ) (count : ℕ) → 0 < count → count ≤ length bytes → get_or bytes (count - 1) 0 ≢ 0 → trimmed (take count bytes) ≡ take count bytes
trimmed_there bytes zero some le other = absurd (omega arith)
trimmed_there bytes (suc count) some le other =
    let less : suc count - 1 ≡ count = omega arith in
    let kept : get_or bytes count 0 ≢ 0 = subst (λ (k : ℕ). get_or bytes k 0 ≢ 0) less other in
    let prefix : take (suc count) bytes ≡ take count bytes ++ get_or bytes count 0 ∷ [] = one_more bytes count (omega arith) in
    ap trimmed prefix ∙ trimmed-other (take count bytes) (get_or bytes count 0) kept ∙ sym prefix

-- where the search ends, what is before it is what is kept
pub trimmed_end : (bytes : List ℕ) (count : ℕ) → count ≤ length bytes → trimmed (take count bytes) ≡ trimmed bytes → (0 < count → get_or bytes (count - 1) 0 ≢ 0) → take count bytes ≡ trimmed bytes
trimmed_end bytes zero le same other = same
trimmed_end bytes (suc count) le same other = sym (trimmed_there bytes (suc count) (omega arith) le (other (omega arith))) ∙ same

-- ---- zeros at the end

trimmed-zeros : (count : ℕ) → trimmed (replicate count 0) ≡ []
trimmed-zeros zero = refl
trimmed-zeros (suc count) = ap (before 0) (trimmed-zeros count)

trimmed-append_zeros : (bytes : List ℕ) (count : ℕ) → trimmed (bytes ++ replicate count 0) ≡ trimmed bytes
trimmed-append_zeros [] count = trimmed-zeros count
trimmed-append_zeros (b ∷ bytes) count = ap (before b) (trimmed-append_zeros bytes count)

before-length : (b : ℕ) (bytes : List ℕ) → length (before b bytes) ≤ suc (length bytes)
before-length b [] = one (eqb b 0)
  where
    one : (t : Bool) → length (cond t [] (b ∷ [])) ≤ 1
    one true = omega arith
    one false = omega arith
before-length b (c ∷ rest) = omega arith

pub length-trimmed : (bytes : List ℕ) → length (trimmed bytes) ≤ length bytes
length-trimmed [] = omega arith
length-trimmed (b ∷ bytes) = omega (arith, before-length b (trimmed bytes), length-trimmed bytes)

one_longer : (b : ℕ) (kept bytes : List ℕ) → kept ++ replicate (length bytes - length kept) 0 ≡ bytes → (b ∷ kept) ++ replicate (suc (length bytes) - suc (length kept)) 0 ≡ b ∷ bytes
one_longer b kept bytes is =
    let less : suc (length bytes) - suc (length kept) ≡ length bytes - length kept = omega arith in
    ap (λ (n : ℕ). (b ∷ kept) ++ replicate n 0) less ∙ ap (λ (r : List ℕ). b ∷ r) is

before_zeros : (b : ℕ) (kept bytes : List ℕ) → kept ++ replicate (length bytes - length kept) 0 ≡ bytes → length kept ≤ length bytes
    → before b kept ++ replicate (suc (length bytes) - length (before b kept)) 0 ≡ b ∷ bytes
before_zeros b [] bytes same le = first (eqb b 0) refl
  where
    first : (t : Bool) → eqb b 0 ≡ t → cond t [] (b ∷ []) ++ replicate (suc (length bytes) - length (cond t [] (b ∷ []))) 0 ≡ b ∷ bytes
    first true is =
        let less : length bytes ≡ length bytes - 0 = omega arith in
        let all : replicate (length bytes) 0 ≡ bytes = ap (λ (n : ℕ). replicate n 0) less ∙ same in
        let one : suc (length bytes) - 0 ≡ suc (length bytes) = omega arith in
        ap (λ (n : ℕ). replicate n 0) one ∙ ap (λ (rest : List ℕ). 0 ∷ rest) all ∙ ap (λ (x : ℕ). x ∷ bytes) (sym (eqb-true b 0 is))
    first false is = one_longer b [] bytes same
before_zeros b (c ∷ rest) bytes same le = one_longer b (c ∷ rest) bytes same

-- what is left out are the zeros up to the same length
zeros_again : (bytes : List ℕ) → trimmed bytes ++ replicate (length bytes - length (trimmed bytes)) 0 ≡ bytes
zeros_again [] = refl
zeros_again (b ∷ bytes) = before_zeros b (trimmed bytes) bytes (zeros_again bytes) (length-trimmed bytes)

-- the buffer is what is kept of it, followed by zeros
pub trimmed_back : (bytes : List ℕ) → length bytes ≡ 3968 → followed_by_zeros (trimmed bytes) ≡ bytes
unfolding zeros
trimmed_back bytes size = ap (λ (n : ℕ). trimmed bytes ++ replicate (n - length (trimmed bytes)) 0) (sym size) ∙ zeros_again bytes

-- zeros behind bytes are left out
pub trimmed-followed : (bytes : List ℕ) → trimmed (followed_by_zeros bytes) ≡ trimmed bytes
unfolding zeros
trimmed-followed bytes = trimmed-append_zeros bytes (3968 - length bytes)

pub trimmed_nothing : (count : ℕ) → trimmed (zeros count) ≡ []
unfolding zeros
trimmed_nothing count = trimmed-zeros count

-- ---- lists that don't end in a zero

nonzero_at_end : (n b : ℕ) → nat_lt 0 n && eqb b 0 ≡ false → 0 < n → b ≢ 0
nonzero_at_end n b is some = grind (arith, nat_tests)

-- nothing is left out of them
pub trimmed_whole : (bytes : List ℕ) → ends_in_zero bytes ≡ false → trimmed bytes ≡ bytes
trimmed_whole bytes is =
    let all : take (length bytes) bytes ≡ bytes = take_all (length bytes) bytes (omega arith) in
    sym (trimmed_end bytes (length bytes) (omega arith) (ap trimmed all) (nonzero_at_end (length bytes) (get_or bytes (length bytes - 1) 0) is)) ∙ all

last_of : (n b : ℕ) → nat_lt 0 n && eqb b 0 ≡ false → 0 < n → eqb b 0 ≡ false
last_of n b is some = grind (arith, nat_tests)

last_is : (n b : ℕ) → eqb b 0 ≡ false → nat_lt 0 n && eqb b 0 ≡ false
last_is n b is = rw is (both (nat_lt 0 n))
  where
    both : (t : Bool) → t && false ≡ false
    both true = refl
    both false = refl

before_nonzero : (b : ℕ) (bytes : List ℕ) → ends_in_zero bytes ≡ false → ends_in_zero (before b bytes) ≡ false
before_nonzero b [] is = one (eqb b 0) refl
  where
    one : (t : Bool) → eqb b 0 ≡ t → ends_in_zero (cond t [] (b ∷ [])) ≡ false
    one true e = refl
    one false e = e
before_nonzero b (c ∷ rest) is =
    last_is (suc (suc (length rest))) (get_or (b ∷ c ∷ rest) (suc (suc (length rest)) - 1) 0)
    (more (suc (length rest)) (omega arith) (last_of (suc (length rest)) (get_or (c ∷ rest) (suc (length rest) - 1) 0) is (omega arith)))
  where
    more : (n : ℕ) → 0 < n → eqb (get_or (c ∷ rest) (n - 1) 0) 0 ≡ false → eqb (get_or (b ∷ c ∷ rest) (suc n - 1) 0) 0 ≡ false
    more zero some e = absurd (omega arith)
    more (suc n) some e =
        let less : suc n - 1 ≡ n = omega arith in
        let next : suc (suc n) - 1 ≡ suc n = omega arith in
        ap (λ (k : ℕ). eqb (get_or (b ∷ c ∷ rest) k 0) 0) next ∙ ap (λ (k : ℕ). eqb (get_or (c ∷ rest) k 0) 0) (sym less) ∙ e

-- what is kept is one
pub trimmed_ends : (bytes : List ℕ) → ends_in_zero (trimmed bytes) ≡ false
trimmed_ends [] = refl
trimmed_ends (b ∷ bytes) = before_nonzero b (trimmed bytes) (trimmed_ends bytes)

-- what is kept is a prefix
pub trimmed_prefix : (bytes : List ℕ) → take (length (trimmed bytes)) bytes ≡ trimmed bytes
trimmed_prefix bytes =
    ap (take (length (trimmed bytes))) (sym (zeros_again bytes)) ∙ take_at (trimmed bytes) (replicate (length bytes - length (trimmed bytes)) 0) (length (trimmed bytes)) refl
