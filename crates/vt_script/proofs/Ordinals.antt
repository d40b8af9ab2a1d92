-- The numbers that lines name begin with 1.
use Rattle.std.proofs.Common.{◌≡◌, ℕ, Bool, true, false, List, [], ◌∷◌, refl, arith, Some, None}
use Rattle.std.specs.Prelude.{Option, option_and_then, IfSome, ◌≤◌, ◌||◌, ◌==◌, nat_lt, nat_le, if◌then◌else◌, slice_index, ◌+◌}
use Rattle.std.specs.Str.{bytes_eq}
use Rattle.std.proofs.lemmas.Bool.{cond_both}
use Rattle.std.proofs.lemmas.Bool.Decides.{nat_tests}
use lib.Chars.{codes}
use Rattle.vt_script.specs.declared.event.Event.{Event}
use Rattle.vt_script.specs.Script.{number_of, ordinal_of, offset_of, size_of, value_of, host_of, access_event, read_of, write_of, fail_of, only_ordinal, move_word_event, word_event, move_words_event, words_event, HasNumber}

-- where a line asks for something, its number is at least 1
abbrev IsNumbered : Option Event → Type 0
IsNumbered o = IfSome o HasNumber

-- an ordinal is at least 1
pub least_ordinal : (word : List ℕ) (k : ℕ) → ordinal_of word ≡ Some k → 1 ≤ k
least_ordinal word k is = go (number_of 10 5 word) is
  where
    by : (zero_first : Bool) (n : ℕ) → (if zero_first || nat_lt n 1 || nat_lt 65535 n then None else Some n) ≡ Some k → 1 ≤ k
    by true n is = absurd cc
    by false n is = below (nat_lt n 1) refl is
      where
        below : (small : Bool) → nat_lt n 1 ≡ small → (if small || nat_lt 65535 n then None else Some n) ≡ Some k → 1 ≤ k
        below true now is = absurd cc
        below false now is = within (nat_lt 65535 n) is
          where
            within : (large : Bool) → (if large then None else Some n) ≡ Some k → 1 ≤ k
            within true is = absurd cc
            within false is = let same : n ≡ k = cc in grind (arith, nat_tests)

    go : (o : Option ℕ) → option_and_then (λ n. if slice_index word 0 == 48 || nat_lt n 1 || nat_lt 65535 n then None else Some n) o ≡ Some k → 1 ≤ k
    go None is = absurd cc
    go (Some n) is = by (slice_index word 0 == 48) n is

-- ---- what words ask for

chained : {A : Type 0} (f : A → Option Event) (o : Option A) → ((x : A) → o ≡ Some x → IsNumbered (f x)) → IsNumbered (option_and_then f o)
chained f None each = tt
chained f (Some x) each = each x refl

accessed : (offset size : ℕ) (write : Option ℕ) → IsNumbered (access_event offset size write)
accessed offset size write = cond_both (nat_le (offset + size) 0x1000) _ _ IsNumbered (λ met. tt) (λ unmet. tt)

read_numbered : (words : List (List ℕ)) → IsNumbered (read_of words)
read_numbered [] = tt
read_numbered (offset ∷ []) = tt
read_numbered (offset ∷ size ∷ []) = chained _ (offset_of offset) (λ at is. chained _ (size_of size) (λ n sized. accessed at n None))
read_numbered (offset ∷ size ∷ more ∷ words) = tt

write_numbered : (words : List (List ℕ)) → IsNumbered (write_of words)
write_numbered [] = tt
write_numbered (offset ∷ []) = tt
write_numbered (offset ∷ size ∷ []) = tt
write_numbered (offset ∷ size ∷ value ∷ []) =
    chained _ (offset_of offset) (λ at is. chained _ (size_of size) (λ n sized. chained _ (value_of n value) (λ v spelled. accessed at n (Some v))))
write_numbered (offset ∷ size ∷ value ∷ more ∷ words) = tt

fail_numbered : (words : List (List ℕ)) → IsNumbered (fail_of words)
fail_numbered [] = tt
fail_numbered (host ∷ []) = tt
fail_numbered (host ∷ call ∷ []) = chained _ (host_of host) (λ h is. chained _ (ordinal_of call) (λ k named. least_ordinal call k named))
fail_numbered (host ∷ call ∷ more ∷ words) = tt

least_only : (words : List (List ℕ)) (k : ℕ) → only_ordinal words ≡ Some k → 1 ≤ k
least_only [] k is = absurd cc
least_only (word ∷ []) k is = least_ordinal word k is
least_only (word ∷ more ∷ words) k is = absurd cc

move_words_numbered : (name : List ℕ) (words : List (List ℕ)) → IsNumbered (move_words_event name words)
move_words_numbered name words = cond_both (bytes_eq name (codes "deliver")) _ _ IsNumbered
    (λ met. chained _ (only_ordinal words) (λ k is. least_only words k is))
    (λ unmet. cond_both (bytes_eq name (codes "show")) _ _ IsNumbered (λ met. chained _ (only_ordinal words) (λ k is. least_only words k is)) (λ none. tt))

pub words_numbered : (name : List ℕ) (words : List (List ℕ)) → IsNumbered (words_event name words)
words_numbered name words = cond_both (bytes_eq name (codes "r")) _ _ IsNumbered (λ met. read_numbered words)
    (λ one. cond_both (bytes_eq name (codes "w")) _ _ IsNumbered (λ met. write_numbered words)
    (λ two. cond_both (bytes_eq name (codes "fail")) _ _ IsNumbered (λ met. fail_numbered words) (λ three. move_words_numbered name words)))

move_word_numbered : (word : List ℕ) → IsNumbered (move_word_event word)
move_word_numbered word = cond_both (bytes_eq word (codes "offer")) _ _ IsNumbered (λ met. tt)
    (λ one. cond_both (bytes_eq word (codes "giveup")) _ _ IsNumbered (λ met. tt)
    (λ two. cond_both (bytes_eq word (codes "again")) _ _ IsNumbered (λ met. tt) (λ three. tt)))

pub word_numbered : (word : List ℕ) → IsNumbered (word_event word)
word_numbered word = cond_both (bytes_eq word (codes "work")) _ _ IsNumbered (λ met. tt)
    (λ one. cond_both (bytes_eq word (codes "ask")) _ _ IsNumbered (λ met. tt)
    (λ two. cond_both (bytes_eq word (codes "reset")) _ _ IsNumbered (λ met. tt) (λ three. move_word_numbered word)))
