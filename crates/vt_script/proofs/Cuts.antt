-- The first part of a text.
use Rattle.std.proofs.Common.{◌≡◌, ℕ, ◌+◌, ◌<◌, ◌≤◌, Bool, true, false, List, [], ◌∷◌, length, take, drop, refl, ap, ◌∙◌, Some, None, arith, cond, not}
use Rattle.std.specs.Prelude.{nat_lt, ◌==◌}
use Rattle.std.specs.List.{position, position_or_len, slice_split, onto_first}
use Rattle.std.proofs.lemmas.List.{drop-drop}
use Rattle.std.proofs.lemmas.List.Splits.{slice_split_first}
use Rattle.std.proofs.lemmas.Bool.Decides.{nat_tests}
use Rattle.vt_script.specs.Script.{parts_of, without_empty_end, lines_of, words_event, event_of_words, read_of, write_of, fail_of, only_ordinal}
use Rattle.vt_script.specs.Drive.{command_of, lost_message_of, drive_words, drive_of_words}

pub parts-Some : (separator : ℕ) (xs : List ℕ) (at : ℕ) → position (λ b. b == separator) xs ≡ Some at → parts_of separator xs ≡ take at xs ∷ parts_of separator (drop (at + 1) xs)
parts-Some separator xs at found =
    let place : position_or_len (λ b. b == separator) xs ≡ at = grind (arith, nat_tests, found) in
    let within : position_or_len (λ b. b == separator) xs < length xs = grind (arith, nat_tests, found) in
    rw place at (slice_split_first (λ b. b == separator) xs 0 within)

pub parts-cut : (separator : ℕ) (xs : List ℕ) (at : ℕ) (first rest after : List ℕ) → position (λ b. b == separator) xs ≡ Some at → first ≡ take at xs → rest ≡ drop at xs → after ≡ drop 1 rest → parts_of separator xs ≡ first ∷ parts_of separator after
parts-cut separator xs at first rest after found is_first is_rest is_after =
    let past : after ≡ drop (at + 1) xs = is_after ∙ ap (drop 1) is_rest ∙ drop-drop 1 at xs in
    rw (is_first, past) (parts-Some separator xs at found)

pub no_separator : (separator : ℕ) (xs : List ℕ) → length xs ≤ position_or_len (λ b. b == separator) xs → slice_split (λ b. b == separator) xs ≡ xs ∷ []
no_separator separator [] far = refl
no_separator separator (x ∷ xs) far = go (x == separator) far (no_separator separator xs)
  where
    go : (test : Bool) → length (x ∷ xs) ≤ cond (not test) (1 + position_or_len (λ b. b == separator) xs) 0 → (length xs ≤ position_or_len (λ b. b == separator) xs → slice_split (λ b. b == separator) xs ≡ xs ∷ []) → cond test ([] ∷ slice_split (λ b. b == separator) xs) (onto_first x (slice_split (λ b. b == separator) xs)) ≡ (x ∷ xs) ∷ []
    go true h rest = absurd (omega arith)
    go false h rest = ap (onto_first x) (rest (omega arith))

pub parts-None : (separator : ℕ) (xs : List ℕ) → position (λ b. b == separator) xs ≡ None → parts_of separator xs ≡ xs ∷ []
parts-None separator xs none = no_separator separator xs (far (length xs) none)
  where
    far : (most : ℕ) → cond (nat_lt (position_or_len (λ b. b == separator) xs) most) (Some (position_or_len (λ b. b == separator) xs)) None ≡ None → most ≤ position_or_len (λ b. b == separator) xs
    far most h = grind (arith, nat_tests, h)

parts_some : (separator : ℕ) (xs : List ℕ) → (first : List ℕ) × (rest : List (List ℕ)) × (parts_of separator xs ≡ first ∷ rest)
parts_some separator [] = ([], [], refl)
parts_some separator (x ∷ xs) = go (x == separator) (parts_some separator xs)
  where
    go : (test : Bool) → (first : List ℕ) × (rest : List (List ℕ)) × (parts_of separator xs ≡ first ∷ rest) → (first : List ℕ) × (rest : List (List ℕ)) × (cond test ([] ∷ parts_of separator xs) (onto_first x (parts_of separator xs)) ≡ first ∷ rest)
    go true more = ([], parts_of separator xs, refl)
    go false more = (x ∷ more.0, more.1, ap (onto_first x) more.2)

without_empty_end-more : (line first : List ℕ) (rest : List (List ℕ)) → without_empty_end (line ∷ first ∷ rest) ≡ line ∷ without_empty_end (first ∷ rest)
without_empty_end-more [] first rest = refl
without_empty_end-more (x ∷ xs) first rest = refl

-- a line that is ended by LF, and the lines after it
pub lines-more : (script line rest : List ℕ) → parts_of 10 script ≡ line ∷ parts_of 10 rest → lines_of script ≡ line ∷ lines_of rest
lines-more script line rest cut =
    let more = parts_some 10 rest in
    ap without_empty_end cut ∙ rw more.2 (without_empty_end-more line more.0 more.1)

-- a name with more words after it
pub event_of_words-more : (name rest : List ℕ) → event_of_words (name ∷ parts_of 32 rest) ≡ words_event name (parts_of 32 rest)
event_of_words-more name rest = let more = parts_some 32 rest in rw more.2 refl

-- `r` has two words after it
pub read_of-more : (first second rest : List ℕ) → read_of (first ∷ second ∷ parts_of 32 rest) ≡ None
read_of-more first second rest = let more = parts_some 32 rest in rw more.2 refl

-- `w` has three words after it
pub write_of-more : (first second third rest : List ℕ) → write_of (first ∷ second ∷ third ∷ parts_of 32 rest) ≡ None
write_of-more first second third rest = let more = parts_some 32 rest in rw more.2 refl

-- `fail` has two words after it
pub fail_of-more : (first second rest : List ℕ) → fail_of (first ∷ second ∷ parts_of 32 rest) ≡ None
fail_of-more first second rest = let more = parts_some 32 rest in rw more.2 refl

-- an ordinal is one word
pub only_ordinal-more : (first rest : List ℕ) → only_ordinal (first ∷ parts_of 32 rest) ≡ None
only_ordinal-more first rest = let more = parts_some 32 rest in rw more.2 refl

-- a name with more words after it, on a drive line
pub drive_of_words-more : (name rest : List ℕ) → drive_of_words (name ∷ parts_of 32 rest) ≡ drive_words name (parts_of 32 rest)
drive_of_words-more name rest = let more = parts_some 32 rest in rw more.2 refl

-- `movefail` has one word after it
pub lost_message_of-more : (first rest : List ℕ) → lost_message_of (first ∷ parts_of 32 rest) ≡ None
lost_message_of-more first rest = let more = parts_some 32 rest in rw more.2 refl

-- `cmd` has one word after it
pub command_of-more : (first rest : List ℕ) → command_of (first ∷ parts_of 32 rest) ≡ None
command_of-more first rest = let more = parts_some 32 rest in rw more.2 refl
