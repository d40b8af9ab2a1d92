-- How many pieces are left of a move.
use Rattle.std.proofs.Common.{◌≡◌, ℕ, ◌+◌, ◌-◌, ◌*◌, ◌/◌, ◌%◌, ◌≤◌, ◌<◌, List, length, Some, None, refl, sym, ◌∙◌, ap, arith, ◌⊎◌, inl, inr, true, false, ◌&&◌, [], ◌∷◌}
use Rattle.std.specs.Prelude.{nat_lt, nat_le}
use Rattle.std.specs.List.{position_from}
use Rattle.std.proofs.lemmas.Nat.{div-mul-add, div-add-mod'}
use Rattle.std.proofs.lemmas.Bool.{ltb-true, not-false, and_parts, cases_Bool, cases_lt, cond-true, cond-false}
use Rattle.crb_history.specs.Snapshot.{Snapshot}
use Rattle.move_codec.specs.declared.names.Part.{Part}
use Rattle.move_codec.specs.declared.names.Part.TheVariants.{Record, Permanent, Volatile, Saved}
use Rattle.move_core.specs.Sides.{part_after, total_of, first_bad, is_bad}
use Rattle.two_hosts.specs.Parts.{part_bytes, totals_of}
use Rattle.two_hosts.specs.WholeMove.{piece_count, pieces}

abbrev pub size_of : Snapshot → Part → ℕ
size_of v p = length (part_bytes v p)

pub total_is : (v : Snapshot) (p : Part) → total_of (totals_of v) p ≡ size_of v p
total_is v Record = refl
total_is v Permanent = refl
total_is v Volatile = refl
total_is v Saved = refl

div_more : (x w : ℕ) → 0 < w → (x + w) / w ≡ x / w + 1
div_more x w pos =
    let split : x / w * w + x % w ≡ x = div-add-mod' x w in
    let low : x % w < w = omega arith in
    let same : x + w ≡ (x / w + 1) * w + x % w = omega arith in
    ap (λ n. n / w) same ∙ div-mul-add (x / w + 1) w (x % w) low

pub count_one : (size total : ℕ) → 0 < total → total ≤ size → piece_count size total ≡ 1
count_one size total pos small =
    let same : total + (size - 1) ≡ 1 * size + (total - 1) = omega arith in
    ap (λ n. n / size) same ∙ div-mul-add 1 size (total - 1) (omega arith)

pub count_more : (size total : ℕ) → 0 < size → size ≤ total → piece_count size total ≡ piece_count size (total - size) + 1
count_more size total pos large =
    let same : total + (size - 1) ≡ ((total - size) + (size - 1)) + size = omega arith in
    ap (λ n. n / size) same ∙ div_more ((total - size) + (size - 1)) size pos

pub count_some : (size total : ℕ) → 0 < size → 0 < total → 0 < piece_count size total
count_some size total pos some = go (cases_lt size total)
  where
    go : (size < total) ⊎ (total ≤ size) → 0 < piece_count size total
    go (inl large) = let e = count_more size total pos (omega arith) in omega (arith, e)
    go (inr small) = let e = count_one size total some small in omega (arith, e)

-- the pieces that are left from a place on, by the lengths of the parts
abbrev pub left_of : ℕ → (Part → ℕ) → Part → ℕ → ℕ
left_of size total Record place = piece_count size (total Record - place) + (piece_count size (total Permanent - 0) + (piece_count size (total Volatile - 0) + piece_count size (total Saved - 0)))
left_of size total Permanent place = piece_count size (total Permanent - place) + (piece_count size (total Volatile - 0) + piece_count size (total Saved - 0))
left_of size total Volatile place = piece_count size (total Volatile - place) + piece_count size (total Saved - 0)
left_of size total Saved place = piece_count size (total Saved - place)

pub left_at_first : (size : ℕ) (v : Snapshot) → left_of size (size_of v) Record 0 ≡ pieces size v
left_at_first size v = same (size_of v)
  where
    none : (n : ℕ) → n - 0 ≡ n
    none n = omega arith

    same : (total : Part → ℕ) → left_of size total Record 0 ≡ piece_count size (total Record) + (piece_count size (total Permanent) + (piece_count size (total Volatile) + piece_count size (total Saved)))
    same total = rw (none (total Record), none (total Permanent), none (total Volatile), none (total Saved)) refl

module _ (size : ℕ) (total : Part → ℕ) where
  -- one piece less is left of this part
  pub left_less : (p : Part) (place : ℕ) → 0 < size → place + size ≤ total p → left_of size total p place ≡ left_of size total p (place + size) + 1
  left_less Record place pos more = let e = count_more size (total Record - place) pos (omega arith) in let same : total Record - place - size ≡ total Record - (place + size) = omega arith in rw (e, same) (omega arith)
  left_less Permanent place pos more = let e = count_more size (total Permanent - place) pos (omega arith) in let same : total Permanent - place - size ≡ total Permanent - (place + size) = omega arith in rw (e, same) (omega arith)
  left_less Volatile place pos more = let e = count_more size (total Volatile - place) pos (omega arith) in let same : total Volatile - place - size ≡ total Volatile - (place + size) = omega arith in rw (e, same) (omega arith)
  left_less Saved place pos more = let e = count_more size (total Saved - place) pos (omega arith) in let same : total Saved - place - size ≡ total Saved - (place + size) = omega arith in rw (e, same) refl

  pub left_some : (p : Part) (place : ℕ) → 0 < size → place < total p → 0 < left_of size total p place
  left_some Record place pos more = let e = count_some size (total Record - place) pos (omega arith) in omega (arith, e)
  left_some Permanent place pos more = let e = count_some size (total Permanent - place) pos (omega arith) in omega (arith, e)
  left_some Volatile place pos more = let e = count_some size (total Volatile - place) pos (omega arith) in omega (arith, e)
  left_some Saved place pos more = count_some size (total Saved - place) pos (omega arith)

  -- the last piece of a part
  pub left_next : (p q : Part) (place : ℕ) → part_after p ≡ Some q → place < total p → total p - place ≤ size → left_of size total p place ≡ left_of size total q 0 + 1
  left_next Record Permanent place h some small = rw (count_one size (total Record - place) (omega arith) small) (omega arith)
  left_next Permanent Volatile place h some small = rw (count_one size (total Permanent - place) (omega arith) small) (omega arith)
  left_next Volatile Saved place h some small = rw (count_one size (total Volatile - place) (omega arith) small) (omega arith)
  left_next Record Record place h some small = absurd cc
  left_next Record Volatile place h some small = absurd cc
  left_next Record Saved place h some small = absurd cc
  left_next Permanent Record place h some small = absurd cc
  left_next Permanent Permanent place h some small = absurd cc
  left_next Permanent Saved place h some small = absurd cc
  left_next Volatile Record place h some small = absurd cc
  left_next Volatile Permanent place h some small = absurd cc
  left_next Volatile Volatile place h some small = absurd cc
  left_next Saved q place h some small = absurd cc

  pub left_last : (p : Part) (place : ℕ) → part_after p ≡ None → place < total p → total p - place ≤ size → left_of size total p place ≡ 1
  left_last Saved place h some small = count_one size (total Saved - place) (omega arith) small
  left_last Record place h some small = absurd cc
  left_last Permanent place h some small = absurd cc
  left_last Volatile place h some small = absurd cc

-- a part that may be offered has a byte
good_total : (n : ℕ) → is_bad n ≡ false → 0 < n
good_total n good = ltb-true 0 n (and_parts (nat_lt 0 n) (nat_le n 4096) (not-false (nat_lt 0 n && nat_le n 4096) good)).0

passed_over : (i n : ℕ) (ns : List ℕ) → position_from is_bad i (n ∷ ns) ≡ None → (0 < n) × (position_from is_bad (i + 1) ns ≡ None)
passed_over i n ns none = go (cases_Bool (is_bad n))
  where
    go : (is_bad n ≡ true) ⊎ (is_bad n ≡ false) → (0 < n) × (position_from is_bad (i + 1) ns ≡ None)
    go (inl bad) = absurd (let wrong : Some i ≡ None = sym (cond-true (is_bad n) (Some i) (position_from is_bad (i + 1) ns) bad) ∙ none in cc)
    go (inr good) = (good_total n good, sym (cond-false (is_bad n) (Some i) (position_from is_bad (i + 1) ns) good) ∙ none)

four_good : (a b c d : ℕ) → first_bad (a ∷ b ∷ c ∷ d ∷ []) ≡ None → (0 < a) × ((0 < b) × ((0 < c) × (0 < d)))
four_good a b c d none =
    let one = passed_over 0 a (b ∷ c ∷ d ∷ []) none in
    let two = passed_over (0 + 1) b (c ∷ d ∷ []) one.1 in
    let three = passed_over (0 + 1 + 1) c (d ∷ []) two.1 in
    (one.0, (two.0, (three.0, (passed_over (0 + 1 + 1 + 1) d [] three.1).0)))

pub all_good : (v : Snapshot) → first_bad (totals_of v) ≡ None → (p : Part) → 0 < size_of v p
all_good v none p = go p (four_good (size_of v Record) (size_of v Permanent) (size_of v Volatile) (size_of v Saved) none)
  where
    go : (p : Part) → (0 < size_of v Record) × ((0 < size_of v Permanent) × ((0 < size_of v Volatile) × (0 < size_of v Saved))) → 0 < size_of v p
    go Record all = all.0
    go Permanent all = all.1.0
    go Volatile all = all.1.1.0
    go Saved all = all.1.1.1
