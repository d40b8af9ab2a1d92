-- The registers that are read, as a loop finds them.
use Rattle.std.proofs.Common.{◌≡◌, ℕ, zero, suc, ◌+◌, ◌-◌, ◌<◌, ◌≤◌, true, false, cond, List, [], ◌∷◌, ◌++◌, length, get_or, inl, inr, take, drop, filter, refl, sym, ap, ◌∙◌, arith, append_assoc}
use Rattle.std.specs.List.{range_with_len, flat_map}
use Rattle.std.proofs.Math.Seq.{drop-cons, take-append-add, take-nil}
use Rattle.std.proofs.lemmas.List.{append-nil, take-append-le, take_all, drop_all, length-take, length-append, take-map}
use Rattle.std.proofs.lemmas.List.Elements.{filter-append, All-append, All-map, All-cons, All-nil}
use Rattle.std.proofs.lemmas.List.Concat.{flat_map-cons}
use Rattle.std.proofs.lemmas.Bool.{cases_lt}
use Rattle.tpm_core.specs.declared.algorithm.Algorithm.{Algorithm}
use Rattle.tpm_core.specs.declared.algorithm.Algorithm.TheVariants.{Sha256}
use Rattle.tpm_core.specs.declared.command.Selection.{Selection}
use Rattle.tpm_core.specs.declared.selected.Register.{Register}
use Rattle.std.specs.Prelude.{All}
use Rattle.tpm_core.specs.Selected.{is_selected, selected, registers_of, all_registers, AreThere, chosen_of, wanted_of}
use Rattle.tpm_core.specs.Answers.{entry_read}

range_more : (a n : ℕ) → range_with_len a (suc n) ≡ range_with_len a n ++ (a + n) ∷ []
range_more a zero = ap (λ (k : ℕ). k ∷ []) (omega arith)
range_more a (suc n) = ap (λ (ks : List ℕ). a ∷ ks) (range_more (a + 1) n ∙ ap (λ (k : ℕ). range_with_len (a + 1) n ++ k ∷ []) (omega arith))

range_next : (i : ℕ) → range_with_len 0 (i + 1) ≡ range_with_len 0 i ++ i ∷ []
range_next i =
    let one : i + 1 ≡ suc i = omega arith in
    let last : 0 + i ≡ i = omega arith in
    ap (range_with_len 0) one ∙ range_more 0 i ∙ ap (λ (k : ℕ). range_with_len 0 i ++ k ∷ []) last

-- the first registers below i that a map selects
abbrev pub chosen_below : List ℕ → ℕ → ℕ → List ℕ
chosen_below bits room i = take room (filter (is_selected bits) (range_with_len 0 i))

filter_more : (bits : List ℕ) (i : ℕ) → filter (is_selected bits) (range_with_len 0 (i + 1)) ≡ filter (is_selected bits) (range_with_len 0 i) ++ cond (is_selected bits i) (i ∷ []) []
filter_more bits i =
    let grown : range_with_len 0 (i + 1) ≡ range_with_len 0 i ++ i ∷ [] = range_next i in
    ap (filter (is_selected bits)) grown ∙ filter-append (is_selected bits) (range_with_len 0 i) (i ∷ [])

take_more_room : (room : ℕ) (xs : List ℕ) (x : ℕ) → length (take room xs) < room → take room (xs ++ x ∷ []) ≡ take room xs ++ x ∷ []
take_more_room room xs x lt =
    let short : length xs < room = omega (arith, length-take room xs) in
    take_all room (xs ++ x ∷ []) (omega (arith, length-append xs (x ∷ []))) ∙ ap (λ (ys : List ℕ). ys ++ x ∷ []) (sym (take_all room xs (omega arith)))

take_no_room : (room : ℕ) (xs ys : List ℕ) → room ≤ length (take room xs) → take room (xs ++ ys) ≡ take room xs
take_no_room room xs ys le = take-append-le room xs ys (omega (arith, length-take room xs))

-- what a turn of the loop leaves, in each of its cases
pub takes_one : (bits : List ℕ) (room i size : ℕ) (chosen : List ℕ) → chosen ≡ chosen_below bits room i → size ≡ length chosen → size < room → is_selected bits i ≡ true → chosen ++ i ∷ [] ≡ chosen_below bits room (i + 1)
takes_one bits room i size chosen is len lt test =
    let short : length (chosen_below bits room i) < room = omega (arith, ap length is, len, lt) in
    rw (filter_more bits i, test, is) (sym (take_more_room room (filter (is_selected bits) (range_with_len 0 i)) i short))

pub takes_none : (bits : List ℕ) (room i : ℕ) (chosen : List ℕ) → chosen ≡ chosen_below bits room i → is_selected bits i ≡ false → chosen ≡ chosen_below bits room (i + 1)
takes_none bits room i chosen is test = rw (filter_more bits i, test) (is ∙ ap (take room) (sym (append-nil (filter (is_selected bits) (range_with_len 0 i)))))

pub takes_no_more : (bits : List ℕ) (room i size : ℕ) (chosen : List ℕ) → chosen ≡ chosen_below bits room i → size ≡ length chosen → room ≤ size → chosen ≡ chosen_below bits room (i + 1)
takes_no_more bits room i size chosen is len le =
    let full : room ≤ length (chosen_below bits room i) = omega (arith, ap length is, len, le) in
    rw (filter_more bits i) (is ∙ sym (take_no_room room (filter (is_selected bits) (range_with_len 0 i)) (cond (is_selected bits i) (i ∷ []) []) full))

-- ---- entries one after the other

-- what stands past the end
abbrev pub no_selection : Selection
no_selection = record { algorithm = Sha256; bits = [] }

entries_step : (prefix : List ℕ) (room : ℕ) (selection : Selection) (others : List Selection) (mine : List ℕ) → mine ≡ take room (selected selection.bits)
    → prefix ++ flat_map entry_read (chosen_of room (selection ∷ others)) ≡ (prefix ++ entry_read (selection.algorithm, mine)) ++ flat_map entry_read (chosen_of (room - length mine) others)
unfolding chosen_of
entries_step prefix room selection others mine e =
    rw (← e, flat_map-cons entry_read (selection.algorithm, mine) (chosen_of (room - length mine) others)) (sym (append_assoc prefix (entry_read (selection.algorithm, mine)) (flat_map entry_read (chosen_of (room - length mine) others))))

registers_step : (prefix : List Register) (room : ℕ) (selection : Selection) (others : List Selection) (mine : List ℕ) → mine ≡ take room (selected selection.bits)
    → prefix ++ all_registers (chosen_of room (selection ∷ others)) ≡ (prefix ++ registers_of selection.algorithm mine) ++ all_registers (chosen_of (room - length mine) others)
unfolding chosen_of
registers_step prefix room selection others mine e =
    rw (← e, flat_map-cons (λ (c : Algorithm × List ℕ). registers_of c.0 c.1) (selection.algorithm, mine) (chosen_of (room - length mine) others)) (sym (append_assoc prefix (registers_of selection.algorithm mine) (all_registers (chosen_of (room - length mine) others))))

-- below 24 these are all
pub all_chosen : (bits : List ℕ) (room i : ℕ) → i ≡ 24 → chosen_below bits room i ≡ take room (selected bits)
unfolding selected
all_chosen bits room i e = ap (λ (k : ℕ). take room (filter (is_selected bits) (range_with_len 0 k))) e

-- with no selection left nothing is left
pub none_left : (prefix : List Register) (room i : ℕ) (selections : List Selection) → length selections ≤ i → prefix ++ all_registers (chosen_of room (drop i selections)) ≡ prefix
unfolding chosen_of
none_left prefix room i selections le = rw (drop_all i selections le) (append-nil prefix)

pub no_entry_left : (prefix : List ℕ) (room i : ℕ) (selections : List Selection) → length selections ≤ i → prefix ++ flat_map entry_read (chosen_of room (drop i selections)) ≡ prefix
unfolding chosen_of
no_entry_left prefix room i selections le = rw (drop_all i selections le) (append-nil prefix)

-- the selection at a place, and those after it
drop_step : (selections : List Selection) (i : ℕ) (d : Selection) → i < length selections → drop i selections ≡ get_or selections i d ∷ drop (i + 1) selections
drop_step selections i d lt = let e : i + 1 ≡ suc i = omega arith in rw (e, drop-cons selections i d) refl

pub length-registers_of : (a : Algorithm) (indices : List ℕ) → length (registers_of a indices) ≡ length indices
length-registers_of a [] = refl
length-registers_of a (i ∷ indices) = ap suc (length-registers_of a indices)

room_left : (all all' : List Register) (a : Algorithm) (mine : List ℕ) → all' ≡ all ++ registers_of a mine → 8 - length all' ≡ (8 - length all) - length mine
room_left all all' a mine e = omega (arith, ap length e, length-append all (registers_of a mine), length-registers_of a mine)

pub entries_turn : (prefix : List ℕ) (all all' : List Register) (mine : List ℕ) (selections : List Selection) (i : ℕ) (d : Selection) → i < length selections → mine ≡ take (8 - length all) (selected (get_or selections i d).bits) → all' ≡ all ++ registers_of (get_or selections i d).algorithm mine
    → (prefix ++ entry_read ((get_or selections i d).algorithm, mine)) ++ flat_map entry_read (chosen_of (8 - length all') (drop (i + 1) selections)) ≡ prefix ++ flat_map entry_read (chosen_of (8 - length all) (drop i selections))
entries_turn prefix all all' mine selections i d lt is grown =
    rw (drop_step selections i d lt, room_left all all' (get_or selections i d).algorithm mine grown) (sym (entries_step prefix (8 - length all) (get_or selections i d) (drop (i + 1) selections) mine is))

pub registers_turn : (all all' : List Register) (mine : List ℕ) (selections : List Selection) (i : ℕ) (d : Selection) → i < length selections → mine ≡ take (8 - length all) (selected (get_or selections i d).bits) → all' ≡ all ++ registers_of (get_or selections i d).algorithm mine
    → all' ++ all_registers (chosen_of (8 - length all') (drop (i + 1) selections)) ≡ all ++ all_registers (chosen_of (8 - length all) (drop i selections))
registers_turn all all' mine selections i d lt is grown =
    rw (drop_step selections i d lt, room_left all all' (get_or selections i d).algorithm mine grown, grown) (sym (registers_step all (8 - length all) (get_or selections i d) (drop (i + 1) selections) mine is))

-- registers of a bank, behind others that are there
pub there_more : (all : List Register) (a : Algorithm) (indices : List ℕ) → AreThere all → All (λ i. i < 24) indices → AreThere (all ++ registers_of a indices)
there_more all a indices h k =
    All-append (λ (r : Register). r.index < 24) all (registers_of a indices) h
    (All-map (λ (r : Register). r.index < 24) (λ (i : ℕ). record { algorithm = a; index = i }) indices k)

pub below_more : (indices : List ℕ) (i : ℕ) → All (λ k. k < 24) indices → i < 24 → All (λ k. k < 24) (indices ++ i ∷ [])
below_more indices i h lt = All-append (λ (k : ℕ). k < 24) indices (i ∷ []) h (All-cons (λ (k : ℕ). k < 24) i [] lt (All-nil (λ (k : ℕ). k < 24)))

-- ---- the same without counting the room that is left

-- the first of two lists, and of the second as many as are missing
take_both : {A : Type 0} (n : ℕ) (xs ys : List A) → take n xs ++ take (n - length (take n xs)) ys ≡ take n (xs ++ ys)
take_both n xs ys =
    elim (cases_lt n (length xs)) [
      | inl lt ↦
          let full : n - length (take n xs) ≡ 0 = omega (arith, length-take n xs, lt) in
          rw (full, take-append-le n xs ys (omega (arith, lt))) (append-nil (take n xs))
      | inr le ↦
          let both : length xs + (n - length xs) ≡ n = omega (arith, le) in
          rw (take_all n xs le) (sym (take-append-add xs ys (n - length xs)) ∙ ap (λ (k : ℕ). take k (xs ++ ys)) both)
    ]

pub first_read : (room : ℕ) (selections : List Selection) → all_registers (chosen_of room selections) ≡ take room (wanted_of selections)
unfolding chosen_of
first_read room [] = sym (take-nil room)
first_read room (selection ∷ others) =
    let a = selection.algorithm in
    let mine = take room (selected selection.bits) in
    let register : ℕ → Register = λ index. record { algorithm = a; index = index } in
    let prefix : registers_of a mine ≡ take room (registers_of a (selected selection.bits)) = sym (take-map register room (selected selection.bits)) in
    let left : room - length mine ≡ room - length (take room (registers_of a (selected selection.bits))) = ap (λ (n : ℕ). room - n) (sym (length-registers_of a mine) ∙ ap length prefix) in
    flat_map-cons (λ (c : Algorithm × List ℕ). registers_of c.0 c.1) (a, mine) (chosen_of (room - length mine) others)
    ∙ ap (λ (rs : List Register). registers_of a mine ++ rs) (first_read (room - length mine) others)
    ∙ rw (prefix, left) (take_both room (registers_of a (selected selection.bits)) (wanted_of others))
    ∙ ap (take room) (sym (flat_map-cons (λ (s : Selection). registers_of s.algorithm (selected s.bits)) selection others))
