-- Entries of the code are written as those of the lists.
use Rattle.std.proofs.Common.{◌≡◌, ℕ, zero, suc, ◌≤◌, ◌++◌, min, cond, ltb, List, [], ◌∷◌, length, take, refl, sym, ap, ◌∙◌, get_or, arith, inl, inr}
use Rattle.std.specs.Prelude.{IsTrue}
use Rattle.std.specs.List.{flat_map}
use Rattle.std.specs.Int.{w32, to_be_bytes}
use Rattle.std.proofs.lemmas.Bool.{cases_lt}
use Rattle.std.proofs.lemmas.List.{take_all, length-map}
use Rattle.tpm_core.specs.Capabilities.{CapabilityEntry, from_key, page, has_more, capability_body}
use Rattle.tpm_more.specs.declared.entry.Entry.{Entry}
use Rattle.tpm_more.specs.declared.entry.Entry.TheVariants.{Algorithm}
use Rattle.tpm_more.specs.Entries.{entry_of, written, entries_of, is_rising}
use Rattle.tpm_more.proofs.Rising.{from_here}

bytes_of_entries : (entries : List Entry) → flat_map written entries ≡ flat_map (λ e. e.bytes) (entries_of entries)
bytes_of_entries [] = refl
bytes_of_entries (e ∷ entries) = ap (λ bytes. written e ++ bytes) (bytes_of_entries entries)

-- from the first entry on, where it is at the key
pub found_here : (property k : ℕ) (entries : List Entry) → IsTrue (is_rising (entries_of entries)) → 1 ≤ length entries → k ≡ (entry_of (get_or entries 0 (Algorithm 0))).key → property ≤ k → entries_of entries ≡ from_key property (entries_of entries)
found_here property k [] h some is le = absurd (omega arith)
found_here property k (e ∷ entries) h some is le = sym (from_here property (entry_of e) (entries_of entries) h (omega (arith, is, le)))

entries-take : (n : ℕ) (entries : List Entry) → entries_of (take n entries) ≡ take n (entries_of entries)
entries-take zero entries = refl
entries-take (suc n) [] = refl
entries-take (suc n) (e ∷ entries) = ap (λ (es : List CapabilityEntry). entry_of e ∷ es) (entries-take n entries)

-- as many as there are, at most so many
pub given_is : (room n : ℕ) (found : List Entry) (rest : List CapabilityEntry) → entries_of found ≡ rest → n ≡ min room (length found) → entries_of (take n found) ≡ take room rest
given_is room n found rest is size =
    elim (cases_lt room (length found)) [
      | inl lt ↦
          let same : n ≡ room = omega (arith, size, lt) in
          entries-take n found ∙ ap (λ (m : ℕ). take m (entries_of found)) same ∙ ap (take room) is
      | inr le ↦
          let all : length found ≤ n = omega (arith, size, le) in
          ap entries_of (take_all n found all) ∙ sym (take_all room (entries_of found) (omega (arith, length-map found entry_of, le))) ∙ ap (take room) is
    ]

pub page_body : (capability property room flag : ℕ) (given : List Entry) (list : List CapabilityEntry) → flag ≡ cond (has_more property room list) 1 0 → entries_of given ≡ page property room list
    → flag ∷ to_be_bytes w32 capability ++ to_be_bytes w32 (length given) ++ flat_map written given ≡ capability_body capability property room list
unfolding capability_body
page_body capability property room flag given list more is =
    ap (λ (f : ℕ). f ∷ to_be_bytes w32 capability ++ to_be_bytes w32 (length given) ++ flat_map written given) more
    ∙ ap (λ (n : ℕ). cond (has_more property room list) 1 0 ∷ to_be_bytes w32 capability ++ to_be_bytes w32 n ++ flat_map written given) (sym (length-map given entry_of))
    ∙ ap (λ (bytes : List ℕ). cond (has_more property room list) 1 0 ∷ to_be_bytes w32 capability ++ to_be_bytes w32 (length (entries_of given)) ++ bytes) (bytes_of_entries given)
    ∙ ap (λ (es : List CapabilityEntry). cond (has_more property room list) 1 0 ∷ to_be_bytes w32 capability ++ to_be_bytes w32 (length es) ++ flat_map (λ e. e.bytes) es) is

-- whether more entries were found than are given
pub more_is : (property room flag : ℕ) (list : List CapabilityEntry) (found : List Entry) → entries_of found ≡ from_key property list → flag ≡ cond (ltb room (length found)) 1 0 → flag ≡ cond (has_more property room list) 1 0
more_is property room flag list found is e = e ∙ ap (λ (m : ℕ). cond (ltb room m) 1 0) (sym (length-map found entry_of) ∙ ap length is)
