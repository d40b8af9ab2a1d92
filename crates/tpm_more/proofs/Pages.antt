-- Pages that are asked for one after the other are the whole list.
use Rattle.std.proofs.Common.{◌≡◌, ℕ, zero, suc, ◌+◌, ◌-◌, ◌≤◌, ◌<◌, Bool, cond, List, [], ◌∷◌, ◌++◌, length, take, drop, Option, Some, refl, ap, subst, ◌∙◌, arith, inl, inr}
use Rattle.std.specs.Prelude.{IfSome, IsTrue, All}
use Rattle.std.specs.List.{AllByRecursion, flat_map}
use Rattle.std.proofs.lemmas.Bool.{ltb-true, ltb-false, cases_Bool}
use Rattle.std.proofs.lemmas.List.{append-nil, length-drop, take_all, take-append-drop}
use Rattle.std.proofs.lemmas.List.Elements.{recursion_from_All}
use Rattle.tpm_core.specs.declared.algorithm.Banks.{Banks}
use Rattle.tpm_core.specs.declared.algorithm.Banks.TheVariants.{One, Two}
use Rattle.tpm_core.specs.Capabilities.{CapabilityEntry, algorithms, commands, bank_selections, properties, capability_list, from_key, page, has_more, last_key, pages}
use Rattle.tpm_more.specs.Entries.{is_rising}
use Rattle.tpm_more.proofs.Rising.{each_list, lists_rise, behind_page}

-- the entries of pages, one after the other
abbrev joined : List (List CapabilityEntry) → List CapabilityEntry
joined ps = flat_map (λ p. p) ps

-- each count is at least one
abbrev AreCounts : List ℕ → Type 0
AreCounts counts = AllByRecursion (λ count. 1 ≤ count) counts

-- the pages after one that has more behind it
abbrev after_page : ℕ → ℕ → List ℕ → List CapabilityEntry → List (List CapabilityEntry)
after_page property count counts entries = pages (last_key (page property count entries) + 1) counts entries

one_page : (property count : ℕ) (counts : List ℕ) (entries : List CapabilityEntry)
    → pages property (count ∷ counts) entries ≡ page property count entries ∷ cond (has_more property count entries) (after_page property count counts entries) []
unfolding pages
one_page property count counts entries = refl

no_page : (property : ℕ) (entries : List CapabilityEntry) → pages property [] entries ≡ []
unfolding pages
no_page property entries = refl

-- what is left behind a page is what is asked for next
left : (property count : ℕ) (entries : List CapabilityEntry) → IsTrue (is_rising entries) → 1 ≤ count → count < length (from_key property entries)
    → from_key (last_key (page property count entries) + 1) entries ≡ drop count (from_key property entries)
left property zero entries h one lt = absurd (omega arith)
left property (suc n) entries h one lt = behind_page property n entries h (omega arith)

no_entry : (entries : List CapabilityEntry) → length entries ≤ 0 → [] ≡ entries
no_entry [] le = refl
no_entry (e ∷ entries) le = absurd (omega arith)

pages_join : (property : ℕ) (counts : List ℕ) (entries : List CapabilityEntry) → IsTrue (is_rising entries) → AreCounts counts → length (from_key property entries) ≤ length counts → joined (pages property counts entries) ≡ from_key property entries
pages_join property [] entries h each enough = ap joined (no_page property entries) ∙ no_entry (from_key property entries) enough
pages_join property (count ∷ counts) entries h each enough =
    let rest = from_key property entries in
    ap joined (one_page property count counts entries)
    ∙ elim (cases_Bool (has_more property count entries)) [
      | inl more ↦
          let lt : count < length rest = ltb-true count (length rest) more in
          let next : from_key (last_key (page property count entries) + 1) entries ≡ drop count rest = left property count entries h each.0 lt in
          let fewer : length (from_key (last_key (page property count entries) + 1) entries) ≤ length counts = omega (arith, ap length next, length-drop count rest, each.0, enough) in
          let others = pages_join (last_key (page property count entries) + 1) counts entries h each.1 fewer in
          ap (λ (b : Bool). take count rest ++ joined (cond b (after_page property count counts entries) [])) more
          ∙ ap (λ (es : List CapabilityEntry). take count rest ++ es) (others ∙ next) ∙ take-append-drop count rest
      | inr none ↦
          ap (λ (b : Bool). take count rest ++ joined (cond b (after_page property count counts entries) [])) none
          ∙ append-nil (take count rest) ∙ take_all count rest (ltb-false count (length rest) none)
    ]

few_pages : (property : ℕ) (counts : List ℕ) (entries : List CapabilityEntry) → IsTrue (is_rising entries) → AreCounts counts → 1 ≤ length (from_key property entries) → length (pages property counts entries) ≤ length (from_key property entries)
few_pages property [] entries h each some = omega (arith, ap length (no_page property entries))
few_pages property (count ∷ counts) entries h each some =
    let rest = from_key property entries in
    let first : length (pages property (count ∷ counts) entries) ≡ suc (length (cond (has_more property count entries) (after_page property count counts entries) [])) = ap length (one_page property count counts entries) in
    elim (cases_Bool (has_more property count entries)) [
      | inl more ↦
          let lt : count < length rest = ltb-true count (length rest) more in
          let next : from_key (last_key (page property count entries) + 1) entries ≡ drop count rest = left property count entries h each.0 lt in
          let size : length (from_key (last_key (page property count entries) + 1) entries) ≡ length rest - count = ap length next ∙ length-drop count rest in
          let others : length (after_page property count counts entries) ≤ length (from_key (last_key (page property count entries) + 1) entries) = few_pages (last_key (page property count entries) + 1) counts entries h each.1 (omega (arith, size, lt)) in
          omega (arith, first, ap (λ (b : Bool). length (cond b (after_page property count counts entries) [])) more, others, size, lt, each.0)
      | inr none ↦ omega (arith, first, ap (λ (b : Bool). length (cond b (after_page property count counts entries) [])) none, some)
    ]

-- ---- of the lists of capabilities

-- from key 0 on each entry comes, and there is one
abbrev IsFromZero : List CapabilityEntry → Type 0
IsFromZero entries = (from_key 0 entries ≡ entries) × (1 ≤ length entries)

algorithms_from : (banks : Banks) → IsFromZero (algorithms banks)
unfolding algorithms from_key
algorithms_from One = (refl, omega arith)
algorithms_from Two = (refl, omega arith)

commands_from : IsFromZero commands
unfolding commands from_key
commands_from = (refl, omega arith)

selections_from : (banks : Banks) → IsFromZero (bank_selections banks)
unfolding bank_selections from_key
selections_from One = (refl, omega arith)
selections_from Two = (refl, omega arith)

properties_from : IsFromZero properties
unfolding properties from_key
properties_from = (refl, omega arith)

-- what holds of the list that a capability has
of_list : (P : List CapabilityEntry → Type 0) (o : Option (List CapabilityEntry)) (entries : List CapabilityEntry) → o ≡ Some entries → IfSome o P → P entries
of_list P o entries is h = let Q : Option (List CapabilityEntry) → Type 0 = λ x. IfSome x P in subst Q is h

rises : (banks : Banks) (capability : ℕ) (entries : List CapabilityEntry) → capability_list banks capability ≡ Some entries → IsTrue (is_rising entries)
rises banks capability entries is = of_list (λ es. IsTrue (is_rising es)) (capability_list banks capability) entries is (lists_rise banks capability)

from_zero : (banks : Banks) (capability : ℕ) (entries : List CapabilityEntry) → capability_list banks capability ≡ Some entries → IsFromZero entries
from_zero banks capability entries is =
    of_list IsFromZero (capability_list banks capability) entries is (each_list IsFromZero banks capability (algorithms_from banks) commands_from (selections_from banks) properties_from)

pub whole : (banks : Banks) (capability : ℕ) (entries : List CapabilityEntry) (counts : List ℕ) → capability_list banks capability ≡ Some entries → All (λ count. 1 ≤ count) counts → length entries ≤ length counts → flat_map (λ p. p) (pages 0 counts entries) ≡ entries
whole banks capability entries counts is each enough =
    let all = from_zero banks capability entries is in
    pages_join 0 counts entries (rises banks capability entries is) (recursion_from_All (λ count. 1 ≤ count) counts each) (omega (arith, ap length all.0, enough)) ∙ all.0

pub few : (banks : Banks) (capability : ℕ) (entries : List CapabilityEntry) (counts : List ℕ) → capability_list banks capability ≡ Some entries → All (λ count. 1 ≤ count) counts → length (pages 0 counts entries) ≤ length entries
few banks capability entries counts is each =
    let all = from_zero banks capability entries is in
    omega (arith, few_pages 0 counts entries (rises banks capability entries is) (recursion_from_All (λ count. 1 ≤ count) counts each) (omega (arith, ap length all.0, all.1)), ap length all.0)
