-- The keys of each list rise, so the entries from a key on are the end of the list.
use Rattle.std.proofs.Common.{◌≡◌, ℕ, zero, suc, ◌+◌, ◌≤◌, ◌<◌, Bool, true, false, cond, eqb, ltb, leb, List, [], ◌∷◌, length, take, drop, Option, Some, None, refl, sym, ap, subst, ◌∙◌, arith, inl, inr}
use Rattle.std.specs.Prelude.{IfSome, IsTrue}
use Rattle.std.specs.List.{AllByRecursion}
use Rattle.std.proofs.lemmas.Bool.{and_parts, ltb-true, leb-true, le-leb, lt-leb, cases_lt}
use Rattle.tpm_core.specs.declared.algorithm.Banks.{Banks}
use Rattle.tpm_core.specs.declared.algorithm.Banks.TheVariants.{One, Two}
use Rattle.tpm_core.specs.Numbers.{cap_algs, cap_commands, cap_pcrs, cap_tpm_properties}
use Rattle.tpm_core.specs.Capabilities.{CapabilityEntry, algorithms, commands, bank_selections, properties, capability_list, from_key, last_key}
use Rattle.tpm_more.specs.Entries.{is_rising}

-- ---- each list

pub algorithms_rise : (banks : Banks) → IsTrue (is_rising (algorithms banks))
unfolding algorithms
algorithms_rise One = refl
algorithms_rise Two = refl

pub commands_rise : IsTrue (is_rising commands)
unfolding commands
commands_rise = refl

pub selections_rise : (banks : Banks) → IsTrue (is_rising (bank_selections banks))
unfolding bank_selections
selections_rise One = refl
selections_rise Two = refl

pub properties_rise : IsTrue (is_rising properties)
unfolding properties
properties_rise = refl

if_some : {A : Type 0} (P : A → Type 0) (b : Bool) (x : A) (other : Option A) → P x → IfSome other P → IfSome (cond b (Some x) other) P
if_some P true x other p h = p
if_some P false x other p h = h

-- what holds of each of the four lists holds of any
pub each_list : (P : List CapabilityEntry → Type 0) (banks : Banks) (capability : ℕ) → P (algorithms banks) → P commands → P (bank_selections banks) → P properties → IfSome (capability_list banks capability) P
each_list P banks capability p q r s =
    if_some P (eqb capability cap_algs) (algorithms banks) _ p (
    if_some P (eqb capability cap_commands) commands _ q (
    if_some P (eqb capability cap_pcrs) (bank_selections banks) _ r (
    if_some P (eqb capability cap_tpm_properties) properties None s tt)))

pub lists_rise : (banks : Banks) (capability : ℕ) → IfSome (capability_list banks capability) (λ list. IsTrue (is_rising list))
lists_rise banks capability = each_list (λ list. IsTrue (is_rising list)) banks capability (algorithms_rise banks) commands_rise (selections_rise banks) properties_rise

-- ---- a rising list

pub rising-tail : (e : CapabilityEntry) (entries : List CapabilityEntry) → IsTrue (is_rising (e ∷ entries)) → IsTrue (is_rising entries)
rising-tail e [] h = refl
rising-tail e (f ∷ entries) h = (and_parts (ltb e.key f.key) (is_rising (f ∷ entries)) h).1

rising-next : (e f : CapabilityEntry) (entries : List CapabilityEntry) → IsTrue (is_rising (e ∷ f ∷ entries)) → e.key < f.key
rising-next e f entries h = ltb-true e.key f.key (and_parts (ltb e.key f.key) (is_rising (f ∷ entries)) h).0

-- an entry below the key is left out
pub below : (property : ℕ) (e : CapabilityEntry) (entries : List CapabilityEntry) → e.key < property → from_key property (e ∷ entries) ≡ from_key property entries
unfolding from_key
below property e entries lt = rw (lt-leb property e.key lt) refl

kept : (property : ℕ) (e : CapabilityEntry) (entries : List CapabilityEntry) → property ≤ e.key → from_key property (e ∷ entries) ≡ e ∷ from_key property entries
unfolding from_key
kept property e entries le = rw (le-leb property e.key le) refl

-- from an entry at the key on each is kept
pub from_here : (property : ℕ) (e : CapabilityEntry) (entries : List CapabilityEntry) → IsTrue (is_rising (e ∷ entries)) → property ≤ e.key → from_key property (e ∷ entries) ≡ e ∷ entries
unfolding from_key
from_here property e [] h le = kept property e [] le
from_here property e (f ∷ entries) h le =
    kept property e (f ∷ entries) le ∙ ap (λ (es : List CapabilityEntry). e ∷ es) (from_here property f entries (rising-tail e (f ∷ entries) h) (omega (arith, rising-next e f entries h, le)))

pub from_none : (property : ℕ) → from_key property [] ≡ []
unfolding from_key
from_none property = refl

-- ---- behind a page

above_kept : (property : ℕ) (e : CapabilityEntry) (entries : List CapabilityEntry) (b : Bool) → (b ≡ true → property ≤ e.key) → AllByRecursion (λ f. property ≤ f.key) entries → AllByRecursion (λ f. property ≤ f.key) (cond b (e ∷ entries) entries)
above_kept property e entries true le h = (le refl, h)
above_kept property e entries false le h = h

above : (property : ℕ) (entries : List CapabilityEntry) → AllByRecursion (λ e. property ≤ e.key) (from_key property entries)
unfolding from_key
above property [] = tt
above property (e ∷ entries) = above_kept property e (from_key property entries) (leb property e.key) (leb-true property e.key) (above property entries)

last_above : (property n : ℕ) (entries : List CapabilityEntry) → AllByRecursion (λ e. property ≤ e.key) entries → n < length entries → property ≤ last_key (take (suc n) entries)
last_above property n [] h lt = absurd (omega arith)
last_above property zero (e ∷ entries) h lt = h.0
last_above property (suc n) (e ∷ []) h lt = absurd (omega arith)
last_above property (suc n) (e ∷ f ∷ entries) h lt = last_above property n (f ∷ entries) h.1 (omega arith)

-- the keys of a rising list from its first entry on
rising-above : (e : CapabilityEntry) (entries : List CapabilityEntry) → IsTrue (is_rising (e ∷ entries)) → AllByRecursion (λ f. e.key ≤ f.key) (e ∷ entries)
rising-above e entries h = subst (λ (es : List CapabilityEntry). AllByRecursion (λ f. e.key ≤ f.key) es) (from_here e.key e entries h (omega arith)) (above e.key (e ∷ entries))

-- behind the last key of a prefix comes the rest
behind : (n : ℕ) (entries : List CapabilityEntry) → IsTrue (is_rising entries) → n < length entries → from_key (last_key (take (suc n) entries) + 1) entries ≡ drop (suc n) entries
behind n [] h lt = absurd (omega arith)
behind zero (e ∷ []) h lt = below (e.key + 1) e [] (omega arith) ∙ from_none (e.key + 1)
behind zero (e ∷ f ∷ entries) h lt = below (e.key + 1) e (f ∷ entries) (omega arith) ∙ from_here (e.key + 1) f entries (rising-tail e (f ∷ entries) h) (omega (arith, rising-next e f entries h))
behind (suc n) (e ∷ []) h lt = absurd (omega arith)
behind (suc n) (e ∷ f ∷ entries) h lt =
    let next = last_key (take (suc n) (f ∷ entries)) + 1 in
    let tail : IsTrue (is_rising (f ∷ entries)) = rising-tail e (f ∷ entries) h in
    let least : f.key ≤ last_key (take (suc n) (f ∷ entries)) = last_above f.key n (f ∷ entries) (rising-above f entries tail) (omega arith) in
    below next e (f ∷ entries) (omega (arith, least, rising-next e f entries h)) ∙ behind n (f ∷ entries) tail (omega arith)

-- the same of the entries from a key on
pub behind_page : (property n : ℕ) (entries : List CapabilityEntry) → IsTrue (is_rising entries) → n < length (from_key property entries)
    → from_key (last_key (take (suc n) (from_key property entries)) + 1) entries ≡ drop (suc n) (from_key property entries)
behind_page property n [] h lt = absurd (omega (arith, ap length (from_none property)))
behind_page property n (e ∷ entries) h lt =
    elim (cases_lt e.key property) [
      | inl less ↦
          let rest : from_key property (e ∷ entries) ≡ from_key property entries = below property e entries less in
          let shorter : n < length (from_key property entries) = omega (arith, lt, ap length rest) in
          let next = last_key (take (suc n) (from_key property entries)) + 1 in
          let least : property ≤ last_key (take (suc n) (from_key property entries)) = last_above property n (from_key property entries) (above property entries) shorter in
          subst (λ (es : List CapabilityEntry). from_key (last_key (take (suc n) es) + 1) (e ∷ entries) ≡ drop (suc n) es) (sym rest)
          (below next e entries (omega (arith, least, less)) ∙ behind_page property n entries (rising-tail e entries h) shorter)
      | inr le ↦
          let rest : from_key property (e ∷ entries) ≡ e ∷ entries = from_here property e entries h le in
          subst (λ (es : List CapabilityEntry). from_key (last_key (take (suc n) es) + 1) (e ∷ entries) ≡ drop (suc n) es) (sym rest)
          (behind n (e ∷ entries) h (omega (arith, lt, ap length rest)))
    ]
