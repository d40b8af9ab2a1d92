-- What a write that a crash cuts short leaves of the entry in force.
use Rattle.std.proofs.Common.{◌≡◌, ◌⊎◌, inl, inr, ◌+◌, ◌==◌, ℕ, Bool, true, false, Option, Some, None, [], ◌∷◌, refl, sym, ◌∙◌, ap, subst, arith}
use Rattle.std.proofs.lemmas.Bool.Decides.{nat_tests}
use Rattle.own_store.specs.Disk.{Image, bytes_of, Torn}
use Rattle.own_store.specs.Body.{stored_in}
use Rattle.own_store.specs.declared.body.Stored.{Stored}
use Rattle.own_store.specs.Slots.{place, other, is_open, body, behind_gate, stored, newer, in_force}
use Rattle.own_store.specs.Ledger.{IsNewer}
use Rattle.own_store.specs.declared.slot.Slot.{Slot}
use Rattle.own_store.specs.declared.slot.Slot.TheVariants.{First, Second}
use Rattle.own_store.proofs.Images.{bytes_before, bytes_behind, byte_written}

-- a gate and what stands behind it make the entry
pub closed_stored : (c : Image) (s : Slot) → is_open c s ≡ false → stored c s ≡ None
unfolding stored
closed_stored c s shut = rw shut refl

pub open_stored : (c : Image) (s : Slot) → is_open c s ≡ true → stored c s ≡ stored_in (body c s)
unfolding stored
open_stored c s is = rw is refl

-- the gate of one slot is written
pub gate_other : (old c : Image) (s : Slot) → Torn (place s) 1 old c → stored c (other s) ≡ stored old (other s)
unfolding stored body
gate_other old c First torn =
    let gate = torn.behind 8192 (omega arith) in
    let text = bytes_behind 0 1 old c 8193 8191 torn (omega arith) in
    rw (gate, text) refl
gate_other old c Second torn =
    let gate = torn.before 0 (omega arith) in
    let text = bytes_before 8192 1 old c 1 8191 torn (omega arith) in
    rw (gate, text) refl

pub gate_other_open : (old c : Image) (s : Slot) → Torn (place s) 1 old c → is_open c (other s) ≡ is_open old (other s)
gate_other_open old c First torn = ap (λ (n : ℕ). n == 0xA5) (torn.behind 8192 (omega arith))
gate_other_open old c Second torn = ap (λ (n : ℕ). n == 0xA5) (torn.before 0 (omega arith))

pub gate_body : (old c : Image) (s : Slot) → Torn (place s) 1 old c → body c s ≡ body old s
unfolding body
gate_body old c First torn = bytes_behind 0 1 old c 1 8191 torn (omega arith)
gate_body old c Second torn = bytes_behind 8192 1 old c 8193 8191 torn (omega arith)

-- the body of one slot is written
pub body_other : (old c : Image) (s : Slot) → Torn (place s + 1) 8191 old c → stored c (other s) ≡ stored old (other s)
unfolding stored body
body_other old c First torn =
    let gate = torn.behind 8192 (omega arith) in
    let text = bytes_behind 1 8191 old c 8193 8191 torn (omega arith) in
    rw (gate, text) refl
body_other old c Second torn =
    let gate = torn.before 0 (omega arith) in
    let text = bytes_before 8193 8191 old c 1 8191 torn (omega arith) in
    rw (gate, text) refl

pub body_other_open : (old c : Image) (s : Slot) → Torn (place s + 1) 8191 old c → is_open c (other s) ≡ is_open old (other s)
body_other_open old c First torn = ap (λ (n : ℕ). n == 0xA5) (torn.behind 8192 (omega arith))
body_other_open old c Second torn = ap (λ (n : ℕ). n == 0xA5) (torn.before 0 (omega arith))

pub body_gate : (old c : Image) (s : Slot) → Torn (place s + 1) 8191 old c → is_open c s ≡ is_open old s
body_gate old c First torn = ap (λ (n : ℕ). n == 0xA5) (torn.before 0 (omega arith))
body_gate old c Second torn = ap (λ (n : ℕ). n == 0xA5) (torn.before 8192 (omega arith))

-- the same two entries, the same in force
pub same_force : (a b : Image) (s : Slot) → stored a s ≡ stored b s → stored a (other s) ≡ stored b (other s) → in_force a ≡ in_force b
unfolding in_force
same_force a b First this that = λ i. newer (this i) (that i)
same_force a b Second this that = λ i. newer (that i) (this i)

none_newer : (o : Option Stored) → newer o None ≡ o
none_newer None = refl
none_newer (Some x) = refl

-- one entry alone
pub alone : (a : Image) (s : Slot) → stored a s ≡ None → in_force a ≡ stored a (other s)
unfolding in_force
alone a First none = λ i. newer (none i) (stored a Second)
alone a Second none = (λ i. newer (stored a First) (none i)) ∙ none_newer (stored a First)

newer_second : (o next : Option Stored) → IsNewer next o → newer o next ≡ next
newer_second o None newer_version = absurd newer_version
newer_second None (Some next) newer_version = refl
newer_second (Some old) (Some next) newer_version = grind (arith, nat_tests)

newer_first : (o next : Option Stored) → IsNewer next o → newer next o ≡ next
newer_first o None newer_version = absurd newer_version
newer_first None (Some next) newer_version = refl
newer_first (Some old) (Some next) newer_version = grind (arith, nat_tests)

-- a version above that of the other slot
pub newest : (a : Image) (s : Slot) (next : Option Stored) → stored a s ≡ next → IsNewer next (stored a (other s)) → in_force a ≡ next
unfolding in_force
newest a First next is newer_version = (λ i. newer (is i) (stored a Second)) ∙ newer_first (stored a Second) next newer_version
newest a Second next is newer_version = (λ i. newer (stored a First) (is i)) ∙ newer_second (stored a First) next newer_version

pub open_or_not : (b : Bool) → (b ≡ true) ⊎ (b ≡ false)
open_or_not true = inl refl
open_or_not false = inr refl

-- The three writes, each cut short by a crash.
pub closing : (old : Image) (s : Slot) → is_open old s ≡ true → in_force old ≡ stored old (other s) → (c : Image) → Torn (place s) 1 old c → in_force c ≡ in_force old
closing old s was unused c torn = elim (open_or_not (is_open c s)) [
  | inl is ↦ same_force c old s (open_stored c s is ∙ ap stored_in (gate_body old c s torn) ∙ sym (open_stored old s was)) (gate_other old c s torn)
  | inr shut ↦ alone c s (closed_stored c s shut) ∙ gate_other old c s torn ∙ sym unused
]

pub writing : (old : Image) (s : Slot) → is_open old s ≡ false → (c : Image) → Torn (place s + 1) 8191 old c → in_force c ≡ in_force old
writing old s shut c torn = same_force c old s (closed_stored c s (body_gate old c s torn ∙ shut) ∙ sym (closed_stored old s shut)) (body_other old c s torn)

pub opened : (old : Image) (s : Slot) → is_open old s ≡ false → IsNewer (behind_gate old s) (in_force old) → (c : Image) → Torn (place s) 1 old c → is_open c s ≡ true → in_force c ≡ behind_gate old s
opened old s shut newer_version c torn now =
    newest c s (behind_gate old s) (open_stored c s now ∙ ap stored_in (gate_body old c s torn))
    (subst (IsNewer (behind_gate old s)) (alone old s (closed_stored old s shut) ∙ sym (gate_other old c s torn)) newer_version)

-- the entry in force is that slot's
pub opened_stored : (old : Image) (s : Slot) → is_open old s ≡ false → IsNewer (behind_gate old s) (in_force old) → (c : Image) → Torn (place s) 1 old c → is_open c s ≡ true → in_force c ≡ stored c s
opened_stored old s shut newer_version c torn now = opened old s shut newer_version c torn now ∙ sym (open_stored c s now ∙ ap stored_in (gate_body old c s torn))

pub opening : (old : Image) (s : Slot) → is_open old s ≡ false → IsNewer (behind_gate old s) (in_force old) → (c : Image) → Torn (place s) 1 old c → (in_force c ≡ in_force old) ⊎ (in_force c ≡ behind_gate old s)
opening old s shut newer_version c torn = elim (open_or_not (is_open c s)) [
  | inl now ↦ inr (opened old s shut newer_version c torn now)
  | inr still ↦ inl (same_force c old s (closed_stored c s still ∙ sym (closed_stored old s shut)) (gate_other old c s torn))
]

-- a byte written at a gate
pub gate_written : (c : Image) (s : Slot) (at byte : ℕ) → at ≡ place s → bytes_of c at 1 ≡ byte ∷ [] → is_open c s ≡ (byte == 0xA5)
gate_written c s at byte is range = ap (λ (n : ℕ). n == 0xA5) (ap c (sym is) ∙ byte_written c at byte range)

pub closed_gate : (c : Image) (s : Slot) (at : ℕ) → at ≡ place s → bytes_of c at 1 ≡ 0 ∷ [] → is_open c s ≡ false
closed_gate c s at is range = gate_written c s at 0 is range

pub opened_gate : (c : Image) (s : Slot) (at : ℕ) → at ≡ place s → bytes_of c at 1 ≡ 0xA5 ∷ [] → is_open c s ≡ true
opened_gate c s at is range = gate_written c s at 0xA5 is range

-- a slot with an entry has an open gate
pub stored_open : (c : Image) (s : Slot) (x : Stored) → stored c s ≡ Some x → is_open c s ≡ true
stored_open c s x is = elim (open_or_not (is_open c s)) [ inl now ↦ now | inr shut ↦ let none = closed_stored c s shut in absurd (cc) ]

-- with both gates closed nothing is in force
pub empty_force : (c : Image) → is_open c First ≡ false → is_open c Second ≡ false → in_force c ≡ None
empty_force c first second = alone c First (closed_stored c First first) ∙ closed_stored c Second second
