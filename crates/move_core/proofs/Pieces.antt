-- Pieces that came over wires.
use Rattle.std.proofs.Common.{◌≡◌, ℕ, List, [], ◌∷◌, ◌++◌, length, take, drop, Ok, Err, refl, sym, ap, ◌∙◌}
use Rattle.std.specs.Prelude.{Result}
use Rattle.std.proofs.lemmas.List.{take_at}
use Rattle.state_blobs.specs.declared.types.Piece.{Piece}
use Rattle.ctrl_client.specs.declared.fault.ClientFault.{ClientFault}
use Rattle.vt_base.specs.declared.types.Kind.TheVariants.{Permanent, Volatile, Saved}
use Rattle.move_core.specs.Requests.{WiresView, fetched, GetsTotal, GetsTotals}

-- the bytes that were cut off are those in front of what was lent
pub fetched_prefix : (into old bytes : List ℕ) (p : Piece) (answer : Result Piece ClientFault) → length into ≡ length old
    → bytes ≡ take p.length (take (length old) (into ++ drop (length into) old)) → answer ≡ Ok p
    → Ok (record { total = p.total; bytes = bytes }) ≡ fetched into answer
fetched_prefix into old bytes p answer size prefix is =
    ap (λ (list : List ℕ). Ok (record { total = p.total; bytes = list })) (prefix ∙ ap (take p.length) (take_at into (drop (length into) old) (length old) size))
    ∙ sym (ap (fetched into) is)

-- ---- the lengths of the three blobs

pub all_totals : {Schedule : Type 0} (w0 w1 w2 w3 : WiresView Schedule) (p v z : ℕ) → GetsTotal Permanent w0 w1 (Ok p) → GetsTotal Volatile w1 w2 (Ok v) → GetsTotal Saved w2 w3 (Ok z)
    → GetsTotals (Permanent ∷ Volatile ∷ Saved ∷ []) w0 w3 (Ok (p ∷ v ∷ z ∷ []))
all_totals w0 w1 w2 w3 p v z first second third =
    (w1, Ok p, first, (Ok (v ∷ z ∷ []), (w2, Ok v, second, (Ok (z ∷ []), (w3, Ok z, third, (Ok [], (refl, refl), refl)), refl)), refl))

pub first_fault : {Schedule : Type 0} (w0 w1 : WiresView Schedule) (fault : ClientFault) → GetsTotal Permanent w0 w1 (Err fault)
    → GetsTotals (Permanent ∷ Volatile ∷ Saved ∷ []) w0 w1 (Err fault)
first_fault w0 w1 fault first = (w1, Err fault, first, (refl, refl))

pub second_fault : {Schedule : Type 0} (w0 w1 w2 : WiresView Schedule) (p : ℕ) (fault : ClientFault) → GetsTotal Permanent w0 w1 (Ok p) → GetsTotal Volatile w1 w2 (Err fault)
    → GetsTotals (Permanent ∷ Volatile ∷ Saved ∷ []) w0 w2 (Err fault)
second_fault w0 w1 w2 p fault first second = (w1, Ok p, first, (Err fault, (w2, Err fault, second, (refl, refl)), refl))

pub third_fault : {Schedule : Type 0} (w0 w1 w2 w3 : WiresView Schedule) (p v : ℕ) (fault : ClientFault) → GetsTotal Permanent w0 w1 (Ok p) → GetsTotal Volatile w1 w2 (Ok v) → GetsTotal Saved w2 w3 (Err fault)
    → GetsTotals (Permanent ∷ Volatile ∷ Saved ∷ []) w0 w3 (Err fault)
third_fault w0 w1 w2 w3 p v fault first second third =
    (w1, Ok p, first, (Err fault, (w2, Ok v, second, (Err fault, (w3, Err fault, third, (refl, refl)), refl)), refl))
