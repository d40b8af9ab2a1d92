-- One more call joins a record.
use Rattle.std.proofs.Common.{◌≡◌, ℕ, ◌+◌, ◌≤◌, List, [], ◌∷◌, ◌++◌, length, take, drop, refl, ◌∙◌, ap, arith, length-drop}
use Rattle.std.proofs.lemmas.List.{take-append-le, drop-append-le, take_all}
use Rattle.own_store.specs.Steps.{Step}
use Rattle.own_store.specs.Steps.Step.{Wrote, Synced, Lost, Nothing}
use Rattle.own_store.specs.Logged.{steps_of, written_length, bare, IsBare}
use Rattle.own_store.specs.declared.call_log.Call.{Call}
use Rattle.own_store.specs.declared.call_log.Call.TheVariants.{Write, Sync, Loss, Read}

no_bytes : (written_bytes : List ℕ) → 0 ≡ length written_bytes → written_bytes ≡ []
no_bytes [] is = refl
no_bytes (x ∷ written_bytes) is = absurd (omega arith)

pub steps_of-write : (calls : List Call) (written_bytes : List ℕ) (at : ℕ) (bytes : List ℕ) → written_length calls ≡ length written_bytes
    → steps_of (calls ++ Write at (length bytes) ∷ []) (written_bytes ++ bytes) ≡ steps_of calls written_bytes ++ Wrote at bytes ∷ []
steps_of-write [] written_bytes at bytes is =
    let none = no_bytes written_bytes is in
    (λ i. Wrote at (take (length bytes) (none i ++ bytes)) ∷ []) ∙ (λ i. Wrote at (take_all (length bytes) bytes (omega arith) i) ∷ [])
steps_of-write (Write from count ∷ calls) written_bytes at bytes is =
    let fits : count ≤ length written_bytes = omega arith in
    let front : take count (written_bytes ++ bytes) ≡ take count written_bytes = rw take-append-le refl in
    let back : drop count (written_bytes ++ bytes) ≡ drop count written_bytes ++ bytes = rw drop-append-le refl in
    (λ i. Wrote from (front i) ∷ steps_of (calls ++ Write at (length bytes) ∷ []) (back i))
    ∙ ap (λ (l : List Step). Wrote from (take count written_bytes) ∷ l) (steps_of-write calls (drop count written_bytes) at bytes (omega (arith, length-drop count written_bytes)))
steps_of-write (Sync ∷ calls) written_bytes at bytes is = ap (λ (l : List Step). Synced ∷ l) (steps_of-write calls written_bytes at bytes is)
steps_of-write (Loss keep ∷ calls) written_bytes at bytes is = ap (λ (l : List Step). Lost keep ∷ l) (steps_of-write calls written_bytes at bytes is)
steps_of-write (Read ∷ calls) written_bytes at bytes is = ap (λ (l : List Step). Nothing ∷ l) (steps_of-write calls written_bytes at bytes is)

steps_of-one : (call : Call) (written_bytes : List ℕ) → IsBare call → steps_of (call ∷ []) written_bytes ≡ bare call ∷ []
steps_of-one (Write at count) written_bytes is = absurd is
steps_of-one Sync written_bytes is = refl
steps_of-one (Loss keep) written_bytes is = refl
steps_of-one Read written_bytes is = refl

pub steps_of-bare : (calls : List Call) (written_bytes : List ℕ) (call : Call) → IsBare call → steps_of (calls ++ call ∷ []) written_bytes ≡ steps_of calls written_bytes ++ bare call ∷ []
steps_of-bare [] written_bytes call is = steps_of-one call written_bytes is
steps_of-bare (Write from count ∷ calls) written_bytes call is = ap (λ (l : List Step). Wrote from (take count written_bytes) ∷ l) (steps_of-bare calls (drop count written_bytes) call is)
steps_of-bare (Sync ∷ calls) written_bytes call is = ap (λ (l : List Step). Synced ∷ l) (steps_of-bare calls written_bytes call is)
steps_of-bare (Loss keep ∷ calls) written_bytes call is = ap (λ (l : List Step). Lost keep ∷ l) (steps_of-bare calls written_bytes call is)
steps_of-bare (Read ∷ calls) written_bytes call is = ap (λ (l : List Step). Nothing ∷ l) (steps_of-bare calls written_bytes call is)

pub written_length-bare : (calls : List Call) (call : Call) → IsBare call → written_length (calls ++ call ∷ []) ≡ written_length calls
written_length-bare [] (Write at count) is = absurd is
written_length-bare [] Sync is = refl
written_length-bare [] (Loss keep) is = refl
written_length-bare [] Read is = refl
written_length-bare (Write from count ∷ calls) call is = ap (λ (n : ℕ). count + n) (written_length-bare calls call is)
written_length-bare (Sync ∷ calls) call is = written_length-bare calls call is
written_length-bare (Loss keep ∷ calls) call is = written_length-bare calls call is
written_length-bare (Read ∷ calls) call is = written_length-bare calls call is

pub written_length-write : (calls : List Call) (at count : ℕ) → written_length (calls ++ Write at count ∷ []) ≡ written_length calls + count
written_length-write [] at count = omega arith
written_length-write (Write from size ∷ calls) at count = omega (arith, written_length-write calls at count)
written_length-write (Sync ∷ calls) at count = written_length-write calls at count
written_length-write (Loss keep ∷ calls) at count = written_length-write calls at count
written_length-write (Read ∷ calls) at count = written_length-write calls at count
