-- A run over a good input.
use Rattle.std.proofs.Common.{◌≡◌, ◌≢◌, ℕ, List, refl, Some, None, inl, inr}
use Rattle.std.specs.Prelude.{Option, ◌⊎◌, IfSome, IsSomeAnd}
use Rattle.vt_base.specs.declared.status.Status.{Status}
use Rattle.vt_base.specs.declared.status.Status.TheVariants.{Ok, Usage, Script, ReadFault, WriteFault, Memory, Limit, Refused, NotYet}
use Rattle.script_run.specs.Run.{InputReading, IsGood, Writes}

refused-is : Refused ≡ Ok → ⊥
refused-is is = cc

not-yet-is : NotYet ≡ Ok → ⊥
not-yet-is is = cc

-- it ends well, or for lack of memory
ends-well : (status : Status) (r : InputReading) (left old new : Option (List ℕ)) → Writes status r left old new → IsGood r → status ≢ Usage → status ≢ ReadFault → status ≢ WriteFault → (status ≡ Ok) ⊎ (status ≡ Memory)
ends-well Ok r left old new writes good usage read write = inl refl
ends-well Memory r left old new writes good usage read write = inr refl
ends-well Refused r left old new (output, appends, ends) good usage read write = absurd (refused-is (good.ends Refused output ends))
ends-well NotYet r left old new (output, appends, ends) good usage read write = absurd (not-yet-is (good.ends NotYet output ends))
ends-well Script r left old new (output, appends, (n, before, gives, bad, is)) good usage read write = absurd (good.lines n bad)
ends-well Limit r left old new (output, appends, (n, before, text, gives, passes, is)) good usage read write = absurd (good.limits n text passes)
ends-well Usage r left old new writes good usage read write = absurd (usage refl)
ends-well ReadFault r left old new writes good usage read write = absurd (read refl)
ends-well WriteFault r left old new writes good usage read write = absurd (write refl)

pub completes : (input : Option (List ℕ)) (reading : List ℕ → InputReading) (status : Status) (left old new : Option (List ℕ)) → IfSome input (λ bytes. Writes status (reading bytes) left old new) → IsSomeAnd input (λ bytes. IsGood (reading bytes))
    → status ≢ Usage → status ≢ ReadFault → status ≢ WriteFault → (status ≡ Ok) ⊎ (status ≡ Memory)
completes None reading status left old new writes good usage read write = absurd good
completes (Some bytes) reading status left old new writes good usage read write = ends-well status (reading bytes) left old new writes good usage read write
