-- A piece that a gather took isn't refused.
use Rattle.std.proofs.Common.{ℕ, Bool, true, false, List, Result, Ok, Err}
use Rattle.std.specs.Prelude.{IfOk, OnOk}
use Rattle.std.specs.Bool.{OnTrue, OnFalse}
use Rattle.vt_base.specs.declared.types.Kind.{Kind}
use Rattle.vt_base.specs.declared.types.Malformed.{Malformed}
use Rattle.state_blobs.specs.Encodings.{IsBlob}
use Rattle.state_blobs.specs.Refusals.{IsRefused, IsCut}

-- where blobs aren't refused, what a gather took isn't, whole or not
pub taken_is_good : ((kind : Kind) (fault : Malformed) (bytes : List ℕ) → IsBlob kind bytes → IsRefused kind fault bytes → ⊥)
    → (kind : Kind) (bytes : List ℕ) (answer : Result Bool Malformed) → IfOk answer (λ whole. OnTrue whole (IsBlob kind bytes)) → IfOk answer (λ whole. OnFalse whole (IsCut kind bytes))
    → OnOk answer ((fault : Malformed) → IsRefused kind fault bytes → ⊥)
taken_is_good not_refused kind bytes (Ok true) whole cut = λ fault refused. not_refused kind fault bytes whole refused
taken_is_good not_refused kind bytes (Ok false) whole cut = cut.not_refused
taken_is_good not_refused kind bytes (Err fault) whole cut = tt
