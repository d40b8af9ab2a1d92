use Rattle.std.proofs.Common.{◌≡◌, Bool, true, is_some, ap, sym, ◌∙◌, Some, None}
use Rattle.std.specs.Prelude.{Option}
use Rattle.script_run.specs.Words.{start_by}
use Rattle.script_run.proofs.Words.{none-some, one-some}
use Rattle.script_run.proofs.action.piece_alone.Goals as goal
use Rattle.script_run.proofs.action.piece_alone.Goals.{then-is_some-via-then-is_some, then-is_some-via-else-is_some+then-is_some-2}

pub returns-in_err-given-clause-only : goal.returns-in_err-given-clause-only
returns-in_err-given-clause-only c = λ piece has. absurd (none-some has.given (c.in_err-given.ensures.only has.given has.options))

-- an option that is given is some
none-given : {A : Type 0} (given : Option A) (test : Bool) → test ≡ is_some given → test ≡ true → given ≡ None → ⊥
none-given None test is some none = cc
none-given (Some x) test is some none = cc

pub returns-then-is_some-clause-only : goal.returns-then-is_some-clause-only
returns-then-is_some-clause-only c = λ piece has.
    let same = one-some c.in_ok-given.given has.given (c.in_ok-given.ensures.only has.given has.options) in
    absurd (elim c.then-is_some.branch [
      | then-is_some-via-then-is_some w ↦ none-given c.in_ok-given.given.seed c.is_some.result c.is_some.ensures w.if-is_some.true (ap (λ g. g.seed) same ∙ has.no_seed)
      | then-is_some-via-else-is_some+then-is_some-2 w ↦ none-given c.in_ok-given.given.banks w.is_some-else-is_some.result w.is_some-else-is_some.ensures w.if-is_some-2.true (ap (λ g. g.banks) same ∙ has.no_banks)
    ])

pub returns-clause-only : goal.returns-clause-only
returns-clause-only c = λ piece has.
    let same = one-some c.in_ok-given.given has.given (c.in_ok-given.ensures.only has.given has.options) in
    ap Some (ap (λ s. s.piece) (c.start.ensures ∙ ap start_by same) ∙ sym has.same)
