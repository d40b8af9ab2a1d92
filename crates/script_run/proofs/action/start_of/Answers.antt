use Rattle.std.proofs.Common.{ap, sym, ◌∙◌, Some, None}
use Rattle.script_run.specs.Words.{start_by}
use Rattle.script_run.proofs.Words.{none-some, one-some}
use Rattle.script_run.proofs.action.start_of.Goals as goal

pub returns-in_err-given-clause-only : goal.returns-in_err-given-clause-only
returns-in_err-given-clause-only c = λ start has. absurd (none-some has.given (c.in_err-given.ensures.only has.given has.options))

pub returns-clause-only : goal.returns-clause-only
returns-clause-only c = λ start has.
    ap Some (c.start.ensures ∙ ap start_by (one-some c.in_ok-given.given has.given (c.in_ok-given.ensures.only has.given has.options)) ∙ sym has.same)
