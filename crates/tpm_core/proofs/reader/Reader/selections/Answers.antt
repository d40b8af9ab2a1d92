use Rattle.std.proofs.Common.{arith, length, ◌∷◌, [], ap, ◌∙◌}
use Rattle.std.proofs.lemmas.Result.{err_from_is_err_and}
use Rattle.std.proofs.lemmas.List.{length-append}
use Rattle.tpm_core.specs.Reading.{selection_at, many_at}
use Rattle.tpm_core.proofs.Loops.{goes_on, ends, is_done}
use Rattle.tpm_core.proofs.reader.Reader.selections.Goals as goal

pub returns-in_err-selection : goal.returns-in_err-selection
returns-in_err-selection c =
    let p = err_from_is_err_and c.from_residual.result c.from_residual.ensures.1 in
    rw (p.1, p.2) (ends (selection_at c.args.banks) c.in_err-selection.field-0.0 c.loop.selections c.args.count c.loop.counter c.loop.self (many_at (selection_at c.args.banks) c.args.count c.args.self.now) c.loop-test.true c.in_err-selection.ensures c.loop.invariant.exact)

pub loop-preserved : goal.loop-preserved
loop-preserved c = record {
  exact = rw c.push.ensures (goes_on (selection_at c.args.banks) c.loop.selections c.args.count c.loop.counter c.loop.self c.in_ok-selection.field-0 c.selection.new.self (many_at (selection_at c.args.banks) c.args.count c.args.self.now) c.loop-test.true c.in_ok-selection.ensures c.loop.invariant.exact);
  as_many = ap length c.push.ensures ∙ length-append c.loop.selections (c.in_ok-selection.field-0 ∷ []) ∙ omega (arith, c.loop.invariant.as_many);
}

pub returns : goal.returns
returns c = is_done (selection_at c.args.banks) c.loop.selections c.args.count c.loop.counter c.loop.self (many_at (selection_at c.args.banks) c.args.count c.args.self.now) c.loop-test.false c.loop.invariant.exact
