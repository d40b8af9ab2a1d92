use Rattle.std.proofs.Common.{ap, arith, Some}
use Rattle.script_run.proofs.Numerals.{one-number}
use Rattle.script_run.proofs.options.piece_of.Goals as goal

pub returns-in-Some-clause-only : goal.returns-in-Some-clause-only
returns-in-Some-clause-only c = λ piece is small.
    ap Some (one-number c.args.text.now c.in-Some.piece piece (omega (arith, c.in-Some.ensures.named.1)) (omega (arith, small.most)) c.in-Some.ensures.named.0 is)

pub returns-in_default-clause-only : goal.returns-in_default-clause-only
returns-in_default-clause-only c = λ piece is small.
    let same = one-number c.args.text.now c.in-Some.piece piece (omega (arith, c.in-Some.ensures.named.1)) (omega (arith, small.most)) c.in-Some.ensures.named.0 is in
    absurd (omega (arith, same, small.least, c.if-piece-ge1.false))
