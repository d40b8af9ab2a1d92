use Rattle.std.proofs.Common.{◌∙◌, ap, sym, arith}
use Rattle.script_run.specs.Reading.{begins_well}
use Rattle.script_run.proofs.Numerals.{decimal-begins, decimal-of, parsed-is, not-parsed, false-true}
use Rattle.script_run.proofs.decimal.number.Goals as goal

pub returns-then-not-begins_well-clause-other : goal.returns-then-not-begins_well-clause-other
returns-then-not-begins_well-clause-other c = λ n is within_limit.
    false-true (begins_well c.args.word.now) (sym (c.begins_well.ensures ∙ ap begins_well c.as_bytes.ensures.value) ∙ c.if-not-begins_well.true)
    (ap begins_well is ∙ decimal-begins n (omega (arith, within_limit, c.ranges.most.fits)))

pub returns-in-Ok-clause-named : goal.returns-in-Ok-clause-named
returns-in-Ok-clause-named c =
    let well = sym (c.begins_well.ensures ∙ ap begins_well c.as_bytes.ensures.value) ∙ c.if-not-begins_well.false in
    (decimal-of c.args.word.now c.in-Ok.number well c.in-Ok.ensures.value.0, c.if-number-most.true)

pub returns-in_default-clause-other : goal.returns-in_default-clause-other
returns-in_default-clause-other c = λ n is within_limit.
    let same = parsed-is c.args.word.now n c.in-Ok.number (omega (arith, within_limit, c.ranges.most.fits)) is c.in-Ok.ensures.value.0.1 in
    omega (arith, within_limit, same, c.if-number-most.false)

pub returns-in_default-2-clause-other : goal.returns-in_default-2-clause-other
returns-in_default-2-clause-other c = λ n is within_limit. not-parsed c.args.word.now n (omega (arith, within_limit, c.ranges.most.fits)) is c.in_default.ensures.value.0
