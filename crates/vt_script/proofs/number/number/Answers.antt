use Rattle.std.proofs.Common.{◌+◌, arith}
use Rattle.vt_script.proofs.Digits.{number_grows, digits_fit, power_grows}
use Rattle.vt_script.proofs.number.number.Goals as goal

pub overflow_mul-number : goal.overflow_mul-number
overflow_mul-number c =
    omega (
      arith,
      number_grows c.loop-byte.number c.args.base 0 c.loop-byte.byte-index c.loop-byte.invariant.below (omega arith),
      digits_fit c.args.base (c.loop-byte.byte-index + 1) c.requires.least c.requires.base (omega arith),
    )

pub overflow_add-number : goal.overflow_add-number
overflow_add-number c =
    omega (
      arith,
      number_grows c.loop-byte.number c.args.base c.in_ok-number.field-0 c.loop-byte.byte-index c.loop-byte.invariant.below c.in_ok-number.ensures.below,
      digits_fit c.args.base (c.loop-byte.byte-index + 1) c.requires.least c.requires.base (omega arith),
    )

pub returns-clause-below : goal.returns-clause-below
returns-clause-below c = omega (arith, power_grows c.args.base c.loop-byte.byte-index c.args.most c.requires.least (omega arith), c.loop-byte.invariant.below)
