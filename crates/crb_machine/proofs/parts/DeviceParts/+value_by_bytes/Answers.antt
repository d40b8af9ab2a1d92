use Rattle.std.proofs.Common.{arith}
use Rattle.crb_machine.proofs.Numbers.{little_endian-first, power-first, power_fits}
use Rattle.crb_machine.specs.Parts.{model_of}
use Rattle.crb_machine.specs.Over.{own_byte}
use Rattle.crb_machine.proofs.parts.DeviceParts.+value_by_bytes.Goals as goal

pub overflow_mul-result : goal.overflow_mul-result
overflow_mul-result g t c =
    omega (arith, power-first c.args.size (omega arith), power_fits c.args.size c.requires.size, c.value_by_bytes-rest.ensures.below)

pub overflow_add-result : goal.overflow_add-result
overflow_add-result g t c =
    omega (arith, power-first c.args.size (omega arith), power_fits c.args.size c.requires.size, c.value_by_bytes-rest.ensures.below)

pub returns-clause-value : goal.returns-clause-value
returns-clause-value g t c =
    rw (c.value_by_bytes-rest.ensures.value, c.from.ensures, c.byte.ensures) (little_endian-first (own_byte (model_of c.args.self.now)) c.args.offset c.args.size (omega arith))

pub returns-clause-below : goal.returns-clause-below
returns-clause-below g t c = omega (arith, power-first c.args.size (omega arith), c.value_by_bytes-rest.ensures.below)
