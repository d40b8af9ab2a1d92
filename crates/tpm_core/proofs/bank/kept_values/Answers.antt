use Rattle.std.proofs.Common.{◌≡◌, arith}
use Rattle.std.proofs.lemmas.Grind.{common_steps}
use Rattle.tpm_core.proofs.bank.kept_values.Goals as goal

pub returns : goal.returns
returns g c = let k : c.loop-i.i ≡ 16 = omega arith in grind (arith, common_steps, k, c.loop-i.invariant.same, c.loop-i.invariant.size)
