use Rattle.std.proofs.Common.{arith}
use Rattle.script_run.proofs.saved.load_front.Goals as goal

pub returns-clause-bytes : goal.returns-clause-bytes
returns-clause-bytes c = λ i. omega (arith, c.type_inv.front i)
