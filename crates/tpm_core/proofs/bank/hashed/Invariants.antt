use Rattle.std.proofs.Common.{◌≡◌, take}
use Rattle.tpm_core.specs.Algorithms.{digests_by}
use Rattle.tpm_core.specs.Banks.{hashed}
use Rattle.tpm_core.proofs.bank.hashed.Given as goal

abbrev pub invariant-loop-measurement : goal.invariant-loop-measurement
invariant-loop-measurement g l = l.value ≡ hashed l.algorithm l.old (digests_by l.algorithm (take l.measurement-index l.measurements))
