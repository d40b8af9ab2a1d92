use Rattle.std.proofs.Common.{◌∙◌, ap, List}
use Rattle.std.proofs.lemmas.List.{take_all}
use Rattle.tpm_core.specs.declared.algorithm.Measurement.{Measurement}
use Rattle.tpm_core.specs.Algorithms.{digests_by}
use Rattle.tpm_core.specs.Banks.{hashed}
use Rattle.tpm_core.proofs.Measured.{hashed_more}
use Rattle.tpm_core.proofs.bank.hashed.Goals as goal

pub loop-measurement-preserved : goal.loop-measurement-preserved
loop-measurement-preserved g c = hashed_more c.args.algorithm c.args.old.now c.loop-measurement.value c.next_value-value.result c.args.measurements.now c.loop-measurement.measurement-index _ c.loop-measurement-test.true c.loop-measurement.invariant c.next_value-value.ensures

pub returns : goal.returns
returns g c = c.loop-measurement.invariant ∙ ap (λ (ms : List Measurement). hashed c.args.algorithm c.args.old.now (digests_by c.args.algorithm ms)) (take_all c.loop-measurement.measurement-index c.args.measurements.now c.loop-measurement-test.false)
