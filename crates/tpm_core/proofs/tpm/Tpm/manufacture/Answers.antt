use Rattle.std.proofs.Common.{rules}
use Rattle.tpm_core.specs.Banks.{blank_bank}
use Rattle.tpm_core.specs.Fresh.{manufactured}
use Rattle.tpm_core.proofs.Fit.{fit-manufactured}
use Rattle.tpm_core.proofs.Law.{no_past}
use Rattle.tpm_core.proofs.tpm.Tpm.manufacture.Goals as goal

pub returns-clause-no_past : goal.returns-clause-no_past
unfolding blank_bank
returns-clause-no_past c = no_past (manufactured c.args.seed c.args.banks) (fit-manufactured c.args.seed c.args.banks (search rules))
