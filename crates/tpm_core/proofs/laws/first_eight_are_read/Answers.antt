use Rattle.tpm_core.proofs.Chosen.{first_read}
use Rattle.tpm_core.proofs.laws.first_eight_are_read.Goals as goal

pub returns : goal.returns
returns c = first_read 8
