use Rattle.tpm_core.proofs.Law.{values_after-append, answer-append, no_past, fit-past}
use Rattle.tpm_core.proofs.laws.pasts_join.Goals as goal

pub returns-clause-values : goal.returns-clause-values
returns-clause-values c = values_after-append

pub returns-clause-answers : goal.returns-clause-answers
returns-clause-answers c = answer-append

pub returns-clause-nothing : goal.returns-clause-nothing
returns-clause-nothing c = no_past

pub returns-clause-fit : goal.returns-clause-fit
returns-clause-fit c = fit-past
