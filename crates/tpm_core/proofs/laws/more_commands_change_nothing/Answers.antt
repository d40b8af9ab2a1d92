use Rattle.std.proofs.Common.{refl}
use Rattle.tpm_core.specs.Answers.{answer}
use Rattle.tpm_core.proofs.Unchanged.{unchanged}
use Rattle.tpm_core.proofs.laws.more_commands_change_nothing.Goals as goal

pub returns-clause-values : goal.returns-clause-values
returns-clause-values c = unchanged

pub returns-clause-answer : goal.returns-clause-answer
unfolding answer
returns-clause-answer c = λ b past command is. rw is refl

pub returns-clause-others : goal.returns-clause-others
unfolding answer
returns-clause-others c = λ b past command is. rw is refl
