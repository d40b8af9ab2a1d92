use Rattle.tpm_core.specs.Answers.{response}
use Rattle.tpm_core.proofs.tpm.execute_command.Goals as goal

pub returns-in-Startup-clause-bytes : goal.returns-in-Startup-clause-bytes
unfolding response
returns-in-Startup-clause-bytes c = rw c.in-Startup.is c.answer_with.ensures.bytes

pub returns-in-Shutdown-clause-bytes : goal.returns-in-Shutdown-clause-bytes
unfolding response
returns-in-Shutdown-clause-bytes c = rw c.in-Shutdown.is c.answer_with-in-Shutdown.ensures.bytes

pub returns-after-register-clause-bytes : goal.returns-after-register-clause-bytes
unfolding response
returns-after-register-clause-bytes c = rw c.in-PcrExtend.is c.answer_with-in-PcrExtend.ensures.bytes
