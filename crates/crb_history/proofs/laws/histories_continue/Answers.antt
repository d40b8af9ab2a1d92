use Rattle.crb_history.specs.Device.{executed}
use Rattle.crb_history.proofs.Continuing.{continues, shows-on, past-on}
use Rattle.crb_history.proofs.laws.histories_continue.Goals as goal

pub returns-clause-legal : goal.returns-clause-legal
returns-clause-legal c = λ b h more fit. continues b h more (λ later command. c.pasts_join.ensures.answers b.tpm later (executed b h) command fit)

pub returns-clause-page : goal.returns-clause-page
returns-clause-page c = λ b h more fit. shows-on b h more (λ later command. c.pasts_join.ensures.answers b.tpm later (executed b h) command fit)

pub returns-clause-executed : goal.returns-clause-executed
returns-clause-executed c = λ b h more fit. past-on b h more (λ later command. c.pasts_join.ensures.answers b.tpm later (executed b h) command fit)
