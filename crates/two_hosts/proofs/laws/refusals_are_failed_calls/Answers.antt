use Rattle.two_hosts.proofs.Sure.{refusals}
use Rattle.two_hosts.proofs.laws.refusals_are_failed_calls.Goals as goal

pub returns-clause-link : goal.returns-clause-link
returns-clause-link c = refusals
