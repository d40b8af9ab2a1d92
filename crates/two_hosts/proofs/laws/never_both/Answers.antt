use Rattle.two_hosts.proofs.Consequences.{both}
use Rattle.two_hosts.proofs.laws.never_both.Goals as goal

pub returns : goal.returns
returns c = both
