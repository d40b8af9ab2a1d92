use Rattle.two_hosts.proofs.Consequences.{true_to}
use Rattle.two_hosts.proofs.laws.slices.Goals as goal

pub returns : goal.returns
returns c = true_to
