use Rattle.two_hosts.proofs.OneRun as once
use Rattle.two_hosts.proofs.laws.runs_are_one.Goals as goal

pub returns : goal.returns
returns c = once.runs_are_one
