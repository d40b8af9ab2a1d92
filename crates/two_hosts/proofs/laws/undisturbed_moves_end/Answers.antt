use Rattle.two_hosts.proofs.WholeMoves.{moves_over}
use Rattle.two_hosts.proofs.laws.undisturbed_moves_end.Goals as goal

pub returns-clause-moves : goal.returns-clause-moves
returns-clause-moves c = moves_over
