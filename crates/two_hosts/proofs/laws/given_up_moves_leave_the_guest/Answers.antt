use Rattle.two_hosts.proofs.GivenUp.{given_up}
use Rattle.two_hosts.proofs.laws.given_up_moves_leave_the_guest.Goals as goal

pub returns-clause-given_up : goal.returns-clause-given_up
returns-clause-given_up c = given_up
