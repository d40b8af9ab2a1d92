use Rattle.two_seats.proofs.Arriving.{one_way, arrives}
use Rattle.two_seats.proofs.laws.undisturbed_guests_arrive.Goals as goal

pub returns-clause-replies : goal.returns-clause-replies
returns-clause-replies c = one_way

pub returns-clause-arrives : goal.returns-clause-arrives
returns-clause-arrives c = arrives
