use Rattle.crb_history.proofs.Numbers.{done-executed}
use Rattle.crb_history.proofs.laws.done_is_executed_once.Goals as goal

pub returns : goal.returns
returns c = done-executed
