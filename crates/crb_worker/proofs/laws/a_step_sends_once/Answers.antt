use Rattle.crb_worker.proofs.Runs.{one_step}
use Rattle.crb_worker.proofs.laws.a_step_sends_once.Goals as goal

pub returns : goal.returns
returns g c = λ p q k l w v step works. (one_step p step q k l w v works).sends
