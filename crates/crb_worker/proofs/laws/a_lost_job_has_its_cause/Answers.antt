use Rattle.crb_worker.proofs.Runs.{lost_for}
use Rattle.crb_worker.proofs.laws.a_lost_job_has_its_cause.Goals as goal

pub returns : goal.returns
returns g c = lost_for
