use Rattle.crb_worker.proofs.Runs.{job_once, cancelled_never}
use Rattle.crb_worker.proofs.laws.a_job_is_sent_once.Goals as goal

pub returns-clause-once : goal.returns-clause-once
returns-clause-once g c = job_once g.W.Wires.Schedule

pub returns-clause-cancelled : goal.returns-clause-cancelled
returns-clause-cancelled g c = cancelled_never g.W.Wires.Schedule
