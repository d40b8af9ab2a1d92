use Rattle.vt_transcript.proofs.WithoutFault.{run-plain, plain-unordered}
use Rattle.vt_transcript.proofs.Unlost.{plain-working}
use Rattle.vt_transcript.proofs.laws.plain_runs_are_one.Goals as goal

pub returns-clause-run : goal.returns-clause-run
returns-clause-run c = run-plain

pub returns-clause-unordered : goal.returns-clause-unordered
returns-clause-unordered c = plain-unordered

pub returns-clause-working : goal.returns-clause-working
returns-clause-working c = plain-working
