use Rattle.vt_transcript.proofs.WithoutFault.{run-alone}
use Rattle.vt_transcript.proofs.laws.runs_are_one.Goals as goal

pub returns : goal.returns
returns c = run-alone
