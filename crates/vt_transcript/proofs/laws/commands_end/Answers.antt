use Rattle.vt_transcript.proofs.Ending.{command-ends}
use Rattle.vt_transcript.proofs.laws.commands_end.Goals as goal

pub returns : goal.returns
returns c = λ b t more run executing none goes enough. command-ends b t executing none more run goes enough
