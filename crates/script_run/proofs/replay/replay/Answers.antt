use Rattle.script_run.specs.Start.{base_of}
use Rattle.script_run.proofs.replay.replay.Goals as goal

pub returns-clause-writes : goal.returns-clause-writes
returns-clause-writes g c = c.follow.ensures.writes (base_of c.args.start) c.args.start.piece c.in-Ok.ensures

pub returns-clause-hands_out : goal.returns-clause-hands_out
returns-clause-hands_out g c = c.follow.ensures.hands_out (base_of c.args.start) c.args.start.piece c.in-Ok.ensures
