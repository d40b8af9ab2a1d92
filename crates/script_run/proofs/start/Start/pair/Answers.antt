use Rattle.script_run.specs.Start.{base_of}
use Rattle.script_run.proofs.Guests.{made}
use Rattle.script_run.proofs.start.Start.pair.Goals as goal

pub returns : goal.returns
unfolding base_of
returns c = made c.args.self.now c.fresh.result c.fresh.ensures.follows c.fresh.ensures.movable
