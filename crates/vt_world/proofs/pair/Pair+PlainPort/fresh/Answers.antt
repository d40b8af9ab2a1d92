use Rattle.vt_world.proofs.Movable.{first_movable}
use Rattle.vt_world.proofs.Pairs.{ready_first}
use Rattle.vt_world.proofs.pair.Pair+PlainPort.fresh.Goals as goal

pub returns-clause-ready : goal.returns-clause-ready
returns-clause-ready c = ready_first c.args.seed c.args.banks c.args.piece _ c.in_ok-a.ensures.made c.in_ok-a.ensures.follows

pub returns-clause-movable : goal.returns-clause-movable
returns-clause-movable c = first_movable c.args.piece _ c.requires.least c.requires.most c.in_ok-a.ensures.made c.in_ok-b.ensures.made
