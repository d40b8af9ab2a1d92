use Rattle.crb_history.specs.Snapshot.{fresh}
use Rattle.two_seats.proofs.Beginning.{both_first, fresh_fit}
use Rattle.vt_world.proofs.Pairs.{ready_first}
use Rattle.vt_world.proofs.world.World.new.Goals as goal

pub returns-clause-follows : goal.returns-clause-follows
returns-clause-follows c = both_first (fresh c.args.seed c.args.banks) c.args.piece (record { a = c.in_ok-a.a; b = c.in_ok-b.b; bag = c.new.result.items })
    (record { device = fresh_fit; tpm = c.in_ok-a.ensures.follows.fit }) c.in_ok-a.ensures.follows c.in_ok-a.ensures.made c.in_ok-b.ensures.made c.new.ensures.items

pub returns-clause-ready : goal.returns-clause-ready
returns-clause-ready c = ready_first c.args.seed c.args.banks c.args.piece (record { a = c.in_ok-a.a; b = c.in_ok-b.b }) c.in_ok-a.ensures.made c.in_ok-a.ensures.follows
