use Rattle.vt_seat.specs.Seats.{world_of}
use Rattle.vt_world.proofs.Buses.{write-leads, ready-on}
use Rattle.vt_world.proofs.bus.write_at.Goals as goal

pub returns-clause-leads : goal.returns-clause-leads
returns-clause-leads c = λ value. write-leads (world_of c.args.seat.now) (world_of c.access.new.self) c.args.a.now value c.access.result c.requires.is_write c.access.ensures.steps

pub returns-clause-ready : goal.returns-clause-ready
returns-clause-ready c = ready-on (world_of c.args.seat.now) (world_of c.access.new.self) c.args.a.now 0 c.requires.ready (write-leads (world_of c.args.seat.now) (world_of c.access.new.self) c.args.a.now 0 c.access.result c.requires.is_write c.access.ensures.steps)
