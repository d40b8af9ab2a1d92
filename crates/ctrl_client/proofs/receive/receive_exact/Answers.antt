use Rattle.ctrl_client.proofs.Passing.{came_part}
use Rattle.ctrl_client.proofs.receive.receive_exact.Goals as goal

pub returns-clause-part : goal.returns-clause-part
returns-clause-part g c = came_part c.receive_rest.result c.args.chan c.in_ok-count.count c.receive.new.into c.receive_rest.new.into _ _ _ _ c.in_ok-count.ensures.bound.0 c.in_ok-count.ensures.traffic c.receive_rest.ensures.part
