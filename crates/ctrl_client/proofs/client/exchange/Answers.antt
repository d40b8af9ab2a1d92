use Rattle.std.proofs.Common.{rules}
use Rattle.ctrl_client.proofs.Exchanging.{exchanges}
use Rattle.ctrl_client.proofs.client.exchange.Goals as goal

pub returns-clause-exact : goal.returns-clause-exact
returns-clause-exact g c =
    exchanges g.W.Wires.fails g.W.Wires.later c.args.request.now c.args.payload.now c.receive_exact.new.into _ _ _ _ _ _ _ c.receive_exact.result c.requires.room (search rules)
    c.in_ok-send_request.ensures.exact c.receive_exact.ensures.exact
