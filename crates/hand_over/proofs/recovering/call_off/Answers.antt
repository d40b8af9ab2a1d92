use Rattle.hand_over.proofs.Losses.{gives_back, abort_comes}
use Rattle.hand_over.proofs.recovering.call_off.Goals as goal

pub returns-clause-aborts : goal.returns-clause-aborts
returns-clause-aborts g c =
    let gives = gives_back g.P.PortModel.port_view c.args.source.now c.give_up.new.self c.in-Abort.abort c.requires.offers c.in-Abort.ensures.gives_up in
    (abort_comes g.P.PortModel.port_view c.args.target.now c.deliver.new.self c.args.source.now.name c.args.source.now.top c.in-Abort.abort _ _ c.in-Ok._answer gives.0 c.requires.names c.in-Ok.ensures.row).1

pub returns-clause-wires : goal.returns-clause-wires
returns-clause-wires g c =
    let gives = gives_back g.P.PortModel.port_view c.args.source.now c.give_up.new.self c.in-Abort.abort c.requires.offers c.in-Abort.ensures.gives_up in
    (abort_comes g.P.PortModel.port_view c.args.target.now c.deliver.new.self c.args.source.now.name c.args.source.now.top c.in-Abort.abort _ _ c.in-Ok._answer gives.0 c.requires.names c.in-Ok.ensures.row).0
