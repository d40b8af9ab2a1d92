use Rattle.std.proofs.Common.{sym, ◌∙◌}
use Rattle.hand_over.proofs.Carrying.{calm_source, calm_same, calm_either, calm_at, ends_at, turn_lost, turn_either}
use Rattle.hand_over.proofs.delivering.turn.Goals as goal

pub returns-in-Err-clause-target_calm : goal.returns-in-Err-clause-target_calm
returns-in-Err-clause-target_calm g c =
    calm_same _ _ _ c.call_off.ensures.wires (calm_source g.P.PortModel.port_view c.args.source.now _ c.args.target.now _ c.args.m.now c.requires.moving).1

pub returns-then-is_lost-clause-goes : goal.returns-then-is_lost-clause-goes
returns-then-is_lost-clause-goes g c =
    ends_at g.P.PortModel.port_view c.args.source.now _ _ c.args.target.now c.make_good.new.source c.make_good.new.target _ c.args.lost (c.make_good.ensures.link ∙ c.ask_source.ensures.link)
    (turn_lost g.P.PortModel.port_view c.args.source.now _ c.ask_source.new.source _ c.args.target.now _ _ c.args.m.now c.in-Ok.next c.args.number c.args.lost c.make_good.new.source c.make_good.new.target
    c.in-Ok.ensures.moving c.ask_source.ensures.source c.ask_source.ensures.link c.in-Ok.ensures.count c.requires.count (sym c.is_lost.ensures ∙ c.if-is_lost.true) c.make_good.ensures.ends)

pub returns-clause-goes : goal.returns-clause-goes
returns-clause-goes g c =
    turn_either g.P.PortModel.port_view (record { least = c.blobs_are_prefix_free.ensures.least; most = c.blobs_are_prefix_free.ensures.most }) c.args.source.now _ c.ask_source.new.source _ c.args.target.now _ _ c.args.m.now c.in-Ok.next c.args.number c.args.lost c.ask_target.new.target c.ask_target.result
    c.in-Ok.ensures.moving c.ask_source.ensures.source c.ask_source.ensures.link c.in-Ok.ensures.count c.requires.count c.requires.ahead (sym c.is_lost.ensures ∙ c.if-is_lost.false)
    c.ask_target.ensures.goes c.ask_target.ensures.count

pub returns-clause-target_calm : goal.returns-clause-target_calm
returns-clause-target_calm g c =
    calm_at _ _ _ c.ask_target.ensures.pieces (calm_either g.P.PortModel.port_view c.ask_source.new.source _ c.args.target.now c.ask_target.new.target _ c.ask_target.result c.ask_target.ensures.goes)
