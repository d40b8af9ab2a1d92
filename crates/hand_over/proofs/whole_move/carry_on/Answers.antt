use Rattle.std.proofs.Common.{◌∙◌}
use Rattle.move_core.specs.Requests.{wires_view}
use Rattle.hand_over.proofs.Carrying.{loop_ends, none_goes}
use Rattle.hand_over.proofs.whole_move.carry_on.Goals as goal

pub returns-in_default-clause-ends : goal.returns-in_default-clause-ends
returns-in_default-clause-ends g c =
    loop_ends g.P.PortModel.port_view c.args.source.now c.loop-lost.source _ _ c.args.target.now c.loop-lost.target c.turn.new.source c.turn.new.target _ c.args.lost
    c.loop-lost.invariant.source_is (c.turn.ensures.link ∙ c.loop-lost.invariant.link) c.loop-lost.invariant.target_is
    (none_goes g.P.PortModel.port_view c.loop-lost.source c.turn.new.source
    (wires_view g.W.Wires.fails g.W.Wires.later (g.W.Wires.link c.turn.new.from) (g.W.Wires.schedule c.turn.new.from) (g.W.Wires.faults c.turn.new.from) (g.W.Wires.traffic c.turn.new.from))
    c.loop-lost.target c.turn.new.target
    (wires_view g.W.Wires.fails g.W.Wires.later (g.W.Wires.link c.turn.new.to) (g.W.Wires.schedule c.turn.new.to) (g.W.Wires.faults c.turn.new.to) (g.W.Wires.traffic c.turn.new.to))
    c.loop-lost.number c.args.lost c.in_ok-reply.field-0 c.in_default.is c.in_ok-reply.ensures.goes)
