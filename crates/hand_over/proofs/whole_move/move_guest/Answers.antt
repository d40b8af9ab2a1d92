use Rattle.std.proofs.Common.{sym, ◌∙◌}
use Rattle.hand_over.proofs.Whole.{runs_free, first_lost, ends_before, back_before, ok_by, err_by}
use Rattle.hand_over.proofs.whole_move.move_guest.Goals as goal

pub returns-then-is_lost-clause-moved : goal.returns-then-is_lost-clause-moved
returns-then-is_lost-clause-moved g c =
    first_lost g.P.PortModel.port_view c.args.source.now _ c.ask_offer-offer.new.source c.args.target.now c.args.lost c.call_off.new.source c.call_off.new.target _
    c.side.ensures.consistent.device (runs_free g.P.PortModel.port_view c.args.source.now c.side.ensures.consistent c.requires.can_move.runs) c.ask_offer-offer.ensures.stops c.ask_offer-offer.ensures.source c.side-2.ensures.consistent.matches_side.at_top c.requires.can_move.below (sym c.is_lost.ensures ∙ c.if-is_lost.true)
    c.call_off.ensures.resumes c.call_off.ensures.aborts

pub returns-clause-moved : goal.returns-clause-moved
returns-clause-moved g c =
    ok_by c.carry_on.result (λ ends.
    ends_before g.P.PortModel.port_view c.args.source.now _ c.ask_offer-offer.new.source _ c.args.target.now c.take_offer-need.new.target c.args.lost c.carry_on.new.source c.carry_on.new.target _
    c.side.ensures.consistent.device (runs_free g.P.PortModel.port_view c.args.source.now c.side.ensures.consistent c.requires.can_move.runs) c.ask_offer-offer.ensures.stops c.ask_offer-offer.ensures.source c.ask_offer-offer.ensures.link c.take_offer-need.ensures.target (sym c.is_lost.ensures ∙ c.if-is_lost.false) ends)
    c.carry_on.ensures.ends

pub returns-clause-given_up : goal.returns-clause-given_up
returns-clause-given_up g c =
    err_by c.carry_on.result (λ back.
    back_before g.P.PortModel.port_view c.args.source.now c.ask_offer-offer.new.source c.args.target.now c.take_offer-need.new.target c.carry_on.new.source c.carry_on.new.target
    c.side.ensures.consistent.device (runs_free g.P.PortModel.port_view c.args.source.now c.side.ensures.consistent c.requires.can_move.runs) c.ask_offer-offer.ensures.stops c.ask_offer-offer.ensures.source c.take_offer-need.ensures.target back)
    c.carry_on.ensures.back
