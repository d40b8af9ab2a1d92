use Rattle.hand_over.proofs.Hands.{source_turn, source_goes_on}
use Rattle.hand_over.proofs.delivering.ask_source.Goals as goal

pub unreachable-requires : goal.unreachable-requires
unreachable-requires g c =
    let turn = source_turn g.P.PortModel.port_view c.fitting_deliveries_are_sure.ensures c.args.source.now c.deliver.new.self _ _ c.args.target.now _ c.args.m.now c.in-Ok.answer
    c.requires.moving c.in-Ok.ensures.row c.in-Ok.ensures.consistent c.in-Ok.ensures.name in
    c.in_default.not-Sent turn.next turn.says

pub returns : goal.returns
returns g c =
    let turn = source_turn g.P.PortModel.port_view c.fitting_deliveries_are_sure.ensures c.args.source.now c.deliver.new.self _ _ c.args.target.now _ c.args.m.now c.in-Ok.answer
    c.requires.moving c.in-Ok.ensures.row c.in-Ok.ensures.consistent c.in-Ok.ensures.name in
    let goes = source_goes_on g.P.PortModel.port_view c.args.source.now _ c.deliver.new.self _ c.args.target.now _ c.args.m.now c.in-Ok.answer c.in-Sent.next c.in-Sent.is turn in
    record {
      moving = goes.0;
      source = turn.same;
      link = turn.link;
      count = goes.1;
      same = tt;
      untouched = tt;
      source_worker = c.in-Ok.ensures.worker;
      source_rest = c.in-Ok.ensures.rest_unchanged;
    }
