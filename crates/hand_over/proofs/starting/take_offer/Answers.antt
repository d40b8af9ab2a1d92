use Rattle.hand_over.proofs.Starts.{offer_taken, offer_goes_on}
use Rattle.hand_over.proofs.starting.take_offer.Goals as goal

pub unreachable-requires-in_default-answer : goal.unreachable-requires-in_default-answer
unreachable-requires-in_default-answer g c =
    let taken = offer_taken g.P.PortModel.port_view c.fitting_deliveries_are_sure.ensures (record { least = c.blobs_are_prefix_free.ensures.least; most = c.blobs_are_prefix_free.ensures.most })
    c.args.source.now _ c.args.target.now c.deliver.new.self _ _ c.args.m.now c.in-Ok.answer c.requires.rests
    c.requires.moving c.in-Ok.ensures.row c.in-Ok.ensures.consistent c.in-Ok.ensures.name in
    c.in_default-answer.not-Sent taken.reply taken.says

pub returns : goal.returns
returns g c =
    let taken = offer_taken g.P.PortModel.port_view c.fitting_deliveries_are_sure.ensures (record { least = c.blobs_are_prefix_free.ensures.least; most = c.blobs_are_prefix_free.ensures.most })
    c.args.source.now _ c.args.target.now c.deliver.new.self _ _ c.args.m.now c.in-Ok.answer c.requires.rests
    c.requires.moving c.in-Ok.ensures.row c.in-Ok.ensures.consistent c.in-Ok.ensures.name in
    let goes = offer_goes_on g.P.PortModel.port_view c.args.source.now _ c.args.target.now c.deliver.new.self _ _ c.args.m.now c.in-Ok.answer c.in-Sent.reply c.in-Sent.is taken in
    record {
      moving = goes.0;
      target = taken.rest;
      pieces = taken.pieces;
      commands = taken.commands;
      count = goes.1;
      target_worker = c.in-Ok.ensures.worker;
      target_rest = c.in-Ok.ensures.rest_unchanged;
    }
