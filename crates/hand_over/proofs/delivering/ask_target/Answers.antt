use Rattle.hand_over.proofs.Hands.{target_turn, target_pieces, target_commands, target_goes_on, target_ends}
use Rattle.hand_over.proofs.delivering.ask_target.Goals as goal

pub returns-in-Sent : goal.returns-in-Sent
returns-in-Sent g c =
    let port_view = g.P.PortModel.port_view in
    let turn = target_turn port_view c.fitting_deliveries_are_sure.ensures c.args.source.now _ c.args.target.now c.deliver.new.self _ _ c.args.m.now c.in-Ok.answer c.requires.moving c.in-Ok.ensures.row
    c.blobs_are_prefix_free.ensures.least c.in-Ok.ensures.consistent c.in-Ok.ensures.name in
    let goes = target_goes_on port_view c.args.source.now _ c.args.target.now c.deliver.new.self _ _ c.args.m.now c.in-Ok.answer c.requires.moving c.in-Ok.ensures.row c.in-Sent.reply c.in-Sent.is turn in
    record {
      goes = goes.0;
      pieces = target_pieces port_view c.fitting_deliveries_are_sure.ensures c.args.source.now _ c.args.target.now c.deliver.new.self _ _ c.args.m.now c.in-Ok.answer c.requires.moving c.in-Ok.ensures.row;
      commands = target_commands port_view c.fitting_deliveries_are_sure.ensures c.args.source.now _ c.args.target.now c.deliver.new.self _ _ c.args.m.now c.in-Ok.answer c.requires.moving c.in-Ok.ensures.row;
      count = goes.1;
      target_worker = c.in-Ok.ensures.worker;
      target_rest = c.in-Ok.ensures.rest_unchanged;
    }

pub returns : goal.returns
returns g c =
    let port_view = g.P.PortModel.port_view in
    let turn = target_turn port_view c.fitting_deliveries_are_sure.ensures c.args.source.now _ c.args.target.now c.deliver.new.self _ _ c.args.m.now c.in-Ok.answer c.requires.moving c.in-Ok.ensures.row
    c.blobs_are_prefix_free.ensures.least c.in-Ok.ensures.consistent c.in-Ok.ensures.name in
    let ends = target_ends port_view c.args.source.now _ c.args.target.now c.deliver.new.self _ _ c.args.m.now c.in-Ok.answer c.requires.moving c.in-Ok.ensures.row
    (record { records = c.record_encoding_is_injective.ensures.once; assembled = c.tpms_are_assembled_once.ensures.once; blobs = c.tpms_are_assembled_once.ensures.blobs })
    (λ m is. c.in_default-answer.not-Sent m is) turn in
    record {
      goes = ends.0;
      pieces = target_pieces port_view c.fitting_deliveries_are_sure.ensures c.args.source.now _ c.args.target.now c.deliver.new.self _ _ c.args.m.now c.in-Ok.answer c.requires.moving c.in-Ok.ensures.row;
      commands = target_commands port_view c.fitting_deliveries_are_sure.ensures c.args.source.now _ c.args.target.now c.deliver.new.self _ _ c.args.m.now c.in-Ok.answer c.requires.moving c.in-Ok.ensures.row;
      count = ends.1;
      target_worker = c.in-Ok.ensures.worker;
      target_rest = c.in-Ok.ensures.rest_unchanged;
    }
