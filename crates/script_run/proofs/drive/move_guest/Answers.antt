use Rattle.std.proofs.lemmas.Result.{on_ok_weaker}
use Rattle.vt_world.specs.Pairs.{running_world}
use Rattle.script_run.specs.Start.{base_of}
use Rattle.script_run.proofs.Guests.{can-go, begins-with-zeros, waits-on}
use Rattle.script_run.proofs.drive.move_guest.Goals as goal

pub move_all-requires-clause-can_move : goal.move_all-requires-clause-can_move
move_all-requires-clause-can_move c =
    let can = c.requires.waits in
    c.guests_can_move.ensures.can_move (base_of can.start) can.waits.rest.after.host can.start.piece can.placement c.args.pair.now can.waits.movable
    (can-go (base_of can.start) can.history (running_world c.args.pair.now) can.waits.rest) can.more

pub returns : goal.returns
returns c = record {
  moved = on_ok_weaker c.move_all.result (λ led start p s waits.
      let world = running_world c.args.pair.now in
      let at = c.guests_can_move.ensures.moved (base_of start) waits.rest.after.host start.piece c.args.lost s c.args.pair.now c.move_all.new.self waits.movable (can-go (base_of start) p world waits.rest) led in
      let pieces = c.idle_guests_have_short_records.ensures.pieces (base_of start) p start.piece world (begins-with-zeros start) waits.rest.after waits.rest.idle in
      waits-on start p s c.args.lost c.args.pair.now c.move_all.new.self waits pieces at.0 at.1) c.move_all.ensures.moved;
}
