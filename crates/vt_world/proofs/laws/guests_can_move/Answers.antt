use Rattle.vt_world.proofs.Handing.{GuestLaws}
use Rattle.vt_world.proofs.Movable.{can_move, moved_on, goes_back}
use Rattle.vt_world.proofs.laws.guests_can_move.Goals as goal

pub returns : goal.returns
returns c =
    let laws : GuestLaws = record {
      stopped = c.stopped_devices_go_on.ensures.stopped;
      goes_on = c.stopped_devices_go_on.ensures.goes_on;
      same = c.stopped_devices_go_on.ensures.same;
      exact = c.held_devices_go_on.ensures.device;
      rests = c.guests_go_on.ensures.rests;
      follows = c.guests_go_on.ensures.goes_on;
    } in
    record { can_move = can_move laws; moved = moved_on laws; given_up = goes_back laws }
