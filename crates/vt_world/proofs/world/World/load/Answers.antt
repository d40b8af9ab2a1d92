use Rattle.std.proofs.Common.{subst}
use Rattle.vt_base.specs.declared.types.HostName.TheVariants.{A}
use Rattle.vt_seat.specs.Saving.{Loads, IsLoaded}
use Rattle.two_seats.proofs.Beginning.{both_first}
use Rattle.vt_world.proofs.world.World.load.Goals as goal

pub returns-in_ok-b-in-Ok : goal.returns-in_ok-b-in-Ok
returns-in_ok-b-in-Ok c =
    let loads = subst (Loads c.args.bytes.now) c.in-Ok.is c.in_ok-a.ensures.loads in
    let made = subst (IsLoaded A c.args.piece) c.in-Ok.is c.in_ok-a.ensures.made in
    record {
      loads = (loads.0, loads.1, both_first loads.0 c.args.piece (record { a = c.in-Ok.a; b = c.in_ok-b-in-Ok.b; bag = c.new.result.items }) loads.1.fit loads.2 made c.in_ok-b-in-Ok.ensures.made c.new.ensures.items);
      begins = record { a = made; b = c.in_ok-b-in-Ok.ensures.made };
    }
