use Rattle.std.proofs.Common.{rules, ◌≡◌, [], Some, length, refl, ap, sym, subst, ◌∙◌}
use Rattle.tpm_core.specs.Fresh.{manufactured}
use Rattle.std.specs.Prelude.{Result}
use Rattle.ctrl_client.specs.Exchange.{IsQuiet, CountsLink}
use Rattle.ctrl_client.specs.declared.fault.ClientFault.{ClientFault}
use Rattle.crb_port.specs.declared.job.PortState.{PortState}
use Rattle.crb_worker.specs.declared.progress.Progress.TheVariants.{Free}
use Rattle.crb_history.specs.Snapshot.{fresh}
use Rattle.move_core.specs.Model.{HostModel}
use Rattle.vt_seat.specs.Wires.{WiresState, fresh_wires, wires_to}
use Rattle.vt_seat.specs.Follows.{Refines}
use Rattle.vt_seat.specs.Seats.{new_seat, world_of}
use Rattle.vt_seat.specs.State.{SeatState}
use Rattle.vt_seat.proofs.Counted.{follows_any}
use Rattle.vt_seat.proofs.Piece.{commands_piece}
use Rattle.vt_seat.proofs.Resets.{new-follows}
use Rattle.vt_seat.proofs.Steps.{the_same}
use Rattle.vt_seat.proofs.seat.Seat+PlainPort.fresh.Goals as goal

pub returns-clause-follows : goal.returns-clause-follows
returns-clause-follows c =
    let whole : length c.args.seed ≡ 32 = search rules in
    let quiet : IsQuiet (fresh_wires (Some (manufactured c.args.seed c.args.banks)) c.args.piece).link = record { nothing = refl; listens = refl } in
    let device = the_same _ _ c.in_ok-device.ensures.exact in
    let here = follows_any (fresh c.args.seed c.args.banks) _ _ _ _ _ 0 _ (new-follows c.args.seed c.args.banks c.args.piece c.in_ok-device.device Free c.init.new.wires.link c.init.new.wires.calls_to_fault c.init.result whole device refl ((rw (c.in_ok-wires.ensures.wires ∙ ap wires_to c.in_ok-emulator.ensures) at c.init.ensures.exact) quiet)) in
    subst (λ (s : SeatState PortState). Refines (fresh c.args.seed c.args.banks) [] (world_of s)) (sym c.new-seat.ensures.seat)
    (subst (λ (h : HostModel PortState). Refines (fresh c.args.seed c.args.banks) [] (world_of (new_seat h c.init.new.wires))) (sym c.in_ok-host.ensures.made) here)

pub returns-clause-made : goal.returns-clause-made
returns-clause-made c =
    let quiet : IsQuiet (fresh_wires (Some (manufactured c.args.seed c.args.banks)) c.args.piece).link = record { nothing = refl; listens = refl } in
    let host = ap (λ (s : SeatState PortState). s.host) c.new-seat.ensures.seat ∙ c.in_ok-host.ensures.made in
    record {
      name_is = ap (λ (h : HostModel PortState). h.name) host;
      runs = ap (λ (h : HostModel PortState). h.stage) host;
      top = ap (λ (h : HostModel PortState). h.top) host;
      record_piece = ap (λ (h : HostModel PortState). h.piece) host;
      blob_piece = ap (λ (s : SeatState PortState). s.link.emulator.piece) c.new-seat.ensures.seat
          ∙ commands_piece _ _ _ [] (fresh_wires (Some (manufactured c.args.seed c.args.banks)) c.args.piece).link c.init.new.wires.link _ _ c.init.new.wires.calls_to_fault tt ((rw (c.in_ok-wires.ensures.wires ∙ ap wires_to c.in_ok-emulator.ensures) at c.init.ensures.exact) quiet);
      free = ap (λ (s : SeatState PortState). s.progress) c.new-seat.ensures.seat;
      calls_to_fault = (returns-clause-follows c).calls_to_fault;
      faults = ap (λ (s : SeatState PortState). s.faults) c.new-seat.ensures.seat
          ∙ subst (λ (r : Result (Unit {0}) ClientFault). CountsLink c.in_ok-wires.wires.faults c.init.new.wires.faults r) c.in-Ok.is c.init.ensures.counts
          ∙ ap (λ (w : WiresState). w.faults) c.in_ok-wires.ensures.wires;
    }
