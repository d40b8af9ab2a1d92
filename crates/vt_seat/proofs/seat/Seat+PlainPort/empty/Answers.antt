use Rattle.std.proofs.Common.{ap, ◌∙◌}
use Rattle.crb_port.specs.declared.job.PortState.{PortState}
use Rattle.move_core.specs.Model.{HostModel}
use Rattle.vt_seat.specs.Wires.{wires_to}
use Rattle.vt_seat.specs.Seats.{wires_of}
use Rattle.vt_seat.specs.State.{SeatState}
use Rattle.vt_seat.proofs.seat.Seat+PlainPort.empty.Goals as goal

pub returns : goal.returns
returns c =
    let host = ap (λ (s : SeatState PortState). s.host) c.new-seat.ensures.seat ∙ c.in_ok-host.ensures.made in
    record {
      made = record {
        name_is = ap (λ (h : HostModel PortState). h.name) host;
        rests = ap (λ (h : HostModel PortState). h.stage) host;
        top = ap (λ (h : HostModel PortState). h.top) host;
        record_piece = ap (λ (h : HostModel PortState). h.piece) host;
        wires = ap wires_of c.new-seat.ensures.seat ∙ c.in_ok-wires.ensures.wires ∙ ap wires_to c.in_ok-emulator.ensures;
        free = ap (λ (s : SeatState PortState). s.progress) c.new-seat.ensures.seat;
      };
    }
