use Rattle.std.proofs.Common.{[], ◌∙◌, ap, sym, subst, refl}
use Rattle.std.specs.Prelude.{Result, IfOk}
use Rattle.vt_base.specs.declared.types.Malformed.{Malformed}
use Rattle.tpm_core.specs.declared.parts.TpmParts.{TpmParts}
use Rattle.ctrl_model.specs.Emulator.{switched_on}
use Rattle.ctrl_model.specs.Link.{Link}
use Rattle.crb_machine.specs.Values.{held_values}
use Rattle.crb_port.specs.declared.job.PortState.{PortState}
use Rattle.crb_worker.specs.declared.progress.Progress.TheVariants.{Free}
use Rattle.crb_history.specs.Snapshot.{Snapshot}
use Rattle.saved_stream.specs.Streams.{IsStream}
use Rattle.move_core.specs.Model.{HostModel}
use Rattle.vt_seat.specs.Wires.{WiresState, wires_to}
use Rattle.vt_seat.specs.Follows.{Refines}
use Rattle.vt_seat.specs.Seats.{new_seat, world_of}
use Rattle.vt_seat.specs.State.{SeatState}
use Rattle.vt_seat.proofs.Counted.{follows_any}
use Rattle.vt_seat.proofs.Savings.{follows-first}
use Rattle.vt_seat.proofs.saving.Seat+PlainPort.load.Goals as goal

pub returns-in_ok-host-in-Ok-2-clause-loads : goal.returns-in_ok-host-in-Ok-2-clause-loads
returns-in_ok-host-in-Ok-2-clause-loads c =
    let b : Snapshot = record { tpm = c.in-Ok-2.tpm; device = held_values c.read_stream.new.device } in
    let is : IsStream c.args.bytes.now b =
    subst (λ (r : Result TpmParts Malformed). IfOk r (λ (t : TpmParts). IsStream c.args.bytes.now (record { tpm = t; device = held_values c.read_stream.new.device }))) c.in-Ok-2.is c.in_ok-tpm.ensures.stream in
    let link = c.switch_on.ensures.link c.args.piece (c.in_ok-wires-in-Ok-2.ensures.wires ∙ ap wires_to c.in_ok-emulator-in-Ok-2.ensures)
    ∙ ap (λ (w : WiresState). record w.link { emulator = switched_on c.in-Ok-2.tpm w.link.emulator }) (c.in_ok-wires-in-Ok-2.ensures.wires ∙ ap wires_to c.in_ok-emulator-in-Ok-2.ensures) in
    let here = follows_any b _ _ _ _ _ 0 _ (follows-first b c.args.piece c.go_on.new.self Free c.switch_on.new.wires.link c.switch_on.new.wires.calls_to_fault is.fit c.go_on.ensures.exact refl link c.switch_on.ensures.calls_to_fault) in (
      b,
      is,
      subst (λ (s : SeatState PortState). Refines b [] (world_of s)) (sym c.new-seat.ensures.seat)
          (subst (λ (h : HostModel PortState). Refines b [] (world_of (new_seat h c.switch_on.new.wires))) (sym c.in_ok-host-in-Ok-2.ensures.made) here),
    )

pub returns-in_ok-host-in-Ok-2-clause-made : goal.returns-in_ok-host-in-Ok-2-clause-made
returns-in_ok-host-in-Ok-2-clause-made c =
    let link = c.switch_on.ensures.link c.args.piece (c.in_ok-wires-in-Ok-2.ensures.wires ∙ ap wires_to c.in_ok-emulator-in-Ok-2.ensures)
    ∙ ap (λ (w : WiresState). record w.link { emulator = switched_on c.in-Ok-2.tpm w.link.emulator }) (c.in_ok-wires-in-Ok-2.ensures.wires ∙ ap wires_to c.in_ok-emulator-in-Ok-2.ensures) in
    let host = ap (λ (s : SeatState PortState). s.host) c.new-seat.ensures.seat ∙ c.in_ok-host-in-Ok-2.ensures.made in
    record {
      name_is = ap (λ (h : HostModel PortState). h.name) host;
      runs = ap (λ (h : HostModel PortState). h.stage) host;
      top = ap (λ (h : HostModel PortState). h.top) host;
      record_piece = ap (λ (h : HostModel PortState). h.piece) host;
      blob_piece = ap (λ (s : SeatState PortState). s.link.emulator.piece) c.new-seat.ensures.seat ∙ ap (λ (l : Link). l.emulator.piece) link;
      free = ap (λ (s : SeatState PortState). s.progress) c.new-seat.ensures.seat;
      calls_to_fault = ap (λ (s : SeatState PortState). s.calls_to_fault) c.new-seat.ensures.seat ∙ c.switch_on.ensures.calls_to_fault;
      faults = ap (λ (s : SeatState PortState). s.faults) c.new-seat.ensures.seat ∙ c.switch_on.ensures.faults ∙ ap (λ (w : WiresState). w.faults) c.in_ok-wires-in-Ok-2.ensures.wires;
    }
