use Rattle.std.proofs.Common.{◌≡◌, ◌≤◌, ◌∙◌, true, Err, refl, sym, ap, subst}
use Rattle.std.specs.Prelude.{Result, ℕ}
use Rattle.crb_port.specs.Plain.{plain}
use Rattle.crb_port.specs.declared.job.PortState.{PortState}
use Rattle.crb_machine.specs.Over.{plain_device}
use Rattle.vt_emulator.specs.Emulator.{BufferedEmulator}
use Rattle.crb_history.specs.Device.{executed}
use Rattle.crb_history.specs.Continued.{device_after}
use Rattle.move_core.specs.Sides.{is_running}
use Rattle.move_core.specs.Recording.{Records}
use Rattle.move_core.specs.declared.answers.RecordFault.{RecordFault}
use Rattle.move_core.specs.declared.answers.RecordFault.TheVariants as fault
use Rattle.vt_seat.specs.Follows.{RefinesOneHost, tpm_at}
use Rattle.vt_seat.specs.Seats.{world_of}
use Rattle.vt_seat.specs.State.{SeatState}
use Rattle.vt_seat.proofs.Counted.{follows_any}
use Rattle.vt_seat.proofs.Savings.{busy_at, value_at, readable}
use Rattle.vt_seat.proofs.Recorded.{recorded_here, not_yet_here}
use Rattle.vt_seat.proofs.Steps.{the_same}
use Rattle.vt_seat.proofs.saving.Seat+PlainPort.save.Goals as goal

pub append-requires-clause-readable : goal.append-requires-clause-readable
append-requires-clause-readable c =
    let b = c.requires.can.0 in
    let s = c.requires.can.1 in
    let can = c.requires.can.2 in
    let runs : is_running c.self.inside.host.stage ≡ true = ap (λ (x : SeatState PortState). is_running x.host.stage) c.self.view_is ∙ c.requires.runs in
    let here = follows_any b s _ _ _ _ _ 0 (subst (λ x. RefinesOneHost b s (world_of x)) (sym c.self.view_is) can.follows) in
    let recorded = recorded_here b s.history c.self.inside.host c.write_record-written.new.self c.self.inside.worker c.self.inside.wires.link c.in-Ok.count c.write_record-written.new.into
    (λ d e f consistent still stops goes. the_same _ _ (c.stopped_devices_go_on.ensures.same d e f consistent still stops goes)) c.side-side.ensures.consistent runs here.stands can.working c.in-Ok.ensures.records in
    (tpm_at b s.history, readable b s _ c.self.inside.wires.faults here can.unordered can.working recorded.stopped.rest.place (subst (λ (e : BufferedEmulator). 1 ≤ e.emulator.piece) c.emulator.ensures.emulator c.tpm.ensures.consistent.piece_least))

pub returns-in_ok-append-in-Ok-clause-saves : goal.returns-in_ok-append-in-Ok-clause-saves
returns-in_ok-append-in-Ok-clause-saves c = λ b s can.
    let runs : is_running c.self.inside.host.stage ≡ true = ap (λ (x : SeatState PortState). is_running x.host.stage) c.self.view_is ∙ c.requires.runs in
    let here = follows_any b s _ _ _ _ _ 0 (subst (λ x. RefinesOneHost b s (world_of x)) (sym c.self.view_is) can.follows) in
    let recorded = recorded_here b s.history c.self.inside.host c.write_record-written.new.self c.self.inside.worker c.self.inside.wires.link c.in-Ok.count c.write_record-written.new.into
    (λ d e f consistent still stops goes. the_same _ _ (c.stopped_devices_go_on.ensures.same d e f consistent still stops goes)) c.side-side.ensures.consistent runs here.stands can.working c.in-Ok.ensures.records in
    let ready = readable b s _ c.self.inside.wires.faults here can.unordered can.working recorded.stopped.rest.place (subst (λ (e : BufferedEmulator). 1 ≤ e.emulator.piece) c.emulator.ensures.emulator c.tpm.ensures.consistent.piece_least) in
    record {
      may = recorded.stopped.may;
      fit = record { device = recorded.fit; tpm = c.pasts_join.ensures.fit b.tpm (executed b s.history) here.fit };
      appended = c.in_ok-append-in-Ok.ensures.ok (tpm_at b s.history) (device_after b s.history) ready recorded.text_is;
    }

pub returns-in-Err-NotYet-clause-saves : goal.returns-in-Err-NotYet-clause-saves
returns-in-Err-NotYet-clause-saves c = λ b s can.
    let here = follows_any b s _ _ _ _ _ 0 (subst (λ x. RefinesOneHost b s (world_of x)) (sym c.self.view_is) can.follows) in
    let named : c.in-Err-NotYet.field-0 ≡ fault.NotYet c.in-Err-NotYet.number = rw c.in-Err-NotYet.is at c.in-Err-NotYet.field-0-is in
    let early = not_yet_here c.self.inside.host c.write_record-written.new.self c.in-Err-NotYet.number c.write_record-written.new.into
    (subst (λ (r : Result ℕ RecordFault). Records plain c.self.inside.host r c.write_record-written.new.into c.write_record-written.new.self) (c.in-Err-NotYet.is ∙ ap Err named) c.write_record-written.ensures.records) in (
      (busy_at b s.history (plain_device c.self.inside.host.device) c.self.inside.worker c.self.inside.wires.link (record { number = c.in-Err-NotYet.number }) here.stands early).busy,
      value_at b s.history (plain_device c.self.inside.host.device) c.self.inside.worker c.self.inside.wires.link (record { number = c.in-Err-NotYet.number }) here.stands early,
      refl,
    )
