-- A held device that has the values at the end of a history goes on there.
use Rattle.std.proofs.Common.{◌≡◌, ℕ, Bool, true, false, List, length, refl, sym, ap, ◌∙◌, Some, None, Ok}
use Rattle.std.specs.Prelude.{slice_index, Option, is_some, if◌then◌else◌}
use Rattle.crb_regs.specs.Registers.{is_executing}
use Rattle.crb_machine.specs.Values.{device_of, waiting_job, held_values, values_at}
use Rattle.crb_machine.specs.Over.{plain_device, placed, IsConsistentDevice, IsNumbered, GoesOn, GoesOnIf, Stops, BringsBackAt}
use Rattle.crb_machine.specs.Model.{DeviceModel}
use Rattle.crb_regs.specs.declared.registers.Regs.{Regs}
use Rattle.crb_port.specs.Plain.{plain}
use Rattle.crb_port.specs.declared.job.Job.{Job}
use Rattle.crb_port.specs.declared.job.Pull.TheVariants as pulled
use Rattle.crb_port.specs.declared.job.PortState.{PortState}
use Rattle.crb_port.specs.declared.job.PortState.TheVariants as port_state
use Rattle.vt_seat.proofs.Steps.{the_same}
use Rattle.crb_machine.specs.State.Slot.{InDevice, Queued}
use Rattle.crb_machine.specs.Steps.{collected, reset_reply}
use Rattle.crb_worker.specs.declared.progress.Progress.TheVariants.{Free}
use Rattle.ctrl_model.specs.Link.{Link}
use Rattle.ctrl_client.specs.Exchange.{IsQuiet}
use Rattle.crb_history.specs.Snapshot.{Snapshot, IsValidSnapshot}
use Rattle.crb_history.specs.Event.{History}
use Rattle.crb_history.specs.Device.{phase_of, number_of, buffer, last_command, registers_of}
use Rattle.crb_history.specs.Device.JobStage.{Waiting}
use Rattle.crb_history.specs.Cancelling.{cancelled_in_emulator}
use Rattle.crb_history.specs.Continued.{content_after, device_after, snapshot_after, MaySuspend}
use Rattle.crb_history.proofs.Bytes.{command_in-same}
use Rattle.crb_history.proofs.Continuing.{content-byte, executing-command}
use Rattle.vt_seat.specs.Follows.{HoldsBytes, RefinesAt, place_of, tpm_at}
use Rattle.vt_seat.specs.Follows.Placed.{AtHome, InQueue}
use Rattle.vt_seat.proofs.Jobs.{Rests, is_resting, from_rest, place-executing, place-still}
use Rattle.vt_seat.proofs.Savings.{executing_is}

holds : (b : Snapshot) (p : History) → length (content_after b p) ≡ 3968 → HoldsBytes b p (content_after b p)
holds b p size = record { size = size; each = λ i lt. content-byte b p i lt }

-- the device of the values at the end of a history stands there
pub stands-at : (b : Snapshot) (p : History) (l : Link) → IsValidSnapshot (snapshot_after b p) → MaySuspend b p → IsQuiet l → Rests (tpm_at b p) l → RefinesAt b p (device_of (device_after b p)) Free l
stands-at b p l fit may quiet rests = go (is_executing (phase_of b p)) refl
  where
    size : length (content_after b p) ≡ 3968
    size = fit.device.size

    go : (executing : Bool) → is_executing (phase_of b p) ≡ executing
        → RefinesAt b p (record { regs = registers_of b p; number = number_of b p; slot = if executing then Queued (waiting_job (device_after b p)) else InDevice (content_after b p) }) Free l
    go false still = record {
      device = record { regs = refl; number = refl; bytes = λ far. holds b p size };
      job = AtHome (content_after b p) still;
      quiet = quiet;
      link = λ far. from_rest (place_of b p) (cancelled_in_emulator b p) (tpm_at b p) (last_command b p) l (ap is_resting (place-still b p still)) rests;
    }
    go true executing =
        let now = executing_is (phase_of b p) executing in
        record {
          device = record { regs = refl; number = refl; bytes = λ far. holds b p size };
          job = InQueue (waiting_job (device_after b p)) (record {
            number = refl;
            size = size;
            command = command_in-same (slice_index (content_after b p)) (buffer b p) (λ i lt. content-byte b p i lt) ∙ sym (executing-command b p now);
            held = rw executing refl;
            at = record { executing = now; reached = may.unclaimed now };
          });
          quiet = quiet;
          link = λ far. from_rest (place_of b p) (cancelled_in_emulator b p) (tpm_at b p) (last_command b p) l (ap is_resting (place-executing b p Waiting now (may.unclaimed now))) rests;
        }

-- ---- a device that goes on, and one that is stopped, over a port whose state is known

on_by : (regs : Regs) (number : ℕ) (own_buffer : Option (List ℕ)) (held cancelled : Bool) (port : PortState) (e : DeviceModel PortState) (executing : Bool) → is_executing regs.phase ≡ executing → is_some own_buffer ≡ true
    → GoesOnIf executing plain (record { regs = regs; number = number; own_buffer = own_buffer; held = held; cancelled = cancelled; port = port }) e
    → plain_device e ≡ device_of (held_values (record { regs = regs; number = number; own_buffer = own_buffer; held = held; cancelled = cancelled; port = port }))
on_by regs number None held cancelled port e executing phase some goes = absurd cc
on_by regs number (Some buf) held cancelled port e false phase some same = ap plain_device same ∙ rw phase refl
on_by regs number (Some buf) held cancelled port e true phase some (same, queues) =
    let job : Job = record { number = number; cancelled = cancelled; buf = buf } in
    let waits : e.port ≡ port_state.Waiting job = the_same _ _ queues.state in
    ap plain_device same ∙ ap (λ s. placed regs number None s) waits ∙ rw phase refl

pub goes-on : (d e : DeviceModel PortState) → d.held ≡ true → IsConsistentDevice plain d → GoesOn plain d e → plain_device e ≡ device_of (held_values d)
goes-on d e held consistent goes = on_by d.regs d.number d.own_buffer d.held d.cancelled d.port e (is_executing d.regs.phase) refl (consistent.held held) goes

-- a device that was stopped
pub record IsStoppedAs (d e : DeviceModel PortState) : Type 0 where
  pub values : held_values e ≡ values_at (collected (plain_device d))
  pub done : reset_reply (plain_device d) ≡ Ok tt

stopped_by : (regs : Regs) (number : ℕ) (own_buffer : Option (List ℕ)) (port : PortState) (e : DeviceModel PortState) → IsNumbered number port
    → BringsBackAt own_buffer plain (record { regs = regs; number = number; own_buffer = own_buffer; held = false; cancelled = false; port = port }) e
    → IsStoppedAs (record { regs = regs; number = number; own_buffer = own_buffer; held = false; cancelled = false; port = port }) e
stopped_by regs number (Some buf) port e numbered same = record { values = ap held_values same; done = refl }
stopped_by regs number None port e numbered (pulled.Free, pulls, home_by) = absurd home_by
stopped_by regs number None port e numbered (pulled.Busy, pulls, home_by) = absurd home_by
stopped_by regs number None port e numbered (pulled.Job job, pulls, home_by) =
    let stood : port ≡ port_state.Waiting job = pulls.0.stood in
    record {
      values = ap held_values home_by ∙ rw stood refl;
      done = rw stood refl;
    }
stopped_by regs number None port e numbered (pulled.Answer answer, pulls, home_by) =
    let stood : port ≡ port_state.Answered answer = pulls.0.stood in
    record {
      values = ap held_values home_by ∙ rw stood refl;
      done = rw stood refl;
    }

pub stopped-as : (d e : DeviceModel PortState) → d.held ≡ false → IsConsistentDevice plain d → Stops plain d (Ok tt) e → IsStoppedAs d e
stopped-as d e runs consistent stops = go d.cancelled d.held (consistent.mark runs) runs stops
  where
    go : (cancelled held : Bool) → cancelled ≡ false → held ≡ false
        → BringsBackAt d.own_buffer plain (record { regs = d.regs; number = d.number; own_buffer = d.own_buffer; held = held; cancelled = cancelled; port = d.port }) e
        → IsStoppedAs (record { regs = d.regs; number = d.number; own_buffer = d.own_buffer; held = held; cancelled = cancelled; port = d.port }) e
    go true held unmarked runs own_buffer = absurd cc
    go false true unmarked runs own_buffer = absurd cc
    go false false unmarked runs own_buffer = stopped_by d.regs d.number d.own_buffer d.port e consistent.number own_buffer
