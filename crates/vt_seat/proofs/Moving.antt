-- A guest that goes on after its device was stopped.
use Rattle.std.proofs.Common.{◌≡◌, ◌≢◌, true, false, ℕ, None, sym, ap, subst, ◌∙◌}
use Rattle.std.specs.Prelude.{Option}
use Rattle.crb_regs.specs.declared.registers.Regs.{Regs}
use Rattle.crb_machine.specs.Over.{plain_device}
use Rattle.crb_machine.specs.State.{DeviceState}
use Rattle.crb_machine.specs.State.Slot.{Claimed}
use Rattle.crb_machine.specs.Steps.{collected}
use Rattle.crb_worker.specs.declared.progress.Progress.{Progress}
use Rattle.crb_worker.specs.declared.progress.Progress.TheVariants.{Free}
use Rattle.tpm_core.proofs.Law.{fit-past}
use Rattle.crb_history.specs.Snapshot.{Snapshot}
use Rattle.crb_history.specs.Event.{History}
use Rattle.crb_history.specs.Device.{phase_of, last_command, executed}
use Rattle.crb_history.specs.Cancelling.{cancelled_in_emulator}
use Rattle.vt_transcript.specs.OneHost.{OneHost}
use Rattle.vt_seat.specs.Follows.{RefinesOneHost, Placed, IsInjected, IsDeviceAfter, place_of, tpm_at}
use Rattle.vt_seat.specs.State.{WorldState}
use Rattle.vt_seat.specs.Moves.{CanGo, IsAtRest, GoesOnFrom}
use Rattle.vt_seat.proofs.Guests.{collected-collected}
use Rattle.vt_seat.proofs.Jobs.{Rests, to_rest, from_rest}
use Rattle.vt_seat.proofs.Resets.{IsAtRest as Unclaimed, at_rest, busy_where, not_lost}
use Rattle.vt_seat.proofs.Savings.{values-by, unclaimed-by, no_fault_comes}

-- no job is claimed
open_slot : (b : Snapshot) (s : OneHost) (w : WorldState) → CanGo b s w → (collected (plain_device w.device)).slot ≢ Claimed
open_slot b s w can claimed =
    let busy = busy_where b s.history (collected (plain_device w.device)).slot w.progress claimed can.follows.stands.job in
    let wrong : true ≡ false = sym busy.busy ∙ can.unclaimed in
    cc

unclaimed_here : (b : Snapshot) (s : OneHost) (w : WorldState) → CanGo b s w → Unclaimed b s.history w.progress
unclaimed_here b s w can = at_rest b s.history (collected (plain_device w.device)).slot w.progress (open_slot b s w can) can.follows.stands.job

rests_here : (b : Snapshot) (s : OneHost) (w : WorldState) → CanGo b s w → Rests (tpm_at b s.history) w.link
rests_here b s w can =
    to_rest (place_of b s.history) (cancelled_in_emulator b s.history) (tpm_at b s.history) (last_command b s.history) w.link (unclaimed_here b s w can).place
    (can.follows.stands.link (not_lost (phase_of b s.history) can.working))

pub at_rest_here : (b : Snapshot) (s : OneHost) (w : WorldState) → CanGo b s w → IsAtRest b s w
at_rest_here b s w can = record {
  free = (unclaimed_here b s w can).free;
  unclaimed = open_slot b s w can;
  exact = unclaimed-by b s.history (collected (plain_device w.device)).slot w.progress (collected (plain_device w.device)).regs (collected (plain_device w.device)).number
      can.follows.stands.job (open_slot b s w can) can.follows.stands.device.regs can.follows.stands.device.number;
  values = values-by b s.history (collected (plain_device w.device)).slot w.progress (collected (plain_device w.device)).regs (collected (plain_device w.device)).number
      can.follows.stands.job (open_slot b s w can) can.follows.stands.device.regs can.follows.stands.device.number (can.follows.stands.device.bytes (not_lost (phase_of b s.history) can.working));
  working = λ lost. can.working (sym (ap (λ (r : Regs). r.phase) can.follows.stands.device.regs) ∙ lost);
  emulator = record { quiet = can.follows.stands.quiet; emulator = (rests_here b s w can).emulator; channel = (rests_here b s w can).channel };
  fit = fit-past b.tpm (executed b s.history) can.follows.fit;
  calls_to_fault = no_fault_comes s.count s.injected_fault w.calls_to_fault can.unordered can.follows.calls_to_fault;
}

-- the device took an answer
device_goes_on : (b : Snapshot) (p : History) (d e : DeviceState) → e ≡ collected d → IsDeviceAfter b p (collected d) → IsDeviceAfter b p (collected e)
device_goes_on b p d e is device = rw (is, collected-collected d) device

job_goes_on : (b : Snapshot) (p : History) (d e : DeviceState) (progress next : Progress) → e ≡ collected d → progress ≡ Free → next ≡ Free → Placed b p (collected d).slot progress → Placed b p (collected e).slot next
job_goes_on b p d e progress next is free now job = rw (is, collected-collected d, now) (subst (λ (q : Progress). Placed b p (collected d).slot q) free job)

due_goes_on : (count : ℕ) (injected_fault calls_to_fault : Option ℕ) → injected_fault ≡ None → calls_to_fault ≡ None → IsInjected injected_fault count calls_to_fault
due_goes_on count injected_fault calls_to_fault none is = rw none is

pub goes_on_here : (b : Snapshot) (s : OneHost) (old new : WorldState) → CanGo b s old → GoesOnFrom old new → RefinesOneHost b s new
goes_on_here b s old new can goes =
    let p : History = s.history in
    let rest = unclaimed_here b s old can in
    let emulator = goes.emulator (tpm_at b p) (rests_here b s old can).emulator.tpm in
    record {
      fit = can.follows.fit;
      stands = record {
        device = device_goes_on b p (plain_device old.device) (plain_device new.device) goes.device can.follows.stands.device;
        job = job_goes_on b p (plain_device old.device) (plain_device new.device) old.progress new.progress goes.device rest.free goes.free can.follows.stands.job;
        quiet = emulator.quiet;
        link = λ far. from_rest (place_of b p) (cancelled_in_emulator b p) (tpm_at b p) (last_command b p) new.link rest.place (record { emulator = emulator.emulator; channel = emulator.channel });
      };
      calls_to_fault = due_goes_on s.count s.injected_fault new.calls_to_fault can.unordered goes.calls_to_fault;
    }
