-- What is saved of a world, and what a world that was made again has.
use Rattle.std.proofs.Common.{◌≡◌, ℕ, ◌≤◌, Bool, true, false, List, [], ◌++◌, Option, Some, None, Result, Ok, Err, refl, sym, ap, ◌∙◌, arith, lit≤}
use Rattle.std.specs.Prelude.{◌≢◌, slice_index, if◌then◌else◌, OnOk}
use Rattle.std.proofs.lemmas.List.{take_all}
use Rattle.crb_regs.specs.Registers.{is_executing}
use Rattle.crb_regs.specs.declared.registers.Regs.{Regs}
use Rattle.crb_regs.specs.declared.phase.Phase.{Phase}
use Rattle.crb_regs.specs.declared.phase.Phase.TheVariants.{Execution, Lost}
use Rattle.crb_machine.specs.Over.{plain_device}
use Rattle.crb_machine.specs.State.{DeviceState, Slot}
use Rattle.crb_machine.specs.State.Slot.{InDevice, Queued, Claimed as ClaimedSlot, Answered}
use Rattle.crb_machine.specs.Steps.{collected, reset_reply, reset_reply_at}
use Rattle.crb_machine.specs.Values.{DeviceValues, IsUnclaimed, values_at, device_of, waiting_job}
use Rattle.crb_machine.specs.declared.device.NotYet.{NotYet}
use Rattle.crb_machine.specs.Model.{DeviceModel}
use Rattle.crb_port.specs.declared.job.PortState.{PortState}
use Rattle.crb_worker.specs.declared.progress.Progress.{Progress}
use Rattle.crb_worker.specs.declared.progress.Progress.TheVariants.{Free}
use Rattle.tpm_core.proofs.Law.{fit-past, no_past}
use Rattle.tpm_core.specs.declared.parts.TpmParts.{TpmParts}
use Rattle.ctrl_model.specs.Emulator.{switched_on}
use Rattle.ctrl_model.specs.Link.{Link}
use Rattle.crb_history.specs.Snapshot.{Snapshot, IsValidSnapshot}
use Rattle.crb_history.specs.Bytes.{command_in}
use Rattle.crb_history.specs.Event.{History}
use Rattle.crb_history.specs.Device.{registers_of, phase_of, number_of, buffer, executed}
use Rattle.crb_history.specs.Continued.{content_after, device_after, MaySuspend}
use Rattle.vt_transcript.specs.OneHost.{OneHost}
use Rattle.crb_history.proofs.Bytes.{take-bytes_at, bytes_at-same}
use Rattle.crb_history.proofs.Continuing.{waiting-command, waiting-number}
use Rattle.vt_base.specs.declared.types.Kind.TheVariants.{Permanent, Volatile, Saved}
use Rattle.device_record.specs.Records.{encode_record}
use Rattle.state_blobs.specs.Encodings.{encode_blob}
use Rattle.saved_stream.specs.Streams.{with_head, encode_stream}
use Rattle.vt_seat.specs.Blobs.{IsReadable}
use Rattle.vt_seat.specs.Wires.{fresh_wires}
use Rattle.vt_seat.specs.Follows.{HoldsBytes, HoldsBuffer, Placed, IsInjected, IsLinkAfter, RefinesAt, Refines, RefinesOneHost, place_of, tpm_at}
use Rattle.vt_seat.specs.State.{WorldState}
use Rattle.vt_seat.specs.Follows.Placed.{AtHome, InQueue, InHand, OnWay, Ran}
use Rattle.vt_seat.proofs.Guests.{collected-collected}
use Rattle.vt_seat.proofs.Jobs.{is_resting, to_rest}
use Rattle.vt_seat.proofs.Resets.{IsAtRest, IsBusy, at_rest, busy_where, free_where, claimed_where, not_lost}
use Rattle.vt_seat.proofs.WorkerSteps.{raw_claimed}

-- ---- the values of the device

-- the bytes at hand are those of the history
content-is : (b : Snapshot) (p : History) (bytes : List ℕ) → HoldsBytes b p bytes → bytes ≡ content_after b p
unfolding content_after
content-is b p bytes holds =
    sym (take_all 3968 bytes (omega (arith, holds.size))) ∙ take-bytes_at bytes 3968 (omega (arith, holds.size))
    ∙ bytes_at-same (slice_index bytes) (buffer b p) 3968 holds.each 0 3968 (lit≤ tt)

-- no job is claimed
open_slot : (d : DeviceState) → reset_reply d ≡ Ok tt → (collected d).slot ≢ ClaimedSlot
open_slot d done claimed = free_where d.slot d.number done (raw_claimed d claimed).slot

-- the values of a device whose job isn't claimed are those of the history
pub values-by : (b : Snapshot) (p : History) (slot : Slot) (progress : Progress) (regs : Regs) (number : ℕ) → Placed b p slot progress → slot ≢ ClaimedSlot
    → regs ≡ registers_of b p → number ≡ number_of b p → HoldsBuffer b p slot → values_at (record { regs = regs; number = number; slot = slot }) ≡ device_after b p
values-by b p slot progress regs number (AtHome bytes still) at_home regs_is number_is holds = rw (regs_is, number_is, still, content-is b p bytes holds) refl
values-by b p slot progress regs number (InQueue job last) at_home regs_is number_is holds = rw (regs_is, number_is, last.held, last.at.executing, content-is b p job.buf holds) refl
values-by b p slot progress regs number (InHand job last) at_home regs_is number_is holds = absurd (at_home refl)
values-by b p slot progress regs number (OnWay job last) at_home regs_is number_is holds = absurd (at_home refl)
values-by b p slot progress regs number (Ran job head is) at_home regs_is number_is holds = absurd (at_home refl)

-- and they give all of it
pub unclaimed-by : (b : Snapshot) (p : History) (slot : Slot) (progress : Progress) (regs : Regs) (number : ℕ) → Placed b p slot progress → slot ≢ ClaimedSlot
    → regs ≡ registers_of b p → number ≡ number_of b p → IsUnclaimed (record { regs = regs; number = number; slot = slot })
unclaimed-by b p slot progress regs number (AtHome bytes still) at_home regs_is number_is = record { reach = tt; phase = ap (λ (r : Regs). is_executing r.phase) regs_is ∙ still }
unclaimed-by b p slot progress regs number (InQueue job last) at_home regs_is number_is = record { reach = last.number ∙ sym number_is; phase = ap (λ (r : Regs). is_executing r.phase) regs_is ∙ ap is_executing last.at.executing }
unclaimed-by b p slot progress regs number (InHand job last) at_home regs_is number_is = absurd (at_home refl)
unclaimed-by b p slot progress regs number (OnWay job last) at_home regs_is number_is = absurd (at_home refl)
unclaimed-by b p slot progress regs number (Ran job head is) at_home regs_is number_is = absurd (at_home refl)

-- what is known of a world whose device was stopped
pub record IsStopped (b : Snapshot) (p : History) (d : DeviceState) (progress : Progress) : Type 0 where
  pub may : MaySuspend b p
  pub rest : IsAtRest b p progress
  pub values : values_at (collected d) ≡ device_after b p
  pub whole : IsUnclaimed (collected d)

pub stopped_where : (b : Snapshot) (p : History) (d : DeviceState) (progress : Progress) (l : Link) → RefinesAt b p d progress l → phase_of b p ≢ Lost → reset_reply d ≡ Ok tt → IsStopped b p d progress
stopped_where b p d progress l s working done =
    let at_home : (collected d).slot ≢ ClaimedSlot = open_slot d done in
    let rest : IsAtRest b p progress = at_rest b p (collected d).slot progress at_home s.job in
    record {
      may = record { working = working; unclaimed = rest.unclaimed };
      rest = rest;
      values = values-by b p (collected d).slot progress (collected d).regs (collected d).number s.job at_home s.device.regs s.device.number (s.device.bytes (not_lost (phase_of b p) working));
      whole = unclaimed-by b p (collected d).slot progress (collected d).regs (collected d).number s.job at_home s.device.regs s.device.number;
    }

-- ---- the world goes on as before

-- the device took back what stood
pub stands-on : (b : Snapshot) (p : History) (d e : DeviceState) (progress : Progress) (l : Link) → RefinesAt b p d progress l → e ≡ collected d → RefinesAt b p e progress l
stands-on b p d e progress l s is = record { device = rw (is, collected-collected d) s.device; job = rw (is, collected-collected d) s.job; quiet = s.quiet; link = s.link }

pub follows-on : (b : Snapshot) (t : OneHost) (d e : DeviceModel PortState) (progress : Progress) (l m : Link) (calls_to_fault calls_to_fault' : Option ℕ)
    → RefinesOneHost b t (record { device = d; progress = progress; link = l; calls_to_fault = calls_to_fault; faults = 0 }) → plain_device e ≡ collected (plain_device d) → m ≡ l → calls_to_fault' ≡ calls_to_fault
    → RefinesOneHost b t (record { device = e; progress = progress; link = m; calls_to_fault = calls_to_fault'; faults = 0 })
follows-on b t d e progress l m calls_to_fault calls_to_fault' follows is link_is calls_to_fault_is = record {
  fit = follows.fit;
  stands = rw link_is (stands-on b t.history (plain_device d) (plain_device e) progress l follows.stands is);
  calls_to_fault = rw calls_to_fault_is follows.calls_to_fault;
}

-- a job is claimed
pub busy_at : (b : Snapshot) (p : History) (d : DeviceState) (progress : Progress) (l : Link) (not_yet : NotYet) → RefinesAt b p d progress l → reset_reply d ≡ Err not_yet → IsBusy b p
busy_at b p d progress l not_yet s early =
    let claimed : d.slot ≡ ClaimedSlot = claimed_where d.slot d.number not_yet early in
    let raw : collected d ≡ d = rw claimed refl in
    busy_where b p (collected d).slot progress (ap (λ (x : DeviceState). x.slot) raw ∙ claimed) s.job

pub value_at : (b : Snapshot) (p : History) (d : DeviceState) (progress : Progress) (l : Link) (not_yet : NotYet) → RefinesAt b p d progress l → reset_reply d ≡ Err not_yet → not_yet.number ≡ number_of b p
value_at b p d progress l not_yet s early =
    let claimed : d.slot ≡ ClaimedSlot = claimed_where d.slot d.number not_yet early in
    let raw : collected d ≡ d = rw claimed refl in
    number_by d.slot d.number not_yet early ∙ ap (λ (x : DeviceState). x.number) (sym raw) ∙ s.device.number
  where
    number_by : (slot : Slot) (number : ℕ) (n : NotYet) → reset_reply_at slot number ≡ Err n → n.number ≡ number
    number_by (InDevice bytes) number n is = cc
    number_by (Queued j) number n is = cc
    number_by ClaimedSlot number n is = cc
    number_by (Answered a) number n is = cc

-- ---- the emulator

pub no_fault_comes : (count : ℕ) (injected_fault : Option ℕ) (calls_to_fault : Option ℕ) → injected_fault ≡ None → IsInjected injected_fault count calls_to_fault → calls_to_fault ≡ None
no_fault_comes count None calls_to_fault none is = is
no_fault_comes count (Some call) calls_to_fault none is = cc

pub readable : (b : Snapshot) (t : OneHost) (w : WorldState) (faults : ℕ) → RefinesOneHost b t w → t.injected_fault ≡ None → phase_of b t.history ≢ Lost
    → is_resting (place_of b t.history) ≡ true → 1 ≤ w.link.emulator.piece → IsReadable (record { link = w.link; calls_to_fault = w.calls_to_fault; faults = faults }) (tpm_at b t.history)
readable b t w faults follows unordered working rests some =
    let p : History = t.history in
    let link : IsLinkAfter b p w.link = follows.stands.link (not_lost (phase_of b p) working) in
    let at_rest = to_rest (place_of b p) _ (tpm_at b p) _ w.link rests link in
    record {
      quiet = follows.stands.quiet;
      unordered = no_fault_comes t.count t.injected_fault w.calls_to_fault unordered follows.calls_to_fault;
      tpm = at_rest.emulator.tpm;
      fit = fit-past b.tpm (executed b p) follows.fit;
      some = some;
    }

-- ---- a world that was made again

pub executing_is : (phase : Phase) → is_executing phase ≡ true → phase ≡ Execution
executing_is Execution is = refl
executing_is _ is = cc

-- the device of these values stands at the beginning of them
stands-first : (b : Snapshot) (piece : ℕ) → IsValidSnapshot b → RefinesAt b [] (device_of b.device) Free (record (fresh_wires None piece).link { emulator = switched_on b.tpm (fresh_wires None piece).link.emulator })
stands-first b piece fit = go (is_executing b.device.phase) refl
  where
    link : Link
    link = record (fresh_wires None piece).link { emulator = switched_on b.tpm (fresh_wires None piece).link.emulator }

    number : b.device.number ≡ number_of b []
    number = sym (waiting-number (is_executing b.device.phase) b.device.number (command_in (slice_index b.device.content)))

    go : (executing : Bool) → is_executing b.device.phase ≡ executing
        → RefinesAt b [] (record { regs = record { granted = b.device.granted; cancel = b.device.cancel; phase = b.device.phase }; number = b.device.number; slot = if executing then Queued (waiting_job b.device) else InDevice b.device.content }) Free link
    go false still = record {
      device = record { regs = refl; number = number; bytes = λ far. record { size = fit.device.size; each = λ i lt. refl } };
      job = AtHome b.device.content still;
      quiet = record { nothing = refl; listens = refl };
      link = λ far. rw still (record { emulator = record { tpm = ap Some (sym (no_past b.tpm fit.tpm)); on = refl; stored = refl; gathers = refl; held_is = refl }; channel = refl });
    }
    go true executing = record {
      device = record { regs = refl; number = number; bytes = λ far. record { size = fit.device.size; each = λ i lt. refl } };
      job = InQueue (waiting_job b.device) (record {
        number = number;
        size = fit.device.size;
        command = sym (waiting-command (is_executing b.device.phase) b.device.number (command_in (slice_index b.device.content)) executing);
        held = refl;
        at = record { executing = executing_is b.device.phase executing; reached = refl };
      });
      quiet = record { nothing = refl; listens = refl };
      link = λ far. rw executing (record { emulator = record { tpm = ap Some (sym (no_past b.tpm fit.tpm)); on = refl; stored = refl; gathers = refl; held_is = refl }; channel = refl });
    }

pub follows-first : (b : Snapshot) (piece : ℕ) (d : DeviceModel PortState) (progress : Progress) (m : Link) (calls_to_fault : Option ℕ) → IsValidSnapshot b → plain_device d ≡ device_of b.device → progress ≡ Free
    → m ≡ record (fresh_wires None piece).link { emulator = switched_on b.tpm (fresh_wires None piece).link.emulator } → calls_to_fault ≡ None
    → Refines b [] (record { device = d; progress = progress; link = m; calls_to_fault = calls_to_fault; faults = 0 })
follows-first b piece d progress m calls_to_fault fit is free link_is none = record { fit = fit.tpm; stands = rw (is, free, link_is) (stands-first b piece fit); calls_to_fault = none }

-- ---- the stream

pub ok_map : {T E : Type 0} (r : Result T E) (P Q : Type 0) → (P → Q) → OnOk r P → OnOk r Q
ok_map (Ok x) P Q f h = f h
ok_map (Err e) P Q f h = h

-- the parts make the stream
pub parts_are : (v : DeviceValues) (t : TpmParts) (device permanent volatile saved : List ℕ)
    → device ≡ encode_record v → permanent ≡ encode_blob Permanent t → volatile ≡ encode_blob Volatile t → saved ≡ encode_blob Saved t → with_head (device ++ permanent ++ volatile ++ saved) ≡ encode_stream (record { tpm = t; device = v })
unfolding encode_stream
parts_are v t device permanent volatile saved d p w z = rw (d, p, w, z) refl
