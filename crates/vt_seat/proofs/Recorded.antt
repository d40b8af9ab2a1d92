-- A host whose record was written, over a port that shows what is in it.
use Rattle.std.proofs.Common.{◌≡◌, ◌≢◌, ◌⊎◌, ℕ, Bool, true, false, List, [], ◌∷◌, take, None, Ok, Err, inl, inr, refl, sym, ap, subst, ◌∙◌}
use Rattle.crb_regs.specs.Registers.{is_lost}
use Rattle.crb_port.specs.Views.{stage_of as port_stage, waiting_stage}
use Rattle.crb_port.specs.Plain.{plain}
use Rattle.crb_port.specs.Calls.{Found}
use Rattle.crb_port.specs.declared.job.PortStage.{PortStage}
use Rattle.crb_port.specs.declared.job.PortStage.TheVariants as stage
use Rattle.crb_port.specs.declared.job.PortState.{PortState}
use Rattle.crb_port.specs.declared.job.PortState.TheVariants.{Nothing, Waiting, Claimed, Answered}
use Rattle.crb_machine.specs.Model.{DeviceModel}
use Rattle.crb_machine.specs.Over.{plain_device, slot_at, IsConsistentDevice, IsBusy, Stops, GoesOn}
use Rattle.crb_machine.specs.State.Slot.{Claimed as ClaimedSlot}
use Rattle.crb_machine.specs.State.{Slot}
use Rattle.crb_machine.specs.Steps.{collected, reset_reply, reset_reply_at}
use Rattle.crb_machine.specs.Values.{DeviceValues, AreValid, held_values}
use Rattle.crb_worker.specs.declared.progress.Progress.{Progress}
use Rattle.ctrl_model.specs.Link.{Link}
use Rattle.device_record.specs.Records.{encode_record}
use Rattle.crb_history.specs.Snapshot.{Snapshot}
use Rattle.crb_history.specs.Event.{History}
use Rattle.crb_history.specs.Device.{phase_of}
use Rattle.crb_history.specs.Continued.{device_after}
use Rattle.crb_regs.specs.declared.phase.Phase.TheVariants.{Lost}
use Rattle.move_core.specs.Model.{HostModel}
use Rattle.move_core.specs.Hosts.{IsConsistentHost}
use Rattle.move_core.specs.Sides.{is_running, holds_device}
use Rattle.move_core.specs.Recording.{Records, StopsAndResumes}
use Rattle.move_core.specs.declared.stage.MoveStage.{MoveStage}
use Rattle.move_core.specs.declared.stage.MoveStage.TheVariants.{Empty, Running, Draining, Offering, Released, Filling, Prepared}
use Rattle.move_core.specs.declared.answers.RecordFault.{RecordFault}
use Rattle.move_core.specs.declared.answers.RecordFault.TheVariants as fault
use Rattle.vt_seat.specs.Follows.{RefinesAt}
use Rattle.vt_seat.proofs.Going.{stopped-as, IsStoppedAs}
use Rattle.vt_seat.proofs.Savings.{IsStopped, stopped_where}
use Rattle.vt_seat.proofs.Resets.{not_lost}

-- ---- the device of a running host isn't held

pub still_is : (s : MoveStage) → is_running s ≡ true → holds_device s ≡ false
still_is Running is = refl
still_is Empty is = absurd cc
still_is Draining is = absurd cc
still_is (Offering e totals) is = absurd cc
still_is (Released e) is = absurd cc
still_is (Filling e totals part place) is = absurd cc
still_is (Prepared e) is = absurd cc

pub runs_here : (h : HostModel PortState) → IsConsistentHost plain h → is_running h.stage ≡ true → h.device.held ≡ false
runs_here h consistent runs = consistent.matches_side.held ∙ still_is h.stage runs

-- ---- a device whose job is claimed

claimed_slot : (s : PortState) → port_stage s ≡ stage.Claimed → slot_at None s ≡ ClaimedSlot
claimed_slot Nothing is = cc
claimed_slot (Waiting job) is = absurd (waits job.cancelled is)
  where
    waits : (c : Bool) → waiting_stage c ≡ stage.Claimed → ⊥
    waits true is = cc
    waits false is = cc
claimed_slot (Claimed number) is = refl
claimed_slot (Answered answer) is = cc

busy_reply : (d e : DeviceModel PortState) → IsBusy plain d e → reset_reply (plain_device d) ≡ Err (record { number = d.number })
busy_reply d e busy = go busy.pulls.2
  where
    at : port_stage d.port ≡ stage.Claimed → reset_reply (plain_device d) ≡ Err (record { number = d.number })
    at is = ap (λ (s : Slot). reset_reply_at s d.number) (ap (λ own_buffer. slot_at own_buffer d.port) busy.away ∙ claimed_slot d.port is)

    go : Found (plain d.port) (plain e.port) stage.Claimed [] ⊎ ((first : PortStage) × ((plain d.port).state ≡ None) × Found (plain d.port) (plain e.port) first (stage.Claimed ∷ [])) → reset_reply (plain_device d) ≡ Err (record { number = d.number })
    go (inl found) = at found.state
    go (inr (first, none, found)) = absurd cc

-- the port of a host with a claimed job
pub not_yet_here : (h new : HostModel PortState) (number : ℕ) (bytes : List ℕ) → Records plain h (Err (fault.NotYet number)) bytes new → reset_reply (plain_device h.device) ≡ Err (record { number = number })
not_yet_here h new number bytes (runs, (named, busy), rest) = busy_reply h.device new.device busy ∙ ap Err (sym named)

-- ---- a device that was stopped and goes on

-- what is known of a host whose record was written
pub record IsRecorded (b : Snapshot) (p : History) (progress : Progress) (h new : HostModel PortState) (text : List ℕ) : Type 0 where
  pub stopped : IsStopped b p (plain_device h.device) progress
  pub text_is : text ≡ encode_record (device_after b p)
  pub fit : AreValid (device_after b p)
  pub back : plain_device new.device ≡ collected (plain_device h.device)

-- the values of the device that was stopped
values_here : (b : Snapshot) (p : History) (h new : HostModel PortState) (progress : Progress) (l : Link) → IsConsistentHost plain h → is_running h.stage ≡ true → RefinesAt b p (plain_device h.device) progress l → phase_of b p ≢ Lost
    → (paused : StopsAndResumes plain h new) → (held_values paused.device ≡ device_after b p) × IsStopped b p (plain_device h.device) progress
values_here b p h new progress l consistent runs stands working paused =
    let stood : IsStoppedAs h.device paused.device = stopped-as h.device paused.device (runs_here h consistent runs) consistent.device paused.stops in
    let stopped : IsStopped b p (plain_device h.device) progress = stopped_where b p (plain_device h.device) progress l stands working stood.done in
    (stood.values ∙ stopped.values, stopped)

pub recorded_here : (b : Snapshot) (p : History) (h new : HostModel PortState) (progress : Progress) (l : Link) (count : ℕ) (bytes : List ℕ)
    → ((d e f : DeviceModel PortState) → IsConsistentDevice plain d → d.held ≡ false → Stops plain d (Ok tt) e → GoesOn plain e f → plain_device f ≡ collected (plain_device d))
    → IsConsistentHost plain h → is_running h.stage ≡ true → RefinesAt b p (plain_device h.device) progress l → phase_of b p ≢ Lost → Records plain h (Ok count) bytes new
    → IsRecorded b p progress h new (take count bytes)
recorded_here b p h new progress l count bytes same consistent runs stands working (at, (paused, far, text)) =
    let here = values_here b p h new progress l consistent runs stands working paused in
    record {
      stopped = here.1;
      text_is = text.spelled ∙ ap encode_record here.0;
      fit = subst AreValid here.0 text.fit;
      back = same h.device paused.device new.device consistent.device (runs_here h consistent runs) paused.stops paused.resumes.device;
    }

-- no other answer comes
pub no_other : (b : Snapshot) (p : History) (h new : HostModel PortState) (progress : Progress) (l : Link) (f : RecordFault) (bytes : List ℕ)
    → IsConsistentHost plain h → is_running h.stage ≡ true → RefinesAt b p (plain_device h.device) progress l → phase_of b p ≢ Lost → Records plain h (Err f) bytes new
    → ((number : ℕ) → f ≢ fault.NotYet number) → ⊥
no_other b p h new progress l fault.Stopped bytes consistent runs stands working (still, same) other = let wrong : false ≡ true = sym still ∙ runs in cc
no_other b p h new progress l (fault.NotYet number) bytes consistent runs stands working is other = other number refl
no_other b p h new progress l fault.Device bytes consistent runs stands working (at, (paused, lost)) other =
    let here = values_here b p h new progress l consistent runs stands working paused in
    let wrong : true ≡ false = sym lost ∙ ap (λ (v : DeviceValues). is_lost v.phase) here.0 ∙ not_lost (phase_of b p) working in
    cc
