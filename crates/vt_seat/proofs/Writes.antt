-- A write of the guest keeps the device with its history.
use Rattle.std.proofs.Common.{◌≡◌, ℕ, ◌+◌, ◌-◌, ◌%◌, ◌^◌, ◌≤◌, Bool, true, false, ◌&&◌, List, ◌∷◌, refl, ap, sym, ◌∙◌, arith, Some, None, cond, ◌||◌, inl, inr, ◌⊎◌}
use Rattle.std.specs.Prelude.{Option, is_some, slice_index, nat_le, nat_lt, if◌then◌else◌}
use Rattle.std.proofs.lemmas.Bool.Decides.{nat_tests}
use Rattle.vt_base.proofs.Zeros.{length-zeros, get_or-zeros}
use Rattle.crb_regs.specs.LittleEndian.{byte_of}
use Rattle.crb_regs.specs.Access.{Access}
use Rattle.crb_regs.specs.Registers.{is_executing, is_lost}
use Rattle.crb_machine.specs.Phases.{next_phase, is_accepted}
use Rattle.crb_history.specs.Snapshot.{Snapshot}
use Rattle.crb_history.specs.Event.{History}
use Rattle.crb_history.specs.Event.Event.{Write}
use Rattle.crb_history.specs.Device.{written_value, effect_of, phase_of, is_granted, is_cancel, number_of, buffer, started, latest_number, stage_of, accepts, starts, Start as StartOf}
use Rattle.crb_history.specs.Device.JobStage.{Waiting}
use Rattle.crb_regs.specs.declared.registers.Regs.{Regs}
use Rattle.crb_regs.specs.declared.phase.Phase.{Phase}
use Rattle.crb_regs.specs.declared.phase.Phase.TheVariants.{Idle, Ready, Reception, Execution, Completion, Lost}
use Rattle.crb_regs.specs.declared.effect.Effect.{Effect}
use Rattle.crb_regs.specs.declared.effect.Effect.TheVariants.{Buffer, CmdReady, GoIdle, Start, Cancel, Request, Relinquish, Nothing}
use Rattle.crb_machine.specs.State.{DeviceState, Slot, is_in_device}
use Rattle.crb_machine.specs.Content.{slot_after}
use Rattle.crb_machine.specs.Steps.{written, written_to, number_after, is_start}
use Rattle.crb_port.specs.declared.job.Job.{Job}
use Rattle.crb_port.specs.declared.job.Answer.{Answer}
use Rattle.crb_history.specs.Cancelling.{cancelled_before_claim, sets_cancel, is_waiting}
use Rattle.crb_machine.specs.State.Slot.{InDevice, Queued, Claimed as ClaimedSlot, Answered}
use Rattle.crb_worker.specs.declared.progress.Progress.{Progress}
use Rattle.crb_worker.specs.declared.progress.Progress.TheVariants.{Free}
use Rattle.ctrl_model.specs.Link.{Link}
use Rattle.vt_seat.specs.Follows.{HoldsBytes, HoldsBuffer, IsDeviceAfter, IsLastJob, Placed, place_of, tpm_at, IsLinkAfter}
use Rattle.vt_seat.specs.Follows.Placed.{AtHome, InQueue, InHand, OnWay, Ran}
use Rattle.vt_seat.proofs.Jobs.{SameCommand, Placed-same, HoldsBuffer-same, link-same, is_resting, to_rest, from_rest}
use Rattle.crb_history.proofs.Phases.{effect-Buffer, start-executes, executing-phase_after, phase_after-Execution, no_start-Execution, lives-before}
use Rattle.vt_seat.proofs.Overwritten.{length-overwritten, slice_index-overwritten}
use Rattle.crb_history.proofs.Bytes.{command_in-same}
use Rattle.crb_history.proofs.Continuing.{byte_while_executing}

-- a byte after bytes were written from an offset on
byte_there : (offset size i : ℕ) (byte : ℕ → ℕ) (after was held : ℕ) → 0x80 ≤ offset → after ≡ (if nat_le (offset - 0x80) i && nat_lt i (offset - 0x80 + size) then byte (i - (offset - 0x80)) else was) → was ≡ held → i - (offset - 0x80) ≡ 0x80 + i - offset → after ≡ (if nat_le offset (0x80 + i) && nat_lt (0x80 + i) (offset + size) then byte (0x80 + i - offset) else held)
byte_there offset size i byte after was held from here same place = grind (arith, nat_tests, here, same, place)

-- an accepted write leaves in the buffer what the history says
holds-slot_after : (b : Snapshot) (p : History) (e : Effect) (a : Access) (cancel : Bool) (number : ℕ) (bytes : List ℕ) → HoldsBytes b p bytes → a.offset + a.size ≤ 0x1000 → effect_of a ≡ e → is_accepted e (is_granted b p) (phase_of b p) ≡ true → HoldsBuffer b (Write a ∷ p) (slot_after e a cancel number (InDevice bytes))
holds-slot_after b p Buffer a cancel number bytes holds fits is accepted =
    let from : 0x80 ≤ a.offset = effect-Buffer a.offset a.size (written_value a) is in
    record {
      size = length-overwritten bytes (a.offset - 0x80) (byte_of (written_value a)) a.size ∙ holds.size;
      each = λ i lt.
          let here = slice_index-overwritten bytes (a.offset - 0x80) (byte_of (written_value a)) a.size i (omega (arith, holds.size)) in
          let was = holds.each i lt in
          let same : i - (a.offset - 0x80) ≡ 0x80 + i - a.offset = omega arith in
          rw (is, accepted) (byte_there a.offset a.size i (byte_of (written_value a)) _ _ _ from here was same);
    }
holds-slot_after b p CmdReady a cancel number bytes holds fits is accepted = record { size = length-zeros 3968; each = λ i lt. rw (is, accepted) (get_or-zeros 3968 i) }
holds-slot_after b p GoIdle a cancel number bytes holds fits is accepted = record { size = length-zeros 3968; each = λ i lt. rw (is, accepted) (get_or-zeros 3968 i) }
holds-slot_after b p Start a cancel number bytes holds fits is accepted = record { size = holds.size; each = λ i lt. rw (is, accepted) (holds.each i lt) }
holds-slot_after b p (Cancel v) a cancel number bytes holds fits is accepted = record { size = holds.size; each = λ i lt. rw (is, accepted) (holds.each i lt) }
holds-slot_after b p Request a cancel number bytes holds fits is accepted = record { size = holds.size; each = λ i lt. rw (is, accepted) (holds.each i lt) }
holds-slot_after b p Relinquish a cancel number bytes holds fits is accepted = record { size = holds.size; each = λ i lt. rw (is, accepted) (holds.each i lt) }
holds-slot_after b p Nothing a cancel number bytes holds fits is accepted = record { size = holds.size; each = λ i lt. rw is (holds.each i lt) }

-- a buffer that is away is left alone
slot_after-away : (e : Effect) (a : Access) (cancel : Bool) (number : ℕ) (slot : Slot) → (slot ≡ ClaimedSlot) ⊎ ((answer : Answer) × (slot ≡ Answered answer)) → slot_after e a cancel number slot ≡ slot
slot_after-away e a cancel number slot (inl is) = rw is (claimed e)
  where
    claimed : (f : Effect) → slot_after f a cancel number ClaimedSlot ≡ ClaimedSlot
    claimed Buffer = refl
    claimed CmdReady = refl
    claimed GoIdle = refl
    claimed Start = refl
    claimed (Cancel v) = refl
    claimed Request = refl
    claimed Relinquish = refl
    claimed Nothing = refl
slot_after-away e a cancel number slot (inr (answer, is)) = rw is (answered e)
  where
    answered : (f : Effect) → slot_after f a cancel number (Answered answer) ≡ Answered answer
    answered Buffer = refl
    answered CmdReady = refl
    answered GoIdle = refl
    answered Start = refl
    answered (Cancel v) = refl
    answered Request = refl
    answered Relinquish = refl
    answered Nothing = refl

-- a job that waits goes on waiting, with its buffer
queued_holds : (b : Snapshot) (q : History) (e : Effect) (a : Access) (cancel : Bool) (number : ℕ) (job : Job) → HoldsBytes b q job.buf → HoldsBuffer b q (slot_after e a cancel number (Queued job))
queued_holds b q Buffer a cancel number job holds = holds
queued_holds b q CmdReady a cancel number job holds = holds
queued_holds b q GoIdle a cancel number job holds = holds
queued_holds b q Start a cancel number job holds = holds
queued_holds b q (Cancel v) a cancel number job holds = holds
queued_holds b q Request a cancel number job holds = holds
queued_holds b q Relinquish a cancel number job holds = holds
queued_holds b q Nothing a cancel number job holds = holds

-- the number of the last command after a write
number_of-write : (b : Snapshot) (p : History) (a : Access) → number_of b (Write a ∷ p) ≡ (if starts b p a then (number_of b p + 1) % 2 ^ 64 else number_of b p)
number_of-write b p a = go (starts b p a) _
  where
    go : (begins : Bool) (start : StartOf) → latest_number b.device.number (if begins then start ∷ started b p else started b p) ≡ (if begins then start.number else number_of b p)
    go true start = refl
    go false start = refl

counted : {A : Type 0} (begins : Bool) (more same : A) → (if begins then more else same) ≡ (if begins && true then more else same)
counted true more same = refl
counted false more same = refl

not_counted : {A : Type 0} (begins : Bool) (more same : A) → same ≡ (if begins && false then more else same)
not_counted true more same = refl
not_counted false more same = refl

-- the buffer after an accepted write, wherever it is
holds-accepted : (b : Snapshot) (p : History) (a : Access) (cancel : Bool) (number : ℕ) (slot : Slot) → HoldsBuffer b p slot → (is_in_device slot ≡ false → phase_of b p ≡ Execution) → a.offset + a.size ≤ 0x1000 → accepts b p a ≡ true → HoldsBuffer b (Write a ∷ p) (slot_after (effect_of a) a cancel number slot)
holds-accepted b p a cancel number (InDevice bytes) holds away fits accepted = holds-slot_after b p (effect_of a) a cancel number bytes holds fits refl accepted
holds-accepted b p a cancel number (Queued job) holds away fits accepted =
    queued_holds b (Write a ∷ p) (effect_of a) a cancel number job
    (record { size = holds.size; each = λ i lt. holds.each i lt ∙ sym (rw (away refl) (byte_while_executing (effect_of a) (is_granted b p) a i (buffer b p i))) })
holds-accepted b p a cancel number ClaimedSlot holds away fits accepted = rw (slot_after-away (effect_of a) a cancel number ClaimedSlot (inl refl)) tt
holds-accepted b p a cancel number (Answered answer) holds away fits accepted = rw (slot_after-away (effect_of a) a cancel number (Answered answer) (inr (answer, refl))) tt

-- an accepted write leads the device on
device-accepted : (b : Snapshot) (p : History) (d : DeviceState) (a : Access) (phase : Phase) → IsDeviceAfter b p d → (is_in_device d.slot ≡ false → phase_of b p ≡ Execution) → a.offset + a.size ≤ 0x1000 → next_phase (effect_of a) (is_granted b p) (phase_of b p) ≡ Some phase → IsDeviceAfter b (Write a ∷ p) (written_to (Some phase) (effect_of a) a d)
device-accepted b p d a phase is away fits next = record {
  regs = rw (next, is.regs) refl;
  number = rw (number_of-write b p a, next, is.number) (counted (is_start (effect_of a)) ((number_of b p + 1) % 2 ^ 64) (number_of b p));
  bytes = λ far. holds-accepted b p a d.regs.cancel (number_after (effect_of a) d.number) d.slot (is.bytes (lives-before (effect_of a) (is_granted b p) (phase_of b p) far)) away fits (ap is_some next);
}

-- a write that isn't accepted changes nothing
device-refused : (b : Snapshot) (p : History) (d : DeviceState) (a : Access) → IsDeviceAfter b p d → next_phase (effect_of a) (is_granted b p) (phase_of b p) ≡ None → IsDeviceAfter b (Write a ∷ p) d
device-refused b p d a is next = record {
  regs = rw next is.regs;
  number = rw (number_of-write b p a, next, is.number) (not_counted (is_start (effect_of a)) ((number_of b p + 1) % 2 ^ 64) (number_of b p));
  bytes = λ far. HoldsBuffer-same b p (Write a ∷ p) (λ i. rw next refl) d.slot (is.bytes (lives-before (effect_of a) (is_granted b p) (phase_of b p) far));
}

-- a write leads the device on
pub device-written : (b : Snapshot) (p : History) (d : DeviceState) (a : Access) → IsDeviceAfter b p d → (is_in_device d.slot ≡ false → phase_of b p ≡ Execution) → a.offset + a.size ≤ 0x1000 → IsDeviceAfter b (Write a ∷ p) (written d a)
device-written b p d a is away fits = go (next_phase (effect_of a) d.regs.granted d.regs.phase) (rw is.regs refl)
  where
    go : (after : Option Phase) → next_phase (effect_of a) (is_granted b p) (phase_of b p) ≡ after → IsDeviceAfter b (Write a ∷ p) (written_to after (effect_of a) a d)
    go None next = device-refused b p d a is next
    go (Some phase) next = device-accepted b p d a phase is away fits next

-- no write is accepted by a device that is lost
accepted-lives : (e : Effect) (granted : Bool) (phase : Phase) → is_accepted e granted phase ≡ true → is_lost phase ≡ false
accepted-lives e granted Idle is = refl
accepted-lives e granted Ready is = refl
accepted-lives e granted Reception is = refl
accepted-lives e granted Execution is = refl
accepted-lives e granted Completion is = refl
accepted-lives e granted Lost is = go e granted is
  where
    go : (f : Effect) (g : Bool) → is_accepted f g Lost ≡ true → true ≡ false
    go Buffer g h = cc
    go CmdReady g h = cc
    go GoIdle g h = cc
    go Start true h = cc
    go Start false h = cc
    go (Cancel v) g h = cc
    go Request g h = cc
    go Relinquish g h = cc
    go Nothing g h = cc

abbrev HoldsBytesIfShown : Snapshot → History → List ℕ → Type 0
HoldsBytesIfShown b p bytes = is_lost (phase_of b p) ≡ false → HoldsBytes b p bytes

-- a job begins, or the buffer stays in the device
job-home : (b : Snapshot) (p : History) (e : Effect) (a : Access) (cancel : Bool) (number : ℕ) (bytes : List ℕ) → HoldsBytes b p bytes → is_executing (phase_of b p) ≡ false → effect_of a ≡ e → is_accepted e (is_granted b p) (phase_of b p) ≡ true → number ≡ number_of b (Write a ∷ p) → cancel ≡ is_cancel b p → Placed b (Write a ∷ p) (slot_after e a cancel number (InDevice bytes)) Free
job-home b p Start a cancel number bytes holds still is accepted count kept = InQueue _ (record {
  number = count;
  size = holds.size;
  command = rw (is, accepted) (command_in-same (slice_index bytes) (buffer b p) holds.each);
  held = rw (is, accepted) kept;
  at = record { executing = rw is (start-executes (is_granted b p) (phase_of b p) accepted); reached = rw (is, accepted) refl };
})
job-home b p Buffer a cancel number bytes holds still is accepted count kept = AtHome _ (rw is (executing-phase_after Buffer (is_granted b p) (phase_of b p) still))
job-home b p CmdReady a cancel number bytes holds still is accepted count kept = AtHome _ (rw is (executing-phase_after CmdReady (is_granted b p) (phase_of b p) still))
job-home b p GoIdle a cancel number bytes holds still is accepted count kept = AtHome _ (rw is (executing-phase_after GoIdle (is_granted b p) (phase_of b p) still))
job-home b p (Cancel v) a cancel number bytes holds still is accepted count kept = AtHome _ (rw is (executing-phase_after (Cancel v) (is_granted b p) (phase_of b p) still))
job-home b p Request a cancel number bytes holds still is accepted count kept = AtHome _ (rw is (executing-phase_after Request (is_granted b p) (phase_of b p) still))
job-home b p Relinquish a cancel number bytes holds still is accepted count kept = AtHome _ (rw is (executing-phase_after Relinquish (is_granted b p) (phase_of b p) still))
job-home b p Nothing a cancel number bytes holds still is accepted count kept = AtHome _ (rw is (executing-phase_after Nothing (is_granted b p) (phase_of b p) still))

and_false : (x : Bool) → (x && false) ≡ false
and_false true = refl
and_false false = refl

or_false : (x : Bool) → (x || false) ≡ x
or_false true = refl
or_false false = refl

-- while a claimed command is executed a write leaves it alone
same_command : (b : Snapshot) (p : History) (a : Access) → phase_of b p ≡ Execution → is_waiting (stage_of b p) ≡ false → SameCommand b p (Write a ∷ p)
same_command b p a executing claimed = record {
  phase = rw executing (phase_after-Execution (effect_of a) (is_granted b p));
  stage = rw (executing, no_start-Execution (effect_of a) (is_granted b p)) refl;
  number = rw (executing, no_start-Execution (effect_of a) (is_granted b p)) refl;
  command = rw (executing, no_start-Execution (effect_of a) (is_granted b p)) refl;
  held = rw (executing, no_start-Execution (effect_of a) (is_granted b p), claimed, and_false (sets_cancel (effect_of a) && is_accepted (effect_of a) (is_granted b p) Execution)) (or_false (cancelled_before_claim b p));
  in_time = rw (executing, no_start-Execution (effect_of a) (is_granted b p)) refl;
  executed_is = refl;
}

either_way : {A : Type 0} (test : Bool) (x : A) → cond test x x ≡ x
either_way true x = refl
either_way false x = refl

same_job : (test : Bool) (job : Job) → cond test (Queued job) (Queued job) ≡ Queued (record job { cancelled = job.cancelled || false })
same_job test job = rw (or_false job.cancelled) (either_way test (Queued job))

-- a job that waits may be cancelled by a write
queued_after : (e : Effect) (a : Access) (cancel : Bool) (number : ℕ) (job : Job) (accepted : Bool) → cond accepted (slot_after e a cancel number (Queued job)) (Queued job) ≡ Queued (record job { cancelled = job.cancelled || (sets_cancel e && accepted) })
queued_after Buffer a cancel number job accepted = same_job accepted job
queued_after CmdReady a cancel number job accepted = same_job accepted job
queued_after GoIdle a cancel number job accepted = same_job accepted job
queued_after Start a cancel number job accepted = same_job accepted job
queued_after Request a cancel number job accepted = same_job accepted job
queued_after Relinquish a cancel number job accepted = same_job accepted job
queued_after Nothing a cancel number job accepted = same_job accepted job
queued_after (Cancel true) a cancel number job true = refl
queued_after (Cancel true) a cancel number job false = same_job false job
queued_after (Cancel false) a cancel number job true = refl
queued_after (Cancel false) a cancel number job false = same_job false job

and_true : (x : Bool) → (x && true) ≡ x
and_true true = refl
and_true false = refl

slot_written : (after : Option Phase) (a : Access) (d : DeviceState) → (written_to after (effect_of a) a d).slot ≡ cond (is_some after) (slot_after (effect_of a) a d.regs.cancel (number_after (effect_of a) d.number) d.slot) d.slot
slot_written None a d = refl
slot_written (Some phase) a d = refl

job-waiting : (b : Snapshot) (p : History) (a : Access) (job : Job) → IsLastJob b p Waiting job → IsLastJob b (Write a ∷ p) Waiting (record job { cancelled = job.cancelled || (sets_cancel (effect_of a) && is_accepted (effect_of a) (is_granted b p) Execution) })
job-waiting b p a job is = record {
  number = rw (is.at.executing, no_start-Execution (effect_of a) (is_granted b p)) is.number;
  size = is.size;
  command = rw (is.at.executing, no_start-Execution (effect_of a) (is_granted b p)) is.command;
  held = rw (is.at.executing, no_start-Execution (effect_of a) (is_granted b p), is.at.reached, and_true (sets_cancel (effect_of a) && is_accepted (effect_of a) (is_granted b p) Execution), is.held) refl;
  at = record {
    executing = rw is.at.executing (phase_after-Execution (effect_of a) (is_granted b p));
    reached = rw (is.at.executing, no_start-Execution (effect_of a) (is_granted b p)) is.at.reached;
  };
}

slot-away : (after : Option Phase) (a : Access) (d : DeviceState) → (d.slot ≡ ClaimedSlot) ⊎ ((answer : Answer) × (d.slot ≡ Answered answer)) → (written_to after (effect_of a) a d).slot ≡ d.slot
slot-away None a d away = refl
slot-away (Some phase) a d away = slot_after-away (effect_of a) a d.regs.cancel (number_after (effect_of a) d.number) d.slot away

-- a write leads the last command on
pub job-written : (b : Snapshot) (p : History) (d : DeviceState) (a : Access) (progress : Progress) → IsDeviceAfter b p d → IsDeviceAfter b (Write a ∷ p) (written d a) → Placed b p d.slot progress → Placed b (Write a ∷ p) (written d a).slot progress
job-written b p d a progress is after job = by_slot d.slot refl progress job
  where
    claimed_stays : d.slot ≡ ClaimedSlot → (x : Progress) → Placed b p ClaimedSlot x → phase_of b p ≡ Execution → is_waiting (stage_of b p) ≡ false → Placed b (Write a ∷ p) (written d a).slot x
    claimed_stays here x h executing claimed = rw (slot-away (next_phase (effect_of a) d.regs.granted d.regs.phase) a d (inl here), here) (Placed-same b p (Write a ∷ p) (same_command b p a executing claimed) ClaimedSlot x h)

    at_home : (bytes : List ℕ) (next : Option Phase) → next_phase (effect_of a) (is_granted b p) (phase_of b p) ≡ next → d.slot ≡ InDevice bytes → is_executing (phase_of b p) ≡ false → (written_to next (effect_of a) a d).number ≡ number_of b (Write a ∷ p) → HoldsBytesIfShown b p bytes → Placed b (Write a ∷ p) (written_to next (effect_of a) a d).slot Free
    at_home bytes None next here still count holds = rw here (AtHome bytes (rw next still))
    at_home bytes (Some phase) next here still count holds = rw here (job-home b p (effect_of a) a d.regs.cancel (number_after (effect_of a) d.number) bytes (holds (accepted-lives (effect_of a) (is_granted b p) (phase_of b p) (ap is_some next))) still refl (ap is_some next) count (ap (λ (r : Regs). r.cancel) is.regs))

    by_slot : (slot : Slot) → d.slot ≡ slot → (x : Progress) → Placed b p slot x → Placed b (Write a ∷ p) (written d a).slot x
    by_slot slot here x (AtHome bytes still) = at_home bytes (next_phase (effect_of a) d.regs.granted d.regs.phase) (rw is.regs refl) here still after.number (λ far. rw here at (is.bytes far))
    by_slot slot here x (InQueue j h) =
        let executing : d.regs.phase ≡ Execution = ap (λ (r : Regs). r.phase) is.regs ∙ h.at.executing in
        let granted : d.regs.granted ≡ is_granted b p = ap (λ (r : Regs). r.granted) is.regs in
        rw (slot_written (next_phase (effect_of a) d.regs.granted d.regs.phase) a d, here, executing, granted, queued_after (effect_of a) a d.regs.cancel (number_after (effect_of a) d.number) j (is_accepted (effect_of a) (is_granted b p) Execution))
        (InQueue _ (job-waiting b p a j h))
    by_slot slot here x (InHand j h) = claimed_stays here x (InHand j h) h.at.executing (rw h.at.reached refl)
    by_slot slot here x (OnWay j h) = claimed_stays here x (OnWay j h) h.at.executing (rw h.at.reached refl)
    by_slot slot here x (Ran j head h) = claimed_stays here x (Ran j head h) h.last.at.executing (rw h.last.at.reached refl)

-- where the worker has sent nothing, what is behind the link rests
pub rests_at : (b : Snapshot) (p : History) (slot : Slot) (progress : Progress) → Placed b p slot progress → progress ≡ Free → is_resting (place_of b p) ≡ true
rests_at b p slot progress (AtHome bytes still) free = rw still refl
rests_at b p slot progress (InQueue job is) free = rw (is.at.executing, is.at.reached) refl
rests_at b p slot progress (InHand job is) free = cc
rests_at b p slot progress (OnWay job is) free = cc
rests_at b p slot progress (Ran job head is) free = cc

-- a write leaves what is behind the link
pub link-written : (b : Snapshot) (p : History) (a : Access) (slot after : Slot) (progress : Progress) (l : Link) → Placed b p slot progress → Placed b (Write a ∷ p) after progress → IsLinkAfter b p l → IsLinkAfter b (Write a ∷ p) l
link-written b p a slot after progress l job next is = go slot progress job next
  where
    free : (new : Slot) (x : Progress) → x ≡ Free → is_resting (place_of b p) ≡ true → Placed b (Write a ∷ p) new x → IsLinkAfter b (Write a ∷ p) l
    free new x none rests now =
        from_rest (place_of b (Write a ∷ p)) _ (tpm_at b p) _ l (rests_at b (Write a ∷ p) new x now none) (to_rest (place_of b p) _ (tpm_at b p) _ l rests is)

    go : (old : Slot) (x : Progress) → Placed b p old x → Placed b (Write a ∷ p) after x → IsLinkAfter b (Write a ∷ p) l
    go old x (AtHome bytes still) now = free after x refl (rw still refl) now
    go old x (InQueue j h) now = free after x refl (rw (h.at.executing, h.at.reached) refl) now
    go old x (InHand j h) now = link-same b p (Write a ∷ p) (same_command b p a h.at.executing (rw h.at.reached refl)) l is
    go old x (OnWay j h) now = link-same b p (Write a ∷ p) (same_command b p a h.at.executing (rw h.at.reached refl)) l is
    go old x (Ran j head h) now = link-same b p (Write a ∷ p) (same_command b p a h.last.at.executing (rw h.last.at.reached refl)) l is
