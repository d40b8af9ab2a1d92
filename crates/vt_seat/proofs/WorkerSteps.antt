-- The worker's steps keep a world with its history.
use Rattle.std.proofs.Common.{◌≡◌, ℕ, ◌-◌, ◌≤◌, true, false, List, [], ◌∷◌, ◌++◌, length, take, drop, refl, ap, sym, subst, ◌∙◌, arith, Some, None}
use Rattle.std.specs.Prelude.{slice_index}
use Rattle.std.proofs.lemmas.List.{take-append-drop, length-drop}
use Rattle.vt_base.specs.Buffer.{followed_by_zeros}
use Rattle.vt_base.proofs.Zeros.{length-followed_by_zeros, get_or-append_zeros}
use Rattle.vt_base.specs.declared.types.Chan.TheVariants.{Data}
use Rattle.tpm_frame.specs.Frames.{first_frame}
use Rattle.tpm_frame.specs.Sizes.{named_size}
use Rattle.crb_regs.specs.Registers.{is_executing, is_lost}
use Rattle.crb_regs.specs.declared.phase.Phase.TheVariants.{Execution}
use Rattle.crb_machine.specs.State.{DeviceState, Slot}
use Rattle.crb_machine.specs.State.Slot.{InDevice, Queued, Claimed as ClaimedSlot, Answered}
use Rattle.crb_machine.specs.Steps.{collected, ended_phase, answered}
use Rattle.crb_port.specs.declared.job.Job.{Job}
use Rattle.crb_port.specs.declared.job.Answer.{Answer}
use Rattle.crb_port.specs.declared.job.Outcome.{Outcome}
use Rattle.crb_port.specs.declared.job.Outcome.TheVariants as outcome
use Rattle.tpm_core.specs.Answers.{answer}
use Rattle.tpm_core.specs.Answers.Entry.{Executed}
use Rattle.tpm_core.specs.Responses.{cancelled}
use Rattle.tpm_core.specs.Steps.{IsValid}
use Rattle.tpm_core.specs.declared.parts.TpmParts.{TpmParts}
use Rattle.tpm_core.proofs.Law.{fit-past, values_after-append, answer-append}
use Rattle.crb_history.specs.Snapshot.{Snapshot}
use Rattle.crb_history.specs.Event.{History}
use Rattle.crb_history.specs.Event.Event.{Claim, Sent, Exec, Finish}
use Rattle.crb_history.specs.Device.{phase_of, buffer, last_command, executed, stage_of, JobStage, phase_at_end}
use Rattle.crb_history.specs.Device.JobStage.{Waiting, Claimed, HasSent, HasHeader}
use Rattle.crb_history.specs.Cancelling.{cancelled_in_emulator}
use Rattle.crb_worker.specs.declared.progress.Progress.{Progress}
use Rattle.crb_worker.specs.declared.progress.Progress.TheVariants.{Free, Claimed as ClaimedJob, Sent as SentJob, HeaderReceived as RunJob}
use Rattle.ctrl_model.specs.Link.{Link, receivable, received, Handed, cut}
use Rattle.ctrl_client.specs.Exchange.{IsQuiet}
use Rattle.vt_seat.specs.Follows.{HoldsBuffer, IsDeviceAfter, IsLastJob, IsRunJob, Placed, given, given_at, tpm_at, tpm_behind, IsBehind, IsLinkAfter, RefinesAt}
use Rattle.vt_seat.specs.Follows.Placed.{AtHome, InQueue, InHand, OnWay, Ran}
use Rattle.vt_seat.proofs.Jobs.{IsDeviceAfter-same, place-executing, place-still, Rests, to_rest, from_rest}
use Rattle.vt_seat.proofs.Behind.{IsGiven, given-is, sent_behind, at_hand-held, head_behind, at_hand-rest, quiet-cut}

-- ---- what is known of a claimed job

-- the slot of a claimed job is the device's own
pub record IsRaw (d : DeviceState) : Type 0 where
  pub slot : d.slot ≡ ClaimedSlot
  pub same : collected d ≡ d

pub raw_claimed : (d : DeviceState) → (collected d).slot ≡ ClaimedSlot → IsRaw d
raw_claimed d here = go d.slot refl
  where
    go : (slot : Slot) → d.slot ≡ slot → IsRaw d
    go (InDevice bytes) is = let wrong : InDevice bytes ≡ ClaimedSlot = rw is at here in cc
    go (Queued job) is = let wrong : Queued job ≡ ClaimedSlot = rw is at here in cc
    go (Answered a) is = let wrong : InDevice a.buf ≡ ClaimedSlot = rw is at here in cc
    go ClaimedSlot is = record { slot = is; same = rw is refl }

pub claimed_number : (b : Snapshot) (p : History) (slot : Slot) (job : Job) → Placed b p slot (ClaimedJob job) → (slot ≡ ClaimedSlot) × IsLastJob b p Claimed job
claimed_number b p slot job (InHand other is) = (refl, is)

pub on_way : (b : Snapshot) (p : History) (slot : Slot) (job : Job) → Placed b p slot (SentJob job) → (slot ≡ ClaimedSlot) × IsLastJob b p HasSent job
on_way b p slot job (OnWay other is) = (refl, is)

pub ran_here : (b : Snapshot) (p : History) (slot : Slot) (job : Job) (head : List ℕ) → Placed b p slot (RunJob job head) → (slot ≡ ClaimedSlot) × IsRunJob b p job head
ran_here b p slot job head (Ran other h is) = (refl, is)

lives : (b : Snapshot) (p : History) → phase_of b p ≡ Execution → is_lost (phase_of b p) ≡ false
lives b p executing = rw executing refl

device_raw : (b : Snapshot) (p : History) (d : DeviceState) → IsRaw d → IsDeviceAfter b p (collected d) → IsDeviceAfter b p d
device_raw b p d raw is = rw raw.same at is

-- the link, by the stage of the command
link_at : (b : Snapshot) (p : History) (stage : JobStage) (l : Link) → phase_of b p ≡ Execution → stage_of b p ≡ stage → IsLinkAfter b p l → IsBehind (Some stage) (cancelled_in_emulator b p) (tpm_at b p) (last_command b p) l
link_at b p stage l executing reached is = rw (place-executing b p stage executing reached) at is

-- ---- claim

claimed_last : (b : Snapshot) (p : History) (job : Job) → IsLastJob b p Waiting job → IsLastJob b (Claim ∷ p) Claimed job
claimed_last b p job is = record { number = is.number; size = is.size; command = is.command; held = is.held; at = record { executing = is.at.executing; reached = refl } }

-- a job that waits is the last command
pub queued_last : (b : Snapshot) (p : History) (slot : Slot) (job : Job) → slot ≡ Queued job → Placed b p slot Free → IsLastJob b p Waiting job
queued_last b p slot job is (AtHome bytes still) = cc
queued_last b p slot job is (InQueue other last) = let same : other ≡ job = cc in subst (λ (j : Job). IsLastJob b p Waiting j) same last

-- the job that waits is claimed
pub claim-stands : (b : Snapshot) (p : History) (d : DeviceState) (l : Link) (job : Job) → RefinesAt b p d Free l → d.slot ≡ Queued job → RefinesAt b (Claim ∷ p) (record d { slot = ClaimedSlot }) (ClaimedJob job) l
claim-stands b p d l job s queued =
    let same : collected d ≡ d = rw queued refl in
    let is : IsLastJob b p Waiting job = queued_last b p (collected d).slot job (rw same queued) s.job in
    let device : IsDeviceAfter b p d = rw same at s.device in
    let rests : Rests (tpm_at b p) l = to_rest (Some Waiting) (cancelled_in_emulator b p) (tpm_at b p) (last_command b p) l refl (link_at b p Waiting l is.at.executing is.at.reached (s.link (lives b p is.at.executing))) in
    record {
      device = record { regs = device.regs; number = device.number; bytes = λ far. tt };
      job = InHand job (claimed_last b p job is);
      quiet = s.quiet;
      link = λ far. rw (place-executing b (Claim ∷ p) Claimed is.at.executing refl) (from_rest (Some Claimed) (cancelled_in_emulator b p) (tpm_at b p) (last_command b p) l refl rests);
    }

-- ---- sent

-- the command is with the emulator
pub sent-stands : (b : Snapshot) (p : History) (d : DeviceState) (l m : Link) (job : Job) → RefinesAt b p d (ClaimedJob job) l → Handed Data (first_frame job.buf) l m → RefinesAt b (Sent ∷ p) d (SentJob job) m
sent-stands b p d l m job s handed =
    let here = claimed_number b p (collected d).slot job s.job in
    let is : IsLastJob b p Claimed job = here.1 in
    let raw : IsRaw d = raw_claimed d here.0 in
    let rests : Rests (tpm_at b p) l = to_rest (Some Claimed) (cancelled_in_emulator b p) (tpm_at b p) (last_command b p) l refl (link_at b p Claimed l is.at.executing is.at.reached (s.link (lives b p is.at.executing))) in
    let behind = sent_behind (tpm_at b p) (last_command b p) job.buf l m rests s.quiet is.size is.command handed in
    record {
      device = IsDeviceAfter-same b p (Sent ∷ p) (collected d) refl refl refl (λ i. refl) s.device;
      job = rw here.0 (OnWay job (record { number = is.number; size = is.size; command = is.command; held = is.held; at = record { executing = is.at.executing; reached = refl } }));
      quiet = behind.1;
      link = λ far. rw (place-executing b (Sent ∷ p) HasSent is.at.executing refl) behind.0;
    }

-- ---- executed

-- the header of the response is with the worker
pub exec-stands : (b : Snapshot) (p : History) (d : DeviceState) (l : Link) (job : Job) (head : List ℕ) → RefinesAt b p d (SentJob job) l → head ≡ take 10 (given_at b p) → RefinesAt b (Exec ∷ p) d (RunJob job head) (received true Data 10 l)
exec-stands b p d l job head s is_head =
    let here = on_way b p (collected d).slot job s.job in
    let is : IsLastJob b p HasSent job = here.1 in
    let before = link_at b p HasSent l is.at.executing is.at.reached (s.link (lives b p is.at.executing)) in
    let behind = head_behind (cancelled_in_emulator b p) (tpm_at b p) (last_command b p) l before s.quiet in
    record {
      device = IsDeviceAfter-same b p (Exec ∷ p) (collected d) refl refl refl (λ i. refl) s.device;
      job = rw here.0 (Ran job head (record {
        last = record { number = is.number; size = is.size; command = is.command; held = is.held; at = record { executing = is.at.executing; reached = refl } };
        head_is = is_head;
      }));
      quiet = behind.1;
      link = λ far. rw (place-executing b (Exec ∷ p) HasHeader is.at.executing refl) behind.0;
    }

-- what a receive of the header finds
pub head_here : (b : Snapshot) (p : History) (d : DeviceState) (l : Link) (job : Job) → RefinesAt b p d (SentJob job) l → receivable Data l ≡ given_at b p
head_here b p d l job s =
    let is = (on_way b p (collected d).slot job s.job).1 in
    at_hand-held (cancelled_in_emulator b p) (tpm_at b p) (last_command b p) l (link_at b p HasSent l is.at.executing is.at.reached (s.link (lives b p is.at.executing)))

pub given_here : (b : Snapshot) (p : History) → IsValid b.tpm → IsGiven (cancelled_in_emulator b p) (given_at b p)
given_here b p fit = given-is (cancelled_in_emulator b p) (tpm_at b p) (last_command b p) (fit-past b.tpm (executed b p) fit)

-- ---- the end

ends : (how : Outcome) → ended_phase how ≡ phase_at_end how Execution
ends outcome.Done = refl
ends outcome.Cancelled = refl
ends outcome.Lost = refl

still_after : (how : Outcome) → is_executing (phase_at_end how Execution) ≡ false
still_after outcome.Done = refl
still_after outcome.Cancelled = refl
still_after outcome.Lost = refl

-- the device once the answer was posted
device_ended : (b : Snapshot) (p : History) (d : DeviceState) (a : Answer) → IsDeviceAfter b p d → phase_of b p ≡ Execution → (is_lost (phase_at_end a.outcome Execution) ≡ false → HoldsBuffer b (Finish a.outcome ∷ p) (InDevice a.buf)) → IsDeviceAfter b (Finish a.outcome ∷ p) (collected (answered a d))
device_ended b p d a is executing holds = record {
  regs = rw (is.regs, executing, ends a.outcome) refl;
  number = is.number;
  bytes = λ far. holds (rw executing at far);
}

-- a buffer that holds a response
holds_response : (b : Snapshot) (p : History) (how : Outcome) (bytes : List ℕ) → length bytes ≤ 3968 → ((i : ℕ) → slice_index bytes i ≡ buffer b (Finish how ∷ p) i) → HoldsBuffer b (Finish how ∷ p) (InDevice (followed_by_zeros bytes))
holds_response b p how bytes fits each = record {
  size = length-followed_by_zeros bytes fits;
  each = λ i lt. get_or-append_zeros bytes (3968 - length bytes) i ∙ each i;
}

-- a job ends with an answer, over a link that rests then
ended-stands : (b : Snapshot) (p : History) (d : DeviceState) (m : Link) (a : Answer) → IsRaw d → IsDeviceAfter b p (collected d) → phase_of b p ≡ Execution
    → (is_lost (phase_at_end a.outcome Execution) ≡ false → HoldsBuffer b (Finish a.outcome ∷ p) (InDevice a.buf)) → IsQuiet m
    → (is_lost (phase_at_end a.outcome Execution) ≡ false → Rests (tpm_at b (Finish a.outcome ∷ p)) m)
    → RefinesAt b (Finish a.outcome ∷ p) (answered a d) Free m
ended-stands b p d m a raw device executing holds quiet rests =
    let still : is_executing (phase_of b (Finish a.outcome ∷ p)) ≡ false = rw executing (still_after a.outcome) in
    record {
      device = device_ended b p d a (device_raw b p d raw device) executing holds;
      job = AtHome a.buf still;
      quiet = quiet;
      link = λ far. rw (place-still b (Finish a.outcome ∷ p) still) (from_rest None (cancelled_in_emulator b p) (tpm_at b (Finish a.outcome ∷ p)) (last_command b p) m refl (rests (rw executing at far)));
    }

-- a job that was held back is answered
pub cancel-stands : (b : Snapshot) (p : History) (d : DeviceState) (l : Link) (job : Job) (a : Answer) → RefinesAt b p d (ClaimedJob job) l → a ≡ record { number = job.number; outcome = outcome.Cancelled; buf = followed_by_zeros cancelled } → RefinesAt b (Finish outcome.Cancelled ∷ p) (answered a d) Free l
cancel-stands b p d l job a s is_a =
    let here = claimed_number b p (collected d).slot job s.job in
    let is : IsLastJob b p Claimed job = here.1 in
    let rests : Rests (tpm_at b p) l = to_rest (Some Claimed) (cancelled_in_emulator b p) (tpm_at b p) (last_command b p) l refl (link_at b p Claimed l is.at.executing is.at.reached (s.link (lives b p is.at.executing))) in
    rw is_a (ended-stands b p d l (record { number = job.number; outcome = outcome.Cancelled; buf = followed_by_zeros cancelled }) (raw_claimed d here.0) s.device is.at.executing
    (λ far. holds_response b p outcome.Cancelled cancelled (omega arith) (λ i. refl)) s.quiet (λ far. rests))

-- a job is lost
pub lost-stands : (b : Snapshot) (p : History) (d : DeviceState) (progress : Progress) (l : Link) (a : Answer) → RefinesAt b p d progress l → IsRaw d → phase_of b p ≡ Execution → a.outcome ≡ outcome.Lost → RefinesAt b (Finish outcome.Lost ∷ p) (answered a d) Free (cut Data l)
lost-stands b p d progress l a s raw executing is = go a.outcome is a refl
  where
    go : (how : Outcome) → how ≡ outcome.Lost → (a : Answer) → a.outcome ≡ how → RefinesAt b (Finish outcome.Lost ∷ p) (answered a d) Free (cut Data l)
    go how lost a same =
        let now : a.outcome ≡ outcome.Lost = same ∙ lost in
        subst (λ (o : Outcome). RefinesAt b (Finish o ∷ p) (answered a d) Free (cut Data l)) now
        (ended-stands b p d (cut Data l) a raw s.device executing (λ far. absurd (never a.outcome now far)) (quiet-cut l s.quiet) (λ far. absurd (never a.outcome now far)))
      where
        never : (o : Outcome) → o ≡ outcome.Lost → is_lost (phase_at_end o Execution) ≡ false → ⊥
        never o is far = let wrong : is_lost (phase_at_end outcome.Lost Execution) ≡ false = rw is at far in cc

-- ---- the end of a command that was run

-- the whole response is its header and what is left of it
pub record IsWhole (b : Snapshot) (p : History) (head rest : List ℕ) (l : Link) : Type 0 where
  pub whole : head ++ rest ≡ given_at b p
  pub rests : Rests (tpm_behind (Some HasHeader) (cancelled_in_emulator b p) (tpm_at b p) (last_command b p)) l
  pub quiet : IsQuiet l

-- the last command was done: its response is here, and the TPM has executed it
pub done-stands : (b : Snapshot) (p : History) (d : DeviceState) (l m : Link) (job : Job) (head response : List ℕ) → IsValid b.tpm → RefinesAt b p d (RunJob job head) l → cancelled_in_emulator b p ≡ false → response ≡ given_at b p
    → Rests (tpm_behind (Some HasHeader) (cancelled_in_emulator b p) (tpm_at b p) (last_command b p)) m → IsQuiet m
    → RefinesAt b (Finish outcome.Done ∷ p) (answered (record { number = job.number; outcome = outcome.Done; buf = followed_by_zeros response }) d) Free m
done-stands b p d l m job head response fit s in_time is_response rests quiet =
    let here = ran_here b p (collected d).slot job head s.job in
    let is : IsLastJob b p HasHeader job = here.1.last in
    let x : List ℕ = last_command b p in
    let given_is : response ≡ answer (tpm_at b p) [] x = is_response ∙ ap (λ c. given c (tpm_at b p) x) in_time in
    let now : answer (tpm_at b p) [] x ≡ answer b.tpm (executed b p) x = sym (answer-append b.tpm [] (executed b p) x fit) in
    let within_limit : length response ≤ 3968 = rw is_response (given_here b p fit).most in
    let after : tpm_behind (Some HasHeader) (cancelled_in_emulator b p) (tpm_at b p) x ≡ tpm_at b (Finish outcome.Done ∷ p) = ap (λ c. tpm_behind (Some HasHeader) c (tpm_at b p) x) in_time ∙ sym (values_after-append b.tpm (Executed x ∷ []) (executed b p) fit) in
    ended-stands b p d m (record { number = job.number; outcome = outcome.Done; buf = followed_by_zeros response }) (raw_claimed d here.0) s.device is.at.executing
    (λ far. holds_response b p outcome.Done response within_limit (λ i. ap (λ (r : List ℕ). slice_index r i) (given_is ∙ now)))
    quiet (λ far. subst (λ (t : TpmParts). Rests t m) after rests)

-- or a cancel came in time, and it wasn't executed
pub cancelled-stands : (b : Snapshot) (p : History) (d : DeviceState) (l m : Link) (job : Job) (head response : List ℕ) → RefinesAt b p d (RunJob job head) l → cancelled_in_emulator b p ≡ true → response ≡ given_at b p
    → Rests (tpm_behind (Some HasHeader) (cancelled_in_emulator b p) (tpm_at b p) (last_command b p)) m → IsQuiet m
    → RefinesAt b (Finish outcome.Cancelled ∷ p) (answered (record { number = job.number; outcome = outcome.Cancelled; buf = followed_by_zeros response }) d) Free m
cancelled-stands b p d l m job head response s in_time is_response rests quiet =
    let here = ran_here b p (collected d).slot job head s.job in
    let is : IsLastJob b p HasHeader job = here.1.last in
    let x : List ℕ = last_command b p in
    let given_is : response ≡ cancelled = is_response ∙ ap (λ c. given c (tpm_at b p) x) in_time in
    let after : tpm_behind (Some HasHeader) (cancelled_in_emulator b p) (tpm_at b p) x ≡ tpm_at b p = ap (λ c. tpm_behind (Some HasHeader) c (tpm_at b p) x) in_time in
    let within_limit : length response ≤ 3968 = rw given_is (omega arith) in
    ended-stands b p d m (record { number = job.number; outcome = outcome.Cancelled; buf = followed_by_zeros response }) (raw_claimed d here.0) s.device is.at.executing
    (λ far. holds_response b p outcome.Cancelled response within_limit (λ i. ap (λ (r : List ℕ). slice_index r i) given_is))
    quiet (λ far. subst (λ (t : TpmParts). Rests t m) after rests)

-- ---- what is left of a response

pub record RestFacts (b : Snapshot) (p : History) (head : List ℕ) (l : Link) : Type 0 where
  pub size : named_size head ≡ length (given_at b p)
  pub there : receivable Data l ≡ drop 10 (given_at b p)
  pub behind : IsBehind (Some HasHeader) (cancelled_in_emulator b p) (tpm_at b p) (last_command b p) l
  pub left : length (drop 10 (given_at b p)) ≡ named_size head - 10
  pub parts : head ++ drop 10 (given_at b p) ≡ given_at b p

pub rest_facts : (b : Snapshot) (p : History) (d : DeviceState) (l : Link) (job : Job) (head : List ℕ) → IsValid b.tpm → RefinesAt b p d (RunJob job head) l → RestFacts b p head l
rest_facts b p d l job head fit s =
    let here = ran_here b p (collected d).slot job head s.job in
    let is : IsLastJob b p HasHeader job = here.1.last in
    let before = link_at b p HasHeader l is.at.executing is.at.reached (s.link (lives b p is.at.executing)) in
    let given_is = given_here b p fit in
    let size : named_size head ≡ length (given_at b p) = ap named_size here.1.head_is ∙ given_is.size in
    record {
      size = size;
      there = at_hand-rest (cancelled_in_emulator b p) (tpm_at b p) (last_command b p) l before;
      behind = before;
      left = omega (arith, length-drop 10 (given_at b p), size);
      parts = ap (λ (h : List ℕ). h ++ drop 10 (given_at b p)) here.1.head_is ∙ take-append-drop 10 (given_at b p);
    }
