-- A step of the worker leads a world on.
use Rattle.std.proofs.Common.{◌≡◌, ◌≢◌, ℕ, ◌+◌, ◌≤◌, Bool, true, false, not, ◌&&◌, ◌||◌, List, [], ◌∷◌, ◌++◌, length, take, drop, refl, ap, sym, subst, ◌∙◌, arith, Some, None, inl, inr, ◌⊎◌, cond}
use Rattle.std.specs.Prelude.{Option, nat_lt, is_some}
use Rattle.std.proofs.lemmas.Bool.{ltb-false}
use Rattle.std.proofs.lemmas.List.{take_all}
use Rattle.vt_base.specs.Buffer.{followed_by_zeros}
use Rattle.vt_base.specs.declared.types.Chan.TheVariants.{Data}
use Rattle.tpm_frame.specs.Frames.{first_frame}
use Rattle.tpm_frame.specs.Sizes.{named_size}
use Rattle.crb_regs.specs.Registers.{is_executing}
use Rattle.crb_regs.specs.declared.registers.Regs.{Regs}
use Rattle.crb_machine.specs.Over.{plain_device, placed, OwnParts, own_parts, slot_at}
use Rattle.crb_machine.specs.State.{DeviceState, Slot}
use Rattle.crb_machine.specs.State.Slot.{Queued, Claimed as ClaimedSlot}
use Rattle.crb_machine.specs.Steps.{collected, answered}
use Rattle.crb_machine.specs.Model.{DeviceModel}
use Rattle.crb_port.specs.Views.{PortView, is_waiting, is_nothing, stage_of as port_stage, waiting_stage}
use Rattle.crb_port.specs.Calls.{ClaimsNone, ClaimsJob, Posts, Found}
use Rattle.crb_port.specs.declared.job.PortStage as port
use Rattle.crb_port.specs.Plain.{plain}
use Rattle.crb_port.specs.declared.job.Job.{Job}
use Rattle.crb_port.specs.declared.job.Answer.{Answer}
use Rattle.crb_port.specs.declared.job.PortState.{PortState}
use Rattle.crb_port.specs.declared.job.PortState.TheVariants as port_state
use Rattle.crb_port.specs.declared.job.Outcome.TheVariants as outcome
use Rattle.tpm_core.specs.Responses.{cancelled}
use Rattle.tpm_core.specs.Steps.{IsValid}
use Rattle.tpm_core.proofs.Law.{answer-append}
use Rattle.crb_history.specs.Snapshot.{Snapshot}
use Rattle.crb_history.specs.Event.{History}
use Rattle.crb_history.specs.Event.Event.{Claim as Claiming, Sent as Sending, Exec as Executing, Finish, Read, Write, Ask, Reset, ResetLost}
use Rattle.crb_history.specs.Device.{effect_of, phase_of, number_of, last_command, executed, stage_of, JobStage, starts, accepts, is_cancel}
use Rattle.crb_history.specs.Device.JobStage.{Waiting, Claimed, HasSent, HasHeader}
use Rattle.crb_history.specs.Cancelling.{cancelled_before_claim, cancelled_in_emulator, cancel_requested, is_sent, sets_cancel}
use Rattle.crb_history.specs.Legal.{IsAt}
use Rattle.vt_transcript.specs.Replies.{response_length, has_rest, worker_reply_inputs, worker_reply, worker_reply_at}
use Rattle.vt_transcript.specs.OneHost.{OneHost, fails_in}
use Rattle.crb_worker.specs.Wires.{WorkerWires, worker_wires, ReceivesOnce}
use Rattle.crb_worker.specs.Steps.{WorkerStep, GivesUp, is_longer, left_of, ReceivesRest, lost as lost_answer}
use Rattle.crb_worker.specs.Heads.{is_head, is_cancelled}
use Rattle.crb_worker.specs.declared.progress.Progress.{Progress}
use Rattle.crb_worker.specs.declared.progress.Progress.TheVariants.{Free, Claimed as ClaimedJob, Sent as SentJob, HeaderReceived as RunJob}
use Rattle.crb_worker.specs.declared.progress.Step.{Step}
use Rattle.crb_worker.specs.declared.progress.Step.TheVariants.{Idle, Claim, Sent, Exec, Done, Cancelled, Lost}
use Rattle.ctrl_model.specs.Link.{Link, receivable, received, Handed, cut}
use Rattle.ctrl_client.specs.Exchange.{IsQuiet}
use Rattle.vt_script.specs.declared.event.Event.TheVariants.{Work}
use Rattle.vt_script.specs.declared.reply.Reply.{Reply}
use Rattle.vt_script.specs.declared.reply.Reply.TheVariants as replied
use Rattle.vt_seat.specs.Wires.{fails_next, after_call}
use Rattle.vt_seat.specs.Follows.{said, IsInjected, IsLastJob, Placed, given, given_at, tpm_at, tpm_behind, RefinesAt, RefinesOneHost, StepRefinesOneHost}
use Rattle.vt_seat.specs.Follows.Placed.{AtHome, InQueue}
use Rattle.crb_history.proofs.CancelledBeforeClaim.{held-asked}
use Rattle.vt_seat.proofs.Jobs.{Rests}
use Rattle.vt_seat.proofs.InjectedFaults.{fails-reaches, due-passed, due-failed, due-same}
use Rattle.vt_seat.proofs.Behind.{none_behind, rest_behind}
use Rattle.vt_seat.proofs.WorkerSteps.{IsRaw, raw_claimed, claimed_number, on_way, ran_here, queued_last, claim-stands, sent-stands, exec-stands, head_here, given_here, cancel-stands, lost-stands, done-stands, cancelled-stands, RestFacts, rest_facts}

-- ---- the order

-- one call, by the injected fault that is pending
one_call : (calls_to_fault : Option ℕ) → (fails_next calls_to_fault || false) ≡ fails_next calls_to_fault
one_call calls_to_fault = go (fails_next calls_to_fault)
  where
    go : (b : Bool) → (b || false) ≡ b
    go true = refl
    go false = refl

either_way : {A : Type 0} (b : Bool) (x : A) → cond b x x ≡ x
either_way true x = refl
either_way false x = refl

not_false : (b : Bool) → false ≡ not b → b ≡ true
not_false true is = refl
not_false false is = cc

not_true : (b : Bool) → true ≡ not b → b ≡ false
not_true true is = cc
not_true false is = refl

one_fails : (b : Snapshot) (t : OneHost) (calls_to_fault : Option ℕ) → IsInjected t.injected_fault t.count calls_to_fault → fails_in t 1 ≡ fails_next calls_to_fault
one_fails b t calls_to_fault is = sym (fails-reaches t.injected_fault t.count calls_to_fault 1 (omega arith) is) ∙ one_call calls_to_fault

one_passed : (injected_fault : Option ℕ) (count : ℕ) (calls_to_fault : Option ℕ) → fails_next calls_to_fault ≡ false → IsInjected injected_fault count calls_to_fault → IsInjected injected_fault (count + 1) (after_call calls_to_fault)
one_passed injected_fault count calls_to_fault none is = subst (λ (d : Option ℕ). IsInjected injected_fault (count + 1) d) (either_way (fails_next calls_to_fault) (after_call calls_to_fault)) (due-passed injected_fault count calls_to_fault 1 (one_call calls_to_fault ∙ none) is)

one_failed : (injected_fault : Option ℕ) (count : ℕ) (calls_to_fault : Option ℕ) → fails_next calls_to_fault ≡ true → IsInjected injected_fault count calls_to_fault → after_call calls_to_fault ≡ None
one_failed injected_fault count calls_to_fault met is = sym (either_way (fails_next calls_to_fault) (after_call calls_to_fault)) ∙ due-failed injected_fault count calls_to_fault 1 (one_call calls_to_fault ∙ met) is

-- ---- the device, by its port

pub the_same : {A : Type 0} (x y : A) → Some x ≡ Some y → x ≡ y
the_same x y is = cc

-- what the worker leaves of a device
pub device_by : (d e : DeviceModel PortState) → own_parts e ≡ own_parts d → plain_device e ≡ placed d.regs d.number d.own_buffer e.port
device_by d e own = ap (λ (o : OwnParts). placed o.regs o.number o.own_buffer e.port) own

port_kept : (d e : DeviceModel PortState) → own_parts e ≡ own_parts d → plain e.port ≡ plain d.port → plain_device e ≡ plain_device d
port_kept d e own port_view = device_by d e own ∙ ap (placed d.regs d.number d.own_buffer) (the_same e.port d.port (ap (λ (k : PortView). k.state) port_view))

-- the buffer is away where a job waits
away : (own_buffer : Option (List ℕ)) (s : PortState) → is_nothing s ≡ is_some own_buffer → is_nothing s ≡ false → own_buffer ≡ None
away None s is busy = refl
away (Some buf) s is busy = cc

waits_at : (d : DeviceModel PortState) (progress : Progress) (job : Job) → is_nothing d.port ≡ is_some d.own_buffer → d.port ≡ port_state.Waiting job → (plain_device d).slot ≡ Queued job
waits_at d progress job free_home is =
    let none : d.own_buffer ≡ None = away d.own_buffer d.port free_home (ap is_nothing is) in
    ap (λ (h : Option (List ℕ)). slot_at h d.port) none ∙ ap (slot_at None) is

-- the device once its job was claimed
claimed_at : (d e : DeviceModel PortState) (progress : Progress) (job : Job) → is_nothing d.port ≡ is_some d.own_buffer → d.port ≡ port_state.Waiting job → own_parts e ≡ own_parts d → e.port ≡ port_state.Claimed job.number → plain_device e ≡ record (plain_device d) { slot = ClaimedSlot }
claimed_at d e progress job free_home is own now =
    let none : d.own_buffer ≡ None = away d.own_buffer d.port free_home (ap is_nothing is) in
    device_by d e own ∙ ap (placed d.regs d.number d.own_buffer) now ∙ ap (λ (h : Option (List ℕ)). placed d.regs d.number h (port_state.Claimed job.number)) none

home_away : (own_buffer : Option (List ℕ)) (s : PortState) → slot_at own_buffer s ≡ ClaimedSlot → own_buffer ≡ None
home_away None s is = refl
home_away (Some buf) s is = cc

-- the device once its job was answered
answered_at : (d e : DeviceModel PortState) (a : Answer) → (plain_device d).slot ≡ ClaimedSlot → own_parts e ≡ own_parts d → Posts (plain d.port) a (plain e.port) → plain_device e ≡ answered a (plain_device d)
answered_at d e a slot own posts =
    let now : e.port ≡ port_state.Answered a = the_same _ _ posts.state in
    device_by d e own ∙ ap (placed d.regs d.number d.own_buffer) now ∙ ap (λ (h : Option (List ℕ)). placed d.regs d.number h (port_state.Answered a)) (home_away d.own_buffer d.port slot)

-- ---- the reply

turn_here : (b : Snapshot) (p : History) (fails : ℕ → Bool) (stage : JobStage) (said : Reply) → IsAt b p stage → said ≡ worker_reply_at stage (worker_reply_inputs b p) fails → said ≡ worker_reply b p fails
turn_here b p fails stage said at is = rw (at.executing, at.reached) is

pub claimed_not_waiting : (stage : JobStage) → stage ≡ Claimed → stage ≡ Waiting → ⊥
claimed_not_waiting stage one other = let wrong : Claimed ≡ Waiting = sym one ∙ other in cc

pub sent_not_waiting : (stage : JobStage) → stage ≡ HasSent → stage ≡ Waiting → ⊥
sent_not_waiting stage one other = let wrong : HasSent ≡ Waiting = sym one ∙ other in cc

pub run_not_waiting : (stage : JobStage) → stage ≡ HasHeader → stage ≡ Waiting → ⊥
run_not_waiting stage one other = let wrong : HasHeader ≡ Waiting = sym one ∙ other in cc

-- a cancel that came in time was asked for
in_time-asked : (b : Snapshot) (h : History) → cancelled_in_emulator b h ≡ true → cancel_requested b h ≡ true
in_time-asked b [] is = cc
in_time-asked b (Write a ∷ p) is = go (starts b p a) (cancelled_in_emulator b p) (cancel_requested b p) (sets_cancel (effect_of a)) (accepts b p a) (is_cancel b p) (in_time-asked b p) is
  where
    go : (begins in_time asked sets accepted cancel : Bool) → (in_time ≡ true → asked ≡ true) → cond begins false in_time ≡ true → cond begins cancel (asked || (sets && accepted)) ≡ true
    go true in_time asked sets accepted cancel before h = cc
    go false in_time asked sets accepted cancel before h = rw (before h) refl
in_time-asked b (Sending ∷ p) is = cc
in_time-asked b (Ask arrived ∷ p) is = go (cancelled_in_emulator b p) arrived (is_sent (stage_of b p)) (cancel_requested b p) (in_time-asked b p) is
  where
    go : (in_time came sent asked : Bool) → (in_time ≡ true → asked ≡ true) → (in_time || (came && sent)) ≡ true → (asked || came) ≡ true
    go true came sent asked before h = rw (before refl) refl
    go false true sent true before h = refl
    go false true sent false before h = refl
    go false false sent asked before h = cc
in_time-asked b (Read a v ∷ p) is = in_time-asked b p is
in_time-asked b (Claiming ∷ p) is = in_time-asked b p is
in_time-asked b (Executing ∷ p) is = in_time-asked b p is
in_time-asked b (Finish how ∷ p) is = in_time-asked b p is
in_time-asked b (Reset ∷ p) is = in_time-asked b p is
in_time-asked b (ResetLost ∷ p) is = in_time-asked b p is

-- ---- what a step leaves

-- where the parts are these, the world stands with them
stands_by : (b : Snapshot) (q : History) (d d' : DeviceState) (next next' : Progress) (m m' : Link) → d ≡ d' → next ≡ next' → m ≡ m' → RefinesAt b q d' next' m' → RefinesAt b q d next m
stands_by b q d d' next next' m m' device progress link is =
    subst (λ (x : DeviceState). RefinesAt b q x next m) (sym device) (subst (λ (x : Progress). RefinesAt b q d' x m) (sym progress) (subst (λ (x : Link). RefinesAt b q d' next' x) (sym link) is))

-- wires that weren't called
record Uncalled (l m : Link) (calls_to_fault calls_to_fault' : Option ℕ) : Type 0 where
  link : m ≡ l
  calls_to_fault_is : calls_to_fault' ≡ calls_to_fault

uncalled : (l m : Link) (calls_to_fault calls_to_fault' : Option ℕ) (faults faults' : ℕ) → worker_wires fails_next after_call (Some m) calls_to_fault' faults' None ≡ worker_wires fails_next after_call (Some l) calls_to_fault faults None → Uncalled l m calls_to_fault calls_to_fault'
uncalled l m calls_to_fault calls_to_fault' faults faults' same = record {
  link = the_same m l (ap (λ (s : WorkerWires (Option ℕ)). s.link) same);
  calls_to_fault_is = ap (λ (s : WorkerWires (Option ℕ)). s.schedule) same;
}

port_same : (d e : DeviceModel PortState) → own_parts e ≡ own_parts d → Some e.port ≡ Some d.port → plain_device e ≡ plain_device d
port_same d e own same = device_by d e own ∙ ap (placed d.regs d.number d.own_buffer) (the_same e.port d.port same)

-- ---- with no claimed job

-- no job waits where the port's stage says so
waits_not : (regs : Regs) (number : ℕ) (own_buffer : Option (List ℕ)) (s : PortState) (job : Job) → (collected (placed regs number own_buffer s)).slot ≡ Queued job → is_waiting (port_stage s) ≡ false → ⊥
waits_not regs number (Some buf) s job is none = cc
waits_not regs number None port_state.Nothing job is none = cc
waits_not regs number None (port_state.Waiting other) job is none = go other.cancelled none
  where
    go : (held : Bool) → is_waiting (waiting_stage held) ≡ false → ⊥
    go true none = cc
    go false none = cc
waits_not regs number None (port_state.Claimed claimed) job is none = cc
waits_not regs number None (port_state.Answered a) job is none = cc

still_free : (b : Snapshot) (p : History) (d : DeviceModel PortState) (slot : Slot) → slot ≡ (collected (plain_device d)).slot → Placed b p slot Free → is_waiting (port_stage d.port) ≡ false → is_executing (phase_of b p) ≡ false
still_free b p d slot here (AtHome bytes still) none = still
still_free b p d slot here (InQueue job is) none = absurd (waits_not d.regs d.number d.own_buffer d.port job (sym here) none)

-- the plain port's stage at the first look
none_waits : (d e : DeviceModel PortState) → ClaimsNone (plain d.port) (plain e.port) → is_waiting (port_stage d.port) ≡ false
none_waits d e none = go none.steps
  where
    go : (found : port.PortStage) × (more : List port.PortStage) × Found (plain d.port) (plain e.port) found more × (length more ≤ 1)
        × ((is_waiting found ≡ false) ⊎ ((second : port.PortStage) × (more ≡ second ∷ []) × (second ≢ found) × ((plain d.port).state ≡ None)))
        → is_waiting (port_stage d.port) ≡ false
    go (found, more, looks, within_limit, inl still) = ap is_waiting looks.state ∙ still
    go (found, more, looks, within_limit, inr (second, one, other, untold)) = cc

-- ---- the steps

idle-steps : (b : Snapshot) (t : OneHost) (d e : DeviceModel PortState) (next : Progress) (l m : Link) (calls_to_fault calls_to_fault' : Option ℕ)
    → RefinesOneHost b t (record { device = d; progress = Free; link = l; calls_to_fault = calls_to_fault; faults = 0 }) → own_parts e ≡ own_parts d
    → ClaimsNone (plain d.port) (plain e.port) → next ≡ Free → Uncalled l m calls_to_fault calls_to_fault'
    → StepRefinesOneHost b t Work replied.Idle (record { device = e; progress = next; link = m; calls_to_fault = calls_to_fault'; faults = 0 })
idle-steps b t d e next l m calls_to_fault calls_to_fault' follows own none free calls =
    let p : History = t.history in
    let s = follows.stands in
    let still : is_executing (phase_of b p) ≡ false = still_free b p d (collected (plain_device d)).slot refl s.job (none_waits d e none) in
    record {
      answers = rw still refl;
      legal = λ legal. legal;
      follows = record {
        fit = follows.fit;
        stands = stands_by b p (plain_device e) (plain_device d) next Free m l (port_same d e own none.state) free calls.link s;
        calls_to_fault = subst (λ (o : Option ℕ). IsInjected t.injected_fault (t.count + 0) o) (sym calls.calls_to_fault_is) (due-same t.injected_fault t.count calls_to_fault follows.calls_to_fault);
      };
    }

claim-steps : (b : Snapshot) (t : OneHost) (d e : DeviceModel PortState) (number : ℕ) (job : Job) (next : Progress) (l m : Link) (calls_to_fault calls_to_fault' : Option ℕ)
    → RefinesOneHost b t (record { device = d; progress = Free; link = l; calls_to_fault = calls_to_fault; faults = 0 }) → is_nothing d.port ≡ is_some d.own_buffer → own_parts e ≡ own_parts d
    → ClaimsJob (plain d.port) job (plain e.port) → number ≡ job.number → next ≡ ClaimedJob job → Uncalled l m calls_to_fault calls_to_fault'
    → StepRefinesOneHost b t Work (replied.Claim number) (record { device = e; progress = next; link = m; calls_to_fault = calls_to_fault'; faults = 0 })
claim-steps b t d e number job next l m calls_to_fault calls_to_fault' follows free_home own claims named now calls =
    let p : History = t.history in
    let s = follows.stands in
    let stood : d.port ≡ port_state.Waiting job = claims.stood in
    let here : e.port ≡ port_state.Claimed job.number = the_same _ _ claims.state in
    let queued : (plain_device d).slot ≡ Queued job = waits_at d Free job free_home stood in
    let same : collected (plain_device d) ≡ plain_device d = rw queued refl in
    let is = queued_last b p (collected (plain_device d)).slot job (ap (λ (x : DeviceState). x.slot) same ∙ queued) s.job in
    record {
      answers = turn_here b p (fails_in t) Waiting (replied.Claim number) is.at (ap replied.Claim (named ∙ is.number));
      legal = λ legal. (legal, is.at);
      follows = record {
        fit = follows.fit;
        stands = stands_by b (Claiming ∷ p) (plain_device e) (record (plain_device d) { slot = ClaimedSlot }) next (ClaimedJob job) m l (claimed_at d e Free job free_home stood own here) now calls.link (claim-stands b p (plain_device d) l job s queued);
        calls_to_fault = subst (λ (o : Option ℕ). IsInjected t.injected_fault (t.count + 0) o) (sym calls.calls_to_fault_is) (due-same t.injected_fault t.count calls_to_fault follows.calls_to_fault);
      };
    }

held-steps : (b : Snapshot) (t : OneHost) (d e : DeviceModel PortState) (number : ℕ) (job : Job) (a : Answer) (next : Progress) (l m : Link) (calls_to_fault calls_to_fault' : Option ℕ)
    → RefinesOneHost b t (record { device = d; progress = ClaimedJob job; link = l; calls_to_fault = calls_to_fault; faults = 0 }) → own_parts e ≡ own_parts d
    → job.cancelled ≡ true → number ≡ job.number → next ≡ Free → Posts (plain d.port) a (plain e.port)
    → a ≡ record { number = job.number; outcome = outcome.Cancelled; buf = followed_by_zeros cancelled } → Uncalled l m calls_to_fault calls_to_fault'
    → StepRefinesOneHost b t Work (replied.Cancelled number) (record { device = e; progress = next; link = m; calls_to_fault = calls_to_fault'; faults = 0 })
held-steps b t d e number job a next l m calls_to_fault calls_to_fault' follows own held named free posts is_a calls =
    let p : History = t.history in
    let s = follows.stands in
    let here = claimed_number b p (collected (plain_device d)).slot job s.job in
    let is = here.1 in
    let raw : IsRaw (plain_device d) = raw_claimed (plain_device d) here.0 in
    let kept : cancelled_before_claim b p ≡ true = sym is.held ∙ held in
    record {
      answers = turn_here b p (fails_in t) Claimed (replied.Cancelled number) is.at (rw kept (ap replied.Cancelled (named ∙ is.number)));
      legal = λ legal. (legal, (record { executing = is.at.executing; claimed = claimed_not_waiting (stage_of b p) is.at.reached }, held-asked b p kept));
      follows = record {
        fit = follows.fit;
        stands = stands_by b (Finish outcome.Cancelled ∷ p) (plain_device e) (answered a (plain_device d)) next Free m l (answered_at d e a raw.slot own posts) free calls.link (cancel-stands b p (plain_device d) l job a s is_a);
        calls_to_fault = subst (λ (o : Option ℕ). IsInjected t.injected_fault (t.count + 0) o) (sym calls.calls_to_fault_is) (due-same t.injected_fault t.count calls_to_fault follows.calls_to_fault);
      };
    }

sent-steps : (b : Snapshot) (t : OneHost) (d e : DeviceModel PortState) (number : ℕ) (job : Job) (next : Progress) (l m : Link) (calls_to_fault calls_to_fault' : Option ℕ)
    → RefinesOneHost b t (record { device = d; progress = ClaimedJob job; link = l; calls_to_fault = calls_to_fault; faults = 0 }) → own_parts e ≡ own_parts d
    → job.cancelled ≡ false → number ≡ job.number → next ≡ SentJob job → plain e.port ≡ plain d.port
    → Handed Data (first_frame job.buf) l m → fails_next calls_to_fault ≡ false → calls_to_fault' ≡ after_call calls_to_fault
    → StepRefinesOneHost b t Work (replied.Sent number) (record { device = e; progress = next; link = m; calls_to_fault = calls_to_fault'; faults = 0 })
sent-steps b t d e number job next l m calls_to_fault calls_to_fault' follows own held named now same handed none schedule =
    let p : History = t.history in
    let s = follows.stands in
    let is = (claimed_number b p (collected (plain_device d)).slot job s.job).1 in
    let free : cancelled_before_claim b p ≡ false = sym is.held ∙ held in
    let unmet : fails_in t 1 ≡ false = one_fails b t calls_to_fault follows.calls_to_fault ∙ none in
    record {
      answers = turn_here b p (fails_in t) Claimed (replied.Sent number) is.at (rw (free, unmet) (ap replied.Sent (named ∙ is.number)));
      legal = λ legal. (legal, is.at);
      follows = record {
        fit = follows.fit;
        stands = stands_by b (Sending ∷ p) (plain_device e) (plain_device d) next (SentJob job) m m (port_kept d e own same) now refl (sent-stands b p (plain_device d) l m job s handed);
        calls_to_fault = subst (λ (o : Option ℕ). IsInjected t.injected_fault (t.count + 1) o) (sym schedule) (one_passed t.injected_fault t.count calls_to_fault none follows.calls_to_fault);
      };
    }

-- a job is given up, after a call that failed
gives_up : (b : Snapshot) (t : OneHost) (d e : DeviceModel PortState) (number : ℕ) (job : Job) (progress next : Progress) (l m : Link) (calls_to_fault calls_to_fault' : Option ℕ) (stage : JobStage)
    → RefinesOneHost b t (record { device = d; progress = progress; link = l; calls_to_fault = calls_to_fault; faults = 0 }) → own_parts e ≡ own_parts d
    → (collected (plain_device d)).slot ≡ ClaimedSlot → IsLastJob b t.history stage job → stage_of b t.history ≢ Waiting
    → replied.Lost number ≡ worker_reply_at stage (worker_reply_inputs b t.history) (fails_in t)
    → GivesUp (plain d.port) job number next (plain e.port) → m ≡ cut Data l → fails_next calls_to_fault ≡ true → calls_to_fault' ≡ after_call calls_to_fault
    → StepRefinesOneHost b t Work (replied.Lost number) (record { device = e; progress = next; link = m; calls_to_fault = calls_to_fault'; faults = 0 })
gives_up b t d e number job progress next l m calls_to_fault calls_to_fault' stage follows own slot is claimed reply up gone met schedule =
    let p : History = t.history in
    let s = follows.stands in
    let raw : IsRaw (plain_device d) = raw_claimed (plain_device d) slot in
    record {
      answers = turn_here b p (fails_in t) stage (replied.Lost number) is.at reply;
      legal = λ legal. (legal, record { executing = is.at.executing; claimed = claimed });
      follows = record {
        fit = follows.fit;
        stands = stands_by b (Finish outcome.Lost ∷ p) (plain_device e) (answered (lost_answer job) (plain_device d)) next Free m (cut Data l) (answered_at d e (lost_answer job) raw.slot own up.posted) up.free gone (lost-stands b p (plain_device d) progress l (lost_answer job) s raw is.at.executing refl);
        calls_to_fault = schedule ∙ one_failed t.injected_fault t.count calls_to_fault met follows.calls_to_fault;
      };
    }

unsent-steps : (b : Snapshot) (t : OneHost) (d e : DeviceModel PortState) (number : ℕ) (job : Job) (next : Progress) (l m : Link) (calls_to_fault calls_to_fault' : Option ℕ)
    → RefinesOneHost b t (record { device = d; progress = ClaimedJob job; link = l; calls_to_fault = calls_to_fault; faults = 0 }) → own_parts e ≡ own_parts d
    → job.cancelled ≡ false → GivesUp (plain d.port) job number next (plain e.port) → m ≡ cut Data l → fails_next calls_to_fault ≡ true → calls_to_fault' ≡ after_call calls_to_fault
    → StepRefinesOneHost b t Work (replied.Lost number) (record { device = e; progress = next; link = m; calls_to_fault = calls_to_fault'; faults = 0 })
unsent-steps b t d e number job next l m calls_to_fault calls_to_fault' follows own held up gone met schedule =
    let p : History = t.history in
    let here = claimed_number b p (collected (plain_device d)).slot job follows.stands.job in
    let is = here.1 in
    let free : cancelled_before_claim b p ≡ false = sym is.held ∙ held in
    let calls_to_fault_now : fails_in t 1 ≡ true = one_fails b t calls_to_fault follows.calls_to_fault ∙ met in
    gives_up b t d e number job (ClaimedJob job) next l m calls_to_fault calls_to_fault' Claimed follows own here.0 is (claimed_not_waiting (stage_of b p) is.at.reached) (rw (free, calls_to_fault_now) (ap replied.Lost (up.named ∙ is.number))) up gone met schedule

-- the header is at hand where a command was sent
pub head_at_hand : (b : Snapshot) (t : OneHost) (d : DeviceModel PortState) (job : Job) (l : Link) (calls_to_fault : Option ℕ) → RefinesOneHost b t (record { device = d; progress = SentJob job; link = l; calls_to_fault = calls_to_fault; faults = 0 }) → 10 ≤ length (receivable Data l)
head_at_hand b t d job l calls_to_fault follows = subst (λ (x : List ℕ). 10 ≤ length x) (sym (head_here b t.history (plain_device d) l job follows.stands)) (given_here b t.history follows.fit).least

exec-steps : (b : Snapshot) (t : OneHost) (d e : DeviceModel PortState) (number : ℕ) (job : Job) (head : List ℕ) (next : Progress) (l m : Link) (calls_to_fault calls_to_fault' : Option ℕ)
    → RefinesOneHost b t (record { device = d; progress = SentJob job; link = l; calls_to_fault = calls_to_fault; faults = 0 }) → own_parts e ≡ own_parts d
    → number ≡ job.number → next ≡ RunJob job head → plain e.port ≡ plain d.port
    → head ≡ take 10 (receivable Data l) → m ≡ received true Data 10 l → fails_next calls_to_fault ≡ false → calls_to_fault' ≡ after_call calls_to_fault
    → StepRefinesOneHost b t Work (replied.Exec number) (record { device = e; progress = next; link = m; calls_to_fault = calls_to_fault'; faults = 0 })
exec-steps b t d e number job head next l m calls_to_fault calls_to_fault' follows own named now same is_head gone none schedule =
    let p : History = t.history in
    let s = follows.stands in
    let is = (on_way b p (collected (plain_device d)).slot job s.job).1 in
    let unmet : fails_in t 1 ≡ false = one_fails b t calls_to_fault follows.calls_to_fault ∙ none in
    record {
      answers = turn_here b p (fails_in t) HasSent (replied.Exec number) is.at (rw unmet (ap replied.Exec (named ∙ is.number)));
      legal = λ legal. (legal, is.at);
      follows = record {
        fit = follows.fit;
        stands = stands_by b (Executing ∷ p) (plain_device e) (plain_device d) next (RunJob job head) m (received true Data 10 l) (port_kept d e own same) now gone (exec-stands b p (plain_device d) l job head s (is_head ∙ ap (take 10) (head_here b p (plain_device d) l job s)));
        calls_to_fault = subst (λ (o : Option ℕ). IsInjected t.injected_fault (t.count + 1) o) (sym schedule) (one_passed t.injected_fault t.count calls_to_fault none follows.calls_to_fault);
      };
    }

unrun-steps : (b : Snapshot) (t : OneHost) (d e : DeviceModel PortState) (number : ℕ) (job : Job) (next : Progress) (l m : Link) (calls_to_fault calls_to_fault' : Option ℕ)
    → RefinesOneHost b t (record { device = d; progress = SentJob job; link = l; calls_to_fault = calls_to_fault; faults = 0 }) → own_parts e ≡ own_parts d
    → GivesUp (plain d.port) job number next (plain e.port) → m ≡ cut Data l → fails_next calls_to_fault ≡ true → calls_to_fault' ≡ after_call calls_to_fault
    → StepRefinesOneHost b t Work (replied.Lost number) (record { device = e; progress = next; link = m; calls_to_fault = calls_to_fault'; faults = 0 })
unrun-steps b t d e number job next l m calls_to_fault calls_to_fault' follows own up gone met schedule =
    let p : History = t.history in
    let here = on_way b p (collected (plain_device d)).slot job follows.stands.job in
    let is = here.1 in
    let calls_to_fault_now : fails_in t 1 ≡ true = one_fails b t calls_to_fault follows.calls_to_fault ∙ met in
    gives_up b t d e number job (SentJob job) next l m calls_to_fault calls_to_fault' HasSent follows own here.0 is (sent_not_waiting (stage_of b p) is.at.reached) (rw calls_to_fault_now (ap replied.Lost (up.named ∙ is.number))) up gone met schedule

-- what came is the header of a response
pub no_head : (b : Snapshot) (t : OneHost) (d : DeviceModel PortState) (job : Job) (l : Link) (calls_to_fault : Option ℕ) (head : List ℕ) → RefinesOneHost b t (record { device = d; progress = SentJob job; link = l; calls_to_fault = calls_to_fault; faults = 0 }) → head ≡ take 10 (receivable Data l) → is_head head ≡ false → ⊥
no_head b t d job l calls_to_fault head follows is none =
    let given_is : head ≡ take 10 (given_at b t.history) = is ∙ ap (take 10) (head_here b t.history (plain_device d) l job follows.stands) in
    let here : is_head head ≡ true = ap is_head given_is ∙ (given_here b t.history follows.fit).head in
    let wrong : true ≡ false = sym here ∙ none in
    cc

-- ---- the end of a command that was run

-- what is left was taken
record Ended (b : Snapshot) (t : OneHost) (l m : Link) (head response : List ℕ) (calls_to_fault calls_to_fault' : Option ℕ) : Type 0 where
  response_is : response ≡ given_at b t.history
  rests : Rests (tpm_behind (Some HasHeader) (cancelled_in_emulator b t.history) (tpm_at b t.history) (last_command b t.history)) m
  quiet : IsQuiet m
  unmet : is_longer head ≡ true → fails_next calls_to_fault ≡ false
  passes : calls_to_fault' ≡ cond (is_longer head) (after_call calls_to_fault) calls_to_fault

-- how long the response is
longer-is : (b : Snapshot) (t : OneHost) (d : DeviceModel PortState) (job : Job) (head : List ℕ) (l : Link) (calls_to_fault : Option ℕ) → RefinesOneHost b t (record { device = d; progress = RunJob job head; link = l; calls_to_fault = calls_to_fault; faults = 0 }) → is_longer head ≡ has_rest (length (given_at b t.history))
longer-is b t d job head l calls_to_fault follows = ap (λ n. nat_lt 10 n) (rest_facts b t.history (plain_device d) l job head follows.fit follows.stands).size

given-length : (b : Snapshot) (p : History) → IsValid b.tpm → cancelled_in_emulator b p ≡ false → length (given_at b p) ≡ response_length b p
given-length b p fit in_time = ap (λ c. length (given c (tpm_at b p) (last_command b p))) in_time ∙ ap length (sym (answer-append b.tpm [] (executed b p) (last_command b p) fit))

ended-rest : (b : Snapshot) (t : OneHost) (d : DeviceModel PortState) (job : Job) (head rest response : List ℕ) (l m : Link) (calls_to_fault calls_to_fault' : Option ℕ) (faults faults' : ℕ)
    → RefinesOneHost b t (record { device = d; progress = RunJob job head; link = l; calls_to_fault = calls_to_fault; faults = 0 }) → response ≡ head ++ rest
    → ReceivesRest (is_longer head) (left_of head) rest (worker_wires fails_next after_call (Some l) calls_to_fault faults None) (worker_wires fails_next after_call (Some m) calls_to_fault' faults' None)
    → Ended b t l m head response calls_to_fault calls_to_fault'
ended-rest b t d job head rest response l m calls_to_fault calls_to_fault' faults faults' follows is took = go (is_longer head) refl took
  where
    go : (longer : Bool) → is_longer head ≡ longer → ReceivesRest longer (left_of head) rest (worker_wires fails_next after_call (Some l) calls_to_fault faults None) (worker_wires fails_next after_call (Some m) calls_to_fault' faults' None) → Ended b t l m head response calls_to_fault calls_to_fault'
    go false short took =
        let p : History = t.history in
        let facts : RestFacts b p head l = rest_facts b p (plain_device d) l job head follows.fit follows.stands in
        let calls = uncalled l m calls_to_fault calls_to_fault' faults faults' took.1 in
        let small : nat_lt 10 (named_size head) ≡ false = short in
        let none : length (drop 10 (given_at b p)) ≡ 0 = facts.left ∙ omega (arith, ltb-false 10 (named_size head) small) in
        let nothing : drop 10 (given_at b p) ≡ [] = empty_list (drop 10 (given_at b p)) none in
        record {
          response_is = is ∙ ap (λ (r : List ℕ). head ++ r) (took.0 ∙ sym nothing) ∙ facts.parts;
          rests = subst (λ (x : Link). Rests (tpm_behind (Some HasHeader) (cancelled_in_emulator b p) (tpm_at b p) (last_command b p)) x) (sym calls.link) (none_behind (cancelled_in_emulator b p) (tpm_at b p) (last_command b p) l facts.behind nothing);
          quiet = subst IsQuiet (sym calls.link) follows.stands.quiet;
          unmet = λ long. cc;
          passes = rw short calls.calls_to_fault_is;
        }
      where
        empty_list : (xs : List ℕ) → length xs ≡ 0 → xs ≡ []
        empty_list [] none = refl
        empty_list (x ∷ xs) none = cc
    go true long took =
        let p : History = t.history in
        let facts : RestFacts b p head l = rest_facts b p (plain_device d) l job head follows.fit follows.stands in
        let whole : length (receivable Data l) ≡ left_of head = ap length facts.there ∙ facts.left in
        let enough : left_of head ≤ length (receivable Data l) = omega (arith, whole) in
        let once : ReceivesOnce true (left_of head) l (worker_wires fails_next after_call (Some l) calls_to_fault faults None) (worker_wires fails_next after_call (Some m) calls_to_fault' faults' None) = took.1.exact enough in
        let link : m ≡ received true Data (left_of head) l = the_same m _ once.link in
        let here : rest ≡ drop 10 (given_at b p) = took.0.exact enough ∙ take_all (left_of head) (receivable Data l) (omega (arith, whole)) ∙ facts.there in
        let behind = rest_behind (cancelled_in_emulator b p) (tpm_at b p) (last_command b p) (left_of head) l facts.behind follows.stands.quiet (omega (arith, facts.left)) in
        record {
          response_is = is ∙ ap (λ (r : List ℕ). head ++ r) here ∙ facts.parts;
          rests = subst (λ (x : Link). Rests (tpm_behind (Some HasHeader) (cancelled_in_emulator b p) (tpm_at b p) (last_command b p)) x) (sym link) behind.0;
          quiet = subst IsQuiet (sym link) behind.1;
          unmet = λ is_long. not_true (fails_next calls_to_fault) once.answers;
          passes = rw long once.schedule;
        }

-- a cancel in time is what the response gives
in_time-is : (b : Snapshot) (p : History) (response : List ℕ) (is_said : Bool) → IsValid b.tpm → response ≡ given_at b p → is_cancelled response ≡ is_said → cancelled_in_emulator b p ≡ is_said
in_time-is b p response is_said fit is exact = sym (given_here b p fit).is_said ∙ ap is_cancelled (sym is) ∙ exact

done-steps : (b : Snapshot) (t : OneHost) (d e : DeviceModel PortState) (number : ℕ) (job : Job) (head response : List ℕ) (next : Progress) (l m : Link) (calls_to_fault calls_to_fault' : Option ℕ)
    → RefinesOneHost b t (record { device = d; progress = RunJob job head; link = l; calls_to_fault = calls_to_fault; faults = 0 }) → own_parts e ≡ own_parts d
    → number ≡ job.number → next ≡ Free → Posts (plain d.port) (record { number = job.number; outcome = outcome.Done; buf = followed_by_zeros response }) (plain e.port)
    → is_cancelled response ≡ false → Ended b t l m head response calls_to_fault calls_to_fault'
    → StepRefinesOneHost b t Work (replied.Done number) (record { device = e; progress = next; link = m; calls_to_fault = calls_to_fault'; faults = 0 })
done-steps b t d e number job head response next l m calls_to_fault calls_to_fault' follows own named free posts exact ended =
    let p : History = t.history in
    let s = follows.stands in
    let here = ran_here b p (collected (plain_device d)).slot job head s.job in
    let is = here.1.last in
    let raw : IsRaw (plain_device d) = raw_claimed (plain_device d) here.0 in
    let in_time : cancelled_in_emulator b p ≡ false = in_time-is b p response false follows.fit ended.response_is exact in
    let size : has_rest (response_length b p) ≡ is_longer head = ap has_rest (sym (given-length b p follows.fit in_time)) ∙ sym (longer-is b t d job head l calls_to_fault follows) in
    record {
      answers = turn_here b p (fails_in t) HasHeader (replied.Done number) is.at (rw in_time (calls (is_longer head) refl (named ∙ is.number) size));
      legal = λ legal. (legal, is.at);
      follows = record {
        fit = follows.fit;
        stands = stands_by b (Finish outcome.Done ∷ p) (plain_device e) (answered (record { number = job.number; outcome = outcome.Done; buf = followed_by_zeros response }) (plain_device d)) next Free m m (answered_at d e _ raw.slot own posts) free refl (done-stands b p (plain_device d) l m job head response follows.fit s in_time ended.response_is ended.rests ended.quiet);
        calls_to_fault = counted (is_longer head) refl size;
      };
    }
  where
    calls : (longer : Bool) → is_longer head ≡ longer → number ≡ number_of b t.history → has_rest (response_length b t.history) ≡ is_longer head
        → replied.Done number ≡ cond (has_rest (response_length b t.history) && fails_in t 1) (replied.Lost (number_of b t.history)) (replied.Done (number_of b t.history))
    calls false short same size = rw (size, short) (ap replied.Done same)
    calls true long same size = rw (size, long, one_fails b t calls_to_fault follows.calls_to_fault, ended.unmet long) (ap replied.Done same)

    counted : (longer : Bool) → is_longer head ≡ longer → has_rest (response_length b t.history) ≡ is_longer head → IsInjected t.injected_fault (t.count + cond (has_rest (response_length b t.history)) 1 0) calls_to_fault'
    counted false short size = rw (size, short, ended.passes, short) (due-same t.injected_fault t.count calls_to_fault follows.calls_to_fault)
    counted true long size = rw (size, long, ended.passes, long) (one_passed t.injected_fault t.count calls_to_fault (ended.unmet long) follows.calls_to_fault)

-- a response that says of a cancel is as short as its header
cancelled-short : (b : Snapshot) (t : OneHost) (d : DeviceModel PortState) (job : Job) (head : List ℕ) (l : Link) (calls_to_fault : Option ℕ) → RefinesOneHost b t (record { device = d; progress = RunJob job head; link = l; calls_to_fault = calls_to_fault; faults = 0 }) → cancelled_in_emulator b t.history ≡ true → is_longer head ≡ false
cancelled-short b t d job head l calls_to_fault follows in_time = longer-is b t d job head l calls_to_fault follows ∙ ap (λ c. has_rest (length (given c (tpm_at b t.history) (last_command b t.history)))) in_time

cancelled-steps : (b : Snapshot) (t : OneHost) (d e : DeviceModel PortState) (number : ℕ) (job : Job) (head response : List ℕ) (next : Progress) (l m : Link) (calls_to_fault calls_to_fault' : Option ℕ)
    → RefinesOneHost b t (record { device = d; progress = RunJob job head; link = l; calls_to_fault = calls_to_fault; faults = 0 }) → own_parts e ≡ own_parts d
    → number ≡ job.number → next ≡ Free → Posts (plain d.port) (record { number = job.number; outcome = outcome.Cancelled; buf = followed_by_zeros response }) (plain e.port)
    → is_cancelled response ≡ true → Ended b t l m head response calls_to_fault calls_to_fault'
    → StepRefinesOneHost b t Work (replied.Cancelled number) (record { device = e; progress = next; link = m; calls_to_fault = calls_to_fault'; faults = 0 })
cancelled-steps b t d e number job head response next l m calls_to_fault calls_to_fault' follows own named free posts exact ended =
    let p : History = t.history in
    let s = follows.stands in
    let here = ran_here b p (collected (plain_device d)).slot job head s.job in
    let is = here.1.last in
    let raw : IsRaw (plain_device d) = raw_claimed (plain_device d) here.0 in
    let in_time : cancelled_in_emulator b p ≡ true = in_time-is b p response true follows.fit ended.response_is exact in
    let short : is_longer head ≡ false = cancelled-short b t d job head l calls_to_fault follows in_time in
    let uncalled_now : calls_to_fault' ≡ calls_to_fault = ended.passes ∙ ap (λ (c : Bool). cond c (after_call calls_to_fault) calls_to_fault) short in
    record {
      answers = turn_here b p (fails_in t) HasHeader (replied.Cancelled number) is.at (rw in_time (ap replied.Cancelled (named ∙ is.number)));
      legal = λ legal. (legal, (record { executing = is.at.executing; claimed = run_not_waiting (stage_of b p) is.at.reached }, in_time-asked b p in_time));
      follows = record {
        fit = follows.fit;
        stands = stands_by b (Finish outcome.Cancelled ∷ p) (plain_device e) (answered (record { number = job.number; outcome = outcome.Cancelled; buf = followed_by_zeros response }) (plain_device d)) next Free m m (answered_at d e _ raw.slot own posts) free refl (cancelled-stands b p (plain_device d) l m job head response s in_time ended.response_is ended.rests ended.quiet);
        calls_to_fault = subst (λ (o : Option ℕ). IsInjected t.injected_fault (t.count + 0) o) (sym uncalled_now) (due-same t.injected_fault t.count calls_to_fault follows.calls_to_fault);
      };
    }

unended-steps : (b : Snapshot) (t : OneHost) (d e : DeviceModel PortState) (number : ℕ) (job : Job) (head : List ℕ) (next : Progress) (l m : Link) (calls_to_fault calls_to_fault' : Option ℕ)
    → RefinesOneHost b t (record { device = d; progress = RunJob job head; link = l; calls_to_fault = calls_to_fault; faults = 0 }) → own_parts e ≡ own_parts d
    → GivesUp (plain d.port) job number next (plain e.port) → is_longer head ≡ true → m ≡ cut Data l → fails_next calls_to_fault ≡ true → calls_to_fault' ≡ after_call calls_to_fault
    → StepRefinesOneHost b t Work (replied.Lost number) (record { device = e; progress = next; link = m; calls_to_fault = calls_to_fault'; faults = 0 })
unended-steps b t d e number job head next l m calls_to_fault calls_to_fault' follows own up long gone met schedule =
    let p : History = t.history in
    let here = ran_here b p (collected (plain_device d)).slot job head follows.stands.job in
    let is = here.1.last in
    let in_time : cancelled_in_emulator b p ≡ false = late (cancelled_in_emulator b p) refl in
    let calls_to_fault_now : fails_in t 1 ≡ true = one_fails b t calls_to_fault follows.calls_to_fault ∙ met in
    let size : has_rest (response_length b p) ≡ true = ap has_rest (sym (given-length b p follows.fit in_time)) ∙ sym (longer-is b t d job head l calls_to_fault follows) ∙ long in
    gives_up b t d e number job (RunJob job head) next l m calls_to_fault calls_to_fault' HasHeader follows own here.0 is (run_not_waiting (stage_of b p) is.at.reached) (rw (in_time, size, calls_to_fault_now) (ap replied.Lost (up.named ∙ is.number))) up gone met schedule
  where
    late : (c : Bool) → cancelled_in_emulator b t.history ≡ c → cancelled_in_emulator b t.history ≡ false
    late false is = is
    late true is = let wrong : true ≡ false = sym long ∙ cancelled-short b t d job head l calls_to_fault follows is in cc

-- ---- any step

-- the worker's step leads a world on
pub work-steps : (b : Snapshot) (t : OneHost) (d e : DeviceModel PortState) (progress next : Progress) (l m : Link) (calls_to_fault calls_to_fault' : Option ℕ) (faults faults' : ℕ) (step : Step)
    → RefinesOneHost b t (record { device = d; progress = progress; link = l; calls_to_fault = calls_to_fault; faults = 0 }) → is_nothing d.port ≡ is_some d.own_buffer → own_parts e ≡ own_parts d
    → WorkerStep progress (plain d.port) (worker_wires fails_next after_call (Some l) calls_to_fault faults None) step next (plain e.port) (worker_wires fails_next after_call (Some m) calls_to_fault' faults' None)
    → StepRefinesOneHost b t Work (said step) (record { device = e; progress = next; link = m; calls_to_fault = calls_to_fault'; faults = 0 })
work-steps b t d e Free next l m calls_to_fault calls_to_fault' faults faults' Idle follows free_home own works =
    idle-steps b t d e next l m calls_to_fault calls_to_fault' follows own works.0.0 works.0.1 (uncalled l m calls_to_fault calls_to_fault' faults faults' works.1)
work-steps b t d e Free next l m calls_to_fault calls_to_fault' faults faults' (Claim number) follows free_home own ((job, claims, named, now), same) =
    claim-steps b t d e number job next l m calls_to_fault calls_to_fault' follows free_home own claims named now (uncalled l m calls_to_fault calls_to_fault' faults faults' same)
work-steps b t d e Free next l m calls_to_fault calls_to_fault' faults faults' (Sent number) follows free_home own works = absurd works.0
work-steps b t d e Free next l m calls_to_fault calls_to_fault' faults faults' (Exec number) follows free_home own works = absurd works.0
work-steps b t d e Free next l m calls_to_fault calls_to_fault' faults faults' (Done number) follows free_home own works = absurd works.0
work-steps b t d e Free next l m calls_to_fault calls_to_fault' faults faults' (Cancelled number) follows free_home own works = absurd works.0
work-steps b t d e Free next l m calls_to_fault calls_to_fault' faults faults' (Lost number) follows free_home own works = absurd works.0
work-steps b t d e (ClaimedJob job) next l m calls_to_fault calls_to_fault' faults faults' (Cancelled number) follows free_home own (held, named, free, posts, same) =
    held-steps b t d e number job (record { number = job.number; outcome = outcome.Cancelled; buf = followed_by_zeros cancelled }) next l m calls_to_fault calls_to_fault' follows own held named free posts refl (uncalled l m calls_to_fault calls_to_fault' faults faults' same)
work-steps b t d e (ClaimedJob job) next l m calls_to_fault calls_to_fault' faults faults' (Sent number) follows free_home own (held, named, now, same, sends) =
    sent-steps b t d e number job next l m calls_to_fault calls_to_fault' follows own held named now same sends.link (not_true (fails_next calls_to_fault) sends.answers) sends.schedule
work-steps b t d e (ClaimedJob job) next l m calls_to_fault calls_to_fault' faults faults' (Lost number) follows free_home own (held, up, sends) =
    unsent-steps b t d e number job next l m calls_to_fault calls_to_fault' follows own held up sends.link (not_false (fails_next calls_to_fault) sends.answers) sends.schedule
work-steps b t d e (ClaimedJob job) next l m calls_to_fault calls_to_fault' faults faults' Idle follows free_home own works = absurd works
work-steps b t d e (ClaimedJob job) next l m calls_to_fault calls_to_fault' faults faults' (Claim number) follows free_home own works = absurd works
work-steps b t d e (ClaimedJob job) next l m calls_to_fault calls_to_fault' faults faults' (Exec number) follows free_home own works = absurd works
work-steps b t d e (ClaimedJob job) next l m calls_to_fault calls_to_fault' faults faults' (Done number) follows free_home own works = absurd works
work-steps b t d e (SentJob job) next l m calls_to_fault calls_to_fault' faults faults' (Exec number) follows free_home own (head, named, now, is, same, next_are, receives) =
    let enough : 10 ≤ length (receivable Data l) = head_at_hand b t d job l calls_to_fault follows in
    let once : ReceivesOnce true 10 l (worker_wires fails_next after_call (Some l) calls_to_fault faults None) (worker_wires fails_next after_call (Some m) calls_to_fault' faults' None) = receives.exact enough in
    exec-steps b t d e number job head next l m calls_to_fault calls_to_fault' follows own named now same (next_are.exact enough) (the_same m _ once.link) (not_true (fails_next calls_to_fault) once.answers) once.schedule
work-steps b t d e (SentJob job) next l m calls_to_fault calls_to_fault' faults faults' (Lost number) follows free_home own (up, inl receives) =
    let enough : 10 ≤ length (receivable Data l) = head_at_hand b t d job l calls_to_fault follows in
    let once : ReceivesOnce false 10 l (worker_wires fails_next after_call (Some l) calls_to_fault faults None) (worker_wires fails_next after_call (Some m) calls_to_fault' faults' None) = receives.exact enough in
    unrun-steps b t d e number job next l m calls_to_fault calls_to_fault' follows own up (the_same m _ once.link) (not_false (fails_next calls_to_fault) once.answers) once.schedule
work-steps b t d e (SentJob job) next l m calls_to_fault calls_to_fault' faults faults' (Lost number) follows free_home own (up, inr (head, none, next_are, receives)) =
    absurd (no_head b t d job l calls_to_fault head follows (next_are.exact (head_at_hand b t d job l calls_to_fault follows)) none)
work-steps b t d e (SentJob job) next l m calls_to_fault calls_to_fault' faults faults' Idle follows free_home own works = absurd works
work-steps b t d e (SentJob job) next l m calls_to_fault calls_to_fault' faults faults' (Claim number) follows free_home own works = absurd works
work-steps b t d e (SentJob job) next l m calls_to_fault calls_to_fault' faults faults' (Sent number) follows free_home own works = absurd works
work-steps b t d e (SentJob job) next l m calls_to_fault calls_to_fault' faults faults' (Done number) follows free_home own works = absurd works
work-steps b t d e (SentJob job) next l m calls_to_fault calls_to_fault' faults faults' (Cancelled number) follows free_home own works = absurd works
work-steps b t d e (RunJob job head) next l m calls_to_fault calls_to_fault' faults faults' (Done number) follows free_home own (response, named, free, posts, (rest, is, exact, took)) =
    done-steps b t d e number job head response next l m calls_to_fault calls_to_fault' follows own named free posts exact (ended-rest b t d job head rest response l m calls_to_fault calls_to_fault' faults faults' follows is took)
work-steps b t d e (RunJob job head) next l m calls_to_fault calls_to_fault' faults faults' (Cancelled number) follows free_home own (response, named, free, posts, (rest, is, exact, took)) =
    cancelled-steps b t d e number job head response next l m calls_to_fault calls_to_fault' follows own named free posts exact (ended-rest b t d job head rest response l m calls_to_fault calls_to_fault' faults faults' follows is took)
work-steps b t d e (RunJob job head) next l m calls_to_fault calls_to_fault' faults faults' (Lost number) follows free_home own (up, long, receives) =
    let facts : RestFacts b t.history head l = rest_facts b t.history (plain_device d) l job head follows.fit follows.stands in
    let whole : length (receivable Data l) ≡ left_of head = ap length facts.there ∙ facts.left in
    let once : ReceivesOnce false (left_of head) l (worker_wires fails_next after_call (Some l) calls_to_fault faults None) (worker_wires fails_next after_call (Some m) calls_to_fault' faults' None) = receives.exact (omega (arith, whole)) in
    unended-steps b t d e number job head next l m calls_to_fault calls_to_fault' follows own up long (the_same m _ once.link) (not_false (fails_next calls_to_fault) once.answers) once.schedule
work-steps b t d e (RunJob job head) next l m calls_to_fault calls_to_fault' faults faults' Idle follows free_home own works = absurd works
work-steps b t d e (RunJob job head) next l m calls_to_fault calls_to_fault' faults faults' (Claim number) follows free_home own works = absurd works
work-steps b t d e (RunJob job head) next l m calls_to_fault calls_to_fault' faults faults' (Sent number) follows free_home own works = absurd works
work-steps b t d e (RunJob job head) next l m calls_to_fault calls_to_fault' faults faults' (Exec number) follows free_home own works = absurd works
