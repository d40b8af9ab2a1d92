-- A reset of the guest leads a world on.
use Rattle.std.proofs.Common.{◌≡◌, ◌≢◌, ℕ, ◌+◌, Bool, true, false, ◌&&◌, List, [], ◌∷◌, refl, ap, sym, subst, ◌∙◌, arith, Some, None, Ok, Err, cond}
use Rattle.std.specs.Prelude.{Option, Result, is_some, is_err, length}
use Rattle.vt_base.specs.Buffer.{zeros}
use Rattle.vt_base.proofs.Zeros.{length-zeros, get_or-zeros}
use Rattle.crb_regs.specs.Registers.{is_executing, is_lost}
use Rattle.crb_regs.specs.declared.registers.Regs.{Regs}
use Rattle.crb_regs.specs.declared.phase.Phase.{Phase}
use Rattle.crb_regs.specs.declared.phase.Phase.TheVariants.{Idle, Ready, Reception, Execution, Completion, Lost}
use Rattle.crb_machine.specs.Over.{plain_device, slot_at}
use Rattle.crb_machine.specs.State.{DeviceState, Slot}
use Rattle.crb_machine.specs.State.Slot.{InDevice, Queued, Claimed as ClaimedSlot, Answered}
use Rattle.crb_regs.specs.Registers.{reset_regs}
use Rattle.crb_machine.specs.Steps.{collected, reset_at, reset_of, reset_reply, reset_reply_at, after_reset, after_reset_at, failed, fresh_state}
use Rattle.crb_machine.specs.Model.{DeviceModel}
use Rattle.crb_machine.specs.declared.device.NotYet.{NotYet}
use Rattle.crb_port.specs.declared.job.PortState.{PortState}
use Rattle.crb_port.specs.declared.job.PortState.TheVariants as port_state
use Rattle.tpm_core.specs.Answers.{powered_on}
use Rattle.tpm_core.specs.Answers.Entry.{PowerOn}
use Rattle.tpm_core.specs.Steps.{IsValid}
use Rattle.tpm_core.specs.declared.parts.TpmParts.{TpmParts}
use Rattle.tpm_core.specs.declared.algorithm.Banks.{Banks}
use Rattle.tpm_core.specs.Fresh.{manufactured}
use Rattle.tpm_core.proofs.Fit.{fit-manufactured}
use Rattle.tpm_core.proofs.Law.{fit-past, values_after-append, values_after-power_on, no_past}
use Rattle.crb_history.specs.Snapshot.{Snapshot, fresh}
use Rattle.crb_history.specs.Event.{History}
use Rattle.crb_history.specs.Event.Event.{Reset as Resetting, ResetLost}
use Rattle.crb_history.specs.Device.{phase_of, last_command, executed, stage_of}
use Rattle.crb_history.specs.Device.JobStage.{Waiting}
use Rattle.crb_history.specs.Cancelling.{cancelled_in_emulator}
use Rattle.vt_transcript.specs.Replies.{is_under_way}
use Rattle.vt_transcript.specs.OneHost.{OneHost, fails_in}
use Rattle.crb_worker.specs.declared.progress.Progress.{Progress}
use Rattle.crb_worker.specs.declared.progress.Progress.TheVariants.{Free}
use Rattle.ctrl_codec.specs.declared.request.Request.TheVariants.{Init}
use Rattle.ctrl_client.specs.declared.fault.ClientFault.{ClientFault}
use Rattle.ctrl_model.specs.Emulator.{EmulatorState, RequestOutcome, HandlesRequest, StartsBy, Gathers, is_nothing as is_nothing_gathered, started_here, switched_on, resulted}
use Rattle.ctrl_model.specs.declared.profile.TheConstants.{SUCCESS}
use Rattle.ctrl_model.specs.Link.{Link}
use Rattle.ctrl_client.specs.Schedules.{fails_within}
use Rattle.ctrl_client.specs.Exchange.{IsQuiet, Commands, CommandedBy}
use Rattle.vt_script.specs.declared.event.Event.TheVariants.{Reset as ResetLine}
use Rattle.vt_script.specs.declared.reply.Reply.TheVariants as replied
use Rattle.vt_seat.specs.Wires.{fails_next, after_call, fresh_wires}
use Rattle.vt_seat.specs.Follows.{Placed, place_of, tpm_at, IsEmulator, RefinesAt, Refines, RefinesOneHost, IsInjected, StepRefinesOneHost}
use Rattle.vt_seat.specs.Follows.Placed.{AtHome, InQueue, InHand, OnWay, Ran}
use Rattle.vt_seat.proofs.Jobs.{is_resting, Rests, to_rest, from_rest}
use Rattle.vt_seat.proofs.Guests.{collected-collected}
use Rattle.vt_seat.proofs.WorkerSteps.{raw_claimed}
use Rattle.vt_seat.proofs.InjectedFaults.{fails-reaches, due-passed, due-failed, due-same}
use Rattle.vt_seat.proofs.Steps.{the_same}
use Rattle.vt_seat.proofs.Asks.{two-fail}

-- ---- no command is under way

-- what is known where no job is claimed
pub record IsAtRest (b : Snapshot) (p : History) (progress : Progress) : Type 0 where
  pub free : progress ≡ Free
  pub unclaimed : phase_of b p ≡ Execution → stage_of b p ≡ Waiting
  pub place : is_resting (place_of b p) ≡ true
  pub early : is_under_way b p ≡ false

not_executing : (phase : Phase) → is_executing phase ≡ false → phase ≡ Execution → ⊥
not_executing phase still is = let wrong : is_executing Execution ≡ false = rw is at still in cc

pub at_rest : (b : Snapshot) (p : History) (slot : Slot) (progress : Progress) → slot ≢ ClaimedSlot → Placed b p slot progress → IsAtRest b p progress
at_rest b p slot progress open_slot (AtHome bytes still) = record { free = refl; unclaimed = λ is. absurd (not_executing (phase_of b p) still is); place = rw still refl; early = rw still refl }
at_rest b p slot progress open_slot (InQueue job is) = record { free = refl; unclaimed = λ x. is.at.reached; place = rw (is.at.executing, is.at.reached) refl; early = rw (is.at.executing, is.at.reached) refl }
at_rest b p slot progress open_slot (InHand job is) = absurd (open_slot refl)
at_rest b p slot progress open_slot (OnWay job is) = absurd (open_slot refl)
at_rest b p slot progress open_slot (Ran job head is) = absurd (open_slot refl)

-- what is known where one is
pub record IsBusy (b : Snapshot) (p : History) : Type 0 where
  pub executing : phase_of b p ≡ Execution
  pub busy : is_under_way b p ≡ true

pub busy_where : (b : Snapshot) (p : History) (slot : Slot) (progress : Progress) → slot ≡ ClaimedSlot → Placed b p slot progress → IsBusy b p
busy_where b p slot progress here (AtHome bytes still) = cc
busy_where b p slot progress here (InQueue job is) = cc
busy_where b p slot progress here (InHand job is) = record { executing = is.at.executing; busy = rw (is.at.executing, is.at.reached) refl }
busy_where b p slot progress here (OnWay job is) = record { executing = is.at.executing; busy = rw (is.at.executing, is.at.reached) refl }
busy_where b p slot progress here (Ran job head is) = record { executing = is.last.at.executing; busy = rw (is.last.at.executing, is.last.at.reached) refl }

-- ---- the device

reset-working : (phase : Phase) (d : DeviceState) → phase ≢ Lost → reset_at phase d ≡ record d { regs = reset_regs; slot = InDevice (zeros 3968) }
reset-working Idle d working = refl
reset-working Ready d working = refl
reset-working Reception d working = refl
reset-working Execution d working = refl
reset-working Completion d working = refl
reset-working Lost d working = absurd (working refl)

pub free_where : (slot : Slot) (number : ℕ) → reset_reply_at slot number ≡ Ok tt → slot ≢ ClaimedSlot
free_where (InDevice bytes) number is claimed = cc
free_where (Queued j) number is claimed = cc
free_where ClaimedSlot number is claimed = cc
free_where (Answered a) number is claimed = cc

pub claimed_where : (slot : Slot) (number : ℕ) (not_yet : NotYet) → reset_reply_at slot number ≡ Err not_yet → slot ≡ ClaimedSlot
claimed_where (InDevice bytes) number not_yet is = cc
claimed_where (Queued j) number not_yet is = cc
claimed_where ClaimedSlot number not_yet is = refl
claimed_where (Answered a) number not_yet is = cc

after_reset-free : (slot : Slot) (d : DeviceState) → slot ≢ ClaimedSlot → after_reset_at slot d ≡ reset_at (collected d).regs.phase (collected d)
after_reset-free (InDevice bytes) d free = refl
after_reset-free (Queued j) d free = refl
after_reset-free ClaimedSlot d free = absurd (free refl)
after_reset-free (Answered a) d free = refl

-- the phase of a device after its reset says whether it was lost
by_phase : (d : DeviceState) (phase : Phase) → d.regs.phase ≡ phase → (reset_at phase d).regs.phase ≡ Lost → (d.regs.phase ≡ Lost) × (reset_at phase d ≡ d)
by_phase d Idle is lost = cc
by_phase d Ready is lost = cc
by_phase d Reception is lost = cc
by_phase d Execution is lost = cc
by_phase d Completion is lost = cc
by_phase d Lost is lost = (is, refl)

lost_where : (d : DeviceState) → (reset_of d).regs.phase ≡ Lost → (d.regs.phase ≡ Lost) × (reset_of d ≡ d)
lost_where d lost = by_phase d d.regs.phase refl lost

still_lost : (d : DeviceState) → d.regs.phase ≡ Lost → (reset_of d).regs.phase ≡ Lost
still_lost d is = rw is refl

pub not_lost : (phase : Phase) → phase ≢ Lost → is_lost phase ≡ false
not_lost Idle working = refl
not_lost Ready working = refl
not_lost Reception working = refl
not_lost Execution working = refl
not_lost Completion working = refl
not_lost Lost working = absurd (working refl)

-- the device of a reset that is done
record IsDone (b : Snapshot) (p : History) (d e : DeviceState) (progress : Progress) : Type 0 where
  rest : IsAtRest b p progress
  device : e ≡ reset_of (collected d)

done_where : (b : Snapshot) (p : History) (d e : DeviceState) (progress : Progress) → Placed b p (collected d).slot progress → e ≡ after_reset d → reset_reply d ≡ Ok tt → IsDone b p d e progress
done_where b p d e progress placed is done =
    let free : d.slot ≢ ClaimedSlot = free_where d.slot d.number done in
    record {
      rest = at_rest b p (collected d).slot progress (λ claimed. free (raw_claimed d claimed).slot) placed;
      device = is ∙ after_reset-free d.slot d free;
    }

-- ---- the lines that change nothing

pub stands_collected : (b : Snapshot) (p : History) (d : DeviceState) (progress : Progress) (l : Link) → RefinesAt b p d progress l → RefinesAt b p (collected d) progress l
stands_collected b p d progress l s = record { device = rw (collected-collected d) s.device; job = rw (collected-collected d) s.job; quiet = s.quiet; link = s.link }

-- the device is lost
pub lost_device-steps : (b : Snapshot) (t : OneHost) (d e : DeviceModel PortState) (progress : Progress) (l : Link) (calls_to_fault : Option ℕ)
    → RefinesOneHost b t (record { device = d; progress = progress; link = l; calls_to_fault = calls_to_fault; faults = 0 })
    → plain_device e ≡ after_reset (plain_device d) → reset_reply (plain_device d) ≡ Ok tt → e.regs.phase ≡ Lost
    → StepRefinesOneHost b t ResetLine replied.FailedDevice (record { device = e; progress = progress; link = l; calls_to_fault = calls_to_fault; faults = 0 })
lost_device-steps b t d e progress l calls_to_fault follows is done lost =
    let p : History = t.history in
    let s = follows.stands in
    let here : IsDone b p (plain_device d) (plain_device e) progress = done_where b p (plain_device d) (plain_device e) progress s.job is done in
    let was = lost_where (collected (plain_device d)) (ap (λ (x : DeviceState). x.regs.phase) (sym here.device) ∙ lost) in
    let phase : phase_of b p ≡ Lost = ap (λ (r : Regs). r.phase) (sym s.device.regs) ∙ was.0 in
    record {
      answers = rw phase refl;
      legal = λ legal. legal;
      follows = record {
        fit = follows.fit;
        stands = subst (λ (x : DeviceState). RefinesAt b p x progress l) (sym (here.device ∙ was.1)) (stands_collected b p (plain_device d) progress l s);
        calls_to_fault = due-same t.injected_fault t.count calls_to_fault follows.calls_to_fault;
      };
    }

-- ---- the emulator is powered on anew

-- INIT starts the TPM that is there
pub started : (t : TpmParts) (d : EmulatorState) (request_outcome : RequestOutcome) → IsEmulator d t None → HandlesRequest (Init 0) [] d request_outcome → request_outcome ≡ resulted SUCCESS (switched_on (powered_on t) d)
started t d request_outcome is obeys =
    let here : StartsBy true 0 d request_outcome = subst (λ (g : Gathers). StartsBy (is_nothing_gathered g) 0 d request_outcome) is.gathers obeys in
    here ∙ ap (λ (x : Option TpmParts). started_here 0 x d) is.tpm ∙ ap (λ (kept : Bool). resulted SUCCESS (switched_on (cond (kept && true) t (powered_on t)) d)) is.stored

powered : (b : Snapshot) (p : History) → IsValid b.tpm → powered_on (tpm_at b p) ≡ tpm_at b (Resetting ∷ p)
powered b p fit = sym (values_after-power_on (tpm_at b p) (fit-past b.tpm (executed b p) fit)) ∙ sym (values_after-append b.tpm (PowerOn ∷ []) (executed b p) fit)

-- what is known of a device that may be reset
pub record IsReady (b : Snapshot) (p : History) (d e : DeviceState) (progress : Progress) : Type 0 where
  rest : IsAtRest b p progress
  far : phase_of b p ≢ Lost
  lives : is_lost (phase_of b p) ≡ false
  device : e ≡ record (collected d) { regs = reset_regs; slot = InDevice (zeros 3968) }

pub ready_where : (b : Snapshot) (p : History) (d e : DeviceState) (progress : Progress) (l : Link) → RefinesAt b p d progress l → e ≡ after_reset d → reset_reply d ≡ Ok tt → e.regs.phase ≢ Lost → IsReady b p d e progress
ready_where b p d e progress l s is done working =
    let here : IsDone b p d e progress = done_where b p d e progress s.job is done in
    let phase : (collected d).regs.phase ≡ phase_of b p = ap (λ (r : Regs). r.phase) s.device.regs in
    let stays : (collected d).regs.phase ≢ Lost = λ lost. working (ap (λ (x : DeviceState). x.regs.phase) here.device ∙ still_lost (collected d) lost) in
    let far : phase_of b p ≢ Lost = λ lost. stays (phase ∙ lost) in
    record {
      rest = here.rest;
      far = far;
      lives = not_lost (phase_of b p) far;
      device = here.device ∙ reset-working (collected d).regs.phase (collected d) stays;
    }

-- the world after a reset
restarted : (b : Snapshot) (p : History) (d e : DeviceState) (progress : Progress) (l : Link) (emulator : EmulatorState) → IsValid b.tpm → RefinesAt b p d progress l → IsReady b p d e progress → emulator ≡ switched_on (powered_on (tpm_at b p)) l.emulator → RefinesAt b (Resetting ∷ p) e progress (record l { emulator = emulator })
restarted b p d e progress l emulator fit s ready is =
    let rests : Rests (tpm_at b p) l = to_rest (place_of b p) (cancelled_in_emulator b p) (tpm_at b p) (last_command b p) l ready.rest.place (s.link ready.lives) in
    rw (ready.device, ready.rest.free) (record {
      device = record { regs = refl; number = s.device.number; bytes = λ far. record { size = length-zeros 3968; each = λ i lt. get_or-zeros 3968 i } };
      job = AtHome (zeros 3968) refl;
      quiet = record { nothing = s.quiet.nothing; listens = ap (λ (x : EmulatorState). x.closed) is ∙ s.quiet.listens };
      link = λ far. from_rest None (cancelled_in_emulator b p) (tpm_at b (Resetting ∷ p)) (last_command b (Resetting ∷ p)) (record l { emulator = emulator }) refl (record {
        emulator = record {
          tpm = ap (λ (x : EmulatorState). x.tpm) is ∙ ap Some (powered b p fit);
          on = ap (λ (x : EmulatorState). x.on) is;
          stored = ap (λ (x : EmulatorState). x.stored) is;
          gathers = ap (λ (x : EmulatorState). x.gathers) is;
          held_is = ap (λ (x : EmulatorState). x.held) is ∙ rests.emulator.held_is;
        };
        channel = rests.channel;
      });
    })

-- and where the device was given up
given_up : (b : Snapshot) (p : History) (d e : DeviceState) (progress : Progress) (l m : Link) → RefinesAt b p d progress l → IsReady b p d e progress → IsQuiet m → RefinesAt b (ResetLost ∷ p) (failed e) progress m
given_up b p d e progress l m s ready quiet =
    rw (ready.device, ready.rest.free) (record {
      device = record { regs = refl; number = s.device.number; bytes = λ far. absurd (wrong far) };
      job = AtHome (zeros 3968) refl;
      quiet = quiet;
      link = λ far. absurd (wrong far);
    })
  where
    wrong : true ≡ false → ⊥
    wrong is = cc

-- the emulator before an INIT
pub emulator_before : (b : Snapshot) (p : History) (d e : DeviceState) (progress : Progress) (l : Link) → RefinesAt b p d progress l → IsReady b p d e progress → IsEmulator l.emulator (tpm_at b p) None
emulator_before b p d e progress l s ready = (to_rest (place_of b p) (cancelled_in_emulator b p) (tpm_at b p) (last_command b p) l ready.rest.place (s.link ready.lives)).emulator

-- a reset of the guest
pub reset-steps : (b : Snapshot) (t : OneHost) (d e : DeviceModel PortState) (progress : Progress) (l m : Link) (calls_to_fault calls_to_fault' : Option ℕ)
    → RefinesOneHost b t (record { device = d; progress = progress; link = l; calls_to_fault = calls_to_fault; faults = 0 })
    → plain_device e ≡ after_reset (plain_device d) → reset_reply (plain_device d) ≡ Ok tt → e.regs.phase ≢ Lost
    → Commands fails_next after_call (Init 0) [] l calls_to_fault (Ok tt) (Some m) calls_to_fault'
    → StepRefinesOneHost b t ResetLine replied.Reset (record { device = e; progress = progress; link = m; calls_to_fault = calls_to_fault'; faults = 0 })
reset-steps b t d e progress l m calls_to_fault calls_to_fault' follows is done working exact = go (fails_within fails_next after_call 1 calls_to_fault) (fails_within fails_next after_call 2 calls_to_fault) refl refl exact.link
  where
    go : (first lost : Bool) → fails_within fails_next after_call 1 calls_to_fault ≡ first → fails_within fails_next after_call 2 calls_to_fault ≡ lost → CommandedBy first lost (Init 0) [] l (Ok tt) (Some m) → StepRefinesOneHost b t ResetLine replied.Reset (record { device = e; progress = progress; link = m; calls_to_fault = calls_to_fault'; faults = 0 })
    go true lost one two (answer, same) = cc
    go false true one two (request_outcome, obeys, same, answer) = cc
    go false false one two (request_outcome, obeys, same, answer) =
        let p : History = t.history in
        let ready : IsReady b p (plain_device d) (plain_device e) progress = ready_where b p (plain_device d) (plain_device e) progress l follows.stands is done working in
        let now = started (tpm_at b p) l.emulator request_outcome (emulator_before b p (plain_device d) (plain_device e) progress l follows.stands ready) obeys in
        let unmet : fails_in t 2 ≡ false = sym (fails-reaches t.injected_fault t.count calls_to_fault 2 (omega arith) follows.calls_to_fault) ∙ two in
        record {
          answers = rw (ready.lives, ready.rest.early, unmet) refl;
          legal = λ legal. (legal, record { working = ready.far; unclaimed = ready.rest.unclaimed });
          follows = record {
            fit = follows.fit;
            stands = subst (λ (x : Link). RefinesAt b (Resetting ∷ p) (plain_device e) progress x) (sym (the_same m (record l { emulator = request_outcome.emulator }) same)) (restarted b p (plain_device d) (plain_device e) progress l request_outcome.emulator follows.fit follows.stands ready (ap (λ (x : RequestOutcome). x.emulator) now));
            calls_to_fault = subst (λ (o : Option ℕ). IsInjected t.injected_fault (t.count + 2) o) (sym exact.schedule_is) (due-passed t.injected_fault t.count calls_to_fault 2 two follows.calls_to_fault);
          };
        }

-- one whose INIT failed
pub reset_lost-steps : (b : Snapshot) (t : OneHost) (d e f : DeviceModel PortState) (progress : Progress) (l m : Link) (calls_to_fault calls_to_fault' : Option ℕ) (fault : ClientFault)
    → RefinesOneHost b t (record { device = d; progress = progress; link = l; calls_to_fault = calls_to_fault; faults = 0 })
    → plain_device e ≡ after_reset (plain_device d) → reset_reply (plain_device d) ≡ Ok tt → e.regs.phase ≢ Lost
    → plain_device f ≡ failed (plain_device e)
    → Commands fails_next after_call (Init 0) [] l calls_to_fault (Err fault) (Some m) calls_to_fault'
    → StepRefinesOneHost b t ResetLine replied.Link (record { device = f; progress = progress; link = m; calls_to_fault = calls_to_fault'; faults = 0 })
reset_lost-steps b t d e f progress l m calls_to_fault calls_to_fault' fault follows is done working given exact = go (fails_within fails_next after_call 1 calls_to_fault) (fails_within fails_next after_call 2 calls_to_fault) refl refl exact.link
  where
    lost_now : fails_within fails_next after_call 2 calls_to_fault ≡ true → IsQuiet m → StepRefinesOneHost b t ResetLine replied.Link (record { device = f; progress = progress; link = m; calls_to_fault = calls_to_fault'; faults = 0 })
    lost_now two quiet =
        let p : History = t.history in
        let ready : IsReady b p (plain_device d) (plain_device e) progress = ready_where b p (plain_device d) (plain_device e) progress l follows.stands is done working in
        let met : fails_in t 2 ≡ true = sym (fails-reaches t.injected_fault t.count calls_to_fault 2 (omega arith) follows.calls_to_fault) ∙ two in
        record {
          answers = rw (ready.lives, ready.rest.early, met) refl;
          legal = λ legal. (legal, record { working = ready.far; unclaimed = ready.rest.unclaimed });
          follows = record {
            fit = follows.fit;
            stands = subst (λ (x : DeviceState). RefinesAt b (ResetLost ∷ p) x progress m) (sym given) (given_up b p (plain_device d) (plain_device e) progress l m follows.stands ready quiet);
            calls_to_fault = exact.schedule_is ∙ due-failed t.injected_fault t.count calls_to_fault 2 two follows.calls_to_fault;
          };
        }

    go : (first lost : Bool) → fails_within fails_next after_call 1 calls_to_fault ≡ first → fails_within fails_next after_call 2 calls_to_fault ≡ lost → CommandedBy first lost (Init 0) [] l (Err fault) (Some m) → StepRefinesOneHost b t ResetLine replied.Link (record { device = f; progress = progress; link = m; calls_to_fault = calls_to_fault'; faults = 0 })
    go true lost one two (answer, same) = lost_now (two-fail calls_to_fault one) (subst IsQuiet (sym (the_same m l same)) follows.stands.quiet)
    go false true one two (request_outcome, obeys, same, answer) =
        let p : History = t.history in
        let ready : IsReady b p (plain_device d) (plain_device e) progress = ready_where b p (plain_device d) (plain_device e) progress l follows.stands is done working in
        let now = started (tpm_at b p) l.emulator request_outcome (emulator_before b p (plain_device d) (plain_device e) progress l follows.stands ready) obeys in
        lost_now two (subst IsQuiet (sym (the_same m (record l { emulator = request_outcome.emulator }) same)) (record { nothing = follows.stands.quiet.nothing; listens = ap (λ (x : RequestOutcome). x.emulator.closed) now ∙ follows.stands.quiet.listens }))
    go false false one two (request_outcome, obeys, same, answer) =
        let p : History = t.history in
        let ready : IsReady b p (plain_device d) (plain_device e) progress = ready_where b p (plain_device d) (plain_device e) progress l follows.stands is done working in
        let now = started (tpm_at b p) l.emulator request_outcome (emulator_before b p (plain_device d) (plain_device e) progress l follows.stands ready) obeys in
        let wrong : Err fault ≡ Ok tt = rw now at answer in
        cc

-- ---- the values of a device that the port shows

-- a buffer that is in the device is where the device has it
home_held : (own_buffer : Option (List ℕ)) (s : PortState) (bytes : List ℕ) → slot_at own_buffer s ≡ InDevice bytes → is_some own_buffer ≡ true
home_held (Some buf) s bytes is = refl
home_held None port_state.Nothing bytes is = cc
home_held None (port_state.Waiting job) bytes is = cc
home_held None (port_state.Claimed number) bytes is = cc
home_held None (port_state.Answered answer) bytes is = cc

-- a reset that isn't refused is done
pub done_by : (r : Result (Unit {0}) NotYet) → is_err r ≡ false → r ≡ Ok tt
done_by (Ok tt) none = refl
done_by (Err not_yet) none = cc

-- ---- a new world

fit-fresh : (seed : List ℕ) (banks : Banks) → length seed ≡ 32 → IsValid (powered_on (manufactured seed banks))
fit-fresh seed banks whole =
    let fit : IsValid (manufactured seed banks) = fit-manufactured seed banks whole in
    subst IsValid (values_after-power_on (manufactured seed banks) fit) (fit-past (manufactured seed banks) (PowerOn ∷ []) fit)

-- a device after a reset over an emulator that was switched on
pub new-follows : (seed : List ℕ) (banks : Banks) (piece : ℕ) (d : DeviceModel PortState) (progress : Progress) (m : Link) (calls_to_fault' : Option ℕ) (answer : Result (Unit {0}) ClientFault)
    → length seed ≡ 32 → plain_device d ≡ fresh_state → progress ≡ Free
    → Commands fails_next after_call (Init 0) [] (fresh_wires (Some (manufactured seed banks)) piece).link None answer (Some m) calls_to_fault'
    → Refines (fresh seed banks) [] (record { device = d; progress = progress; link = m; calls_to_fault = calls_to_fault'; faults = 0 })
new-follows seed banks piece d progress m calls_to_fault' answer whole is free exact = go exact.link
  where
    go : CommandedBy false false (Init 0) [] (fresh_wires (Some (manufactured seed banks)) piece).link answer (Some m) → Refines (fresh seed banks) [] (record { device = d; progress = progress; link = m; calls_to_fault = calls_to_fault'; faults = 0 })
    go (request_outcome, obeys, same, answers) =
        let fit : IsValid (powered_on (manufactured seed banks)) = fit-fresh seed banks whole in
        let now : m ≡ record (fresh_wires (Some (manufactured seed banks)) piece).link { emulator = request_outcome.emulator } = the_same m _ same in
        let emulator : request_outcome.emulator ≡ switched_on (powered_on (manufactured seed banks)) (fresh_wires (Some (manufactured seed banks)) piece).link.emulator = ap (λ (x : RequestOutcome). x.emulator) obeys in
        record {
          fit = fit;
          stands = rw (is, free, now, emulator) (record {
            device = record { regs = refl; number = refl; bytes = λ far. record { size = length-zeros 3968; each = λ i lt. refl } };
            job = AtHome (zeros 3968) refl;
            quiet = record { nothing = refl; listens = refl };
            link = λ far. record { emulator = record { tpm = ap Some (sym (no_past (powered_on (manufactured seed banks)) fit)); on = refl; stored = refl; gathers = refl; held_is = refl }; channel = refl };
          });
          calls_to_fault = exact.schedule_is;
        }
