-- A cancel beside the registers leads a world on.
use Rattle.std.proofs.Common.{◌≡◌, ℕ, ◌+◌, Bool, true, false, ◌&&◌, ◌||◌, List, [], ◌∷◌, take, refl, ap, sym, subst, ◌∙◌, arith, Some, None, Ok, Err, cond}
use Rattle.std.specs.Prelude.{Option, option_map}
use Rattle.crb_machine.specs.Over.{plain_device}
use Rattle.crb_machine.specs.State.{DeviceState, Slot}
use Rattle.crb_machine.specs.Steps.{collected}
use Rattle.crb_machine.specs.Model.{DeviceModel}
use Rattle.crb_port.specs.declared.job.Job.{Job}
use Rattle.crb_port.specs.declared.job.PortState.{PortState}
use Rattle.crb_regs.specs.Registers.{is_executing}
use Rattle.tpm_core.specs.declared.parts.TpmParts.{TpmParts}
use Rattle.crb_history.specs.Snapshot.{Snapshot}
use Rattle.crb_history.specs.Event.{History}
use Rattle.crb_history.specs.Event.Event.{Ask as Asking}
use Rattle.crb_history.specs.Device.{phase_of, last_command, stage_of, JobStage}
use Rattle.crb_history.specs.Device.JobStage.{Waiting, Claimed, HasSent, HasHeader}
use Rattle.crb_history.specs.Cancelling.{cancelled_in_emulator, is_sent}
use Rattle.vt_transcript.specs.OneHost.{OneHost, fails_in}
use Rattle.crb_worker.specs.declared.progress.Progress.{Progress}
use Rattle.ctrl_codec.specs.declared.request.Request.TheVariants.{CancelCommand}
use Rattle.ctrl_client.specs.declared.fault.ClientFault.{ClientFault}
use Rattle.ctrl_model.specs.Emulator.{cancelled_command}
use Rattle.ctrl_model.specs.Link.{Link}
use Rattle.ctrl_client.specs.Schedules.{fails_within, schedule_after}
use Rattle.ctrl_client.specs.Exchange.{Commands, CommandedBy}
use Rattle.vt_script.specs.declared.event.Event.TheVariants.{Ask as AskLine}
use Rattle.vt_script.specs.declared.reply.Reply.TheVariants as replied
use Rattle.vt_seat.specs.Wires.{fails_next, after_call}
use Rattle.vt_seat.specs.Follows.{IsLastJob, Placed, place_of, given, tpm_at, IsBehind, RefinesAt, RefinesOneHost, IsInjected, StepRefinesOneHost}
use Rattle.vt_seat.specs.Follows.Placed.{AtHome, InQueue, InHand, OnWay, Ran}
use Rattle.vt_seat.proofs.Jobs.{IsDeviceAfter-same}
use Rattle.vt_seat.proofs.InjectedFaults.{fails-reaches, due-passed, due-failed}
use Rattle.vt_seat.proofs.Steps.{the_same}

-- ---- the history with a cancel more

or_false : (b : Bool) → (b || false) ≡ b
or_false true = refl
or_false false = refl

and_false : (b : Bool) → (b && false) ≡ false
and_false true = refl
and_false false = refl

-- the last command stays, at its stage
last_asked : (b : Snapshot) (p : History) (arrived : Bool) (stage : JobStage) (job : Job) → IsLastJob b p stage job → IsLastJob b (Asking arrived ∷ p) stage job
last_asked b p arrived stage job is = record { number = is.number; size = is.size; command = is.command; held = is.held; at = record { executing = is.at.executing; reached = is.at.reached } }

-- one that was run is no longer to be cancelled
late : (b : Snapshot) (p : History) (arrived : Bool) → stage_of b p ≡ HasHeader → cancelled_in_emulator b (Asking arrived ∷ p) ≡ cancelled_in_emulator b p
late b p arrived reached = ap (λ (s : JobStage). cancelled_in_emulator b p || (arrived && is_sent s)) reached ∙ ap (λ (x : Bool). cancelled_in_emulator b p || x) (and_false arrived) ∙ or_false (cancelled_in_emulator b p)

placed_asked : (b : Snapshot) (p : History) (arrived : Bool) (slot : Slot) (progress : Progress) → Placed b p slot progress → Placed b (Asking arrived ∷ p) slot progress
placed_asked b p arrived slot progress (AtHome bytes still) = AtHome bytes still
placed_asked b p arrived slot progress (InQueue job is) = InQueue job (last_asked b p arrived Waiting job is)
placed_asked b p arrived slot progress (InHand job is) = InHand job (last_asked b p arrived Claimed job is)
placed_asked b p arrived slot progress (OnWay job is) = OnWay job (last_asked b p arrived HasSent job is)
placed_asked b p arrived slot progress (Ran job head is) = Ran job head (record {
  last = last_asked b p arrived HasHeader job is.last;
  head_is = is.head_is ∙ ap (λ (c : Bool). take 10 (given c (tpm_at b p) (last_command b p))) (sym (late b p arrived is.last.at.reached));
})

-- ---- the emulator that heard it

abbrev place_at : Bool → JobStage → Option JobStage
place_at executing stage = cond executing (Some stage) None

abbrev cancelled_link : Link → Link
cancelled_link l = record l { emulator = record l.emulator { held = option_map cancelled_command l.emulator.held } }

behind_marked : (executing : Bool) (stage : JobStage) (in_time : Bool) (t : TpmParts) (x : List ℕ) (l : Link) → IsBehind (place_at executing stage) in_time t x l → IsBehind (place_at executing stage) (in_time || is_sent stage) t x (cancelled_link l)
behind_marked false stage in_time t x l is = record { emulator = record { tpm = is.emulator.tpm; on = is.emulator.on; stored = is.emulator.stored; gathers = is.emulator.gathers; held_is = ap (option_map cancelled_command) is.emulator.held_is }; channel = is.channel }
behind_marked true Waiting in_time t x l is = record { emulator = record { tpm = is.emulator.tpm; on = is.emulator.on; stored = is.emulator.stored; gathers = is.emulator.gathers; held_is = ap (option_map cancelled_command) is.emulator.held_is }; channel = is.channel }
behind_marked true Claimed in_time t x l is = record { emulator = record { tpm = is.emulator.tpm; on = is.emulator.on; stored = is.emulator.stored; gathers = is.emulator.gathers; held_is = ap (option_map cancelled_command) is.emulator.held_is }; channel = is.channel }
behind_marked true HasSent true t x l is = record { emulator = record { tpm = is.emulator.tpm; on = is.emulator.on; stored = is.emulator.stored; gathers = is.emulator.gathers; held_is = ap (option_map cancelled_command) is.emulator.held_is }; channel = is.channel }
behind_marked true HasSent false t x l is = record { emulator = record { tpm = is.emulator.tpm; on = is.emulator.on; stored = is.emulator.stored; gathers = is.emulator.gathers; held_is = ap (option_map cancelled_command) is.emulator.held_is }; channel = is.channel }
behind_marked true HasHeader true t x l is = record { emulator = record { tpm = is.emulator.tpm; on = is.emulator.on; stored = is.emulator.stored; gathers = is.emulator.gathers; held_is = ap (option_map cancelled_command) is.emulator.held_is }; channel = is.channel }
behind_marked true HasHeader false t x l is = record { emulator = record { tpm = is.emulator.tpm; on = is.emulator.on; stored = is.emulator.stored; gathers = is.emulator.gathers; held_is = ap (option_map cancelled_command) is.emulator.held_is }; channel = is.channel }

asked-stands : (b : Snapshot) (p : History) (d : DeviceState) (progress : Progress) (l : Link) → RefinesAt b p d progress l → RefinesAt b (Asking true ∷ p) d progress (cancelled_link l)
asked-stands b p d progress l s = record {
  device = IsDeviceAfter-same b p (Asking true ∷ p) (collected d) refl refl refl (λ i. refl) s.device;
  job = placed_asked b p true (collected d).slot progress s.job;
  quiet = record { nothing = s.quiet.nothing; listens = s.quiet.listens };
  link = λ far. behind_marked (is_executing (phase_of b p)) (stage_of b p) (cancelled_in_emulator b p) (tpm_at b p) (last_command b p) l (s.link far);
}

-- one that didn't reach it
unasked-stands : (b : Snapshot) (p : History) (d : DeviceState) (progress : Progress) (l : Link) → RefinesAt b p d progress l → RefinesAt b (Asking false ∷ p) d progress l
unasked-stands b p d progress l s = record {
  device = IsDeviceAfter-same b p (Asking false ∷ p) (collected d) refl refl refl (λ i. refl) s.device;
  job = placed_asked b p false (collected d).slot progress s.job;
  quiet = s.quiet;
  link = λ far. subst (λ (c : Bool). IsBehind (place_of b p) c (tpm_at b p) (last_command b p) l) (sym (or_false (cancelled_in_emulator b p))) (s.link far);
}

-- ---- the request

-- two calls fail where the first does
pub two-fail : (calls_to_fault : Option ℕ) → fails_within fails_next after_call 1 calls_to_fault ≡ true → fails_within fails_next after_call 2 calls_to_fault ≡ true
two-fail calls_to_fault first = go (fails_next calls_to_fault) refl first
  where
    go : (b : Bool) → fails_next calls_to_fault ≡ b → fails_within fails_next after_call 1 calls_to_fault ≡ true → fails_within fails_next after_call 2 calls_to_fault ≡ true
    go true is first = rw is refl
    go false is first = let wrong : false ≡ true = rw is at first in cc

-- the reply of an ask, by how its calls went
asked-done : (b : Snapshot) (t : OneHost) (d : DeviceModel PortState) (progress : Progress) (l m : Link) (calls_to_fault calls_to_fault' : Option ℕ)
    → RefinesOneHost b t (record { device = d; progress = progress; link = l; calls_to_fault = calls_to_fault; faults = 0 })
    → fails_within fails_next after_call 2 calls_to_fault ≡ false → m ≡ cancelled_link l → calls_to_fault' ≡ schedule_after fails_next after_call 2 calls_to_fault
    → StepRefinesOneHost b t AskLine replied.Asked (record { device = d; progress = progress; link = m; calls_to_fault = calls_to_fault'; faults = 0 })
asked-done b t d progress l m calls_to_fault calls_to_fault' follows none here schedule =
    let unmet : fails_in t 2 ≡ false = sym (fails-reaches t.injected_fault t.count calls_to_fault 2 (omega arith) follows.calls_to_fault) ∙ none in
    record {
      answers = rw unmet refl;
      legal = λ legal. (legal, tt);
      follows = record {
        fit = follows.fit;
        stands = subst (λ (x : Link). RefinesAt b (Asking true ∷ t.history) (plain_device d) progress x) (sym here) (asked-stands b t.history (plain_device d) progress l follows.stands);
        calls_to_fault = subst (λ (o : Option ℕ). IsInjected t.injected_fault (t.count + 2) o) (sym schedule) (due-passed t.injected_fault t.count calls_to_fault 2 none follows.calls_to_fault);
      };
    }

asked-first : (b : Snapshot) (t : OneHost) (d : DeviceModel PortState) (progress : Progress) (l m : Link) (calls_to_fault calls_to_fault' : Option ℕ)
    → RefinesOneHost b t (record { device = d; progress = progress; link = l; calls_to_fault = calls_to_fault; faults = 0 })
    → fails_within fails_next after_call 1 calls_to_fault ≡ true → m ≡ l → calls_to_fault' ≡ schedule_after fails_next after_call 2 calls_to_fault
    → StepRefinesOneHost b t AskLine replied.Link (record { device = d; progress = progress; link = m; calls_to_fault = calls_to_fault'; faults = 0 })
asked-first b t d progress l m calls_to_fault calls_to_fault' follows first here schedule =
    let met : fails_in t 2 ≡ true = sym (fails-reaches t.injected_fault t.count calls_to_fault 2 (omega arith) follows.calls_to_fault) ∙ two-fail calls_to_fault first in
    let one : fails_in t 1 ≡ true = sym (fails-reaches t.injected_fault t.count calls_to_fault 1 (omega arith) follows.calls_to_fault) ∙ first in
    record {
      answers = rw met refl;
      legal = λ legal. (legal, tt);
      follows = record {
        fit = follows.fit;
        stands = rw one (subst (λ (x : Link). RefinesAt b (Asking false ∷ t.history) (plain_device d) progress x) (sym here) (unasked-stands b t.history (plain_device d) progress l follows.stands));
        calls_to_fault = schedule ∙ due-failed t.injected_fault t.count calls_to_fault 2 (two-fail calls_to_fault first) follows.calls_to_fault;
      };
    }

asked-second : (b : Snapshot) (t : OneHost) (d : DeviceModel PortState) (progress : Progress) (l m : Link) (calls_to_fault calls_to_fault' : Option ℕ)
    → RefinesOneHost b t (record { device = d; progress = progress; link = l; calls_to_fault = calls_to_fault; faults = 0 })
    → fails_within fails_next after_call 1 calls_to_fault ≡ false → fails_within fails_next after_call 2 calls_to_fault ≡ true → m ≡ cancelled_link l → calls_to_fault' ≡ schedule_after fails_next after_call 2 calls_to_fault
    → StepRefinesOneHost b t AskLine replied.Link (record { device = d; progress = progress; link = m; calls_to_fault = calls_to_fault'; faults = 0 })
asked-second b t d progress l m calls_to_fault calls_to_fault' follows first second here schedule =
    let met : fails_in t 2 ≡ true = sym (fails-reaches t.injected_fault t.count calls_to_fault 2 (omega arith) follows.calls_to_fault) ∙ second in
    let one : fails_in t 1 ≡ false = sym (fails-reaches t.injected_fault t.count calls_to_fault 1 (omega arith) follows.calls_to_fault) ∙ first in
    record {
      answers = rw met refl;
      legal = λ legal. (legal, tt);
      follows = record {
        fit = follows.fit;
        stands = rw one (subst (λ (x : Link). RefinesAt b (Asking true ∷ t.history) (plain_device d) progress x) (sym here) (asked-stands b t.history (plain_device d) progress l follows.stands));
        calls_to_fault = schedule ∙ due-failed t.injected_fault t.count calls_to_fault 2 second follows.calls_to_fault;
      };
    }

-- the cancel was heard, and answered
pub ask-steps : (b : Snapshot) (t : OneHost) (d : DeviceModel PortState) (progress : Progress) (l m : Link) (calls_to_fault calls_to_fault' : Option ℕ)
    → RefinesOneHost b t (record { device = d; progress = progress; link = l; calls_to_fault = calls_to_fault; faults = 0 })
    → Commands fails_next after_call CancelCommand [] l calls_to_fault (Ok tt) (Some m) calls_to_fault'
    → StepRefinesOneHost b t AskLine replied.Asked (record { device = d; progress = progress; link = m; calls_to_fault = calls_to_fault'; faults = 0 })
ask-steps b t d progress l m calls_to_fault calls_to_fault' follows exact = go (fails_within fails_next after_call 1 calls_to_fault) (fails_within fails_next after_call 2 calls_to_fault) refl refl exact.link
  where
    go : (first lost : Bool) → fails_within fails_next after_call 1 calls_to_fault ≡ first → fails_within fails_next after_call 2 calls_to_fault ≡ lost → CommandedBy first lost CancelCommand [] l (Ok tt) (Some m) → StepRefinesOneHost b t AskLine replied.Asked (record { device = d; progress = progress; link = m; calls_to_fault = calls_to_fault'; faults = 0 })
    go true lost one two (answer, same) = cc
    go false true one two (turn, is, same, answer) = cc
    go false false one two (turn, is, same, answer) = asked-done b t d progress l m calls_to_fault calls_to_fault' follows two (the_same m (record l { emulator = turn.emulator }) same ∙ rw is refl) exact.schedule_is

-- it failed
pub ask_failed-steps : (b : Snapshot) (t : OneHost) (d : DeviceModel PortState) (progress : Progress) (l m : Link) (calls_to_fault calls_to_fault' : Option ℕ) (fault : ClientFault)
    → RefinesOneHost b t (record { device = d; progress = progress; link = l; calls_to_fault = calls_to_fault; faults = 0 })
    → Commands fails_next after_call CancelCommand [] l calls_to_fault (Err fault) (Some m) calls_to_fault'
    → StepRefinesOneHost b t AskLine replied.Link (record { device = d; progress = progress; link = m; calls_to_fault = calls_to_fault'; faults = 0 })
ask_failed-steps b t d progress l m calls_to_fault calls_to_fault' fault follows exact = go (fails_within fails_next after_call 1 calls_to_fault) (fails_within fails_next after_call 2 calls_to_fault) refl refl exact.link
  where
    go : (first lost : Bool) → fails_within fails_next after_call 1 calls_to_fault ≡ first → fails_within fails_next after_call 2 calls_to_fault ≡ lost → CommandedBy first lost CancelCommand [] l (Err fault) (Some m) → StepRefinesOneHost b t AskLine replied.Link (record { device = d; progress = progress; link = m; calls_to_fault = calls_to_fault'; faults = 0 })
    go true lost one two (answer, same) = asked-first b t d progress l m calls_to_fault calls_to_fault' follows one (the_same m l same) exact.schedule_is
    go false true one two (turn, is, same, answer) = asked-second b t d progress l m calls_to_fault calls_to_fault' follows one two (the_same m (record l { emulator = turn.emulator }) same ∙ rw is refl) exact.schedule_is
    go false false one two (turn, is, same, answer) = let wrong : Err fault ≡ Ok tt = rw is at answer in cc
