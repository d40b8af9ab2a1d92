-- Where no call fails, no device is lost.
use Rattle.std.proofs.Common.{◌≡◌, ℕ, Bool, true, false, ◌&&◌, List, [], ◌∷◌, refl}
use Rattle.std.specs.Prelude.{◌≢◌, if◌then◌else◌, Option, Some, None}
use Rattle.crb_regs.specs.Access.{Access}
use Rattle.crb_regs.specs.Registers.{is_executing, is_lost}
use Rattle.crb_regs.specs.declared.phase.Phase.{Phase}
use Rattle.crb_regs.specs.declared.phase.Phase.TheVariants.{Idle, Ready, Reception, Execution, Completion, Lost}
use Rattle.crb_port.specs.declared.job.Outcome.{Outcome}
use Rattle.crb_port.specs.declared.job.Outcome.TheVariants.{Done, Cancelled}
use Rattle.vt_script.specs.declared.event.Event.{Event as Line}
use Rattle.vt_script.specs.declared.event.Event.TheVariants.{Access as AccessLine, Work, Ask as AskLine, Reset as ResetLine, Offer, Deliver, GiveUp, Again, Show, Fail}
use Rattle.vt_script.specs.declared.reply.Reply.TheVariants as replied
use Rattle.crb_history.specs.Snapshot.{Snapshot}
use Rattle.crb_history.specs.Event.{History}
use Rattle.crb_history.specs.Device.{phase_of, phase_at_end, stage_of, effect_of, is_granted, JobStage}
use Rattle.crb_history.specs.Device.JobStage.{Waiting, Claimed, HasSent, HasHeader}
use Rattle.vt_transcript.specs.Replies.{WorkerReplyInputs, worker_reply_inputs, worker_reply_at, is_under_way, with_event, none_fails, has_rest}
use Rattle.vt_transcript.specs.Plain.{ArePlain, access_reply, plain_history}
use Rattle.crb_history.proofs.Phases.{Lost-phase_after}

-- a command that ends as done or cancelled leaves the device
not_by_end : (outcome : Outcome) (phase : Phase) → phase ≢ Lost → (outcome ≡ Done → phase_at_end outcome phase ≢ Lost)
not_by_end outcome Execution working is = rw is (λ lost. cc)
not_by_end outcome Idle working is = rw is (λ lost. cc)
not_by_end outcome Ready working is = rw is (λ lost. cc)
not_by_end outcome Reception working is = rw is (λ lost. cc)
not_by_end outcome Completion working is = rw is (λ lost. cc)
not_by_end outcome Lost working is = absurd (working refl)

not_by_cancel : (phase : Phase) → phase ≢ Lost → phase_at_end Cancelled phase ≢ Lost
not_by_cancel Execution working lost = cc
not_by_cancel Idle working lost = cc
not_by_cancel Ready working lost = cc
not_by_cancel Reception working lost = cc
not_by_cancel Completion working lost = cc
not_by_cancel Lost working lost = working refl

-- a step of the worker
not_by_turn : (b : Snapshot) (p : History) (stage : JobStage) (x : WorkerReplyInputs) (fails : ℕ → Bool) → phase_of b p ≢ Lost → phase_of b (with_event (Some Work) (worker_reply_at stage x none_fails) fails p) ≢ Lost
not_by_turn b p Waiting x fails working = working
not_by_turn b p Claimed x fails working = go x.held
  where
    go : (held : Bool) → phase_of b (with_event (Some Work) (if held then replied.Cancelled x.number else replied.Sent x.number) fails p) ≢ Lost
    go true = not_by_cancel (phase_of b p) working
    go false = working
not_by_turn b p HasSent x fails working = working
not_by_turn b p HasHeader x fails working = go x.in_time (has_rest x.size)
  where
    go : (in_time rest : Bool) → phase_of b (with_event (Some Work) (if in_time then replied.Cancelled x.number else (if rest && false then replied.Lost x.number else replied.Done x.number)) fails p) ≢ Lost
    go true rest = not_by_cancel (phase_of b p) working
    go false true = not_by_end Done (phase_of b p) working refl
    go false false = not_by_end Done (phase_of b p) working refl

not_by_work : (b : Snapshot) (p : History) (executing : Bool) (stage : JobStage) (x : WorkerReplyInputs) (fails : ℕ → Bool) → phase_of b p ≢ Lost
    → phase_of b (with_event (Some Work) (if executing then worker_reply_at stage x none_fails else replied.Idle) fails p) ≢ Lost
not_by_work b p true stage x fails working = not_by_turn b p stage x fails working
not_by_work b p false stage x fails working = working

-- an access
not_by_access : (b : Snapshot) (p : History) (a : Access) (write : Option ℕ) (fails : ℕ → Bool) → phase_of b p ≢ Lost → phase_of b (with_event (Some (AccessLine a)) (access_reply b p a write) fails p) ≢ Lost
not_by_access b p a None fails working = working
not_by_access b p a (Some value) fails working = λ lost. working (Lost-phase_after (effect_of a) (is_granted b p) (phase_of b p) lost)

-- a reset
not_by_reset : (b : Snapshot) (p : History) (lost under_way : Bool) (fails : ℕ → Bool) → phase_of b p ≢ Lost
    → phase_of b (with_event (Some ResetLine) (if lost then replied.FailedDevice else (if under_way then replied.NotYet else replied.Reset)) fails p) ≢ Lost
not_by_reset b p true under_way fails working = working
not_by_reset b p false true fails working = working
not_by_reset b p false false fails working = λ lost. cc

-- what became of the events doesn't rest on which calls are to fail, where the reply doesn't
pub plain-working : (b : Snapshot) (lines : List Line) → ArePlain lines → b.device.phase ≢ Lost → phase_of b (plain_history b lines) ≢ Lost
plain-working b [] are_plain working = working
plain-working b (AccessLine a ∷ earlier) are_plain working = not_by_access b (plain_history b earlier) a a.write _ (plain-working b earlier are_plain.0 working)
plain-working b (Work ∷ earlier) are_plain working = not_by_work b (plain_history b earlier) (is_executing (phase_of b (plain_history b earlier))) (stage_of b (plain_history b earlier)) (worker_reply_inputs b (plain_history b earlier)) _ (plain-working b earlier are_plain.0 working)
plain-working b (AskLine ∷ earlier) are_plain working = plain-working b earlier are_plain.0 working
plain-working b (ResetLine ∷ earlier) are_plain working = not_by_reset b (plain_history b earlier) (is_lost (phase_of b (plain_history b earlier))) (is_under_way b (plain_history b earlier)) _ (plain-working b earlier are_plain.0 working)
plain-working b (Offer ∷ earlier) are_plain working = cc
plain-working b ((Deliver message) ∷ earlier) are_plain working = cc
plain-working b (GiveUp ∷ earlier) are_plain working = cc
plain-working b (Again ∷ earlier) are_plain working = cc
plain-working b ((Show message) ∷ earlier) are_plain working = cc
plain-working b (Fail host call ∷ earlier) are_plain working = cc
