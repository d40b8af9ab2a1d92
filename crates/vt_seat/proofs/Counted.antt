-- Which steps of a world count a fault of its wires.
use Rattle.std.proofs.Common.{◌≡◌, ◌≢◌, ℕ, Bool, true, false, List, [], refl, ap, Ok, Err, Some, None, inl, inr}
use Rattle.std.specs.Prelude.{Option, Result}
use Rattle.vt_base.specs.Faults.{IsCounted}
use Rattle.crb_machine.specs.Over.{plain_device}
use Rattle.crb_machine.specs.Steps.{after_reset, reset_reply}
use Rattle.crb_machine.specs.Model.{DeviceModel}
use Rattle.crb_port.specs.Views.{PortView}
use Rattle.crb_port.specs.declared.job.PortState.{PortState}
use Rattle.crb_history.specs.Snapshot.{Snapshot}
use Rattle.vt_transcript.specs.OneHost.{OneHost}
use Rattle.crb_regs.specs.declared.phase.Phase.TheVariants.{Lost as LostPhase}
use Rattle.crb_worker.specs.Wires.{WorkerWires, worker_wires}
use Rattle.crb_worker.specs.Steps.{WorkerStep, is_longer, left_of, ReceivesRest}
use Rattle.crb_worker.specs.declared.progress.Progress.{Progress}
use Rattle.crb_worker.specs.declared.progress.Progress.TheVariants.{Free, Claimed as ClaimedJob, Sent as SentJob, HeaderReceived as RunJob}
use Rattle.crb_worker.specs.declared.progress.Step.{Step}
use Rattle.crb_worker.specs.declared.progress.Step.TheVariants.{Idle, Claim, Sent, Exec, Done, Cancelled, Lost}
use Rattle.ctrl_codec.specs.declared.request.Request.TheVariants.{CancelCommand, Init}
use Rattle.ctrl_client.specs.declared.fault.ClientFault.{ClientFault}
use Rattle.ctrl_client.specs.declared.fault.ClientFault.TheVariants.{Link as LinkFault}
use Rattle.ctrl_model.specs.Link.{Link}
use Rattle.ctrl_client.specs.Exchange.{Commands, CommandedBy, CountsLink}
use Rattle.ctrl_client.specs.Schedules.{fails_within}
use Rattle.vt_script.specs.declared.event.Event.{Event as Line}
use Rattle.vt_script.specs.declared.reply.Reply.{Reply}
use Rattle.vt_seat.specs.Wires.{fails_next, after_call}
use Rattle.vt_seat.specs.Follows.{RefinesOneHost, StepRefinesOneHost, CountsFault, said, tpm_at}
use Rattle.vt_seat.proofs.Steps.{no_head, head_at_hand}
use Rattle.vt_seat.proofs.Resets.{IsReady, ready_where, emulator_before, started}

-- ---- where a world stands doesn't hang on the count of its faults

pub follows_any : (b : Snapshot) (s : OneHost) (d : DeviceModel PortState) (progress : Progress) (l : Link) (calls_to_fault : Option ℕ) (n m : ℕ)
    → RefinesOneHost b s (record { device = d; progress = progress; link = l; calls_to_fault = calls_to_fault; faults = n }) → RefinesOneHost b s (record { device = d; progress = progress; link = l; calls_to_fault = calls_to_fault; faults = m })
follows_any b s d progress l calls_to_fault n m f = record { fit = f.fit; stands = f.stands; calls_to_fault = f.calls_to_fault }

pub steps_any : (b : Snapshot) (s : OneHost) (line : Line) (reply : Reply) (d : DeviceModel PortState) (progress : Progress) (l : Link) (calls_to_fault : Option ℕ) (n m : ℕ)
    → StepRefinesOneHost b s line reply (record { device = d; progress = progress; link = l; calls_to_fault = calls_to_fault; faults = n }) → StepRefinesOneHost b s line reply (record { device = d; progress = progress; link = l; calls_to_fault = calls_to_fault; faults = m })
steps_any b s line reply d progress l calls_to_fault n m x = record { answers = x.answers; legal = x.legal; follows = follows_any b _ d progress l calls_to_fault n m x.follows }

-- ---- a step of the worker

untouched : (l m : Link) (calls_to_fault calls_to_fault' : Option ℕ) (faults faults' : ℕ) → worker_wires fails_next after_call (Some m) calls_to_fault' faults' None ≡ worker_wires fails_next after_call (Some l) calls_to_fault faults None → faults' ≡ faults
untouched l m calls_to_fault calls_to_fault' faults faults' same = ap (λ (s : WorkerWires (Option ℕ)). s.faults) same

rest_counted : (longer : Bool) (head rest : List ℕ) (l m : Link) (calls_to_fault calls_to_fault' : Option ℕ) (faults faults' : ℕ)
    → ReceivesRest longer (left_of head) rest (worker_wires fails_next after_call (Some l) calls_to_fault faults None) (worker_wires fails_next after_call (Some m) calls_to_fault' faults' None) → faults' ≡ faults
rest_counted false head rest l m calls_to_fault calls_to_fault' faults faults' (none, same) = untouched l m calls_to_fault calls_to_fault' faults faults' same
rest_counted true head rest l m calls_to_fault calls_to_fault' faults faults' (next_are, receives) = receives.counts

pub work_counted : (b : Snapshot) (t : OneHost) (d : DeviceModel PortState) (progress next : Progress) (l m : Link) (calls_to_fault calls_to_fault' : Option ℕ) (faults faults' : ℕ) (step : Step) (j k : PortView)
    → RefinesOneHost b t (record { device = d; progress = progress; link = l; calls_to_fault = calls_to_fault; faults = 0 })
    → WorkerStep progress j (worker_wires fails_next after_call (Some l) calls_to_fault faults None) step next k (worker_wires fails_next after_call (Some m) calls_to_fault' faults' None) → CountsFault (said step) faults faults'
work_counted b t d Free next l m calls_to_fault calls_to_fault' faults faults' Idle j k follows works = untouched l m calls_to_fault calls_to_fault' faults faults' works.1
work_counted b t d Free next l m calls_to_fault calls_to_fault' faults faults' (Claim number) j k follows works = untouched l m calls_to_fault calls_to_fault' faults faults' works.1
work_counted b t d Free next l m calls_to_fault calls_to_fault' faults faults' (Sent number) j k follows works = absurd works.0
work_counted b t d Free next l m calls_to_fault calls_to_fault' faults faults' (Exec number) j k follows works = absurd works.0
work_counted b t d Free next l m calls_to_fault calls_to_fault' faults faults' (Done number) j k follows works = absurd works.0
work_counted b t d Free next l m calls_to_fault calls_to_fault' faults faults' (Cancelled number) j k follows works = absurd works.0
work_counted b t d Free next l m calls_to_fault calls_to_fault' faults faults' (Lost number) j k follows works = absurd works.0
work_counted b t d (ClaimedJob job) next l m calls_to_fault calls_to_fault' faults faults' (Cancelled number) j k follows (held, named, free, posts, same) = untouched l m calls_to_fault calls_to_fault' faults faults' same
work_counted b t d (ClaimedJob job) next l m calls_to_fault calls_to_fault' faults faults' (Sent number) j k follows (held, named, now, same, sends) = sends.counts
work_counted b t d (ClaimedJob job) next l m calls_to_fault calls_to_fault' faults faults' (Lost number) j k follows (held, up, sends) = sends.counts
work_counted b t d (ClaimedJob job) next l m calls_to_fault calls_to_fault' faults faults' Idle j k follows works = absurd works
work_counted b t d (ClaimedJob job) next l m calls_to_fault calls_to_fault' faults faults' (Claim number) j k follows works = absurd works
work_counted b t d (ClaimedJob job) next l m calls_to_fault calls_to_fault' faults faults' (Exec number) j k follows works = absurd works
work_counted b t d (ClaimedJob job) next l m calls_to_fault calls_to_fault' faults faults' (Done number) j k follows works = absurd works
work_counted b t d (SentJob job) next l m calls_to_fault calls_to_fault' faults faults' (Exec number) j k follows (head, named, now, is, same, next_are, receives) = receives.counts
work_counted b t d (SentJob job) next l m calls_to_fault calls_to_fault' faults faults' (Lost number) j k follows (up, inl receives) = receives.counts
work_counted b t d (SentJob job) next l m calls_to_fault calls_to_fault' faults faults' (Lost number) j k follows (up, inr (head, none, next_are, receives)) =
    absurd (no_head b t d job l calls_to_fault head follows (next_are.exact (head_at_hand b t d job l calls_to_fault follows)) none)
work_counted b t d (SentJob job) next l m calls_to_fault calls_to_fault' faults faults' Idle j k follows works = absurd works
work_counted b t d (SentJob job) next l m calls_to_fault calls_to_fault' faults faults' (Claim number) j k follows works = absurd works
work_counted b t d (SentJob job) next l m calls_to_fault calls_to_fault' faults faults' (Sent number) j k follows works = absurd works
work_counted b t d (SentJob job) next l m calls_to_fault calls_to_fault' faults faults' (Done number) j k follows works = absurd works
work_counted b t d (SentJob job) next l m calls_to_fault calls_to_fault' faults faults' (Cancelled number) j k follows works = absurd works
work_counted b t d (RunJob job head) next l m calls_to_fault calls_to_fault' faults faults' (Done number) j k follows (response, named, free, posts, (rest, is, exact, took)) =
    rest_counted (is_longer head) head rest l m calls_to_fault calls_to_fault' faults faults' took
work_counted b t d (RunJob job head) next l m calls_to_fault calls_to_fault' faults faults' (Cancelled number) j k follows (response, named, free, posts, (rest, is, exact, took)) =
    rest_counted (is_longer head) head rest l m calls_to_fault calls_to_fault' faults faults' took
work_counted b t d (RunJob job head) next l m calls_to_fault calls_to_fault' faults faults' (Lost number) j k follows (up, long, receives) = receives.counts
work_counted b t d (RunJob job head) next l m calls_to_fault calls_to_fault' faults faults' Idle j k follows works = absurd works
work_counted b t d (RunJob job head) next l m calls_to_fault calls_to_fault' faults faults' (Claim number) j k follows works = absurd works
work_counted b t d (RunJob job head) next l m calls_to_fault calls_to_fault' faults faults' (Sent number) j k follows works = absurd works
work_counted b t d (RunJob job head) next l m calls_to_fault calls_to_fault' faults faults' (Exec number) j k follows works = absurd works

-- ---- a request

-- with the link's fault one was counted
counted_by : (fault : ClientFault) (faults faults' : ℕ) → fault ≡ LinkFault → CountsLink {T = Unit {0}} faults faults' (Err fault) → IsCounted faults faults'
counted_by LinkFault faults faults' is counts = counts
counted_by fault faults faults' is counts = cc

not_link : (fault : ClientFault) (answer : Result (Unit {0}) ClientFault) → answer ≡ Err fault → answer ≡ Err LinkFault → fault ≡ LinkFault
not_link fault answer this is = cc

-- a cancel fails by the link alone
pub ask_counted : (l m : Link) (calls_to_fault calls_to_fault' : Option ℕ) (faults faults' : ℕ) (fault : ClientFault)
    → Commands fails_next after_call CancelCommand [] l calls_to_fault (Err fault) (Some m) calls_to_fault' → CountsLink {T = Unit {0}} faults faults' (Err fault) → IsCounted faults faults'
ask_counted l m calls_to_fault calls_to_fault' faults faults' fault exact counts = counted_by fault faults faults' (go (fails_within fails_next after_call 1 calls_to_fault) (fails_within fails_next after_call 2 calls_to_fault) exact.link) counts
  where
    go : (first lost : Bool) → CommandedBy first lost CancelCommand [] l (Err fault) (Some m) → fault ≡ LinkFault
    go true lost (answer, same) = not_link fault (Err fault) refl answer
    go false true (turn, is, same, answer) = not_link fault (Err fault) refl answer
    go false false (turn, is, same, answer) = let wrong : Err fault ≡ Ok tt = rw is at answer in cc

-- and so does an INIT of an emulator that runs
pub reset_counted : (b : Snapshot) (t : OneHost) (d e : DeviceModel PortState) (progress : Progress) (l m : Link) (calls_to_fault calls_to_fault' : Option ℕ) (faults faults' : ℕ) (fault : ClientFault)
    → RefinesOneHost b t (record { device = d; progress = progress; link = l; calls_to_fault = calls_to_fault; faults = 0 })
    → plain_device e ≡ after_reset (plain_device d) → reset_reply (plain_device d) ≡ Ok tt → e.regs.phase ≢ LostPhase
    → Commands fails_next after_call (Init 0) [] l calls_to_fault (Err fault) (Some m) calls_to_fault' → CountsLink {T = Unit {0}} faults faults' (Err fault) → IsCounted faults faults'
reset_counted b t d e progress l m calls_to_fault calls_to_fault' faults faults' fault follows is done working exact counts = counted_by fault faults faults' (go (fails_within fails_next after_call 1 calls_to_fault) (fails_within fails_next after_call 2 calls_to_fault) exact.link) counts
  where
    go : (first lost : Bool) → CommandedBy first lost (Init 0) [] l (Err fault) (Some m) → fault ≡ LinkFault
    go true lost (answer, same) = not_link fault (Err fault) refl answer
    go false true (turn, obeys, same, answer) = not_link fault (Err fault) refl answer
    go false false (turn, obeys, same, answer) =
        let ready : IsReady b t.history (plain_device d) (plain_device e) progress = ready_where b t.history (plain_device d) (plain_device e) progress l follows.stands is done working in
        let now = started (tpm_at b t.history) l.emulator turn (emulator_before b t.history (plain_device d) (plain_device e) progress l follows.stands ready) obeys in
        let wrong : Err fault ≡ Ok tt = rw now at answer in
        cc
