-- What a step of the worker does to its job, to the port and to the wires: `k` and `w` are what is known of the port and
-- seen of the wires before it, `l` and `v` after it. (Own definitions.)
use Rattle.std.specs.Prelude.{◌≡◌, ◌-◌, ℕ, Bool, true, false, nat_lt, List, [], ◌++◌, Some, None, ◌⊎◌}
use Rattle.vt_base.specs.Buffer.{followed_by_zeros}
use Rattle.tpm_frame.specs.Frame.{short}
use Rattle.tpm_frame.specs.Frames.{first_frame}
use Rattle.tpm_frame.specs.Sizes.{named_size}
use Rattle.crb_port.specs.declared.job.Outcome.{Outcome}
use Rattle.crb_port.specs.declared.job.Outcome.TheVariants as outcome
use Rattle.crb_port.specs.declared.job.Job.{Job}
use Rattle.crb_port.specs.declared.job.Answer.{Answer}
use Rattle.crb_port.specs.Views.{PortView}
use Rattle.crb_port.specs.Calls.{Claims, Posts}
use Rattle.crb_worker.specs.declared.progress.Progress.{Progress}
use Rattle.crb_worker.specs.declared.progress.Progress.TheVariants as progress
use Rattle.crb_worker.specs.declared.progress.Step.{Step}
use Rattle.crb_worker.specs.declared.progress.Step.TheVariants.{Idle, Claim, Sent, Exec, Done, Cancelled, Lost}
use Rattle.tpm_frame.specs.Numbers.{header_size, rc_canceled}
use Rattle.crb_worker.specs.Heads.{is_head, is_cancelled}
use Rattle.crb_worker.specs.Wires.{WorkerWires, SendsCommand, Receives, AreNext}

-- the answer to a job with a response
abbrev pub answered : Job → Outcome → List ℕ → Answer
answered job how response = record { number = job.number; outcome = how; buf = followed_by_zeros response }

-- the answer to a job of which nobody knows whether it was executed, with the buffer as it came
abbrev pub lost : Job → Answer
lost job = record { number = job.number; outcome = outcome.Lost; buf = job.buf }

-- the job is given up
pub record GivesUp (k : PortView) (job : Job) (number : ℕ) (next : Progress) (l : PortView) : Type 0 where
  pub named : number ≡ job.number
  pub free : next ≡ progress.Free
  pub posted : Posts k (lost job) l

-- Without a job one is claimed, if one waits; the wires aren't touched.
abbrev pub WithoutJob : PortView → Step → Progress → PortView → Type 0
WithoutJob k Idle next l = Claims k None l × (next ≡ progress.Free)
WithoutJob k (Claim number) next l = (job : Job) × Claims k (Some job) l × (number ≡ job.number) × (next ≡ progress.Claimed job)
WithoutJob k _ next l = ⊥

-- A claimed job is sent, in one send; one that is cancelled is answered, and never sent.
abbrev pub WithClaimed : {Schedule : Type 0} → Job → PortView → WorkerWires Schedule → Step → Progress → PortView → WorkerWires Schedule → Type 0
WithClaimed job k w (Cancelled number) next l v =
    (job.cancelled ≡ true) × (number ≡ job.number) × (next ≡ progress.Free)
    × Posts k (answered job outcome.Cancelled (short rc_canceled)) l × (v ≡ w)
WithClaimed job k w (Sent number) next l v =
    (job.cancelled ≡ false) × (number ≡ job.number) × (next ≡ progress.Sent job)
    × (l ≡ k) × SendsCommand true (first_frame job.buf) w v
WithClaimed job k w (Lost number) next l v =
    (job.cancelled ≡ false) × GivesUp k job number next l × SendsCommand false (first_frame job.buf) w v
WithClaimed job k w _ next l v = ⊥

-- ten bytes were received that are no header of a response
abbrev pub ReceivesNoHead : {Schedule : Type 0} → WorkerWires Schedule → WorkerWires Schedule → Type 0
ReceivesNoHead w v = (head : List ℕ) × (is_head head ≡ false) × AreNext head header_size w v × Receives true header_size w v

-- Of a command that was sent the header of the response is received. The job is lost where that fails, and where the
-- bytes are no such header.
abbrev pub WithSent : {Schedule : Type 0} → Job → PortView → WorkerWires Schedule → Step → Progress → PortView → WorkerWires Schedule → Type 0
WithSent job k w (Exec number) next l v = (head : List ℕ)
    × (number ≡ job.number) × (next ≡ progress.HeaderReceived job head) × (is_head head ≡ true) × (l ≡ k)
    × AreNext head header_size w v × Receives true header_size w v
WithSent job k w (Lost number) next l v =
    GivesUp k job number next l × (Receives false header_size w v ⊎ ReceivesNoHead w v)
WithSent job k w _ next l v = ⊥

-- as many bytes as are left of a response are received, by whether any are
abbrev pub ReceivesRest : {Schedule : Type 0} → Bool → ℕ → List ℕ → WorkerWires Schedule → WorkerWires Schedule → Type 0
ReceivesRest false count rest w v = (rest ≡ []) × (v ≡ w)
ReceivesRest true count rest w v = AreNext rest count w v × Receives true count w v

abbrev pub is_longer : List ℕ → Bool
is_longer head = nat_lt header_size (named_size head)

abbrev pub left_of : List ℕ → ℕ
left_of head = named_size head - header_size

-- the rest was received; the response that it makes up ends the job so
abbrev pub TakesResponse : {Schedule : Type 0} → List ℕ → Bool → List ℕ → WorkerWires Schedule → WorkerWires Schedule → Type 0
TakesResponse head cancelled response w v = (rest : List ℕ)
    × (response ≡ head ++ rest) × (is_cancelled response ≡ cancelled) × ReceivesRest (is_longer head) (left_of head) rest w v

-- the response was taken, and the buffer holds it
abbrev pub HoldsResponse : {Schedule : Type 0} → List ℕ → Bool → List ℕ → WorkerWires Schedule → WorkerWires Schedule → Type 0
HoldsResponse head cancelled buf w v = (response : List ℕ) × (buf ≡ followed_by_zeros response) × TakesResponse head cancelled response w v

-- With the header of a response the rest is received, and the whole goes back with the answer. The job was cancelled
-- exactly where the response says so, and it is lost where a receive failed.
abbrev pub WithHeader : {Schedule : Type 0} → Job → List ℕ → PortView → WorkerWires Schedule → Step → Progress → PortView → WorkerWires Schedule → Type 0
WithHeader job head k w (Done number) next l v = (response : List ℕ)
    × (number ≡ job.number) × (next ≡ progress.Free)
    × Posts k (answered job outcome.Done response) l × TakesResponse head false response w v
WithHeader job head k w (Cancelled number) next l v = (response : List ℕ)
    × (number ≡ job.number) × (next ≡ progress.Free)
    × Posts k (answered job outcome.Cancelled response) l × TakesResponse head true response w v
WithHeader job head k w (Lost number) next l v =
    GivesUp k job number next l × (is_longer head ≡ true) × Receives false (left_of head) w v
WithHeader job head k w _ next l v = ⊥

-- what a step does
abbrev pub WorkerStep : {Schedule : Type 0} → Progress → PortView → WorkerWires Schedule → Step → Progress → PortView → WorkerWires Schedule → Type 0
WorkerStep progress.Free k w step next l v = WithoutJob k step next l × (v ≡ w)
WorkerStep (progress.Claimed job) k w step next l v = WithClaimed job k w step next l v
WorkerStep (progress.Sent job) k w step next l v = WithSent job k w step next l v
WorkerStep (progress.HeaderReceived job head) k w step next l v = WithHeader job head k w step next l v
