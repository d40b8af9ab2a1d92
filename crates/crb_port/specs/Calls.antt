-- What each call of a port's ends does: `k` is what is known of the port before the call, `l` after it. (Own definitions.)
use Rattle.std.specs.Prelude.{◌≡◌, ◌≢◌, ◌≤◌, length, List, [], ◌∷◌, ◌++◌, ◌⊎◌, Option, Some, None, option_map, Bool, true, false, IfSome}
use Rattle.crb_port.specs.Views.{PortView, stage_of, waiting_stage, is_waiting}
use Rattle.crb_port.specs.declared.job.PortStage.{PortStage}
use Rattle.crb_port.specs.declared.job.PortStage.TheVariants as stage
use Rattle.crb_port.specs.declared.job.PortState.{PortState}
use Rattle.crb_port.specs.declared.job.PortState.TheVariants.{Nothing, Waiting, Claimed, Answered}
use Rattle.crb_port.specs.declared.job.Job.{Job}
use Rattle.crb_port.specs.declared.job.Answer.{Answer}
use Rattle.crb_port.specs.declared.job.Pull.{Pull}
use Rattle.crb_port.specs.declared.job.Pull.TheVariants as pulled

-- a new value, where there was one
abbrev pub known_or : {A : Type 0} → Option A → A → Option A
known_or o x = option_map (λ _. x) o

-- the list with more at its end, where there is a list
abbrev pub joined : {A : Type 0} → Option (List A) → List A → Option (List A)
joined o ys = option_map (λ xs. xs ++ ys) o

-- the list with one more at its end, where there is a list
abbrev pub grown : {A : Type 0} → Option (List A) → A → Option (List A)
grown xs x = joined xs (x ∷ [])

-- the job, cancelled
abbrev pub cancelled_job : Job → Job
cancelled_job job = record job { cancelled = true }

-- the list with its last job cancelled
abbrev pub cancel_last : List Job → List Job
cancel_last [] = []
cancel_last (x ∷ []) = cancelled_job x ∷ []
cancel_last (x ∷ y ∷ ys) = x ∷ cancel_last (y ∷ ys)

-- what stands, with a job that waits cancelled
abbrev pub cancel_waiting : PortState → PortState
cancel_waiting (Waiting job) = Waiting (cancelled_job job)
cancel_waiting port_state = port_state

-- the value changed, where this is so and there is one
abbrev pub changed_if : {A : Type 0} → Bool → (A → A) → Option A → Option A
changed_if true change o = option_map change o
changed_if false change o = o

-- the last element, as a list
abbrev pub last_of : {A : Type 0} → List A → List A
last_of [] = []
last_of (x ∷ []) = x ∷ []
last_of (x ∷ y ∷ ys) = last_of (y ∷ ys)

-- this is the last of the list, where there is one
abbrev pub EndsWith : Option (List Job) → Job → Type 0
EndsWith jobs job = IfSome jobs (λ xs. last_of xs ≡ job ∷ [])

-- a call found this stage at its first step, and these at its others
pub record Found (k l : PortView) (found : PortStage) (more : List PortStage) : Type 0 where
  pub state : IfSome k.state (λ s. stage_of s ≡ found)
  pub looks : l.looks ≡ joined k.looks (found ∷ more)

-- the guest's calls leave the worker's meanings
pub record KeepsWorker (k l : PortView) : Type 0 where
  pub which : l.which ≡ k.which
  pub claimed_number : l.claimed_number ≡ k.claimed_number
  pub claimed : l.claimed ≡ k.claimed
  pub posted : l.posted ≡ k.posted

-- the worker's calls leave the guest's meanings
pub record KeepsGuest (k l : PortView) : Type 0 where
  pub which : l.which ≡ k.which
  pub is_free : l.is_free ≡ k.is_free
  pub queued : l.queued ≡ k.queued
  pub collected : l.collected ≡ k.collected

-- a job was put in
pub record Queues (k : PortView) (job : Job) (l : PortView) : Type 0 where
  pub worker : KeepsWorker k l
  pub is_free : l.is_free ≡ false
  pub state : l.state ≡ known_or k.state (Waiting job)
  pub looks : l.looks ≡ k.looks
  pub queued : l.queued ≡ grown k.queued job
  pub collected : l.collected ≡ k.collected

-- the job that waits was cancelled, or none waited
pub record Cancels (k : PortView) (hit : Bool) (l : PortView) : Type 0 where
  pub worker : KeepsWorker k l
  pub is_free : l.is_free ≡ k.is_free
  pub state : l.state ≡ changed_if hit cancel_waiting k.state
  pub queued : l.queued ≡ changed_if hit cancel_last k.queued
  pub collected : l.collected ≡ k.collected
  pub step : (found : PortStage) × Found k l found [] × (hit ≡ is_waiting found)

-- nothing of the guest's was taken
pub record TakesNothing (k l : PortView) : Type 0 where
  pub worker : KeepsWorker k l
  pub is_free : l.is_free ≡ k.is_free
  pub state : l.state ≡ k.state
  pub queued : l.queued ≡ k.queued
  pub collected : l.collected ≡ k.collected

-- this stood, and was taken out
pub record TakesOut (k : PortView) (port_state : PortState) (l : PortView) : Type 0 where
  pub worker : KeepsWorker k l
  pub was_free : k.is_free ≡ false
  pub is_free : l.is_free ≡ true
  pub stood : IfSome k.state (λ s. s ≡ port_state)
  pub state : l.state ≡ known_or k.state Nothing
  pub queued : l.queued ≡ k.queued

-- the answer that stood was collected, or none stood
abbrev pub Collects : PortView → Option Answer → PortView → Type 0
Collects k None l = TakesNothing k l × ((found : PortStage) × Found k l found [] × (found ≢ stage.Answered))
Collects k (Some answer) l = TakesOut k (Answered answer) l × (l.collected ≡ grown k.collected answer)
    × ((more : List PortStage) × Found k l stage.Answered more × (length more ≤ 1))

-- the job or the answer was pulled back, or neither stood; at most three steps, of which the last found an answer that came
abbrev pub Pulls : PortView → Pull → PortView → Type 0
Pulls k pulled.Free l = TakesNothing k l × (k.is_free ≡ true) × ((more : List PortStage) × Found k l stage.Free more × (length more ≤ 1))
Pulls k (pulled.Job job) l = TakesOut k (Waiting job) l × (l.collected ≡ k.collected) × EndsWith k.queued job
    × ((more : List PortStage) × Found k l (waiting_stage job.cancelled) more × (length more ≤ 1))
Pulls k (pulled.Answer answer) l = TakesOut k (Answered answer) l × (l.collected ≡ grown k.collected answer)
    × ((found : PortStage) × (more : List PortStage) × Found k l found more × (length more ≤ 2) × (last_of (found ∷ more) ≡ stage.Answered ∷ []))
Pulls k pulled.Busy l = TakesNothing k l × (k.is_free ≡ false)
    × (Found k l stage.Claimed [] ⊎ ((first : PortStage) × (k.state ≡ None) × Found k l first (stage.Claimed ∷ [])))

-- no job was claimed: none waited at the first step, or the guest changed that between two steps
pub record ClaimsNone (k l : PortView) : Type 0 where
  pub guest : KeepsGuest k l
  pub claimed_number : l.claimed_number ≡ k.claimed_number
  pub state : l.state ≡ k.state
  pub claimed : l.claimed ≡ k.claimed
  pub posted : l.posted ≡ k.posted
  pub steps : (found : PortStage) × (more : List PortStage) × Found k l found more × (length more ≤ 1)
      × ((is_waiting found ≡ false) ⊎ ((second : PortStage) × (more ≡ second ∷ []) × (second ≢ found) × (k.state ≡ None)))

-- This job waited, and was claimed: the port wasn't free, and no other job was claimed. A worker's end, which never says that
-- it is free, gives `was_free` as it is; where one value is both ends, none is claimed while the port is free.
pub record ClaimsJob (k : PortView) (job : Job) (l : PortView) : Type 0 where
  pub guest : KeepsGuest k l
  pub was_free : k.is_free ≡ false
  pub none_claimed : k.claimed_number ≡ None
  pub claimed_number : l.claimed_number ≡ Some job.number
  pub stood : IfSome k.state (λ s. s ≡ Waiting job)
  pub state : l.state ≡ known_or k.state (Claimed job.number)
  pub claimed : l.claimed ≡ grown k.claimed job
  pub posted : l.posted ≡ k.posted
  pub steps : (more : List PortStage) × Found k l (waiting_stage job.cancelled) more × (length more ≤ 1)

-- the job that waited was claimed, or none was
abbrev pub Claims : PortView → Option Job → PortView → Type 0
Claims k None l = ClaimsNone k l
Claims k (Some job) l = ClaimsJob k job l

-- the answer to the claimed job was put in
pub record Posts (k : PortView) (answer : Answer) (l : PortView) : Type 0 where
  pub guest : KeepsGuest k l
  pub claimed_number : l.claimed_number ≡ None
  pub state : l.state ≡ known_or k.state (Answered answer)
  pub looks : l.looks ≡ k.looks
  pub claimed : l.claimed ≡ k.claimed
  pub posted : l.posted ≡ grown k.posted answer
