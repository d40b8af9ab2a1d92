-- Runs of one worker: its steps one after the other, whatever the port and the wires do between them. (Own definitions.)
use Rattle.std.specs.Prelude.{◌≡◌, ℕ, Bool, true, false, List, [], ◌∷◌, ◌++◌, if◌then◌else◌, ◌⊎◌, count_by}
use Rattle.tpm_frame.specs.Frames.{first_frame}
use Rattle.crb_port.specs.Views.{PortView}
use Rattle.crb_worker.specs.declared.progress.Progress.{Progress}
use Rattle.crb_worker.specs.declared.progress.Progress.TheVariants as progress
use Rattle.crb_worker.specs.declared.progress.Step.{Step}
use Rattle.crb_worker.specs.declared.progress.Step.TheVariants.{Claim, Sent}
use Rattle.crb_worker.specs.Wires.{WorkerWires, SendsCommand, Receives}
use Rattle.crb_worker.specs.Steps.{WorkerStep}

-- the commands that a step sends, whether the wires take them or not: that of a claimed job, unless it is cancelled
abbrev pub sent_with : Progress → List (List ℕ)
sent_with (progress.Claimed job) = if job.cancelled then [] else first_frame job.buf ∷ []
sent_with _ = []

-- These commands were sent and no others: none, where the wires weren't touched or bytes of a response were received, or
-- one in one send.
abbrev pub SendsThese : {Schedule : Type 0} → List (List ℕ) → WorkerWires Schedule → WorkerWires Schedule → Type 0
SendsThese [] w v = (v ≡ w) ⊎ ((ok : Bool) × (count : ℕ) × Receives ok count w v)
SendsThese (command ∷ []) w v = (ok : Bool) × SendsCommand ok command w v
SendsThese (command ∷ second ∷ more) w v = ⊥

-- one step: its answer, and the commands that it sent
pub record Moment : Type 0 where
  pub step : Step
  pub sent : List (List ℕ)

-- with this progress a step can have this answer and leave that progress
abbrev pub StepsTo : Type 0 → Progress → Step → Progress → Type 0
StepsTo Schedule p step q = (k l : PortView) × (w v : WorkerWires Schedule) × WorkerStep p k w step q l v

-- the steps of one worker, each from where the one before it ended
abbrev pub Runs : Type 0 → Progress → List Moment → Progress → Type 0
Runs Schedule p [] q = q ≡ p
Runs Schedule p (m ∷ moments) q = (next : Progress) × (m.sent ≡ sent_with p) × StepsTo Schedule p m.step next × Runs Schedule next moments q

-- a job was claimed
abbrev pub is_claim : Step → Bool
is_claim (Claim number) = true
is_claim _ = false

-- a command was sent, and the wires took it
abbrev pub is_sent : Step → Bool
is_sent (Sent number) = true
is_sent _ = false

-- no job is claimed in these steps, so they are those of one job at most
abbrev pub ClaimsNoJob : List Moment → Type 0
ClaimsNoJob moments = count_by (λ m. is_claim m.step) moments ≡ 0

-- how many of the answers are that a command was sent
abbrev pub sent_count : List Moment → ℕ
sent_count moments = count_by (λ m. is_sent m.step) moments

-- all commands that were sent
abbrev pub commands_of : List Moment → List (List ℕ)
commands_of [] = []
commands_of (m ∷ moments) = m.sent ++ commands_of moments
