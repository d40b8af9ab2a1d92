-- What a contract sees of a port. (Own definitions.)
use Rattle.std.specs.Prelude.{◌≡◌, ℕ, List, Option, Some, None, Bool, true, false, IfSome}
use Rattle.crb_port.specs.declared.job.PortStage.{PortStage}
use Rattle.crb_port.specs.declared.job.PortStage.TheVariants as stage
use Rattle.crb_port.specs.declared.job.PortState.{PortState}
use Rattle.crb_port.specs.declared.job.PortState.TheVariants.{Nothing, Waiting, Claimed, Answered}
use Rattle.crb_port.specs.declared.job.Job.{Job}
use Rattle.crb_port.specs.declared.job.Answer.{Answer}

-- A port: which one it is, whether it is free, and the number that is claimed and not posted. Where they are known, also
-- what stands in it, the stages that its steps found, and the jobs and answers that went through each end.
pub record PortView : Type 0 where
  pub which : List ℕ
  pub is_free : Bool
  pub claimed_number : Option ℕ
  pub state : Option PortState
  pub looks : Option (List PortStage)
  pub queued : Option (List Job)
  pub collected : Option (List Answer)
  pub claimed : Option (List Job)
  pub posted : Option (List Answer)

-- the stage of a job that waits
abbrev pub waiting_stage : Bool → PortStage
waiting_stage true = stage.Cancelled
waiting_stage false = stage.Queued

-- the stage of what stands
abbrev pub stage_of : PortState → PortStage
stage_of Nothing = stage.Free
stage_of (Waiting job) = waiting_stage job.cancelled
stage_of (Claimed number) = stage.Claimed
stage_of (Answered answer) = stage.Answered

-- whether a job waits
abbrev pub is_waiting : PortStage → Bool
is_waiting stage.Queued = true
is_waiting stage.Cancelled = true
is_waiting _ = false

-- whether nothing stands
abbrev pub is_nothing : PortState → Bool
is_nothing Nothing = true
is_nothing _ = false

-- the number that is claimed and not posted
abbrev pub claimed_number_in : PortState → Option ℕ
claimed_number_in (Claimed number) = Some number
claimed_number_in _ = None

-- a known state says whether the port is free, and which number is claimed
abbrev pub IsExact : PortView → Type 0
IsExact k = IfSome k.state (λ s. (k.is_free ≡ is_nothing s) × (k.claimed_number ≡ claimed_number_in s))
