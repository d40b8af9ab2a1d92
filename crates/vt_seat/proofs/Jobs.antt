-- The last command where it stands.
use Rattle.std.proofs.Common.{◌≡◌, ℕ, Bool, true, false, List, Option, Some, None, refl, sym, ◌∙◌}
use Rattle.crb_regs.specs.Registers.{is_executing}
use Rattle.crb_regs.specs.declared.phase.Phase.TheVariants.{Execution}
use Rattle.crb_machine.specs.State.{is_in_device, Slot, DeviceState}
use Rattle.crb_machine.specs.Steps.{collected_at}
use Rattle.crb_port.specs.declared.job.Job.{Job}
use Rattle.crb_machine.specs.State.Slot.{InDevice, Queued, Claimed as ClaimedSlot, Answered}
use Rattle.ctrl_model.specs.Link.{Link, empty_channel}
use Rattle.tpm_core.specs.declared.parts.TpmParts.{TpmParts}
use Rattle.crb_history.specs.Snapshot.{Snapshot}
use Rattle.crb_history.specs.Event.{History}
use Rattle.crb_history.specs.Device.{registers_of, phase_of, number_of, buffer, last_command, executed, stage_of, JobStage}
use Rattle.crb_history.specs.Device.JobStage.{Waiting, Claimed, HasSent, HasHeader}
use Rattle.crb_history.specs.Cancelling.{cancelled_before_claim, cancelled_in_emulator}
use Rattle.crb_worker.specs.declared.progress.Progress.{Progress}
use Rattle.vt_seat.specs.Follows.{HoldsBuffer, IsDeviceAfter, IsLastJob, IsRunJob, Placed, place_of, IsEmulator, IsBehind, IsLinkAfter}
use Rattle.vt_seat.specs.Follows.Placed.{AtHome, InQueue, InHand, OnWay, Ran}

-- the last command is at the same stage after both histories
pub record SameCommand (b : Snapshot) (p q : History) : Type 0 where
  pub phase : phase_of b q ≡ phase_of b p
  pub stage : stage_of b q ≡ stage_of b p
  pub number : number_of b q ≡ number_of b p
  pub command : last_command b q ≡ last_command b p
  pub held : cancelled_before_claim b q ≡ cancelled_before_claim b p
  pub in_time : cancelled_in_emulator b q ≡ cancelled_in_emulator b p
  pub executed_is : executed b q ≡ executed b p

pub IsLastJob-same : (b : Snapshot) (p q : History) → SameCommand b p q → (stage : JobStage) (job : Job) → IsLastJob b p stage job → IsLastJob b q stage job
IsLastJob-same b p q same stage job is = record {
  number = is.number ∙ sym same.number;
  size = is.size;
  command = is.command ∙ sym same.command;
  held = is.held ∙ sym same.held;
  at = record { executing = same.phase ∙ is.at.executing; reached = same.stage ∙ is.at.reached };
}

pub IsRunJob-same : (b : Snapshot) (p q : History) → SameCommand b p q → (job : Job) (head : List ℕ) → IsRunJob b p job head → IsRunJob b q job head
IsRunJob-same b p q same job head is = record {
  last = IsLastJob-same b p q same HasHeader job is.last;
  head_is = rw (same.in_time, same.executed_is, same.command) is.head_is;
}

-- the job stays where nothing changes the last command
pub Placed-same : (b : Snapshot) (p q : History) → SameCommand b p q → (slot : Slot) (progress : Progress) → Placed b p slot progress → Placed b q slot progress
Placed-same b p q same slot progress (AtHome bytes still) = AtHome bytes (rw same.phase still)
Placed-same b p q same slot progress (InQueue job is) = InQueue job (IsLastJob-same b p q same Waiting job is)
Placed-same b p q same slot progress (InHand job is) = InHand job (IsLastJob-same b p q same Claimed job is)
Placed-same b p q same slot progress (OnWay job is) = OnWay job (IsLastJob-same b p q same HasSent job is)
Placed-same b p q same slot progress (Ran job head is) = Ran job head (IsRunJob-same b p q same job head is)

-- and so does what is behind the link
pub link-same : (b : Snapshot) (p q : History) → SameCommand b p q → (l : Link) → IsLinkAfter b p l → IsLinkAfter b q l
link-same b p q same l is = rw (same.phase, same.stage, same.in_time, same.executed_is, same.command) is

-- the buffer stays where nothing changes its bytes
pub HoldsBuffer-same : (b : Snapshot) (p q : History) → ((i : ℕ) → buffer b q i ≡ buffer b p i) → (slot : Slot) → HoldsBuffer b p slot → HoldsBuffer b q slot
HoldsBuffer-same b p q same (InDevice bytes) holds = record { size = holds.size; each = λ i lt. holds.each i lt ∙ sym (same i) }
HoldsBuffer-same b p q same (Queued job) holds = record { size = holds.size; each = λ i lt. holds.each i lt ∙ sym (same i) }
HoldsBuffer-same b p q same ClaimedSlot holds = tt
HoldsBuffer-same b p q same (Answered answer) holds = tt

-- the device stays where no event changes its values
pub IsDeviceAfter-same : (b : Snapshot) (p q : History) (d : DeviceState) → registers_of b q ≡ registers_of b p → number_of b q ≡ number_of b p → phase_of b q ≡ phase_of b p → ((i : ℕ) → buffer b q i ≡ buffer b p i) → IsDeviceAfter b p d → IsDeviceAfter b q d
IsDeviceAfter-same b p q d regs number phase bytes is = record {
  regs = is.regs ∙ sym regs;
  number = is.number ∙ sym number;
  bytes = λ far. HoldsBuffer-same b p q bytes d.slot (is.bytes (rw phase at far));
}

-- where a job is under way the buffer is away, and a command is executed
pub executing_where : (b : Snapshot) (p : History) (slot : Slot) (progress : Progress) → Placed b p slot progress → is_in_device slot ≡ false → phase_of b p ≡ Execution
executing_where b p slot progress (AtHome bytes still) away = cc
executing_where b p slot progress (InQueue job is) away = is.at.executing
executing_where b p slot progress (InHand job is) away = is.at.executing
executing_where b p slot progress (OnWay job is) away = is.at.executing
executing_where b p slot progress (Ran job head is) away = is.last.at.executing

-- no answer stands where a job or the buffer is known
pub collected-settled : (b : Snapshot) (p : History) (d : DeviceState) (slot : Slot) (progress : Progress) → Placed b p slot progress → collected_at slot d ≡ d
collected-settled b p d slot progress (AtHome bytes still) = refl
collected-settled b p d slot progress (InQueue job is) = refl
collected-settled b p d slot progress (InHand job is) = refl
collected-settled b p d slot progress (OnWay job is) = refl
collected-settled b p d slot progress (Ran job head is) = refl

-- ---- where the last command is, for what is behind the link

pub place-executing : (b : Snapshot) (p : History) (stage : JobStage) → phase_of b p ≡ Execution → stage_of b p ≡ stage → place_of b p ≡ Some stage
place-executing b p stage executing reached = rw (executing, reached) refl

pub place-still : (b : Snapshot) (p : History) → is_executing (phase_of b p) ≡ false → place_of b p ≡ None
place-still b p still = rw still refl

-- no command was sent, or none is under way
abbrev pub is_resting : Option JobStage → Bool
is_resting None = true
is_resting (Some Waiting) = true
is_resting (Some Claimed) = true
is_resting (Some _) = false

-- the emulator waits for a command
pub record Rests (t : TpmParts) (l : Link) : Type 0 where
  pub emulator : IsEmulator l.emulator t None
  pub channel : l.commands ≡ empty_channel

pub to_rest : (place : Option JobStage) (in_time : Bool) (t : TpmParts) (x : List ℕ) (l : Link) → is_resting place ≡ true → IsBehind place in_time t x l → Rests t l
to_rest None in_time t x l rests is = record { emulator = is.emulator; channel = is.channel }
to_rest (Some Waiting) in_time t x l rests is = record { emulator = is.emulator; channel = is.channel }
to_rest (Some Claimed) in_time t x l rests is = record { emulator = is.emulator; channel = is.channel }
to_rest (Some HasSent) in_time t x l rests is = cc
to_rest (Some HasHeader) in_time t x l rests is = cc

pub from_rest : (place : Option JobStage) (in_time : Bool) (t : TpmParts) (x : List ℕ) (l : Link) → is_resting place ≡ true → Rests t l → IsBehind place in_time t x l
from_rest None in_time t x l rests is = record { emulator = is.emulator; channel = is.channel }
from_rest (Some Waiting) in_time t x l rests is = record { emulator = is.emulator; channel = is.channel }
from_rest (Some Claimed) in_time t x l rests is = record { emulator = is.emulator; channel = is.channel }
from_rest (Some HasSent) in_time t x l rests is = cc
from_rest (Some HasHeader) in_time t x l rests is = cc
