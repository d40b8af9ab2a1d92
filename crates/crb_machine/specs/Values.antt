-- The values of a device: what of it outlives a suspension or a move to another host. (Own definitions.)
use Rattle.std.specs.Prelude.{◌≡◌, ℕ, ◌^◌, ◌<◌, Bool, true, false, not, List, [], length, if◌then◌else◌, Some, unwrap_or}
use Rattle.vt_base.specs.Buffer.{zeros}
use Rattle.vt_base.specs.Numbers.{IsBytes}
use Rattle.crb_regs.specs.Registers.{is_executing, is_lost}
use Rattle.crb_regs.specs.declared.phase.Phase.{Phase}
use Rattle.crb_regs.specs.declared.phase.Phase.TheVariants.{Idle, Execution}
use Rattle.crb_port.specs.declared.job.Job.{Job}
use Rattle.crb_machine.specs.State.{DeviceState, Slot, is_in_device}
use Rattle.crb_machine.specs.Steps.{fresh_state}
use Rattle.crb_machine.specs.State.Slot.{InDevice, Queued, Claimed, Answered}
use Rattle.crb_machine.specs.Model.{DeviceModel}

-- the values of a device: access, CANCEL, the phase, whether the waiting job was cancelled, the buffer's bytes, and
-- the number of the last job
pub record DeviceValues : Type 0 where
  pub granted : Bool
  pub cancel : Bool
  pub phase : Phase
  pub cancelled : Bool
  pub content : List ℕ
  pub number : ℕ

-- the values that a device can have which isn't lost
pub record AreValid (v : DeviceValues) : Type 0 where
  pub working : is_lost v.phase ≡ false
  pub idle : v.phase ≡ Idle → v.content ≡ zeros 3968
  pub waits : v.cancelled ≡ true → v.phase ≡ Execution
  pub size : length v.content ≡ 3968
  pub bytes : IsBytes v.content
  pub number : v.number < 2 ^ 64

-- whether the job that waits is cancelled
abbrev pub is_cancelled_in : Slot → Bool
is_cancelled_in (Queued job) = job.cancelled
is_cancelled_in _ = false

-- the buffer's bytes, with the device or in the job that waits
abbrev pub bytes_in : Slot → List ℕ
bytes_in (InDevice buf) = buf
bytes_in (Queued job) = job.buf
bytes_in _ = []

-- the values of a device in a known state: a job that waits keeps its buffer and its mark
abbrev pub values_at : DeviceState → DeviceValues
values_at d = record {
  granted = d.regs.granted;
  cancel = d.regs.cancel;
  phase = d.regs.phase;
  cancelled = is_cancelled_in d.slot;
  content = bytes_in d.slot;
  number = d.number;
}

-- the values of a device after a reset, before its first job
abbrev pub fresh_device : DeviceValues
fresh_device = values_at fresh_state

-- the job that a device with these values has wait
abbrev pub waiting_job : DeviceValues → Job
waiting_job v = record { number = v.number; cancelled = v.cancelled; buf = v.content }

-- the device with these values: where a command is executed its job waits
abbrev pub device_of : DeviceValues → DeviceState
device_of v = record {
  regs = record { granted = v.granted; cancel = v.cancel; phase = v.phase };
  number = v.number;
  slot = if is_executing v.phase then Queued (waiting_job v) else InDevice v.content;
}

-- the buffer is with the device, or in a job of this number that waits
abbrev pub IsInReach : ℕ → Slot → Type 0
IsInReach number (InDevice buf) = Unit {0}
IsInReach number (Queued job) = job.number ≡ number
IsInReach number Claimed = ⊥
IsInReach number (Answered answer) = ⊥

-- a device whose values give all of it: a job of its number waits exactly where a command is executed, and otherwise the
-- buffer is in the device
pub record IsUnclaimed (d : DeviceState) : Type 0 where
  pub reach : IsInReach d.number d.slot
  pub phase : is_executing d.regs.phase ≡ not (is_in_device d.slot)

-- the values of a held device
abbrev pub held_values : {P : Type 0} → DeviceModel P → DeviceValues
held_values d = record {
  granted = d.regs.granted;
  cancel = d.regs.cancel;
  phase = d.regs.phase;
  cancelled = d.cancelled;
  content = unwrap_or d.own_buffer [];
  number = d.number;
}

-- the held device with these values
abbrev pub with_values : {P : Type 0} → DeviceValues → DeviceModel P → DeviceModel P
with_values v d = record d {
  regs = record { granted = v.granted; cancel = v.cancel; phase = v.phase };
  number = v.number;
  own_buffer = Some v.content;
  cancelled = v.cancelled;
}
