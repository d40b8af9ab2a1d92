-- The steps of the device.
use Rattle.std.specs.Prelude.{◌≡◌, ◌≢◌, ℕ, ◌+◌, ◌-◌, ◌%◌, ◌^◌, Bool, true, false, List, [], if◌then◌else◌, nat_lt, slice_index, Option, Some, None, unwrap_or, Result, Ok, Err}
use Rattle.vt_base.specs.Buffer.{zeros}
use Rattle.crb_regs.specs.Access.{Access}
use Rattle.crb_regs.specs.Effects.{effect}
use Rattle.crb_regs.specs.Registers.{register_byte, reset_regs}
use Rattle.crb_regs.specs.declared.registers.Regs.{Regs}
use Rattle.crb_regs.specs.declared.phase.Phase.{Phase}
use Rattle.crb_regs.specs.declared.phase.Phase.TheVariants.{Ready, Reception, Completion, Lost}
use Rattle.crb_regs.specs.declared.effect.Effect.{Effect}
use Rattle.crb_regs.specs.declared.effect.Effect.TheVariants.{Start}
use Rattle.crb_machine.specs.Phases.{next_phase, granted_after, cancel_after}
use Rattle.crb_machine.specs.State.{DeviceState, Slot}
use Rattle.crb_machine.specs.Content.{slot_after}
use Rattle.crb_port.specs.declared.job.Outcome.{Outcome}
use Rattle.crb_port.specs.declared.job.Outcome.TheVariants.{Lost as EndedLost}
use Rattle.crb_port.specs.declared.job.Job.{Job}
use Rattle.crb_port.specs.declared.job.Answer.{Answer}
use Rattle.crb_machine.specs.declared.device.NotYet.{NotYet}
use Rattle.crb_machine.specs.State.Slot.{InDevice, Queued, Claimed, Answered}

-- a device after a reset, before its first job
abbrev pub fresh_state : DeviceState
fresh_state = record { regs = reset_regs; number = 0; slot = InDevice (zeros 3968) }

-- the phase in which an execution ends
abbrev pub ended_phase : Outcome → Phase
ended_phase EndedLost = Lost
ended_phase _ = Completion

-- the device once it took back an answer that stood
abbrev pub collected_at : Slot → DeviceState → DeviceState
collected_at (Answered answer) d = record d { regs = record d.regs { phase = ended_phase answer.outcome }; slot = InDevice answer.buf }
collected_at _ d = d

abbrev pub collected : DeviceState → DeviceState
collected d = collected_at d.slot d

-- the buffer's bytes, where the device has them
abbrev pub content : Slot → List ℕ
content (InDevice buf) = buf
content _ = []

-- a byte of the buffer as it reads, by what it holds
abbrev pub buffer_byte : Phase → ℕ → ℕ
buffer_byte Ready held = held
buffer_byte Reception held = held
buffer_byte Completion held = held
buffer_byte _ held = 0xFF

-- the byte of the page that a guest reads, by the registers and the bytes of the buffer
abbrev pub page_byte : Regs → List ℕ → ℕ → ℕ
page_byte regs bytes at =
    if nat_lt at 0x80
    then register_byte regs at
    else buffer_byte regs.phase (slice_index bytes (at - 0x80))

-- the byte of the page that a guest reads
abbrev pub device_byte : DeviceState → ℕ → ℕ
device_byte d = page_byte d.regs (content d.slot)

abbrev pub is_start : Effect → Bool
is_start Start = true
is_start _ = false

-- the number of the last command after an accepted write
abbrev pub number_after : Effect → ℕ → ℕ
number_after e number = if is_start e then (number + 1) % 2 ^ 64 else number

-- the device after a write of this effect; `None` is a write that isn't accepted
abbrev pub written_to : Option Phase → Effect → Access → DeviceState → DeviceState
written_to None e a d = d
written_to (Some phase) e a d = record {
  regs = record { granted = granted_after e d.regs.granted; cancel = cancel_after e d.regs.cancel; phase = phase };
  number = number_after e d.number;
  slot = slot_after e a d.regs.cancel (number_after e d.number) d.slot;
}

abbrev pub written : DeviceState → Access → DeviceState
written d a =
    let e = effect a.offset a.size (unwrap_or a.write 0) in
    written_to (next_phase e d.regs.granted d.regs.phase) e a d

-- the job that waited is taken, or there was none
abbrev pub TakesJob : DeviceState → DeviceState → Option Job → Type 0
TakesJob old new None = (new ≡ old) × ((job : Job) → old.slot ≢ Queued job)
TakesJob old new (Some job) = (old.slot ≡ Queued job) × (new ≡ record old { slot = Claimed })

-- the device after a reset, by its phase: one that is lost stays as it is
abbrev pub reset_at : Phase → DeviceState → DeviceState
reset_at Lost d = d
reset_at _ d = record d { regs = reset_regs; slot = InDevice (zeros 3968) }

-- the device after a reset of the guest, whose number is kept
abbrev pub reset_of : DeviceState → DeviceState
reset_of d = reset_at d.regs.phase d

-- what a reset answers: the number of the job where it is claimed
abbrev pub reset_reply_at : Slot → ℕ → Result Unit NotYet
reset_reply_at Claimed number = Err (record { number = number })
reset_reply_at _ number = Ok tt

abbrev pub reset_reply : DeviceState → Result Unit NotYet
reset_reply d = reset_reply_at d.slot d.number

-- the device after a reset was asked for; a job that is claimed keeps it as it is
abbrev pub after_reset_at : Slot → DeviceState → DeviceState
after_reset_at Claimed d = d
after_reset_at _ d = reset_of (collected d)

abbrev pub after_reset : DeviceState → DeviceState
after_reset d = after_reset_at d.slot d

-- the device once it is given up
abbrev pub failed : DeviceState → DeviceState
failed d = record d { regs = record d.regs { phase = Lost } }

-- the device once the answer to its claimed job was posted
abbrev pub answered : Answer → DeviceState → DeviceState
answered answer d = record d { slot = Answered answer }
