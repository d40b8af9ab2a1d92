-- The device by its history. Nothing is kept: each value is found by looking back.
use Rattle.std.specs.Prelude.{ℕ, ◌+◌, ◌-◌, ◌%◌, ◌^◌, Bool, false, ◌&&◌, nat_lt, nat_le, if◌then◌else◌, List, [], ◌∷◌, slice_index, unwrap_or}
use Rattle.crb_regs.specs.LittleEndian.{byte_of}
use Rattle.crb_regs.specs.Access.{Access}
use Rattle.crb_regs.specs.Effects.{effect}
use Rattle.crb_regs.specs.Registers.{register_byte, is_executing}
use Rattle.crb_regs.specs.declared.registers.Regs.{Regs}
use Rattle.crb_regs.specs.declared.phase.Phase.{Phase}
use Rattle.crb_regs.specs.declared.phase.Phase.TheVariants.{Idle, Execution, Completion, Lost}
use Rattle.crb_regs.specs.declared.effect.Effect.{Effect}
use Rattle.crb_regs.specs.declared.effect.Effect.TheVariants.{Buffer, CmdReady, GoIdle}
use Rattle.crb_machine.specs.Phases.{is_accepted, phase_after, granted_after, cancel_after}
use Rattle.crb_machine.specs.Steps.{buffer_byte, is_start}
use Rattle.crb_port.specs.declared.job.Outcome.{Outcome}
use Rattle.crb_port.specs.declared.job.Outcome.TheVariants.{Done, Cancelled, Lost as EndedLost}
use Rattle.tpm_core.specs.Answers.{Entry, answer}
use Rattle.tpm_core.specs.Answers.Entry.{Executed, PowerOn}
use Rattle.tpm_core.specs.Responses.{cancelled}
use Rattle.crb_history.specs.Bytes.{command_in}
use Rattle.crb_history.specs.Snapshot.{Snapshot}
use Rattle.crb_history.specs.Event.{History}
use Rattle.crb_history.specs.Event.Event.{Write, Claim, Sent, Exec, Finish, Reset, ResetLost}

-- the value of a write
abbrev pub written_value : Access → ℕ
written_value a = unwrap_or a.write 0

-- what a write asks for
abbrev pub effect_of : Access → Effect
effect_of a = effect a.offset a.size (written_value a)

-- the phase after the end of an execution
abbrev pub phase_at_end : Outcome → Phase → Phase
phase_at_end EndedLost Execution = Lost
phase_at_end _ Execution = Completion
phase_at_end _ phase = phase

abbrev mutual
  -- the phase after the events
  pub phase_of : Snapshot → History → Phase
  phase_of b [] = b.device.phase
  phase_of b (Write a ∷ p) = phase_after (effect_of a) (is_granted b p) (phase_of b p)
  phase_of b (Finish outcome ∷ p) = phase_at_end outcome (phase_of b p)
  phase_of b (Reset ∷ p) = Idle
  phase_of b (ResetLost ∷ p) = Lost
  phase_of b (_ ∷ p) = phase_of b p

  -- whether access is granted: the latest accepted request or relinquish decides, unless a reset came after it
  pub is_granted : Snapshot → History → Bool
  is_granted b [] = b.device.granted
  is_granted b (Write a ∷ p) =
      if is_accepted (effect_of a) (is_granted b p) (phase_of b p)
      then granted_after (effect_of a) (is_granted b p)
      else is_granted b p
  is_granted b (Reset ∷ p) = false
  is_granted b (ResetLost ∷ p) = false
  is_granted b (_ ∷ p) = is_granted b p

-- whether a write is accepted after the events
abbrev pub accepts : Snapshot → History → Access → Bool
accepts b p a = is_accepted (effect_of a) (is_granted b p) (phase_of b p)

-- the value of CANCEL: the latest accepted write of it decides, unless a reset came after it
abbrev pub is_cancel : Snapshot → History → Bool
is_cancel b [] = b.device.cancel
is_cancel b (Write a ∷ p) = if accepts b p a then cancel_after (effect_of a) (is_cancel b p) else is_cancel b p
is_cancel b (Reset ∷ p) = false
is_cancel b (ResetLost ∷ p) = false
is_cancel b (_ ∷ p) = is_cancel b p

-- whether a write starts a command
abbrev pub starts : Snapshot → History → Access → Bool
starts b p a = is_start (effect_of a) && accepts b p a

-- a command that was started: its number and its bytes
pub record Start : Type 0 where
  pub number : ℕ
  pub command : List ℕ

-- the number of the latest of these, or an earlier one where there is none
abbrev pub latest_number : ℕ → List Start → ℕ
latest_number before [] = before
latest_number before (start ∷ past) = start.number

-- the bytes of the latest of these
abbrev pub latest_command : List Start → List ℕ
latest_command [] = []
latest_command (start ∷ past) = start.command

-- a byte of the buffer, which begins at 0x80 of the page, after an accepted write, by what it was
abbrev pub byte_after : Effect → Access → ℕ → ℕ → ℕ
byte_after Buffer a i was =
    if nat_le a.offset (0x80 + i) && nat_lt (0x80 + i) (a.offset + a.size)
    then byte_of (written_value a) (0x80 + i - a.offset)
    else was
byte_after CmdReady a i was = 0
byte_after GoIdle a i was = 0
byte_after _ a i was = was

-- a command that waits when the history begins was started before it
abbrev pub waiting_start : Snapshot → List Start
waiting_start b =
    if is_executing b.device.phase
    then record { number = b.device.number; command = command_in (slice_index b.device.content) } ∷ []
    else []

abbrev mutual
  -- byte i of the buffer, as the latest event that set it left it
  pub buffer : Snapshot → History → ℕ → ℕ
  buffer b [] i = slice_index b.device.content i
  buffer b (Write a ∷ p) i = if accepts b p a then byte_after (effect_of a) a i (buffer b p i) else buffer b p i
  buffer b (Finish Done ∷ p) i = slice_index (answer b.tpm (executed b p) (latest_command (started b p))) i
  buffer b (Finish Cancelled ∷ p) i = slice_index cancelled i
  buffer b (Reset ∷ p) i = 0
  buffer b (ResetLost ∷ p) i = 0
  buffer b (_ ∷ p) i = buffer b p i

  -- the commands that were started, the latest first; each has the number after the one before it
  pub started : Snapshot → History → List Start
  started b [] = waiting_start b
  started b (Write a ∷ p) =
      if starts b p a
      then record { number = (latest_number b.device.number (started b p) + 1) % 2 ^ 64; command = command_in (buffer b p) } ∷ started b p
      else started b p
  started b (_ ∷ p) = started b p

  -- what the TPM went through, the latest first: each command that finished as done, and each reset
  pub executed : Snapshot → History → List Entry
  executed b [] = []
  executed b (Finish Done ∷ p) = Executed (latest_command (started b p)) ∷ executed b p
  executed b (Reset ∷ p) = PowerOn ∷ executed b p
  executed b (_ ∷ p) = executed b p

-- the number of the last command
abbrev pub number_of : Snapshot → History → ℕ
number_of b p = latest_number b.device.number (started b p)

-- the bytes of the last command
abbrev pub last_command : Snapshot → History → List ℕ
last_command b p = latest_command (started b p)

-- what the registers show
abbrev pub registers_of : Snapshot → History → Regs
registers_of b p = record { granted = is_granted b p; cancel = is_cancel b p; phase = phase_of b p }

-- the byte of the page that a guest reads
abbrev pub shown_byte : Snapshot → History → ℕ → ℕ
shown_byte b p at =
    if nat_lt at 0x80
    then register_byte (registers_of b p) at
    else buffer_byte (phase_of b p) (buffer b p (at - 0x80))

-- how far the last command has come
pub data JobStage : Type 0 where
  Waiting : JobStage
  Claimed : JobStage
  HasSent : JobStage
  HasHeader : JobStage

abbrev pub stage_of : Snapshot → History → JobStage
stage_of b [] = Waiting
stage_of b (Write a ∷ p) = if starts b p a then Waiting else stage_of b p
stage_of b (Claim ∷ p) = Claimed
stage_of b (Sent ∷ p) = HasSent
stage_of b (Exec ∷ p) = HasHeader
stage_of b (_ ∷ p) = stage_of b p
