-- A world stands where its history leads. (Own definitions.)
use Rattle.std.specs.Prelude.{◌≡◌, ℕ, ◌-◌, ◌<◌, ◌≤◌, Bool, true, false, if◌then◌else◌, List, [], ◌∷◌, length, take, drop, slice_index, Option, Some, None}
use Rattle.vt_base.specs.Faults.{IsCounted}
use Rattle.crb_regs.specs.Registers.{is_executing, is_lost}
use Rattle.crb_machine.specs.Over.{plain_device}
use Rattle.crb_machine.specs.State.{DeviceState, Slot}
use Rattle.crb_machine.specs.State.Slot.{InDevice, Queued, Claimed as ClaimedSlot}
use Rattle.crb_machine.specs.Steps.{collected}
use Rattle.crb_port.specs.declared.job.Job.{Job}
use Rattle.crb_worker.specs.declared.progress.Progress.{Progress}
use Rattle.crb_worker.specs.declared.progress.Progress.TheVariants.{Free, Claimed as ClaimedJob, Sent as SentJob, HeaderReceived as RunJob}
use Rattle.crb_worker.specs.declared.progress.Step.{Step}
use Rattle.crb_worker.specs.declared.progress.Step.TheVariants.{Idle, Claim, Sent, Exec, Done, Cancelled, Lost}
use Rattle.ctrl_model.specs.Emulator.{EmulatorState, PendingCommand, no_gathers}
use Rattle.ctrl_model.specs.Link.{Link, ChannelState, empty_channel}
use Rattle.ctrl_client.specs.Exchange.{IsQuiet}
use Rattle.tpm_core.specs.Answers.{answer, values_after}
use Rattle.tpm_core.specs.Answers.Entry.{Executed}
use Rattle.tpm_core.specs.Responses.{cancelled}
use Rattle.tpm_core.specs.Steps.{IsValid}
use Rattle.tpm_core.specs.declared.parts.TpmParts.{TpmParts}
use Rattle.crb_history.specs.Snapshot.{Snapshot}
use Rattle.crb_history.specs.Bytes.{command_in}
use Rattle.crb_history.specs.Event.{History}
use Rattle.crb_history.specs.Device.{registers_of, phase_of, number_of, buffer, last_command, executed, stage_of, JobStage}
use Rattle.crb_history.specs.Device.JobStage.{Waiting, Claimed, HasSent, HasHeader}
use Rattle.crb_history.specs.Cancelling.{cancelled_before_claim, cancelled_in_emulator}
use Rattle.crb_history.specs.Legal.{Legal, IsAt}
use Rattle.vt_transcript.specs.Replies.{Transcript, IsReplyTo, is_fault}
use Rattle.vt_transcript.specs.OneHost.{OneHost, fails_in, one_after, one_of_transcript}
use Rattle.vt_script.specs.declared.event.Event.{Event as Line}
use Rattle.vt_script.specs.declared.reply.Reply.{Reply}
use Rattle.vt_script.specs.declared.reply.Reply.TheVariants as replied
use Rattle.vt_seat.specs.State.{WorldState}

-- ---- the device

-- these are the bytes of the buffer
pub record HoldsBytes (b : Snapshot) (p : History) (bytes : List ℕ) : Type 0 where
  pub size : length bytes ≡ 3968
  pub each : (i : ℕ) → i < 3968 → slice_index bytes i ≡ buffer b p i

-- the same, where the device or a job that waits has the buffer
abbrev pub HoldsBuffer : Snapshot → History → Slot → Type 0
HoldsBuffer b p (InDevice bytes) = HoldsBytes b p bytes
HoldsBuffer b p (Queued job) = HoldsBytes b p job.buf
HoldsBuffer b p _ = Unit {0}

-- the device's values; a device that is lost shows no buffer
pub record IsDeviceAfter (b : Snapshot) (p : History) (d : DeviceState) : Type 0 where
  pub regs : d.regs ≡ registers_of b p
  pub number : d.number ≡ number_of b p
  pub bytes : is_lost (phase_of b p) ≡ false → HoldsBuffer b p d.slot

-- ---- the job

-- the job is the last command, at this stage
pub record IsLastJob (b : Snapshot) (p : History) (stage : JobStage) (job : Job) : Type 0 where
  pub number : job.number ≡ number_of b p
  pub size : length job.buf ≡ 3968
  pub command : command_in (slice_index job.buf) ≡ last_command b p
  pub held : job.cancelled ≡ cancelled_before_claim b p
  pub at : IsAt b p stage

-- the TPM as the history leaves it
abbrev pub tpm_at : Snapshot → History → TpmParts
tpm_at b p = values_after b.tpm (executed b p)

-- the response that an emulator gives to a command: a cancel that came in time wins
abbrev pub given : Bool → TpmParts → List ℕ → List ℕ
given true t x = cancelled
given false t x = answer t [] x

-- the response to the last command
abbrev pub given_at : Snapshot → History → List ℕ
given_at b p = given (cancelled_in_emulator b p) (tpm_at b p) (last_command b p)

-- the job was run: the header of the response is here
pub record IsRunJob (b : Snapshot) (p : History) (job : Job) (head : List ℕ) : Type 0 where
  pub last : IsLastJob b p HasHeader job
  pub head_is : head ≡ take 10 (given_at b p)

-- where the last command is, by where the buffer is and how far the worker is
pub data Placed (b : Snapshot) (p : History) : Slot → Progress → Type 0 where
  AtHome : (bytes : List ℕ) → is_executing (phase_of b p) ≡ false → Placed b p (InDevice bytes) Free
  InQueue : (job : Job) → IsLastJob b p Waiting job → Placed b p (Queued job) Free
  InHand : (job : Job) → IsLastJob b p Claimed job → Placed b p ClaimedSlot (ClaimedJob job)
  OnWay : (job : Job) → IsLastJob b p HasSent job → Placed b p ClaimedSlot (SentJob job)
  Ran : (job : Job) (head : List ℕ) → IsRunJob b p job head → Placed b p ClaimedSlot (RunJob job head)

-- ---- the emulator

-- the stage of a command that is under way
abbrev pub place_of : Snapshot → History → Option JobStage
place_of b p = if is_executing (phase_of b p) then Some (stage_of b p) else None

-- the command that the emulator holds: one that was sent and isn't executed
abbrev pub held_at : Option JobStage → Bool → List ℕ → Option PendingCommand
held_at (Some HasSent) in_time x = Some (record { command = x; cancelled = in_time })
held_at _ in_time x = None

-- its TPM: a command is executed before it finishes
abbrev pub tpm_behind : Option JobStage → Bool → TpmParts → List ℕ → TpmParts
tpm_behind (Some HasHeader) false t x = values_after t (Executed x ∷ [])
tpm_behind _ in_time t x = t

-- what waits on the channel of commands: the response behind its header
abbrev pub channel_at : Option JobStage → List ℕ → ChannelState
channel_at (Some HasHeader) response = record { begun = []; pending = drop 10 response }
channel_at _ response = empty_channel

-- an emulator that is on, with this TPM and this pending command
pub record IsEmulator (d : EmulatorState) (t : TpmParts) (held : Option PendingCommand) : Type 0 where
  pub tpm : d.tpm ≡ Some t
  pub on : d.on ≡ true
  pub stored : d.stored ≡ false
  pub gathers : d.gathers ≡ no_gathers
  pub held_is : d.held ≡ held

-- behind a link, with the last command at this stage
pub record IsBehind (place : Option JobStage) (in_time : Bool) (t : TpmParts) (x : List ℕ) (l : Link) : Type 0 where
  pub emulator : IsEmulator l.emulator (tpm_behind place in_time t x) (held_at place in_time x)
  pub channel : l.commands ≡ channel_at place (given in_time t x)

-- the emulator and the channel of commands are those of the history
abbrev pub IsLinkAfter : Snapshot → History → Link → Type 0
IsLinkAfter b p l = IsBehind (place_of b p) (cancelled_in_emulator b p) (tpm_at b p) (last_command b p) l

-- ---- the injected fault that is pending

-- so many calls come before the one that is to fail; the numbers of calls begin with 1
abbrev pub IsInjected : Option ℕ → ℕ → Option ℕ → Type 0
IsInjected None count calls_to_fault = calls_to_fault ≡ None
IsInjected (Some call) count calls_to_fault = (count ≤ call - 1) × (calls_to_fault ≡ Some (call - 1 - count))

-- ---- the whole

-- The world after a history. Of a lost device's emulator only its control channel is known.
pub record RefinesAt (b : Snapshot) (p : History) (d : DeviceState) (progress : Progress) (l : Link) : Type 0 where
  pub device : IsDeviceAfter b p (collected d)
  pub job : Placed b p (collected d).slot progress
  pub quiet : IsQuiet l
  pub link : is_lost (phase_of b p) ≡ false → IsLinkAfter b p l

-- the world stands where this is known of its host
pub record RefinesOneHost (b : Snapshot) (s : OneHost) (w : WorldState) : Type 0 where
  pub fit : IsValid b.tpm
  pub stands : RefinesAt b s.history (plain_device w.device) w.progress w.link
  pub calls_to_fault : IsInjected s.injected_fault s.count w.calls_to_fault

-- one line and its reply lead on
pub record StepRefinesOneHost (b : Snapshot) (s : OneHost) (line : Line) (reply : Reply) (new : WorldState) : Type 0 where
  pub answers : IsReplyTo b s.history (fails_in s) (Some line) reply
  pub legal : Legal b s.history → Legal b (one_after b s line reply).history
  pub follows : RefinesOneHost b (one_after b s line reply) new

-- a call on the wires failed, or none did
abbrev pub CountsBy : Bool → ℕ → ℕ → Type 0
CountsBy true before now = IsCounted before now
CountsBy false before now = now ≡ before

-- a reply that names a fault comes with one more fault of the wires, and any other reply with none
abbrev pub CountsFault : Reply → ℕ → ℕ → Type 0
CountsFault reply before now = CountsBy (is_fault reply) before now

-- the world stands at the end of these lines and replies
abbrev pub Refines : Snapshot → Transcript → WorldState → Type 0
Refines b t w = RefinesOneHost b (one_of_transcript b t) w

-- one line and its reply lead on from there
abbrev pub StepRefines : Snapshot → Transcript → Line → Reply → WorldState → Type 0
StepRefines b t line reply new = StepRefinesOneHost b (one_of_transcript b t) line reply new

-- what is answered to a step of the worker
abbrev pub said : Step → Reply
said Idle = replied.Idle
said (Claim number) = replied.Claim number
said (Sent number) = replied.Sent number
said (Exec number) = replied.Exec number
said (Done number) = replied.Done number
said (Cancelled number) = replied.Cancelled number
said (Lost number) = replied.Lost number
