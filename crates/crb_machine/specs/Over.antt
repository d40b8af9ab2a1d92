-- A device over any port: what each call does to the device's own values, and what it does at the port. (Own definitions.)
use Rattle.std.specs.Prelude.{◌≡◌, ◌-◌, ℕ, List, [], Bool, true, false, not, Option, Some, None, is_some, option_map, IfSome, Result, Ok, Err, unwrap_or}
use Rattle.vt_base.specs.Buffer.{zeros}
use Rattle.crb_regs.specs.LittleEndian.{byte_of}
use Rattle.crb_regs.specs.Access.{Access}
use Rattle.crb_regs.specs.Effects.{effect}
use Rattle.crb_regs.specs.Registers.{is_executing, reset_regs}
use Rattle.crb_regs.specs.declared.registers.Regs.{Regs}
use Rattle.crb_regs.specs.declared.phase.Phase.{Phase}
use Rattle.crb_regs.specs.declared.phase.Phase.TheVariants.{Idle, Execution, Lost}
use Rattle.crb_regs.specs.declared.effect.Effect.{Effect}
use Rattle.crb_regs.specs.declared.effect.Effect.TheVariants.{Buffer, CmdReady, GoIdle, Start, Cancel}
use Rattle.crb_port.specs.Views.{PortView}
use Rattle.crb_port.specs.Calls.{Queues, Cancels, Collects, Pulls}
use Rattle.crb_port.specs.declared.job.PortState.{PortState}
use Rattle.crb_port.specs.declared.job.PortState.TheVariants as port_state
use Rattle.crb_port.specs.declared.job.Answer.{Answer}
use Rattle.crb_port.specs.declared.job.Pull.{Pull}
use Rattle.crb_port.specs.declared.job.Pull.TheVariants as pulled
use Rattle.crb_machine.specs.Phases.{next_phase, granted_after, cancel_after}
use Rattle.crb_machine.specs.Content.{overwritten}
use Rattle.crb_machine.specs.State.{DeviceState, Slot}
use Rattle.crb_machine.specs.State.Slot.{InDevice, Queued, Claimed, Answered}
use Rattle.crb_machine.specs.Values.{held_values, waiting_job}
use Rattle.crb_machine.specs.Steps.{ended_phase, page_byte, number_after}
use Rattle.crb_machine.specs.Model.{DeviceModel}
use Rattle.crb_machine.specs.declared.device.NotYet.{NotYet}

-- what stands belongs to the job of this number
abbrev pub IsNumbered : ℕ → PortState → Type 0
IsNumbered number port_state.Nothing = Unit {0}
IsNumbered number (port_state.Waiting job) = job.number ≡ number
IsNumbered number (port_state.Claimed claimed) = claimed ≡ number
IsNumbered number (port_state.Answered answer) = answer.number ≡ number

-- The port is free exactly where the buffer is in the device: in a held device always, otherwise where no command is executed. Only
-- a held device has the mark of a job, while its command is executed. The buffer of an idle device is zeros.
pub record IsConsistentDevice {P : Type 0} (port_view : P → PortView) (d : DeviceModel P) : Type 0 where
  pub port : (port_view d.port).is_free ≡ is_some d.own_buffer
  pub held : d.held ≡ true → is_some d.own_buffer ≡ true
  pub phase : d.held ≡ false → is_executing d.regs.phase ≡ not (is_some d.own_buffer)
  pub mark : d.held ≡ false → d.cancelled ≡ false
  pub waits : d.cancelled ≡ true → d.regs.phase ≡ Execution
  pub idle : d.regs.phase ≡ Idle → d.own_buffer ≡ Some (zeros 3968)
  pub number : IfSome (port_view d.port).state (IsNumbered d.number)

-- where the buffer is, by whether it is in the device and by what stands in the port
abbrev pub slot_at : Option (List ℕ) → PortState → Slot
slot_at (Some buf) s = InDevice buf
slot_at None (port_state.Waiting job) = Queued job
slot_at None (port_state.Answered answer) = Answered answer
slot_at None _ = Claimed

-- the device by its own values and by what stands in its port
abbrev pub placed : Regs → ℕ → Option (List ℕ) → PortState → DeviceState
placed regs number own_buffer s = record { regs = regs; number = number; slot = slot_at own_buffer s }

-- the device, where the state of its port is known
abbrev pub state_of : {P : Type 0} → (P → PortView) → DeviceModel P → Option DeviceState
state_of port_view d = option_map (placed d.regs d.number d.own_buffer) (port_view d.port).state

-- the device over a `PlainPort`, whose state is always known
abbrev pub plain_device : DeviceModel PortState → DeviceState
plain_device d = placed d.regs d.number d.own_buffer d.port

-- the number of the job that is claimed
abbrev pub claimed_number_at : Slot → ℕ → Option ℕ
claimed_number_at Claimed number = Some number
claimed_number_at _ number = None

-- where its state is known, the port's claimed number is the device's where its job is claimed
abbrev pub HasClaimedNumber : {P : Type 0} → (P → PortView) → DeviceModel P → Type 0
HasClaimedNumber port_view d = IfSome (state_of port_view d) (λ s. (port_view d.port).claimed_number ≡ claimed_number_at s.slot s.number)

-- a device's own values, beside its port
pub record OwnParts : Type 0 where
  pub regs : Regs
  pub number : ℕ
  pub own_buffer : Option (List ℕ)
  pub held : Bool
  pub cancelled : Bool

-- the device's own values
abbrev pub own_parts : {P : Type 0} → DeviceModel P → OwnParts
own_parts d = record { regs = d.regs; number = d.number; own_buffer = d.own_buffer; held = d.held; cancelled = d.cancelled }

-- the device with this answer taken
abbrev pub with_answer : {P : Type 0} → Answer → DeviceModel P → P → DeviceModel P
with_answer answer d port = record d {
  regs = record d.regs { phase = ended_phase answer.outcome };
  own_buffer = Some answer.buf;
  port = port;
}

-- the device once it looked for an answer
abbrev pub collected_into : {P : Type 0} → Option Answer → DeviceModel P → P → DeviceModel P
collected_into None d port = record d { port = port }
collected_into (Some answer) d port = with_answer answer d port

-- an answer that stood was taken back; while the buffer is in the device nothing was done
abbrev pub CollectsAnswerAt : {P : Type 0} → Option (List ℕ) → (P → PortView) → DeviceModel P → DeviceModel P → Type 0
CollectsAnswerAt (Some buf) port_view d e = e ≡ d
CollectsAnswerAt None port_view d e = (found : Option Answer) × Collects (port_view d.port) found (port_view e.port) × (e ≡ collected_into found d e.port)

-- an answer that stood was taken back
abbrev pub CollectsAnswer : {P : Type 0} → (P → PortView) → DeviceModel P → DeviceModel P → Type 0
CollectsAnswer port_view d e = CollectsAnswerAt d.own_buffer port_view d e

-- the byte of the page that a guest reads
abbrev pub own_byte : {P : Type 0} → DeviceModel P → ℕ → ℕ
own_byte d = page_byte d.regs (unwrap_or d.own_buffer [])

-- the registers after an accepted write of this effect, which leads to this phase
abbrev pub regs_after : Effect → Phase → Regs → Regs
regs_after e phase regs = record { granted = granted_after e regs.granted; cancel = cancel_after e regs.cancel; phase = phase }

-- the buffer in the device after an accepted write
abbrev pub buffer_after : Effect → Access → Option (List ℕ) → Option (List ℕ)
buffer_after Buffer a (Some buf) = Some (overwritten buf (a.offset - 0x80) (byte_of (unwrap_or a.write 0)) a.size)
buffer_after CmdReady a (Some buf) = Some (zeros 3968)
buffer_after GoIdle a (Some buf) = Some (zeros 3968)
buffer_after Start a own_buffer = None
buffer_after _ a own_buffer = own_buffer

-- what an accepted write does at the port: START queues the buffer, and a 1 in CANCEL cancels the job while it is away
abbrev pub AtPort : {P : Type 0} → (P → PortView) → Effect → ℕ → DeviceModel P → Option (List ℕ) → P → Type 0
AtPort port_view Start number d (Some buf) port = Queues (port_view d.port) (record { number = number; cancelled = d.regs.cancel; buf = buf }) (port_view port)
AtPort port_view (Cancel true) number d None port = (hit : Bool) × Cancels (port_view d.port) hit (port_view port)
AtPort port_view _ number d own_buffer port = port ≡ d.port

-- what a write does that leads to this phase, or isn't accepted
abbrev pub Acts : {P : Type 0} → (P → PortView) → Option Phase → Effect → Access → DeviceModel P → DeviceModel P → Type 0
Acts port_view None f a d e = e ≡ d
Acts port_view (Some phase) f a d e =
    (e ≡ record d { regs = regs_after f phase d.regs; number = number_after f d.number; own_buffer = buffer_after f a d.own_buffer; port = e.port })
    × AtPort port_view f (number_after f d.number) d d.own_buffer e.port

-- what a write does once an answer that stood is taken
abbrev pub WritesTo : {P : Type 0} → (P → PortView) → DeviceModel P → Access → DeviceModel P → Type 0
WritesTo port_view d a e =
    let f = effect a.offset a.size (unwrap_or a.write 0) in
    Acts port_view (next_phase f d.regs.granted d.regs.phase) f a d e

-- a write: an answer that stood was taken back, and then the phase table says what was done
abbrev pub Writes : {P : Type 0} → (P → PortView) → DeviceModel P → Access → DeviceModel P → Type 0
Writes {P} port_view d a e = (collected_into : DeviceModel P) × CollectsAnswer port_view d collected_into × WritesTo port_view collected_into a e

-- the device once it pulled back what stood in its port: a job that was never executed keeps its mark
abbrev pub BroughtBackBy : {P : Type 0} → Pull → DeviceModel P → DeviceModel P → Type 0
BroughtBackBy (pulled.Job job) d e = e ≡ record d { own_buffer = Some job.buf; held = true; cancelled = job.cancelled; port = e.port }
BroughtBackBy (pulled.Answer answer) d e = e ≡ record (with_answer answer d e.port) { held = true }
BroughtBackBy _ d e = ⊥

-- the buffer was brought back by a pull; where it was in the device the port was left alone
abbrev pub BringsBackAt : {P : Type 0} → Option (List ℕ) → (P → PortView) → DeviceModel P → DeviceModel P → Type 0
BringsBackAt (Some buf) port_view d e = e ≡ record d { held = true }
BringsBackAt None port_view d e = (found : Pull) × Pulls (port_view d.port) found (port_view e.port) × BroughtBackBy found d e

-- the buffer was brought back, and the device is held
abbrev pub BringsBack : {P : Type 0} → (P → PortView) → DeviceModel P → DeviceModel P → Type 0
BringsBack port_view d e = BringsBackAt d.own_buffer port_view d e

-- the pull found the job claimed, and nothing else was done
pub record IsBusy {P : Type 0} (port_view : P → PortView) (d e : DeviceModel P) : Type 0 where
  pub away : d.own_buffer ≡ None
  pub pulls : Pulls (port_view d.port) pulled.Busy (port_view e.port)
  pub same : e ≡ record d { port = e.port }

-- a stop: the buffer was brought back, or the job is claimed
abbrev pub Stops : {P : Type 0} → (P → PortView) → DeviceModel P → Result Unit NotYet → DeviceModel P → Type 0
Stops port_view d (Ok done) e = BringsBack port_view d e
Stops port_view d (Err not_yet) e = (not_yet ≡ record { number = d.number }) × IsBusy port_view d e

-- the held device goes on, by whether a command is executed: its job is queued again, with its bytes and its mark
abbrev pub GoesOnIf : {P : Type 0} → Bool → (P → PortView) → DeviceModel P → DeviceModel P → Type 0
GoesOnIf true port_view d e =
    (e ≡ record d { own_buffer = None; held = false; cancelled = false; port = e.port })
    × Queues (port_view d.port) (waiting_job (held_values d)) (port_view e.port)
GoesOnIf false port_view d e = e ≡ record d { held = false; cancelled = false }

-- the held device goes on
abbrev pub GoesOn : {P : Type 0} → (P → PortView) → DeviceModel P → DeviceModel P → Type 0
GoesOn port_view d e = GoesOnIf (is_executing d.regs.phase) port_view d e

-- the stopped device with the reset values, by its phase: one that is lost keeps its own
abbrev pub reset_parts_at : {P : Type 0} → Phase → DeviceModel P → DeviceModel P
reset_parts_at Lost d = record d { held = false; cancelled = false }
reset_parts_at _ d = record d { regs = reset_regs; own_buffer = Some (zeros 3968); held = false; cancelled = false }

-- the stopped device with the reset values
abbrev pub reset_parts : {P : Type 0} → DeviceModel P → DeviceModel P
reset_parts d = reset_parts_at d.regs.phase d

-- a reset: a stop that brought the buffer back, and then the reset values; or the job is claimed
abbrev pub Resets : {P : Type 0} → (P → PortView) → DeviceModel P → Result Unit NotYet → DeviceModel P → Type 0
Resets {P} port_view d (Ok done) e = (stopped : DeviceModel P) × BringsBack port_view d stopped × (e ≡ reset_parts stopped)
Resets port_view d (Err not_yet) e = (not_yet ≡ record { number = d.number }) × IsBusy port_view d e
