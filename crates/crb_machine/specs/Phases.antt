-- What a write does in each phase.
use Rattle.std.specs.Prelude.{Bool, true, false, Option, Some, None, is_some, unwrap_or}
use Rattle.crb_regs.specs.declared.phase.Phase.{Phase}
use Rattle.crb_regs.specs.declared.phase.Phase.TheVariants.{Idle, Ready, Reception, Execution, Completion, Lost}
use Rattle.crb_regs.specs.declared.effect.Effect.{Effect}
use Rattle.crb_regs.specs.declared.effect.Effect.TheVariants.{Buffer, CmdReady, GoIdle, Start, Cancel, Request, Relinquish, Nothing}

-- The phase after a write of this effect, with access granted or not. `None` where the write isn't accepted.
abbrev pub next_phase : Effect → Bool → Phase → Option Phase
next_phase CmdReady granted Idle = Some Ready
next_phase CmdReady granted Completion = Some Ready
next_phase CmdReady granted _ = None
next_phase GoIdle granted Ready = Some Idle
next_phase GoIdle granted Reception = Some Idle
next_phase GoIdle granted Completion = Some Idle
next_phase GoIdle granted _ = None
next_phase Buffer granted Ready = Some Reception
next_phase Buffer granted Reception = Some Reception
next_phase Buffer granted _ = None
next_phase Start true Reception = Some Execution
next_phase Start _ _ = None
next_phase (Cancel value) granted Lost = None
next_phase (Cancel value) granted phase = Some phase
next_phase Request granted Lost = None
next_phase Request granted phase = Some phase
next_phase Relinquish granted Lost = None
next_phase Relinquish granted phase = Some phase
next_phase Nothing granted phase = None

abbrev pub is_accepted : Effect → Bool → Phase → Bool
is_accepted effect granted phase = is_some (next_phase effect granted phase)

abbrev pub phase_after : Effect → Bool → Phase → Phase
phase_after effect granted phase = unwrap_or (next_phase effect granted phase) phase

-- whether access is granted after an accepted write of this effect
abbrev pub granted_after : Effect → Bool → Bool
granted_after Request granted = true
granted_after Relinquish granted = false
granted_after _ granted = granted

-- the value of CANCEL after an accepted write of this effect
abbrev pub cancel_after : Effect → Bool → Bool
cancel_after (Cancel value) cancel = value
cancel_after _ cancel = cancel
