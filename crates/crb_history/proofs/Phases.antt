-- What a write does to the phase.
use Rattle.std.proofs.Common.{◌≡◌, ℕ, ◌≤◌, Bool, true, false, ◌&&◌, refl, arith}
use Rattle.std.proofs.lemmas.Bool.Decides.{nat_tests}
use Rattle.crb_regs.specs.Effects.{effect}
use Rattle.crb_regs.specs.Registers.{is_executing, is_lost}
use Rattle.crb_machine.specs.Phases.{is_accepted, phase_after}
use Rattle.crb_machine.specs.Steps.{is_start}
use Rattle.crb_regs.specs.declared.phase.Phase.{Phase}
use Rattle.crb_regs.specs.declared.phase.Phase.TheVariants.{Idle, Ready, Reception, Execution, Completion, Lost}
use Rattle.crb_regs.specs.declared.effect.Effect.{Effect}
use Rattle.crb_regs.specs.declared.effect.Effect.TheVariants.{Buffer, CmdReady, GoIdle, Start, Cancel, Request, Relinquish, Nothing}

-- a write to the buffer lies in the buffer
pub effect-Buffer : (at size value : ℕ) → effect at size value ≡ Buffer → 0x80 ≤ at
effect-Buffer at size value is = grind (arith, nat_tests)

-- a command begins only by a start
pub executing-phase_after : (e : Effect) (granted : Bool) (phase : Phase) → is_executing phase ≡ false → is_executing (phase_after e granted phase) ≡ (is_start e && is_accepted e granted phase)
executing-phase_after CmdReady g Idle h = cc
executing-phase_after CmdReady g _ h = cc
executing-phase_after GoIdle g Idle h = cc
executing-phase_after GoIdle g _ h = cc
executing-phase_after Buffer g Idle h = cc
executing-phase_after Buffer g _ h = cc
executing-phase_after Start true Idle h = cc
executing-phase_after Start true _ h = cc
executing-phase_after Start false Idle h = cc
executing-phase_after Start false _ h = cc
executing-phase_after (Cancel v) g Idle h = cc
executing-phase_after (Cancel v) g _ h = cc
executing-phase_after Request g Idle h = cc
executing-phase_after Request g _ h = cc
executing-phase_after Relinquish g Idle h = cc
executing-phase_after Relinquish g _ h = cc
executing-phase_after Nothing g Idle h = cc
executing-phase_after Nothing g _ h = cc

-- while a command is executed no write changes the phase, and none starts another
pub phase_after-Execution : (e : Effect) (granted : Bool) → phase_after e granted Execution ≡ Execution
phase_after-Execution CmdReady g = refl
phase_after-Execution GoIdle g = refl
phase_after-Execution Buffer g = refl
phase_after-Execution Start true = refl
phase_after-Execution Start false = refl
phase_after-Execution (Cancel v) g = refl
phase_after-Execution Request g = refl
phase_after-Execution Relinquish g = refl
phase_after-Execution Nothing g = refl

pub no_start-Execution : (e : Effect) (granted : Bool) → (is_start e && is_accepted e granted Execution) ≡ false
no_start-Execution CmdReady g = refl
no_start-Execution GoIdle g = refl
no_start-Execution Buffer g = refl
no_start-Execution Start true = refl
no_start-Execution Start false = refl
no_start-Execution (Cancel v) g = refl
no_start-Execution Request g = refl
no_start-Execution Relinquish g = refl
no_start-Execution Nothing g = refl

pub start-executes : (granted : Bool) (phase : Phase) → is_accepted Start granted phase ≡ true → phase_after Start granted phase ≡ Execution
start-executes true Reception h = refl
start-executes true Idle h = cc
start-executes true Ready h = cc
start-executes true Execution h = cc
start-executes true Completion h = cc
start-executes true Lost h = cc
start-executes false phase h = cc

-- a device isn't lost by a write
pub Lost-phase_after : (e : Effect) (granted : Bool) (phase : Phase) → phase_after e granted phase ≡ Lost → phase ≡ Lost
Lost-phase_after CmdReady g Lost h = refl
Lost-phase_after CmdReady g _ h = cc
Lost-phase_after GoIdle g Lost h = refl
Lost-phase_after GoIdle g _ h = cc
Lost-phase_after Buffer g Lost h = refl
Lost-phase_after Buffer g _ h = cc
Lost-phase_after Start true Lost h = refl
Lost-phase_after Start true _ h = cc
Lost-phase_after Start false Lost h = refl
Lost-phase_after Start false _ h = cc
Lost-phase_after (Cancel v) g Lost h = refl
Lost-phase_after (Cancel v) g _ h = cc
Lost-phase_after Request g Lost h = refl
Lost-phase_after Request g _ h = cc
Lost-phase_after Relinquish g Lost h = refl
Lost-phase_after Relinquish g _ h = cc
Lost-phase_after Nothing g Lost h = refl
Lost-phase_after Nothing g _ h = cc

-- a device that isn't lost after a write wasn't lost before
pub lives-before : (e : Effect) (granted : Bool) (phase : Phase) → is_lost (phase_after e granted phase) ≡ false → is_lost phase ≡ false
lives-before e granted Idle far = refl
lives-before e granted Ready far = refl
lives-before e granted Reception far = refl
lives-before e granted Execution far = refl
lives-before e granted Completion far = refl
lives-before e granted Lost far = go e granted far
  where
    go : (f : Effect) (g : Bool) → is_lost (phase_after f g Lost) ≡ false → true ≡ false
    go Buffer g h = h
    go CmdReady g h = h
    go GoIdle g h = h
    go Start true h = h
    go Start false h = h
    go (Cancel v) g h = h
    go Request g h = h
    go Relinquish g h = h
    go Nothing g h = h
