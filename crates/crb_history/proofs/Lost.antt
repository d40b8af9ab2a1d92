-- A lost device.
use Rattle.std.proofs.Common.{◌≡◌, ℕ, ◌-◌, ◌++◌, Bool, true, false, [], ◌∷◌, refl, ap, sym, ◌∙◌}
use Rattle.std.specs.Prelude.{if◌then◌else◌, nat_lt}
use Rattle.crb_regs.specs.Registers.{register_byte}
use Rattle.crb_regs.specs.declared.registers.Regs.{Regs}
use Rattle.crb_regs.specs.declared.phase.Phase.{Phase}
use Rattle.crb_regs.specs.declared.phase.Phase.TheVariants.{Execution, Lost}
use Rattle.crb_regs.specs.declared.effect.Effect.{Effect}
use Rattle.crb_regs.specs.declared.effect.Effect.TheVariants.{Buffer, CmdReady, GoIdle, Start, Cancel, Request, Relinquish, Nothing}
use Rattle.crb_machine.specs.Phases.{is_accepted, phase_after}
use Rattle.crb_machine.specs.Steps.{buffer_byte}
use Rattle.crb_port.specs.declared.job.Outcome.TheVariants.{Done, Cancelled, Lost as EndedLost}
use Rattle.crb_history.specs.Snapshot.{Snapshot}
use Rattle.crb_history.specs.Event.{Event, History}
use Rattle.crb_history.specs.Event.Event.{Read, Write, Claim, Sent, Exec, Finish, Ask, Reset, ResetLost}
use Rattle.crb_history.specs.Device.{effect_of, phase_of, is_granted, registers_of, buffer, shown_byte}
use Rattle.crb_history.specs.Legal.{Legal, IsEnabled}

-- a lost device accepts no write
refused-Lost : (e : Effect) (granted : Bool) → is_accepted e granted Lost ≡ false
refused-Lost Buffer g = refl
refused-Lost CmdReady g = refl
refused-Lost GoIdle g = refl
refused-Lost Start true = refl
refused-Lost Start false = refl
refused-Lost (Cancel v) g = refl
refused-Lost Request g = refl
refused-Lost Relinquish g = refl
refused-Lost Nothing g = refl

phase_after-Lost : (e : Effect) (granted : Bool) → phase_after e granted Lost ≡ Lost
phase_after-Lost Buffer g = refl
phase_after-Lost CmdReady g = refl
phase_after-Lost GoIdle g = refl
phase_after-Lost Start true = refl
phase_after-Lost Start false = refl
phase_after-Lost (Cancel v) g = refl
phase_after-Lost Request g = refl
phase_after-Lost Relinquish g = refl
phase_after-Lost Nothing g = refl

not_executing : (phase : Phase) → phase ≡ Lost → phase ≡ Execution → ⊥
not_executing phase lost executing = let wrong : Lost ≡ Execution = sym lost ∙ executing in cc

-- one event on a lost device changes none of its registers
registers-event : (b : Snapshot) (p : History) (e : Event) → IsEnabled b p e → phase_of b p ≡ Lost → registers_of b (e ∷ p) ≡ registers_of b p
registers-event b p (Read a v) may lost = refl
registers-event b p (Write a) may lost = rw (lost, refused-Lost (effect_of a) (is_granted b p), phase_after-Lost (effect_of a) (is_granted b p)) refl
registers-event b p Claim may lost = refl
registers-event b p Sent may lost = refl
registers-event b p Exec may lost = refl
registers-event b p (Finish Done) may lost = absurd (not_executing (phase_of b p) lost may.executing)
registers-event b p (Finish Cancelled) may lost = absurd (not_executing (phase_of b p) lost may.0.executing)
registers-event b p (Finish EndedLost) may lost = absurd (not_executing (phase_of b p) lost may.executing)
registers-event b p (Ask arrived) may lost = refl
registers-event b p Reset may lost = absurd (may.working lost)
registers-event b p ResetLost may lost = absurd (may.working lost)

-- nor do more of them
pub registers-Lost : (b : Snapshot) (p more : History) → Legal b (more ++ p) → phase_of b p ≡ Lost → registers_of b (more ++ p) ≡ registers_of b p
registers-Lost b p [] legal lost = refl
registers-Lost b p (e ∷ more) legal lost =
    let before : registers_of b (more ++ p) ≡ registers_of b p = registers-Lost b p more legal.0 lost in
    registers-event b (more ++ p) e legal.1 (ap (λ (r : Regs). r.phase) before ∙ lost) ∙ before

pub phase-Lost : (b : Snapshot) (p more : History) → Legal b (more ++ p) → phase_of b p ≡ Lost → phase_of b (more ++ p) ≡ Lost
phase-Lost b p more legal lost = ap (λ (r : Regs). r.phase) (registers-Lost b p more legal lost) ∙ lost

-- a page by its registers alone, where the buffer isn't shown
same-page : (below : Bool) (regs now : Regs) (phase after : Phase) (i held other : ℕ) → now ≡ regs → phase ≡ Lost → after ≡ Lost
    → (if below then register_byte now i else buffer_byte after other) ≡ (if below then register_byte regs i else buffer_byte phase held)
same-page true regs now phase after i held other same lost still = ap (λ r. register_byte r i) same
same-page false regs now phase after i held other same lost still = rw (lost, still) refl

pub shows-Lost : (b : Snapshot) (p more : History) → Legal b (more ++ p) → phase_of b p ≡ Lost → (i : ℕ) → shown_byte b (more ++ p) i ≡ shown_byte b p i
shows-Lost b p more legal lost i =
    same-page (nat_lt i 0x80) (registers_of b p) (registers_of b (more ++ p)) (phase_of b p) (phase_of b (more ++ p)) i (buffer b p (i - 0x80)) (buffer b (more ++ p) (i - 0x80))
    (registers-Lost b p more legal lost) lost (phase-Lost b p more legal lost)
