-- Cancelling, looked back at.
use Rattle.std.specs.Prelude.{Bool, true, false, ◌||◌, ◌&&◌, if◌then◌else◌, [], ◌∷◌}
use Rattle.crb_regs.specs.declared.effect.Effect.{Effect}
use Rattle.crb_regs.specs.declared.effect.Effect.TheVariants.{Cancel}
use Rattle.crb_history.specs.Snapshot.{Snapshot}
use Rattle.crb_history.specs.Event.{History}
use Rattle.crb_history.specs.Event.Event.{Write, Sent, Ask}
use Rattle.crb_history.specs.Device.{effect_of, is_cancel, accepts, starts, stage_of, JobStage}
use Rattle.crb_history.specs.Device.JobStage.{Waiting, HasSent}

abbrev pub is_waiting : JobStage → Bool
is_waiting Waiting = true
is_waiting _ = false

abbrev pub is_sent : JobStage → Bool
is_sent HasSent = true
is_sent _ = false

-- whether the write asks for a cancel
abbrev pub sets_cancel : Effect → Bool
sets_cancel (Cancel value) = value
sets_cancel _ = false

-- CANCEL was 1 at the last start, or was set before the claim
abbrev pub cancelled_before_claim : Snapshot → History → Bool
cancelled_before_claim b [] = b.device.cancelled
cancelled_before_claim b (Write a ∷ p) =
    if starts b p a then is_cancel b p
    else (cancelled_before_claim b p || (sets_cancel (effect_of a) && accepts b p a && is_waiting (stage_of b p)))
cancelled_before_claim b (_ ∷ p) = cancelled_before_claim b p

-- a cancel was asked for since the last start, or CANCEL was 1 at it
abbrev pub cancel_requested : Snapshot → History → Bool
cancel_requested b [] = b.device.cancelled
cancel_requested b (Write a ∷ p) =
    if starts b p a then is_cancel b p
    else (cancel_requested b p || (sets_cancel (effect_of a) && accepts b p a))
cancel_requested b (Ask arrived ∷ p) = cancel_requested b p || arrived
cancel_requested b (_ ∷ p) = cancel_requested b p

-- a cancel arrived beside the registers after the last command was sent and before it was executed
abbrev pub cancelled_in_emulator : Snapshot → History → Bool
cancelled_in_emulator b [] = false
cancelled_in_emulator b (Write a ∷ p) = if starts b p a then false else cancelled_in_emulator b p
cancelled_in_emulator b (Sent ∷ p) = false
cancelled_in_emulator b (Ask arrived ∷ p) = cancelled_in_emulator b p || (arrived && is_sent (stage_of b p))
cancelled_in_emulator b (_ ∷ p) = cancelled_in_emulator b p
