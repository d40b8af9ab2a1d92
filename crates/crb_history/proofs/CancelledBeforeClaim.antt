-- A cancel that held a command back was asked for.
use Rattle.std.proofs.Common.{◌≡◌, Bool, true, false, ◌&&◌, ◌||◌, [], ◌∷◌, refl, cond}
use Rattle.crb_history.specs.Snapshot.{Snapshot}
use Rattle.crb_history.specs.Event.{History}
use Rattle.crb_history.specs.Event.Event.{Read, Write, Claim, Sent, Exec, Finish, Ask, Reset, ResetLost}
use Rattle.crb_history.specs.Device.{effect_of, is_cancel, accepts, starts, stage_of}
use Rattle.crb_history.specs.Cancelling.{cancelled_before_claim, cancel_requested, is_waiting, sets_cancel}

pub held-asked : (b : Snapshot) (h : History) → cancelled_before_claim b h ≡ true → cancel_requested b h ≡ true
held-asked b [] is = is
held-asked b (Write a ∷ p) is = go (starts b p a) (cancelled_before_claim b p) (cancel_requested b p) (sets_cancel (effect_of a)) (accepts b p a) (is_waiting (stage_of b p)) (is_cancel b p) (held-asked b p) is
  where
    go : (begins held asked sets accepted waiting cancel : Bool) → (held ≡ true → asked ≡ true) → cond begins cancel (held || (sets && accepted && waiting)) ≡ true → cond begins cancel (asked || (sets && accepted)) ≡ true
    go true held asked sets accepted waiting cancel before h = h
    go false true asked sets accepted waiting cancel before h = rw (before refl) refl
    go false false true sets accepted waiting cancel before h = refl
    go false false false true true waiting cancel before h = refl
    go false false false true false waiting cancel before h = cc
    go false false false false accepted waiting cancel before h = cc
held-asked b (Ask arrived ∷ p) is = rw (held-asked b p is) refl
held-asked b (Read a v ∷ p) is = held-asked b p is
held-asked b (Claim ∷ p) is = held-asked b p is
held-asked b (Sent ∷ p) is = held-asked b p is
held-asked b (Exec ∷ p) is = held-asked b p is
held-asked b (Finish outcome ∷ p) is = held-asked b p is
held-asked b (Reset ∷ p) is = held-asked b p is
held-asked b (ResetLost ∷ p) is = held-asked b p is
