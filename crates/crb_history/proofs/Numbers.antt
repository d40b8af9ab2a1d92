-- Starts and executions are counted by the numbers and the lists that they leave.
use Rattle.std.proofs.Common.{◌≡◌, ℕ, ◌+◌, ◌%◌, ◌^◌, ◌<◌, Bool, true, false, List, [], ◌∷◌, refl, ap, ◌∙◌, arith}
use Rattle.std.specs.Prelude.{if◌then◌else◌}
use Rattle.crb_regs.specs.Registers.{is_executing}
use Rattle.crb_port.specs.declared.job.Outcome.TheVariants.{Done, Cancelled, Lost}
use Rattle.crb_history.specs.Snapshot.{Snapshot}
use Rattle.crb_history.specs.Event.{History}
use Rattle.crb_history.specs.Event.Event.{Read, Write, Claim, Sent, Exec, Finish, Ask, Reset, ResetLost}
use Rattle.crb_history.specs.Device.{starts, started, number_of, latest_number, executed, waiting_start}
use Rattle.crb_history.specs.Counts.{start_count, done_count, execution_count}

-- the number after one more start
one_more : (n k : ℕ) → ((n + k) % 2 ^ 64 + 1) % 2 ^ 64 ≡ (n + (k + 1)) % 2 ^ 64
one_more n k = omega arith

-- before any start of the history the number is the base's
waiting-number : (b : Snapshot) → latest_number b.device.number (waiting_start b) ≡ b.device.number
waiting-number b = go (is_executing b.device.phase) _
  where
    go : (executing : Bool) (command : List ℕ) → latest_number b.device.number (if executing then record { number = b.device.number; command = command } ∷ [] else []) ≡ b.device.number
    go true command = refl
    go false command = refl

pub number-counts : (b : Snapshot) (p : History) → b.device.number < 2 ^ 64 → number_of b p ≡ (b.device.number + start_count b p) % 2 ^ 64
number-counts b [] fits = waiting-number b ∙ omega arith
number-counts b (Write a ∷ p) fits = go (starts b p a) _ (ap (λ n. (n + 1) % 2 ^ 64) (number-counts b p fits) ∙ one_more b.device.number (start_count b p)) (number-counts b p fits)
  where
    go : (begins : Bool) (command : List ℕ) → (number_of b p + 1) % 2 ^ 64 ≡ (b.device.number + (start_count b p + 1)) % 2 ^ 64 → number_of b p ≡ (b.device.number + start_count b p) % 2 ^ 64
        → latest_number b.device.number (if begins then record { number = (number_of b p + 1) % 2 ^ 64; command = command } ∷ started b p else started b p) ≡ (b.device.number + (if begins then start_count b p + 1 else start_count b p)) % 2 ^ 64
    go true command more same = more
    go false command more same = same
number-counts b (Read a v ∷ p) fits = number-counts b p fits
number-counts b (Claim ∷ p) fits = number-counts b p fits
number-counts b (Sent ∷ p) fits = number-counts b p fits
number-counts b (Exec ∷ p) fits = number-counts b p fits
number-counts b (Finish outcome ∷ p) fits = number-counts b p fits
number-counts b (Ask arrived ∷ p) fits = number-counts b p fits
number-counts b (Reset ∷ p) fits = number-counts b p fits
number-counts b (ResetLost ∷ p) fits = number-counts b p fits

pub done-executed : (b : Snapshot) (p : History) → execution_count (executed b p) ≡ done_count p
done-executed b [] = refl
done-executed b (Finish Done ∷ p) = ap (λ n. n + 1) (done-executed b p)
done-executed b (Finish Cancelled ∷ p) = done-executed b p
done-executed b (Finish Lost ∷ p) = done-executed b p
done-executed b (Write a ∷ p) = done-executed b p
done-executed b (Read a v ∷ p) = done-executed b p
done-executed b (Claim ∷ p) = done-executed b p
done-executed b (Sent ∷ p) = done-executed b p
done-executed b (Exec ∷ p) = done-executed b p
done-executed b (Ask arrived ∷ p) = done-executed b p
done-executed b (Reset ∷ p) = done-executed b p
done-executed b (ResetLost ∷ p) = done-executed b p
