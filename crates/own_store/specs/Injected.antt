-- How calls of a disk in memory count, and why one fails. (Own definitions.)
use Rattle.std.specs.Prelude.{◌≡◌, ◌<◌, ◌≤◌, ℕ, ◌+◌, ◌-◌, Bool, true, false, Option, Some, None, if◌then◌else◌, nat_lt}
use Rattle.own_store.specs.MemDisk.{MemoryDisk}

-- the calls before an injected fault, after so many calls that didn't meet it
abbrev pub fewer : ℕ → Option ℕ → Option ℕ
fewer n None = None
fewer n (Some k) = Some (k - n)

abbrev pub fewer_to_loss : ℕ → Option (ℕ × Bool) → Option (ℕ × Bool)
fewer_to_loss n None = None
fewer_to_loss n (Some loss) = Some (loss.0 - n, loss.1)

-- the same after so many calls, of which the last may have met it: then it is gone
abbrev pub fewer_or_none : ℕ → Option ℕ → Option ℕ
fewer_or_none n None = None
fewer_or_none n (Some k) = if nat_lt k n then None else Some (k - n)

-- so many calls don't meet it
abbrev pub IsBeyond : ℕ → Option ℕ → Type 0
IsBeyond n None = Unit {0}
IsBeyond n (Some k) = n ≤ k

abbrev pub IsLossBeyond : ℕ → Option (ℕ × Bool) → Type 0
IsLossBeyond n None = Unit {0}
IsLossBeyond n (Some loss) = n ≤ loss.0

-- so many calls met neither an injected fault nor a loss of power
pub record PassesInjected (a : MemoryDisk) (n : ℕ) (b : MemoryDisk) : Type 0 where
  pub fault : IsBeyond n a.calls_to_fault
  pub fault_after : b.calls_to_fault ≡ fewer n a.calls_to_fault
  pub loss : IsLossBeyond n a.calls_to_loss
  pub loss_after : b.calls_to_loss ≡ fewer_to_loss n a.calls_to_loss
  pub power : b.off ≡ a.off

-- so many calls, none of which failed
pub record CallsDone (a : MemoryDisk) (n : ℕ) (b : MemoryDisk) : Type 0 where
  pub on : 0 < n → a.off ≡ false
  pub passed : PassesInjected a n b
  pub room : a.room ≡ b.room + n
  pub faults : b.faults ≡ a.faults

-- why the last of so many calls failed, where the calls before it didn't
pub data FailsAt (a : MemoryDisk) (n : ℕ) (b : MemoryDisk) : Type 0 where
  -- the disk was off, and nothing changed but the count of faults
  WasOff : (first : n ≡ 1) → (off : a.off ≡ true) → (still : b.off ≡ true) → (fault : b.calls_to_fault ≡ a.calls_to_fault) → (loss : b.calls_to_loss ≡ a.calls_to_loss) → FailsAt a n b
  -- there was no more room
  NoRoom : (full : a.room + 1 ≡ n) → (on : a.off ≡ false) → (passed : PassesInjected a n b) → FailsAt a n b
  -- power was to be lost at this call; where a fault was to come at it too, that is gone
  LostPower : (k : ℕ) → (keep : Bool) → (last : k + 1 ≡ n) → (on : a.off ≡ false) → (was : a.calls_to_loss ≡ Some (k, keep)) → (gone : b.calls_to_loss ≡ None) → (off : b.off ≡ true)
      → (before : IsBeyond k a.calls_to_fault) → (fault_after : b.calls_to_fault ≡ fewer_or_none n a.calls_to_fault) → FailsAt a n b
  -- a fault was to come at this call, and no loss of power
  FaultInjected : (k : ℕ) → (last : k + 1 ≡ n) → (on : a.off ≡ false) → (was : a.calls_to_fault ≡ Some k) → (gone : b.calls_to_fault ≡ None) → (still : b.off ≡ false)
      → (loss : IsLossBeyond n a.calls_to_loss) → (loss_after : b.calls_to_loss ≡ fewer_to_loss n a.calls_to_loss) → FailsAt a n b

-- a call begins, and is to be done
abbrev pub begun : MemoryDisk → MemoryDisk
begun d = record d { calls_to_fault = fewer 1 d.calls_to_fault; calls_to_loss = fewer_to_loss 1 d.calls_to_loss }

pub record CallBegins (a b : MemoryDisk) : Type 0 where
  pub on : a.off ≡ false
  pub room : 1 ≤ a.room
  pub fault : IsBeyond 1 a.calls_to_fault
  pub loss : IsLossBeyond 1 a.calls_to_loss
  pub after : b ≡ begun a
