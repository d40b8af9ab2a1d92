-- The laws of a disk's calls, for a disk in memory.
use Rattle.std.specs.Prelude.{◌≡◌, ◌<◌, ℕ, zero, suc, ◌+◌, ◌-◌, Bool, true, false, Option, Some, None, List, refl}
use Rattle.std.proofs.Common.{sym, ◌∙◌, ap, subst, arith}
use Rattle.std.proofs.lemmas.Bool.Decides.{nat_tests}
use Rattle.own_store.specs.MemDisk.{MemoryDisk, with_step}
use Rattle.own_store.specs.Steps.{Step}
use Rattle.own_store.specs.Injected.{fewer, fewer_to_loss, fewer_or_none, IsBeyond, IsLossBeyond, PassesInjected, CallsDone, FailsAt, CallBegins, begun}
use Rattle.own_store.specs.Injected.FailsAt.{WasOff, NoRoom, LostPower, FaultInjected}

-- ---- one call

pub begun_and_done : (a b c : MemoryDisk) (steps : List Step) → CallBegins a b → c ≡ with_step steps (b.room - 1) b → CallsDone a 1 c
begun_and_done a b c steps begins done =
    let to : c ≡ with_step steps (a.room - 1) (begun a) = done ∙ (λ i. with_step steps ((begins.after i).room - 1) (begins.after i)) in record {
      on = λ _. begins.on;
      passed = record {
        fault = begins.fault;
        fault_after = ap (λ (d : MemoryDisk). d.calls_to_fault) to;
        loss = begins.loss;
        loss_after = ap (λ (d : MemoryDisk). d.calls_to_loss) to;
        power = ap (λ (d : MemoryDisk). d.off) to;
      };
      room = omega (arith, ap (λ (d : MemoryDisk). d.room) to, begins.room);
      faults = ap (λ (d : MemoryDisk). d.faults) to;
    }

-- ---- none

none_before : (o : Option ℕ) → IsBeyond 0 o
none_before None = tt
none_before (Some k) = omega arith

none_fewer : (o : Option ℕ) → o ≡ fewer 0 o
none_fewer None = refl
none_fewer (Some k) = let same : k ≡ k - 0 = omega arith in ap (λ (n : ℕ). Some n) same

none_before_loss : (o : Option (ℕ × Bool)) → IsLossBeyond 0 o
none_before_loss None = tt
none_before_loss (Some loss) = omega arith

none_fewer_loss : (o : Option (ℕ × Bool)) → o ≡ fewer_to_loss 0 o
none_fewer_loss None = refl
none_fewer_loss (Some loss) = let same : loss.0 ≡ loss.0 - 0 = omega arith in (λ i. Some (same i, loss.1))

pub no_calls_done : (d : MemoryDisk) → CallsDone d 0 d
no_calls_done d = record {
  on = λ lt. absurd (omega (arith, lt));
  passed = record {
    fault = none_before d.calls_to_fault;
    fault_after = none_fewer d.calls_to_fault;
    loss = none_before_loss d.calls_to_loss;
    loss_after = none_fewer_loss d.calls_to_loss;
    power = refl;
  };
  room = omega arith;
  faults = refl;
}

-- ---- some and some more

both_beyond : (o : Option ℕ) (m n : ℕ) → IsBeyond m o → IsBeyond n (fewer m o) → IsBeyond (m + n) o
both_beyond None m n one two = tt
both_beyond (Some k) m n one two = omega arith

both_fewer : (o : Option ℕ) (m n : ℕ) → fewer n (fewer m o) ≡ fewer (m + n) o
both_fewer None m n = refl
both_fewer (Some k) m n = let same : k - m - n ≡ k - (m + n) = omega arith in ap (λ (j : ℕ). Some j) same

both_beyond_loss : (o : Option (ℕ × Bool)) (m n : ℕ) → IsLossBeyond m o → IsLossBeyond n (fewer_to_loss m o) → IsLossBeyond (m + n) o
both_beyond_loss None m n one two = tt
both_beyond_loss (Some loss) m n one two = omega arith

both_fewer_loss : (o : Option (ℕ × Bool)) (m n : ℕ) → fewer_to_loss n (fewer_to_loss m o) ≡ fewer_to_loss (m + n) o
both_fewer_loss None m n = refl
both_fewer_loss (Some loss) m n = let same : loss.0 - m - n ≡ loss.0 - (m + n) = omega arith in (λ i. Some (same i, loss.1))

both_passed : (a b c : MemoryDisk) (m n : ℕ) → PassesInjected a m b → PassesInjected b n c → PassesInjected a (m + n) c
both_passed a b c m n one two = record {
  fault = both_beyond a.calls_to_fault m n one.fault (subst (IsBeyond n) one.fault_after two.fault);
  fault_after = two.fault_after ∙ ap (fewer n) one.fault_after ∙ both_fewer a.calls_to_fault m n;
  loss = both_beyond_loss a.calls_to_loss m n one.loss (subst (IsLossBeyond n) one.loss_after two.loss);
  loss_after = two.loss_after ∙ ap (fewer_to_loss n) one.loss_after ∙ both_fewer_loss a.calls_to_loss m n;
  power = two.power ∙ one.power;
}

-- where some calls were done on a disk, or it is on later, it was on
was_on : (a b : MemoryDisk) (m : ℕ) → CallsDone a m b → b.off ≡ false → a.off ≡ false
was_on a b m one on = sym one.passed.power ∙ on

on_at_first : (a b : MemoryDisk) (m n : ℕ) → CallsDone a m b → (0 < n → b.off ≡ false) → 0 < m + n → a.off ≡ false
on_at_first a b m zero one on lt = one.on (omega (arith, lt))
on_at_first a b m (suc n) one on lt = was_on a b m one (on (omega arith))

pub calls_done_join : (a b c : MemoryDisk) (m n : ℕ) → CallsDone a m b → CallsDone b n c → CallsDone a (m + n) c
calls_done_join a b c m n one two = record {
  on = on_at_first a b m n one two.on;
  passed = both_passed a b c m n one.passed two.passed;
  room = omega (arith, one.room, two.room);
  faults = two.faults ∙ one.faults;
}

-- ---- some, and one that fails

-- what is injected after some calls, before them
was_injected : (o : Option ℕ) (m k : ℕ) → IsBeyond m o → fewer m o ≡ Some k → o ≡ Some (m + k)
was_injected None m k beyond is = absurd (cc is)
was_injected (Some j) m k beyond is = let same : j - m ≡ k = cc is in let sum : j ≡ m + k = omega (arith, same, beyond) in ap (λ (n : ℕ). Some n) sum

abbrev loss_of : Option (ℕ × Bool) → ℕ × Bool
loss_of None = (0, false)
loss_of (Some loss) = loss

was_to_lose : (o : Option (ℕ × Bool)) (m k : ℕ) (keep : Bool) → IsLossBeyond m o → fewer_to_loss m o ≡ Some (k, keep) → o ≡ Some (m + k, keep)
was_to_lose None m k keep beyond is = absurd (cc is)
was_to_lose (Some (j, flag)) m k keep beyond is =
    let same : j - m ≡ k = ap (λ (o : Option (ℕ × Bool)). (loss_of o).0) is in
    let kind : flag ≡ keep = ap (λ (o : Option (ℕ × Bool)). (loss_of o).1) is in
    let sum : j ≡ m + k = omega (arith, same, beyond) in
    (λ i. Some (sum i, kind i))

both_or_none : (o : Option ℕ) (m n : ℕ) → IsBeyond m o → fewer_or_none n (fewer m o) ≡ fewer_or_none (m + n) o
both_or_none None m n beyond = refl
both_or_none (Some k) m n beyond = grind (arith, nat_tests)

-- no call was done before one that failed since the disk was off
none_was_done : (a b : MemoryDisk) (m : ℕ) → CallsDone a m b → b.off ≡ true → m ≡ 0
none_was_done a b zero one off = refl
none_was_done a b (suc m) one off = let on : a.off ≡ false = one.on (omega arith) in let same = one.passed.power in absurd (cc)

pub failure_joins_calls : (a b c : MemoryDisk) (m n : ℕ) → CallsDone a m b → FailsAt b n c → FailsAt a (m + n) c
failure_joins_calls a b c m n one (WasOff first off still fault loss) =
    let none : m ≡ 0 = none_was_done a b m one off in
    let same_fault : b.calls_to_fault ≡ a.calls_to_fault = one.passed.fault_after ∙ (λ i. fewer (none i) a.calls_to_fault) ∙ sym (none_fewer a.calls_to_fault) in
    let same_loss : b.calls_to_loss ≡ a.calls_to_loss = one.passed.loss_after ∙ (λ i. fewer_to_loss (none i) a.calls_to_loss) ∙ sym (none_fewer_loss a.calls_to_loss) in
    WasOff (omega (arith, none, first)) (sym one.passed.power ∙ off) still (fault ∙ same_fault) (loss ∙ same_loss)
failure_joins_calls a b c m n one (NoRoom full on passed) = NoRoom (omega (arith, one.room, full)) (was_on a b m one on) (both_passed a b c m n one.passed passed)
failure_joins_calls a b c m n one (LostPower k keep last on was gone off before fault_after) =
    LostPower (m + k) keep (omega (arith, last)) (was_on a b m one on) (was_to_lose a.calls_to_loss m k keep one.passed.loss (sym one.passed.loss_after ∙ was)) gone off
    (both_beyond a.calls_to_fault m k one.passed.fault (subst (IsBeyond k) one.passed.fault_after before))
    (fault_after ∙ ap (fewer_or_none n) one.passed.fault_after ∙ both_or_none a.calls_to_fault m n one.passed.fault)
failure_joins_calls a b c m n one (FaultInjected k last on was gone still loss loss_after) =
    FaultInjected (m + k) (omega (arith, last)) (was_on a b m one on) (was_injected a.calls_to_fault m k one.passed.fault (sym one.passed.fault_after ∙ was)) gone still
    (both_beyond_loss a.calls_to_loss m n one.passed.loss (subst (IsLossBeyond n) one.passed.loss_after loss))
    (loss_after ∙ ap (fewer_to_loss n) one.passed.loss_after ∙ both_fewer_loss a.calls_to_loss m n)

-- ---- one call that fails: a counts it for the fault and gives b, b counts it for the loss of power and gives c

none_or_fewer : (o : Option ℕ) → IsBeyond 1 o → fewer 1 o ≡ fewer_or_none 1 o
none_or_fewer None beyond = refl
none_or_fewer (Some k) beyond = grind (arith, nat_tests)

counted_to_fault : (a b : MemoryDisk) (comes : Bool) → (comes ≡ true → (a.calls_to_fault ≡ Some 0) × (b ≡ record a { calls_to_fault = None }))
    → (comes ≡ false → IsBeyond 1 a.calls_to_fault × (b ≡ record a { calls_to_fault = fewer 1 a.calls_to_fault })) → b ≡ record a { calls_to_fault = fewer_or_none 1 a.calls_to_fault }
counted_to_fault a b true met beyond = let is = met refl in is.1 ∙ (λ i. record a { calls_to_fault = fewer_or_none 1 (sym is.0 i) })
counted_to_fault a b false met beyond = let is = beyond refl in is.1 ∙ (λ i. record a { calls_to_fault = none_or_fewer a.calls_to_fault is.0 i })

pub fails_by_loss : (a b c d e : MemoryDisk) (comes keep : Bool) (steps : List Step) (faults : ℕ) → a.off ≡ false
    → (comes ≡ true → (a.calls_to_fault ≡ Some 0) × (b ≡ record a { calls_to_fault = None }))
    → (comes ≡ false → IsBeyond 1 a.calls_to_fault × (b ≡ record a { calls_to_fault = fewer 1 a.calls_to_fault }))
    → (b.calls_to_loss ≡ Some (0, keep)) × (c ≡ record b { calls_to_loss = None }) → d ≡ record c { steps = steps; off = true } → e ≡ record d { faults = faults } → FailsAt a 1 e
fails_by_loss a b c d e comes keep steps faults on met beyond loss lost counts =
    let to = counted_to_fault a b comes met beyond in
    LostPower 0 keep refl on (sym (ap (λ (d : MemoryDisk). d.calls_to_loss) to) ∙ loss.0)
    (ap (λ (d : MemoryDisk). d.calls_to_loss) counts ∙ ap (λ (d : MemoryDisk). d.calls_to_loss) lost ∙ ap (λ (d : MemoryDisk). d.calls_to_loss) loss.1)
    (ap (λ (d : MemoryDisk). d.off) counts ∙ ap (λ (d : MemoryDisk). d.off) lost)
    (none_before a.calls_to_fault)
    (ap (λ (d : MemoryDisk). d.calls_to_fault) counts ∙ ap (λ (d : MemoryDisk). d.calls_to_fault) lost ∙ ap (λ (d : MemoryDisk). d.calls_to_fault) loss.1 ∙ ap (λ (d : MemoryDisk). d.calls_to_fault) to)

pub fails_by_fault : (a b c d : MemoryDisk) (faults : ℕ) → a.off ≡ false → (a.calls_to_fault ≡ Some 0) × (b ≡ record a { calls_to_fault = None })
    → IsLossBeyond 1 b.calls_to_loss × (c ≡ record b { calls_to_loss = fewer_to_loss 1 b.calls_to_loss }) → d ≡ record c { faults = faults } → FailsAt a 1 d
fails_by_fault a b c d faults on met loss counts =
    let same = ap (λ (d : MemoryDisk). d.calls_to_loss) met.1 in
    FaultInjected 0 refl on met.0
    (ap (λ (d : MemoryDisk). d.calls_to_fault) counts ∙ ap (λ (d : MemoryDisk). d.calls_to_fault) loss.1 ∙ ap (λ (d : MemoryDisk). d.calls_to_fault) met.1)
    (ap (λ (d : MemoryDisk). d.off) counts ∙ ap (λ (d : MemoryDisk). d.off) loss.1 ∙ ap (λ (d : MemoryDisk). d.off) met.1 ∙ on)
    (subst (IsLossBeyond 1) same loss.0)
    (ap (λ (d : MemoryDisk). d.calls_to_loss) counts ∙ ap (λ (d : MemoryDisk). d.calls_to_loss) loss.1 ∙ ap (fewer_to_loss 1) same)
