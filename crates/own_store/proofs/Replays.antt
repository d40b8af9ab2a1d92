-- What one call leaves, and what it might have left.
use Rattle.std.proofs.Common.{◌≡◌, inl, inr, ⊎_elim, ℕ, ◌+◌, ◌≤◌, Bool, true, false, List, [], ◌∷◌, ◌++◌, length, refl, sym, ◌∙◌, ap, subst, ◌-◌, ◌*◌, arith}
use Rattle.own_store.specs.Disk.{Image, Elapses, Torn, OutcomesFollow, Written}
use Rattle.own_store.specs.Steps.{Step, State, after, state, IsLeft, LeftSince, byte_at, overwritten}
use Rattle.vt_base.specs.Buffer.{zeros}
use Rattle.own_store.specs.Steps.Step.{Wrote, Synced, Lost, Nothing}
use Rattle.own_store.specs.MemDisk.{MemoryDisk, MayHaveLost, IsConsistentDisk, with_step}
use Rattle.own_store.specs.Injected.{CallBegins}
use Rattle.own_store.specs.Logged.{LoggedCalls}
use Rattle.own_store.proofs.Steps.{state-push, elapses, elapses_none}
use Rattle.own_store.proofs.Moments.{untorn}
use Rattle.own_store.proofs.Lists.{written}

pub state_to : (xs ys : List Step) (x : Step) → ys ≡ xs ++ x ∷ [] → state ys ≡ after (state xs) x
state_to xs ys x is = ap state is ∙ state-push xs x

pub elapses_to : (xs ys : List Step) (x : Step) → ys ≡ xs ++ x ∷ [] → Elapses (length xs) (length ys) (LeftSince xs) (LeftSince ys) (IsLeft (state ys))
elapses_to xs ys x is = subst (λ (l : List Step). Elapses (length xs) (length l) (LeftSince xs) (LeftSince l) (IsLeft (state l))) (sym is) (elapses xs x)

-- the step of a call that began and was done
pub step_added : (a b c : MemoryDisk) (x : Step) → CallBegins a b → c ≡ with_step (b.steps ++ x ∷ []) (b.room - 1) b → c.steps ≡ a.steps ++ x ∷ []
step_added a b c x begins done = ap (λ (d : MemoryDisk). d.steps) done ∙ ap (λ (d : MemoryDisk). d.steps ++ x ∷ []) begins.after

elapses_same : (xs ys : List Step) → ys ≡ xs → Elapses (length xs) (length ys) (LeftSince xs) (LeftSince ys) (IsLeft (state ys))
elapses_same xs ys is = subst (λ (l : List Step). Elapses (length xs) (length l) (LeftSince xs) (LeftSince l) (IsLeft (state l))) (sym is) (elapses_none xs)

pub elapses_lost : (xs ys : List Step) → MayHaveLost xs ys → Elapses (length xs) (length ys) (LeftSince xs) (LeftSince ys) (IsLeft (state ys))
elapses_lost xs ys (keep, inl is) = elapses_same xs ys is
elapses_lost xs ys (keep, inr is) = elapses_to xs ys (Lost keep) is

left_lost : (keep : Bool) (s : State) (c : Image) → IsLeft (after s (Lost keep)) c → IsLeft s c
left_lost true s c left = ⊎_elim (λ is. inl is) (λ is. inl is) left
left_lost false s c left = ⊎_elim (λ is. inr is) (λ is. inr is) left

-- a step after which a crash leaves only what it could have left before
abbrev pub IsFewer : Step → Type 0
IsFewer (Wrote at bytes) = ⊥
IsFewer step = Unit {0}

left_fewer : (x : Step) → IsFewer x → (s : State) (c : Image) → IsLeft (after s x) c → IsLeft s c
left_fewer (Wrote at bytes) fewer s c left = absurd fewer
left_fewer Synced fewer s c left = ⊎_elim (λ is. inl is) (λ is. inl is) left
left_fewer (Lost keep) fewer s c left = left_lost keep s c left
left_fewer Nothing fewer s c left = left

pub fewer_to : (xs ys : List Step) (x : Step) → IsFewer x → ys ≡ xs ++ x ∷ [] → (c : Image) → IsLeft (state ys) c → IsLeft (state xs) c
fewer_to xs ys x fewer is c left = left_fewer x fewer (state xs) c (subst (λ (s : State). IsLeft s c) (state_to xs ys x is) left)

pub fewer_lost : (xs ys : List Step) → MayHaveLost xs ys → (c : Image) → IsLeft (state ys) c → IsLeft (state xs) c
fewer_lost xs ys (keep, inl is) c left = subst (λ (l : List Step). IsLeft (state l) c) is left
fewer_lost xs ys (keep, inr is) c left = fewer_to xs ys (Lost keep) tt is c left

-- what a call that failed leaves is torn in no place
pub torn_lost : (xs ys : List Step) (at count : ℕ) → MayHaveLost xs ys → OutcomesFollow (Torn at count) (IsLeft (state xs)) (IsLeft (state ys))
torn_lost xs ys at count lost c left = (c, fewer_lost xs ys lost c left, untorn at count c)

-- what a write leaves is torn in its range
pub torn_write : (xs ys : List Step) (at : ℕ) (bytes : List ℕ) → ys ≡ xs ++ Wrote at bytes ∷ [] → Written at bytes (byte_at (state xs).content) (byte_at (state ys).content) → OutcomesFollow (Torn at (length bytes)) (IsLeft (state xs)) (IsLeft (state ys))
torn_write xs ys at bytes is wrote c (inl now) =
    (byte_at (state xs).content, inl refl, subst (λ (d : Image). Torn at (length bytes) (byte_at (state xs).content) d) (sym now) wrote.elsewhere)
torn_write xs ys at bytes is wrote c (inr durable) =
    (c, inr (durable ∙ ap (λ (s : State). byte_at s.synced) (state_to xs ys (Wrote at bytes) is)), untorn at (length bytes) c)

-- after a sync there is what a read gives
pub only_synced : (xs ys : List Step) → ys ≡ xs ++ Synced ∷ [] → (c : Image) → IsLeft (state ys) c → c ≡ byte_at (state xs).content
only_synced xs ys is c left =
    ⊎_elim (λ same. same) (λ same. same) (subst (λ (s : State). IsLeft s c) (state_to xs ys Synced is) left)

-- ---- what the fields of a disk keep

state_after : (content synced : List ℕ) (old new : LoggedCalls) (pending : Bool) (room : ℕ) (x : Step) → IsConsistentDisk content synced old pending room → new.steps ≡ old.steps ++ x ∷ []
    → state new.steps ≡ after (record { content = content; synced = synced }) x
state_after content synced old new pending room x consistent is =
    state_to old.steps new.steps x is ∙ (λ i. after (record { content = sym consistent.now i; synced = sym consistent.durable i }) x)

pub consistent_after_write : (content synced : List ℕ) (old new : LoggedCalls) (pending : Bool) (room room' at : ℕ) (bytes : List ℕ) → IsConsistentDisk content synced old pending room → 1 ≤ room → room' ≡ room - 1
    → new.steps ≡ old.steps ++ Wrote at bytes ∷ [] → new.entries ≡ old.entries - 1 → old.bytes - length bytes ≤ new.bytes → length bytes ≤ 16384
    → IsConsistentDisk (overwritten content at bytes) synced new true room'
consistent_after_write content synced old new pending room room' at bytes consistent enough fewer is entries left short =
    let to = state_after content synced old new pending room (Wrote at bytes) consistent is in record {
      now = sym (ap (λ (s : State). s.content) to);
      durable = sym (ap (λ (s : State). s.synced) to);
      still = λ no. absurd (cc);
      entries = omega (arith, entries, consistent.entries, enough, fewer);
      entry_for_loss = λ _. omega (arith, entries, consistent.entries, enough, fewer);
      bytes = omega (arith, left, consistent.bytes, enough, fewer, short);
    }

pub consistent_after_sync : (content synced : List ℕ) (old new : LoggedCalls) (pending : Bool) (room room' : ℕ) → IsConsistentDisk content synced old pending room → 1 ≤ room → room' ≡ room - 1
    → new.steps ≡ old.steps ++ Synced ∷ [] → new.entries ≡ old.entries - 1 → new.bytes ≡ old.bytes → IsConsistentDisk content content new false room'
consistent_after_sync content synced old new pending room room' consistent enough fewer is entries left =
    let to = state_after content synced old new pending room Synced consistent is in record {
      now = sym (ap (λ (s : State). s.content) to);
      durable = sym (ap (λ (s : State). s.synced) to);
      still = λ _. refl;
      entries = omega (arith, entries, consistent.entries, enough, fewer);
      entry_for_loss = λ no. absurd (cc);
      bytes = omega (arith, left, consistent.bytes, enough, fewer);
    }

pub consistent_after_read : (content synced : List ℕ) (old new : LoggedCalls) (pending : Bool) (room room' : ℕ) → IsConsistentDisk content synced old pending room → 1 ≤ room → room' ≡ room - 1
    → new.steps ≡ old.steps ++ Nothing ∷ [] → new.entries ≡ old.entries - 1 → new.bytes ≡ old.bytes → IsConsistentDisk content synced new pending room'
consistent_after_read content synced old new pending room room' consistent enough fewer is entries left =
    let to = state_after content synced old new pending room Nothing consistent is in record {
      now = sym (ap (λ (s : State). s.content) to);
      durable = sym (ap (λ (s : State). s.synced) to);
      still = consistent.still;
      entries = omega (arith, entries, consistent.entries, enough, fewer);
      entry_for_loss = λ is. omega (arith, entries, consistent.entry_for_loss is, enough, fewer);
      bytes = omega (arith, left, consistent.bytes, enough, fewer);
    }

both_same : (keep : Bool) (s : State) → (after s (Lost keep)).content ≡ (after s (Lost keep)).synced
both_same true s = refl
both_same false s = refl

pub consistent_after_loss : (content synced content' synced' : List ℕ) (old new : LoggedCalls) (pending keep : Bool) (room : ℕ) → IsConsistentDisk content synced old pending room → pending ≡ true
    → new.steps ≡ old.steps ++ Lost keep ∷ [] → new.entries ≡ old.entries - 1 → new.bytes ≡ old.bytes
    → content' ≡ (after (record { content = content; synced = synced }) (Lost keep)).content → synced' ≡ (after (record { content = content; synced = synced }) (Lost keep)).synced
    → IsConsistentDisk content' synced' new false room
consistent_after_loss content synced content' synced' old new pending keep room consistent waits is entries left first second =
    let to = state_after content synced old new pending room (Lost keep) consistent is in record {
      now = first ∙ sym (ap (λ (s : State). s.content) to);
      durable = second ∙ sym (ap (λ (s : State). s.synced) to);
      still = λ _. first ∙ both_same keep (record { content = content; synced = synced }) ∙ sym second;
      entries = omega (arith, entries, consistent.entry_for_loss waits);
      entry_for_loss = λ no. absurd (cc);
      bytes = omega (arith, left, consistent.bytes);
    }

-- what a read gives after a loss of power is what a crash could have left
pub lost_content : (xs ys : List Step) (keep : Bool) → ys ≡ xs ++ Lost keep ∷ [] → IsLeft (state xs) (byte_at (state ys).content)
lost_content xs ys keep is = fewer_to xs ys (Lost keep) tt is (byte_at (state ys).content) (inl refl)

-- a write over what a read gives
pub written_to : (content synced : List ℕ) (old new : LoggedCalls) (pending : Bool) (room at : ℕ) (bytes : List ℕ) → IsConsistentDisk content synced old pending room → new.steps ≡ old.steps ++ Wrote at bytes ∷ [] → at + length bytes ≤ length content
    → Written at bytes (byte_at (state old.steps).content) (byte_at (state new.steps).content)
written_to content synced old new pending room at bytes consistent is inside =
    let to : overwritten content at bytes ≡ (state new.steps).content = sym (ap (λ (s : State). s.content) (state_after content synced old new pending room (Wrote at bytes) consistent is)) in
    subst (λ (l : List ℕ). Written at bytes (byte_at l) (byte_at (state new.steps).content)) consistent.now
    (subst (λ (l : List ℕ). Written at bytes (byte_at content) (byte_at l)) to (written content at bytes inside))

-- a disk of zeros
pub consistent_at_start : (logged : LoggedCalls) → logged.steps ≡ [] → 33 ≤ logged.entries → 16 * 16384 ≤ logged.bytes → IsConsistentDisk (zeros 16384) (zeros 16384) logged false 16
consistent_at_start logged none entries bytes = record {
  now = sym (ap (λ (l : List Step). (state l).content) none);
  durable = sym (ap (λ (l : List Step). (state l).synced) none);
  still = λ _. refl;
  entries = omega (arith, entries);
  entry_for_loss = λ no. absurd (cc);
  bytes = bytes;
}
