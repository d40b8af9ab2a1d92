-- How a run of disk calls goes on.
use Rattle.std.proofs.Common.{inl, inr, ⊎_elim, ℕ, refl, sym, subst, arith}
use Rattle.own_store.specs.Disk.{Image, Torn, OutcomesFollow, IsDurable, Elapses, LeavesOnly}

-- what a torn write leaves of the one image that there was
pub torn_has : (P : Image → Type 0) (at count : ℕ) (image : Image) (old new : Image → Type 0) → ((c : Image) → Torn at count image c → P c) → IsDurable image old → OutcomesFollow (Torn at count) old new → (c : Image) → new c → P c
torn_has P at count image old new has only follows c left =
    let from = follows c left in
    has c (subst (λ (d : Image). Torn at count d c) (only from.0 from.1) from.2)

pub untorn : (at count : ℕ) (image : Image) → Torn at count image image
untorn at count image = record { before = λ i lt. refl; behind = λ i le. refl }

module _ {D : Type 0} (moment : D → ℕ) (left_since : D → ℕ → Image → Type 0) where
  -- before the first call
  pub started : (old : D) (P : Image → Type 0) → ((c : Image) → left_since old (moment old) c → P c) → LeavesOnly moment left_since old old P
  started old P here = record { later = omega arith; each = here; before = λ t c le left. inl left }

  -- one call more, after which a crash leaves what has P
  pub goes_on : (old mid new : D) (P may_leave : Image → Type 0) → LeavesOnly moment left_since old mid P → Elapses (moment mid) (moment new) (left_since mid) (left_since new) may_leave
      → ((c : Image) → may_leave c → P c) → LeavesOnly moment left_since old new P
  goes_on old mid new P may_leave so_far time here = record {
    later = omega (arith, so_far.later, time.later);
    each = λ c left. ⊎_elim (so_far.each c) (here c) (time.nothing_else (moment old) c so_far.later left);
    before = λ t c le left. ⊎_elim (so_far.before t c le) (λ now. inr (here c now)) (time.nothing_else t c (omega (arith, le, so_far.later)) left);
  }

  pub weaker : (old new : D) (P Q : Image → Type 0) → ((c : Image) → P c → Q c) → LeavesOnly moment left_since old new P → LeavesOnly moment left_since old new Q
  weaker old new P Q follows run = record {
    later = run.later;
    each = λ c left. follows c (run.each c left);
    before = λ t c le left. ⊎_elim (λ earlier. inl earlier) (λ has. inr (follows c has)) (run.before t c le left);
  }

  -- one part after another
  pub joined : (old mid new : D) (P : Image → Type 0) → LeavesOnly moment left_since old mid P → LeavesOnly moment left_since mid new P → LeavesOnly moment left_since old new P
  joined old mid new P first second = record {
    later = omega (arith, first.later, second.later);
    each = λ c left. ⊎_elim (first.each c) (λ has. has) (second.before (moment old) c first.later left);
    before = λ t c le left. ⊎_elim (first.before t c le) (λ has. inr has) (second.before t c (omega (arith, le, first.later)) left);
  }

  -- a write and a sync
  module _ (may_leave : D → Image → Type 0) (content : D → Image) (at count : ℕ) (P : Image → Type 0) (old mid : D)
      (only_now : (c : Image) → left_since old (moment old) c → may_leave old c) (only : IsDurable (content old) (may_leave old))
      (has : (c : Image) → Torn at count (content old) c → P c)
      (follows : OutcomesFollow (Torn at count) (may_leave old) (may_leave mid))
      (time : Elapses (moment old) (moment mid) (left_since old) (left_since mid) (may_leave mid)) where
    left_has : (c : Image) → may_leave mid c → P c
    left_has = torn_has P at count (content old) (may_leave old) (may_leave mid) has only follows

    pub after_write : LeavesOnly moment left_since old mid P
    after_write =
        goes_on old old mid P (may_leave mid)
        (started old P (λ c left. has c (subst (λ (d : Image). Torn at count (content old) d) (sym (only c (only_now c left))) (untorn at count (content old)))))
        time left_has

    pub after_sync : (new : D) → ((c : Image) → may_leave new c → may_leave mid c) → Elapses (moment mid) (moment new) (left_since mid) (left_since new) (may_leave new) → LeavesOnly moment left_since old new P
    after_sync new fewer time = goes_on old mid new P (may_leave new) after_write time (λ c left. left_has c (fewer c left))
