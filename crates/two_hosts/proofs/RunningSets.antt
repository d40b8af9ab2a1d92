-- The set that the replies give is the set of the hosts that run.
use Rattle.std.proofs.Common.{◌≡◌, ℕ, ◌+◌, ◌⊎◌, inl, inr, Bool, true, false, ◌&&◌, ◌||◌, List, [], ◌∷◌, Option, Some, None, refl, sym, ◌∙◌, ap, subst}
use Rattle.std.specs.Prelude.{◌-◌, ◌^◌, ◌==◌}
use Rattle.std.proofs.lemmas.Bool.{cond_both, cond-true, cond-false}
use Rattle.crb_history.specs.Snapshot.{Snapshot}
use Rattle.crb_history.specs.Continued.{snapshot_after}
use Rattle.crb_history.specs.Device.{phase_of, number_of}
use Rattle.vt_transcript.specs.Replies.{IsReplyTo, is_under_way, Transcript, is_fault}
use Rattle.crb_regs.specs.Registers.{is_lost}
use Rattle.vt_script.specs.declared.event.Event.{Event}
use Rattle.vt_script.specs.declared.event.Event.TheVariants as line
use Rattle.vt_script.specs.declared.reply.Reply.{Reply}
use Rattle.vt_base.specs.declared.types.HostName.{HostName}
use Rattle.vt_base.specs.declared.types.HostName.TheVariants.{A, B}
use Rattle.move_codec.specs.declared.message.Message.{Message}
use Rattle.move_core.specs.declared.stage.MoveStage.{MoveStage}
use Rattle.move_core.specs.declared.stage.MoveStage.TheVariants as stage
use Rattle.move_core.specs.declared.side.Side.{Side}
use Rattle.move_core.specs.declared.side.Side.TheVariants.{Empty, Running, Draining, Offering, Released, Filling, Prepared}
use Rattle.move_core.specs.declared.answers.Delivered.{Delivered}
use Rattle.move_core.specs.declared.answers.Delivered.TheVariants as delivers
use Rattle.move_core.specs.Sides.{other, side_of, is_running, is_draining, holds_device}
use Rattle.vt_script.specs.declared.event.Event.TheVariants.{Offer, Deliver, GiveUp, Again, Show}
use Rattle.vt_script.specs.declared.reply.Reply.TheVariants as reply
use Rattle.two_hosts.specs.Deliveries.{Outcome, delivered, calls_of_delivery}
use Rattle.two_hosts.specs.Hosts.{fails_at, next_number, TwoHosts, HostState, hosts_after, first_hosts, host_of, stage_at, with_host, with_outcome, host_where, running_host, working_host, is_working, is_leaving, is_prepared, host_at, host_after_guest, after_work, after_work_at, message_at, context_for, counted, after_message, after_delivery, after_offer, offered_by, after_give_up, after_again, guest_line_on, guest_line_on_any, after_line, after_exchange}
use Rattle.two_hosts.specs.Replies.{AnswersIn, AnswersLine, AnswersOn, AnswersWork, AnswersWorkAt, InTurn, draining_reply, gave_reply, offer_reply, deliver_reply, delivery_reply, meets_fault, give_up_reply, again_reply, show_reply}
use Rattle.two_hosts.specs.Invariant.{HostsInvariant, IsHolder, IsPassive, side_at, shown_side}
use Rattle.two_hosts.specs.RunningSet.{RunningSet, contains, insert, without_source, drained, after_reply, running_set}
use Rattle.two_hosts.proofs.InvariantKept.{host_where_cases, running_stage, leaving_stage, guest_kept, step_ends, run_kept}
use Rattle.two_hosts.proofs.GuestReplies.{IsOfDevice, replies_of_device}
use Rattle.two_hosts.proofs.RestActs as rest
use Rattle.two_hosts.proofs.Shifts.{runs_on, active_on, drains_on, working_on, draining_on, IsQuiet, IsWaiting, Shift, shift, quiet_or_same}
use Rattle.two_hosts.proofs.Shifts.Shift.{same as kept_side, waits as now_waits, releases as now_released, runs as now_runs, resumes as now_resumes}

-- the side that a host shows
abbrev pub shown : TwoHosts → HostName → Side
shown t n = side_of (stage_at t n)

pub twice_other : (n : HostName) → other (other n) ≡ n
twice_other A = refl
twice_other B = refl

pub same_or_other : (n to : HostName) → (n ≡ to) ⊎ (n ≡ other to)
same_or_other A A = inl refl
same_or_other B B = inl refl
same_or_other A B = inr refl
same_or_other B A = inr refl

put_same : (n : HostName) (r : RunningSet) → contains (insert n r) n ≡ true
put_same A r = refl
put_same B r = refl

put_other : (n : HostName) (r : RunningSet) → contains (insert n r) (other n) ≡ contains r (other n)
put_other A r = refl
put_other B r = refl

put_drains : (n : HostName) (r : RunningSet) → (insert n r).drains ≡ r.drains
put_drains A r = refl
put_drains B r = refl

put_source : (n : HostName) (r : RunningSet) → (insert n r).source ≡ r.source
put_source A r = refl
put_source B r = refl

abbrev pub one_drains : TwoHosts → Bool
one_drains t = drains_on (shown t A) || drains_on (shown t B)

-- by either host's name
drains_beside : (t : TwoHosts) (n : HostName) → one_drains t ≡ (drains_on (shown t n) || drains_on (shown t (other n)))
drains_beside t A = refl
drains_beside t B = or_comm (drains_on (shown t A)) (drains_on (shown t B))
  where
    or_comm : (a b : Bool) → (a || b) ≡ (b || a)
    or_comm true true = refl
    or_comm true false = refl
    or_comm false true = refl
    or_comm false false = refl

-- the set and the source are those of the sides
pub record Agrees (t : TwoHosts) (r : RunningSet) : Type 0 where
  pub runs : (n : HostName) → contains r n ≡ runs_on (shown t n)
  pub drains : r.drains ≡ one_drains t
  pub offers : (n : HostName) (e : ℕ) → shown t n ≡ Offering e → r.source ≡ n
  pub released : (n : HostName) (e : ℕ) → shown t n ≡ Released e → shown t (other n) ≡ Prepared e → r.source ≡ n

-- both sides are as they were
same_sides : (t new : TwoHosts) (r : RunningSet) → ((n : HostName) → shown new n ≡ shown t n) → Agrees t r → Agrees new r
same_sides t new r all old = record { runs = λ n. old.runs n ∙ ap runs_on (sym (all n)); drains = old.drains ∙ ap (λ x. drains_on x || drains_on (shown t B)) (sym (all A)) ∙ ap (λ x. drains_on (shown new A) || drains_on x) (sym (all B)); offers = λ n e is. old.offers n e (sym (all n) ∙ is); released = λ n e is at. old.released n e (sym (all n) ∙ is) (sym (all (other n)) ∙ at) }

-- one host changes its side and the other doesn't
module _ (t new : TwoHosts) (to : HostName) (side : Side) (acted : shown new to ≡ side) (still : shown new (other to) ≡ shown t (other to)) (r : RunningSet) (old : Agrees t r) where
  still_other : (n : HostName) → n ≡ other to → shown new n ≡ shown t n
  still_other n is = subst (λ k. shown new k ≡ shown t k) (sym is) still

  acted_at : (n : HostName) → n ≡ to → shown new n ≡ side
  acted_at n is = subst (λ k. shown new k ≡ side) (sym is) acted

  now_drains : one_drains new ≡ (drains_on side || drains_on (shown t (other to)))
  now_drains = drains_beside new to ∙ ap (λ x. drains_on x || drains_on (shown new (other to))) acted ∙ ap (λ x. drains_on side || drains_on x) still

  -- it drains as it did before
  same_drains : drains_on (shown t to) ≡ drains_on side → r.drains ≡ one_drains new
  same_drains same = old.drains ∙ drains_beside t to ∙ ap (λ x. x || drains_on (shown t (other to))) same ∙ sym now_drains

  pub agrees_still : side ≡ shown t to → Agrees new r
  agrees_still same = same_sides t new r (λ n. go n (same_or_other n to)) old
    where
      go : (n : HostName) → (n ≡ to) ⊎ (n ≡ other to) → shown new n ≡ shown t n
      go n (inl is) = subst (λ k. shown new k ≡ shown t k) (sym is) (acted ∙ same)
      go n (inr is) = still_other n is

  -- the host was not running and isn't
  pub agrees_waits : IsWaiting side → active_on (shown t to) ≡ false → ((e : ℕ) → shown t (other to) ≡ Released e → shown t to ≡ Prepared e) → Agrees new r
  agrees_waits waits passive handed = record { runs = λ n. runs n (same_or_other n to); drains = same_drains (undrained (shown t to) passive ∙ waits_off side waits); offers = λ n e is. offers n e is (same_or_other n to); released = λ n e is at. released n e is (same_or_other n to) }
    where
      undrained : (s : Side) → active_on s ≡ false → drains_on s ≡ false
      undrained Empty h = refl
      undrained (Released e) h = refl
      undrained (Filling e) h = refl
      undrained (Prepared e) h = refl
      undrained (Offering e) h = refl
      undrained Running h = refl
      undrained Draining h = absurd cc

      waits_off : (s : Side) → IsWaiting s → false ≡ drains_on s
      waits_off Empty h = refl
      waits_off (Filling e) h = refl
      waits_off (Prepared e) h = refl
      waits_off (Released e) h = refl
      waits_off (Offering e) h = refl
      waits_off Running h = refl
      waits_off Draining h = absurd h

      no_run : (s : Side) → active_on s ≡ false → false ≡ runs_on s
      no_run Empty h = refl
      no_run (Released e) h = refl
      no_run (Filling e) h = refl
      no_run (Prepared e) h = refl
      no_run (Offering e) h = refl
      no_run Running h = sym h
      no_run Draining h = sym h

      waiting : (s : Side) → IsWaiting s → false ≡ runs_on s
      waiting Empty h = refl
      waiting (Filling e) h = refl
      waiting (Prepared e) h = refl
      waiting (Released e) h = refl
      waiting (Offering e) h = refl
      waiting Running h = absurd h
      waiting Draining h = absurd h

      runs : (n : HostName) → (n ≡ to) ⊎ (n ≡ other to) → contains r n ≡ runs_on (shown new n)
      runs n (inl is) = old.runs n ∙ ap (λ k. runs_on (shown t k)) is ∙ sym (no_run (shown t to) passive) ∙ waiting side waits ∙ ap runs_on (sym (acted_at n is))
      runs n (inr is) = old.runs n ∙ ap runs_on (sym (still_other n is))

      offers : (n : HostName) (e : ℕ) → shown new n ≡ Offering e → (n ≡ to) ⊎ (n ≡ other to) → r.source ≡ n
      offers n e at (inl is) = absurd (let wrong : IsWaiting (Offering e) = subst IsWaiting (sym (acted_at n is) ∙ at) waits in wrong)
      offers n e at (inr is) = old.offers n e (sym (still_other n is) ∙ at)

      released : (n : HostName) (e : ℕ) → shown new n ≡ Released e → (n ≡ to) ⊎ (n ≡ other to) → r.source ≡ n
      released n e at (inl is) = absurd (let wrong : IsWaiting (Released e) = subst IsWaiting (sym (acted_at n is) ∙ at) waits in wrong)
      released n e at (inr is) =
          let there : shown t n ≡ Released e = sym (still_other n is) ∙ at in
          let prepared : shown t to ≡ Prepared e = handed e (ap (shown t) (sym is) ∙ there) in
          old.released n e there (ap (shown t) (ap other is ∙ twice_other to) ∙ prepared)

  -- the host that offered is released
  pub agrees_releases : (e : ℕ) → shown t to ≡ Offering e → side ≡ Released e → Agrees new r
  agrees_releases e was now = record { runs = λ n. runs n (same_or_other n to); drains = same_drains (ap drains_on was ∙ ap drains_on (sym now)); offers = λ n d is. offers n d is (same_or_other n to); released = λ n d is at. released n d is at (same_or_other n to) }
    where
      runs : (n : HostName) → (n ≡ to) ⊎ (n ≡ other to) → contains r n ≡ runs_on (shown new n)
      runs n (inl is) = old.runs n ∙ ap (λ k. runs_on (shown t k)) is ∙ ap runs_on was ∙ ap runs_on (sym now) ∙ ap runs_on (sym (acted_at n is))
      runs n (inr is) = old.runs n ∙ ap runs_on (sym (still_other n is))

      offers : (n : HostName) (d : ℕ) → shown new n ≡ Offering d → (n ≡ to) ⊎ (n ≡ other to) → r.source ≡ n
      offers n d at (inl is) = absurd (let wrong : Released e ≡ Offering d = sym now ∙ sym (acted_at n is) ∙ at in cc)
      offers n d at (inr is) = old.offers n d (sym (still_other n is) ∙ at)

      released : (n : HostName) (d : ℕ) → shown new n ≡ Released d → shown new (other n) ≡ Prepared d → (n ≡ to) ⊎ (n ≡ other to) → r.source ≡ n
      released n d at next (inl is) = old.offers to e was ∙ sym is
      released n d at next (inr is) = absurd (let wrong : Released e ≡ Prepared d = sym now ∙ sym (acted_at (other n) (ap other is ∙ twice_other to)) ∙ next in cc)

  -- the host runs from now on
  pub agrees_runs : side ≡ Running → drains_on (shown t to) ≡ false → Agrees new (insert to r)
  agrees_runs now undrained = record { runs = λ n. runs n (same_or_other n to); drains = put_drains to r ∙ same_drains (undrained ∙ ap drains_on (sym now)); offers = λ n d is. offers n d is (same_or_other n to); released = λ n d is at. released n d is at (same_or_other n to) }
    where
      runs : (n : HostName) → (n ≡ to) ⊎ (n ≡ other to) → contains (insert to r) n ≡ runs_on (shown new n)
      runs n (inl is) = ap (contains (insert to r)) is ∙ put_same to r ∙ ap runs_on (sym now) ∙ ap runs_on (sym (acted_at n is))
      runs n (inr is) = ap (contains (insert to r)) is ∙ put_other to r ∙ ap (contains r) (sym is) ∙ old.runs n ∙ ap runs_on (sym (still_other n is))

      offers : (n : HostName) (d : ℕ) → shown new n ≡ Offering d → (n ≡ to) ⊎ (n ≡ other to) → (insert to r).source ≡ n
      offers n d at (inl is) = absurd (let wrong : Running ≡ Offering d = sym now ∙ sym (acted_at n is) ∙ at in cc)
      offers n d at (inr is) = put_source to r ∙ old.offers n d (sym (still_other n is) ∙ at)

      released : (n : HostName) (d : ℕ) → shown new n ≡ Released d → shown new (other n) ≡ Prepared d → (n ≡ to) ⊎ (n ≡ other to) → (insert to r).source ≡ n
      released n d at next (inl is) = absurd (let wrong : Running ≡ Released d = sym now ∙ sym (acted_at n is) ∙ at in cc)
      released n d at next (inr is) = absurd (let wrong : Running ≡ Prepared d = sym now ∙ sym (acted_at (other n) (ap other is ∙ twice_other to)) ∙ next in cc)

  -- the worker of the host goes on, as it did
  pub agrees_turns : (d : Bool) → runs_on side ≡ true → runs_on (shown t to) ≡ true → d ≡ (drains_on side || drains_on (shown t (other to))) → Agrees new (record r { drains = d })
  agrees_turns d now was drains = record { runs = λ n. runs n (same_or_other n to); drains = drains ∙ sym now_drains; offers = λ n e is. offers n e is (same_or_other n to); released = λ n e is at. released n e is at (same_or_other n to) }
    where
      set : RunningSet
      set = record r { drains = d }

      same_set : (n : HostName) → contains (record r { drains = d }) n ≡ contains r n
      same_set A = refl
      same_set B = refl

      at_work : (s side : Side) → s ≡ side → runs_on side ≡ true → runs_on s ≡ true
      at_work s side is works = ap runs_on is ∙ works

      not_offering : (s : Side) (e : ℕ) → s ≡ Offering e → runs_on s ≡ true → ⊥
      not_offering s e is works = let wrong : false ≡ true = sym (ap runs_on is) ∙ works in cc

      not_released : (s : Side) (e : ℕ) → s ≡ Released e → runs_on s ≡ true → ⊥
      not_released s e is works = let wrong : false ≡ true = sym (ap runs_on is) ∙ works in cc

      not_prepared : (s : Side) (e : ℕ) → s ≡ Prepared e → runs_on s ≡ true → ⊥
      not_prepared s e is works = let wrong : false ≡ true = sym (ap runs_on is) ∙ works in cc

      runs : (n : HostName) → (n ≡ to) ⊎ (n ≡ other to) → contains (record r { drains = d }) n ≡ runs_on (shown new n)
      runs n (inl is) = same_set n ∙ old.runs n ∙ ap (λ k. runs_on (shown t k)) is ∙ was ∙ sym now ∙ ap runs_on (sym (acted_at n is))
      runs n (inr is) = same_set n ∙ old.runs n ∙ ap runs_on (sym (still_other n is))

      offers : (n : HostName) (e : ℕ) → shown new n ≡ Offering e → (n ≡ to) ⊎ (n ≡ other to) → r.source ≡ n
      offers n e at (inl is) = absurd (not_offering (shown new n) e at (at_work (shown new n) side (acted_at n is) now))
      offers n e at (inr is) = old.offers n e (sym (still_other n is) ∙ at)

      released : (n : HostName) (e : ℕ) → shown new n ≡ Released e → shown new (other n) ≡ Prepared e → (n ≡ to) ⊎ (n ≡ other to) → r.source ≡ n
      released n e at next (inl is) = absurd (not_released (shown new n) e at (at_work (shown new n) side (acted_at n is) now))
      released n e at next (inr is) = absurd (not_prepared (shown new (other n)) e next (at_work (shown new (other n)) side (acted_at (other n) (ap other is ∙ twice_other to)) now))

-- ---- what the invariant says of the two sides

active_passive : (s t : Side) → IsHolder s t → active_on s ≡ true → IsPassive t
active_passive Running t h is = h
active_passive Draining t h is = h
active_passive (Offering e) t h is = h.0
active_passive (Prepared e) t h is = absurd cc
active_passive Empty t h is = absurd cc
active_passive (Released e) t h is = absurd cc
active_passive (Filling e) t h is = absurd cc

never_passive : (s : Side) → IsPassive s → active_on s ≡ true → ⊥
never_passive Running h is = h
never_passive Draining h is = h
never_passive (Offering e) h is = h
never_passive Empty h is = cc
never_passive (Released e) h is = cc
never_passive (Filling e) h is = cc
never_passive (Prepared e) h is = cc

pub idle : (s : Side) → IsPassive s → runs_on s ≡ false
idle Empty h = refl
idle (Released e) h = refl
idle (Filling e) h = refl
idle (Prepared e) h = refl
idle Running h = absurd h
idle Draining h = absurd h
idle (Offering e) h = absurd h

pub rests_undrained : (s : Side) → IsPassive s → drains_on s ≡ false
rests_undrained Empty h = refl
rests_undrained (Released e) h = refl
rests_undrained (Filling e) h = refl
rests_undrained (Prepared e) h = refl
rests_undrained Running h = absurd h
rests_undrained Draining h = absurd h
rests_undrained (Offering e) h = absurd h

pub runs_active : (s : Side) → runs_on s ≡ true → active_on s ≡ true
runs_active Running h = refl
runs_active Draining h = refl
runs_active Empty h = absurd cc
runs_active (Offering e) h = absurd cc
runs_active (Released e) h = absurd cc
runs_active (Filling e) h = absurd cc
runs_active (Prepared e) h = absurd cc

-- where a host runs, drains or offers, the other one doesn't
pub alone : (b : Snapshot) (t : TwoHosts) → HostsInvariant b t → (n : HostName) → active_on (shown t n) ≡ true → IsPassive (shown t (other n))
alone b t (A, kept) A is = active_passive (shown_side t.a.side) (shown_side t.b.side) kept.sides.holds is
alone b t (B, kept) B is = active_passive (shown_side t.b.side) (shown_side t.a.side) kept.sides.holds is
alone b t (A, kept) B is = absurd (never_passive (shown_side t.b.side) (rest.rests A B t.a.side t.b.side t.offered _ t.sent kept (shown_side t.b.side) refl) is)
alone b t (B, kept) A is = absurd (never_passive (shown_side t.a.side) (rest.rests B A t.b.side t.a.side t.offered _ t.sent kept (shown_side t.a.side) refl) is)

holds_prepared : (s : Side) (e : ℕ) → IsHolder s (Released e) → active_on s ≡ false → s ≡ Prepared e
holds_prepared (Prepared d) e h is = let same : e ≡ d = cc in ap Prepared (sym same)
holds_prepared Running e h is = absurd cc
holds_prepared Draining e h is = absurd cc
holds_prepared (Offering d) e h is = absurd cc
holds_prepared Empty e h is = absurd h
holds_prepared (Released d) e h is = absurd h
holds_prepared (Filling d) e h is = absurd h

pub handed_to : (b : Snapshot) (t : TwoHosts) → HostsInvariant b t → (n : HostName) (e : ℕ) → shown t (other n) ≡ Released e → active_on (shown t n) ≡ false → shown t n ≡ Prepared e
handed_to b t (A, kept) A e is passive = holds_prepared (shown_side t.a.side) e (subst (IsHolder (shown_side t.a.side)) is kept.sides.holds) passive
handed_to b t (B, kept) B e is passive = holds_prepared (shown_side t.b.side) e (subst (IsHolder (shown_side t.b.side)) is kept.sides.holds) passive
handed_to b t (A, kept) B e is passive = absurd (let wrong : ⊥ = subst (λ s. IsHolder s (shown_side t.b.side)) is kept.sides.holds in wrong)
handed_to b t (B, kept) A e is passive = absurd (let wrong : ⊥ = subst (λ s. IsHolder s (shown_side t.a.side)) is kept.sides.holds in wrong)

holder_prepared : (s : Side) (e : ℕ) → IsHolder s (Prepared e) → active_on s ≡ true
holder_prepared Running e h = refl
holder_prepared Draining e h = refl
holder_prepared (Offering d) e h = refl
holder_prepared (Prepared d) e h = absurd (let wrong : Prepared e ≡ Released d = h in cc)
holder_prepared Empty e h = absurd h
holder_prepared (Released d) e h = absurd h
holder_prepared (Filling d) e h = absurd h

-- beside a prepared host the other one was released at its epoch, or is active
pub beside_prepared : (b : Snapshot) (t : TwoHosts) → HostsInvariant b t → (n : HostName) (e : ℕ) → shown t n ≡ Prepared e → (shown t (other n) ≡ Released e) ⊎ (active_on (shown t (other n)) ≡ true)
beside_prepared b t (A, kept) A e is = inl (subst (λ s. IsHolder s (shown_side t.b.side)) is kept.sides.holds)
beside_prepared b t (B, kept) B e is = inl (subst (λ s. IsHolder s (shown_side t.a.side)) is kept.sides.holds)
beside_prepared b t (A, kept) B e is = inr (holder_prepared (shown_side t.a.side) e (subst (IsHolder (shown_side t.a.side)) is kept.sides.holds))
beside_prepared b t (B, kept) A e is = inr (holder_prepared (shown_side t.b.side) e (subst (IsHolder (shown_side t.b.side)) is kept.sides.holds))

-- beside a host that doesn't rest the other one doesn't drain
beside_undrained : (b : Snapshot) (t : TwoHosts) (r : RunningSet) (n : HostName) → Agrees t r → HostsInvariant b t → active_on (shown t n) ≡ true → drains_on (shown t (other n)) ≡ false
beside_undrained b t r n old kept is = rests_undrained (shown t (other n)) (alone b t kept n is)

-- where an active host doesn't drain none does
undrained : (b : Snapshot) (t : TwoHosts) (r : RunningSet) (n : HostName) → Agrees t r → HostsInvariant b t → active_on (shown t n) ≡ true → drains_on (shown t n) ≡ false → r.drains ≡ false
undrained b t r n old kept is off = old.drains ∙ drains_beside t n ∙ ap (λ x. x || drains_on (shown t (other n))) off ∙ beside_undrained b t r n old kept is

-- ---- a delivery

quiet_reply : (sent : List Message) (a : Delivered) (r : RunningSet) → IsQuiet a → after_reply (delivery_reply sent a) r ≡ r
quiet_reply sent delivers.Ignored r h = refl
quiet_reply sent delivers.Took r h = refl
quiet_reply sent (delivers.Sent m) r h = refl
quiet_reply sent (delivers.Refused m) r h = refl
quiet_reply sent (delivers.Wires f) r h = refl
quiet_reply sent delivers.Runs r h = absurd h
quiet_reply sent delivers.Resumed r h = absurd h

outcome_acted : (t : TwoHosts) (to : HostName) (h : HostState) (after : Outcome) → shown (with_outcome t to h after) to ≡ shown_side after.side
outcome_acted t A h after = refl
outcome_acted t B h after = refl

outcome_still : (t : TwoHosts) (to : HostName) (h : HostState) (after : Outcome) → shown (with_outcome t to h after) (other to) ≡ shown t (other to)
outcome_still t A h after = refl
outcome_still t B h after = refl

module _ (b : Snapshot) (t : TwoHosts) (to : HostName) (h : HostState) (after : Outcome) (r : RunningSet) (old : Agrees t r) (kept : HostsInvariant b t) (then : HostsInvariant b (with_outcome t to h after)) where
  abbrev Result : Type 0
  Result = Agrees (with_outcome t to h after) (after_reply (delivery_reply t.sent after.answer) r)

  abbrev new : TwoHosts
  new = with_outcome t to h after

  acts : shown (with_outcome t to h after) to ≡ shown_side after.side
  acts = outcome_acted t to h after

  stills : shown (with_outcome t to h after) (other to) ≡ shown t (other to)
  stills = outcome_still t to h after

  quietly : IsQuiet after.answer → Agrees (with_outcome t to h after) r → Result
  quietly quiet a = subst (Agrees (with_outcome t to h after)) (sym (quiet_reply t.sent after.answer r quiet)) a

  pub agrees_led : Shift (side_at t to) after → Result
  agrees_led (kept_side still quiet) = quietly quiet (agrees_still t new to (shown_side after.side) acts stills r old still)
  agrees_led (now_waits passive waiting quiet) = quietly quiet (agrees_waits t new to (shown_side after.side) acts stills r old waiting passive (λ e is. handed_to b t kept to e is passive))
  agrees_led (now_released e was now quiet) = quietly quiet (agrees_releases t new to (shown_side after.side) acts stills r old e was now)
  agrees_led (now_resumes e was now says) =
      subst (λ a. Agrees new (after_reply (delivery_reply t.sent a) r)) (sym says)
      (subst (Agrees new) (sym (cond-false r.drains (drained r) (insert r.source r) (undrained b t r to old kept (ap active_on was) (ap drains_on was))))
      (subst (λ n. Agrees new (insert n r)) (sym (old.offers to e was)) (agrees_runs t new to (shown_side after.side) acts stills r old now (ap drains_on was))))
  agrees_led (now_runs e was now says) =
      subst (λ a. Agrees new (after_reply (delivery_reply t.sent a) r)) (sym says)
      (subst (λ n. Agrees new (insert n r)) (sym (ap other (source (beside_prepared b t kept to e was)) ∙ twice_other to)) (agrees_runs t new to (shown_side after.side) acts stills r old now (ap drains_on was)))
    where
      source : (shown t (other to) ≡ Released e) ⊎ (active_on (shown t (other to)) ≡ true) → r.source ≡ other to
      source (inl released) = old.released (other to) e released (ap (shown t) (twice_other to) ∙ was)
      source (inr active) = absurd (never_passive (shown t (other to)) (subst IsPassive stills (alone b new then to (ap active_on (acts ∙ now)))) active)

  -- the reply may be that to another answer of the same kind
  pub agrees_replied : (a : Delivered) → (a ≡ after.answer) ⊎ (IsQuiet a × IsQuiet after.answer) → Result → Agrees new (after_reply (delivery_reply t.sent a) r)
  agrees_replied a (inl is) agrees = subst (λ d. Agrees new (after_reply (delivery_reply t.sent d) r)) (sym is) agrees
  agrees_replied a (inr quiet) agrees = subst (Agrees new) (sym (quiet_reply t.sent a r quiet.0)) (subst (Agrees new) (quiet_reply t.sent after.answer r quiet.1) agrees)

deliver_agrees : (b : Snapshot) (piece : ℕ) (t : TwoHosts) (found : Option Message) (q : Reply) (r : RunningSet) → Agrees t r → HostsInvariant b t → HostsInvariant b (after_delivery piece t found q) → q ≡ deliver_reply piece t found
    → Agrees (after_delivery piece t found q) (after_reply q r)
deliver_agrees b piece t None q r old kept then is = subst (λ a. Agrees t (after_reply a r)) (sym is) old
deliver_agrees b piece t (Some m) q r old kept then is =
    let after : Outcome = delivered (context_for piece t m.to (is_fault q)) (side_at t m.to) m.epoch m.body in
    let h : HostState = counted q (calls_of_delivery (context_for piece t m.to (is_fault q)) (side_at t m.to) m.epoch m.body) (host_of t m.to) in
    subst (λ a. Agrees (after_message piece t m q) (after_reply a r)) (sym is)
    (agrees_replied b t m.to h after r old kept then (delivered (context_for piece t m.to (meets_fault piece t m)) (side_at t m.to) m.epoch m.body).answer
    (quiet_or_same m.to piece t.offered (meets_fault piece t m) (is_fault q) (side_at t m.to) m.epoch m.body)
    (agrees_led b t m.to h after r old kept then (shift (context_for piece t m.to (is_fault q)) (side_at t m.to) m.epoch m.body)))

-- ---- an offer

-- the host that ran is the source
source_ran : (t : TwoHosts) (n : HostName) (r : RunningSet) → Agrees t r → runs_on (shown t n) ≡ true → IsPassive (shown t (other n)) → (without_source r).source ≡ n
source_ran t A r old is passive = cond-true r.a A B (old.runs A ∙ is)
source_ran t B r old is passive = cond-false r.a A B (old.runs A ∙ idle (shown t A) passive)

none_left : (r : RunningSet) (n : HostName) → contains (without_source r) n ≡ false
none_left r A = refl
none_left r B = refl

offer_acted : (v : Snapshot) (t : TwoHosts) (n : HostName) → shown (offered_by v t n) n ≡ Offering ((side_at t n).top + 1)
offer_acted v t A = refl
offer_acted v t B = refl

offer_still : (v : Snapshot) (t : TwoHosts) (n : HostName) → shown (offered_by v t n) (other n) ≡ shown t (other n)
offer_still v t A = refl
offer_still v t B = refl

offered_agrees : (b v : Snapshot) (t : TwoHosts) (n : HostName) (r : RunningSet) → Agrees t r → HostsInvariant b t → runs_on (shown t n) ≡ true → Agrees (offered_by v t n) (without_source r)
offered_agrees b v t n r old kept is = record { runs = λ k. none_left r k ∙ runs k (same_or_other k n); drains = sym undrains; offers = λ k e at. offered k e at (same_or_other k n); released = λ k e at next. released k e at next (same_or_other k n) }
  where
    passive : IsPassive (shown t (other n))
    passive = alone b t kept n (runs_active (shown t n) is)

    still : (k : HostName) → k ≡ other n → shown (offered_by v t n) k ≡ shown t (other n)
    still k at = ap (shown (offered_by v t n)) at ∙ offer_still v t n

    acted : (k : HostName) → k ≡ n → shown (offered_by v t n) k ≡ Offering ((side_at t n).top + 1)
    acted k at = ap (shown (offered_by v t n)) at ∙ offer_acted v t n

    undrains : one_drains (offered_by v t n) ≡ false
    undrains = drains_beside (offered_by v t n) n ∙ ap (λ x. drains_on x || drains_on (shown (offered_by v t n) (other n))) (offer_acted v t n) ∙ ap drains_on (offer_still v t n) ∙ rests_undrained (shown t (other n)) (alone b t kept n (runs_active (shown t n) is))

    runs : (k : HostName) → (k ≡ n) ⊎ (k ≡ other n) → false ≡ runs_on (shown (offered_by v t n) k)
    runs k (inl at) = ap runs_on (sym (acted k at))
    runs k (inr at) = sym (idle (shown t (other n)) (alone b t kept n (runs_active (shown t n) is))) ∙ ap runs_on (sym (still k at))

    offered : (k : HostName) (e : ℕ) → shown (offered_by v t n) k ≡ Offering e → (k ≡ n) ⊎ (k ≡ other n) → (without_source r).source ≡ k
    offered k e side (inl at) = source_ran t n r old is (alone b t kept n (runs_active (shown t n) is)) ∙ sym at
    offered k e side (inr at) = absurd (let wrong : IsPassive (Offering e) = subst IsPassive (sym (still k at) ∙ side) (alone b t kept n (runs_active (shown t n) is)) in wrong)

    released : (k : HostName) (e : ℕ) → shown (offered_by v t n) k ≡ Released e → shown (offered_by v t n) (other k) ≡ Prepared e → (k ≡ n) ⊎ (k ≡ other n) → (without_source r).source ≡ k
    released k e side next (inl at) = absurd (let wrong : Offering ((side_at t n).top + 1) ≡ Released e = sym (acted k at) ∙ side in cc)
    released k e side next (inr at) = absurd (let wrong : Offering ((side_at t n).top + 1) ≡ Prepared e = sym (acted (other k) (ap other at ∙ twice_other n)) ∙ next in cc)

counted_sides : (t : TwoHosts) (q : Reply) (calls : ℕ) (n k : HostName) → shown (with_host t n (counted q calls (host_of t n))) k ≡ shown t k
counted_sides t q calls A A = refl
counted_sides t q calls A B = refl
counted_sides t q calls B A = refl
counted_sides t q calls B B = refl

-- an offer that was refused says nothing of the hosts
abbrev IsRefusal : Reply → Type 0
IsRefusal (reply.Offered epoch message) = ⊥
IsRefusal (reply.Draining number) = ⊥
IsRefusal (reply.DoneOffered number epoch message) = ⊥
IsRefusal (reply.DoneLink number) = ⊥
IsRefusal (reply.CancelledOffered number epoch message) = ⊥
IsRefusal (reply.CancelledLink number) = ⊥
IsRefusal (reply.Done number) = ⊥
IsRefusal (reply.Cancelled number) = ⊥
IsRefusal (reply.Lost number) = ⊥
IsRefusal reply.Resumed = ⊥
IsRefusal (reply.ResumedSent message) = ⊥
IsRefusal reply.Running = ⊥
IsRefusal _ = Unit {0}

refusal_reply : (q : Reply) (r : RunningSet) → IsRefusal q → after_reply q r ≡ r
refusal_reply (reply.Value value size) r h = refl
refusal_reply reply.Accepted r h = refl
refusal_reply reply.Idle r h = refl
refusal_reply (reply.Claim number) r h = refl
refusal_reply (reply.Sent number) r h = refl
refusal_reply (reply.Exec number) r h = refl
refusal_reply (reply.Done number) r h = absurd h
refusal_reply (reply.Cancelled number) r h = absurd h
refusal_reply (reply.Lost number) r h = absurd h
refusal_reply (reply.Draining number) r h = absurd h
refusal_reply (reply.DoneOffered number epoch message) r h = absurd h
refusal_reply (reply.DoneLink number) r h = absurd h
refusal_reply (reply.CancelledOffered number epoch message) r h = absurd h
refusal_reply (reply.CancelledLink number) r h = absurd h
refusal_reply reply.Link r h = refl
refusal_reply reply.Asked r h = refl
refusal_reply reply.FailedDevice r h = refl
refusal_reply reply.NotYet r h = refl
refusal_reply reply.Reset r h = refl
refusal_reply reply.Stopped r h = refl
refusal_reply reply.EpochEnd r h = refl
refusal_reply reply.NoMessage r h = refl
refusal_reply reply.Ignored r h = refl
refusal_reply reply.Took r h = refl
refusal_reply (reply.SentMessage message) r h = refl
refusal_reply (reply.RefusedSent why message) r h = refl
refusal_reply reply.NotOffering r h = refl
refusal_reply reply.NotPrepared r h = refl
refusal_reply (reply.Shown bytes) r h = refl
refusal_reply (reply.Offered epoch message) r h = absurd h
refusal_reply reply.Resumed r h = absurd h
refusal_reply (reply.ResumedSent message) r h = absurd h
refusal_reply reply.Running r h = absurd h

-- the reply to an offer is a refusal, or that it was sent, or that the host drains
pub data OfferEnds (q : Reply) : Type 0 where
  sent : (e m : ℕ) → q ≡ reply.Offered e m → OfferEnds q
  waits_for : (k : ℕ) → q ≡ reply.Draining k → OfferEnds q
  refused : IsRefusal q → OfferEnds q

offer_ends : (b : Snapshot) (t : TwoHosts) (n : HostName) → OfferEnds (offer_reply b t (Some n))
offer_ends b t n = cond_both (is_lost (phase_of b t.history)) _ _ OfferEnds (λ yes. refused tt) (λ no.
    cond_both ((host_of t n).side.top == 2 ^ 64 - 1) _ _ OfferEnds (λ yes. refused tt) (λ no.
    cond_both (is_under_way b t.history) _ _ OfferEnds (λ yes. waits_for (number_of b t.history) refl) (λ no.
    cond_both (fails_at (host_of t n) 9) _ _ OfferEnds (λ yes. refused tt) (λ no. sent ((host_of t n).side.top + 1) (next_number t.sent) refl))))

refused_offer : (b : Snapshot) (t : TwoHosts) (n : HostName) (q : Reply) (r : RunningSet) → Agrees t r → IsRefusal q → Agrees (after_offer b t (Some n) q) r
refused_offer b t n (reply.Offered e m) r old h = absurd h
refused_offer b t n (reply.Draining k) r old h = absurd h
refused_offer b t n reply.Resumed r old h = absurd h
refused_offer b t n (reply.ResumedSent m) r old h = absurd h
refused_offer b t n reply.Running r old h = absurd h
refused_offer b t n q r old h = same_sides t _ r (counted_sides t q 0 n) old

-- a host turns to another side
turned_acted : (t : TwoHosts) (n : HostName) (g : MoveStage) (order : Option ℕ) (calls : ℕ) → shown (with_host t n (record { side = record (side_at t n) { stage = g }; injected_fault = order; calls = calls })) n ≡ side_of g
turned_acted t A g order calls = refl
turned_acted t B g order calls = refl

turned_still : (t : TwoHosts) (n : HostName) (g : MoveStage) (order : Option ℕ) (calls : ℕ) → shown (with_host t n (record { side = record (side_at t n) { stage = g }; injected_fault = order; calls = calls })) (other n) ≡ shown t (other n)
turned_still t A g order calls = refl
turned_still t B g order calls = refl

-- a host that ran drains
drains_agrees : (t : TwoHosts) (n : HostName) (r : RunningSet) → Agrees t r → shown t n ≡ Running → Agrees (with_host t n (host_at stage.Draining (host_of t n))) (record r { drains = true })
drains_agrees t n r old is =
    agrees_turns t (with_host t n (host_at stage.Draining (host_of t n))) n Draining (turned_acted t n stage.Draining (host_of t n).injected_fault (host_of t n).calls) (turned_still t n stage.Draining (host_of t n).injected_fault (host_of t n).calls) r old true refl (ap runs_on is) refl

-- a host that drained runs again
undrains_agrees : (b : Snapshot) (t : TwoHosts) (n : HostName) (r : RunningSet) (order : Option ℕ) (calls : ℕ) → Agrees t r → HostsInvariant b t → shown t n ≡ Draining
    → Agrees (with_host t n (record { side = record (side_at t n) { stage = stage.Running }; injected_fault = order; calls = calls })) (drained r)
undrains_agrees b t n r order calls old kept is =
    agrees_turns t (with_host t n (record { side = record (side_at t n) { stage = stage.Running }; injected_fault = order; calls = calls })) n Running (turned_acted t n stage.Running order calls) (turned_still t n stage.Running order calls) r old false refl (ap runs_on is)
    (sym (beside_undrained b t r n old kept (ap active_on is)))

offer_agrees : (b : Snapshot) (t : TwoHosts) (n : HostName) (q : Reply) (r : RunningSet) → Agrees t r → HostsInvariant b t → shown t n ≡ Running → q ≡ offer_reply b t (Some n) → Agrees (after_offer b t (Some n) q) (after_reply q r)
offer_agrees b t n q r old kept is answers = go (subst OfferEnds (sym answers) (offer_ends b t n))
  where
    go : OfferEnds q → Agrees (after_offer b t (Some n) q) (after_reply q r)
    go (sent e m at) = subst (λ a. Agrees (after_offer b t (Some n) a) (after_reply a r)) (sym at) (offered_agrees b (snapshot_after b t.history) t n r old kept (ap runs_on is))
    go (waits_for k at) = subst (λ a. Agrees (after_offer b t (Some n) a) (after_reply a r)) (sym at) (drains_agrees t n r old is)
    go (refused h) = subst (Agrees (after_offer b t (Some n) q)) (sym (refusal_reply q r h)) (refused_offer b t n q r old h)

-- ---- giveup and again

give_up_acted : (t : TwoHosts) (n : HostName) → shown (after_give_up t (Some n)) n ≡ Running
give_up_acted t A = refl
give_up_acted t B = refl

give_up_still : (t : TwoHosts) (n : HostName) → shown (after_give_up t (Some n)) (other n) ≡ shown t (other n)
give_up_still t A = refl
give_up_still t B = refl

again_sides : (t : TwoHosts) (n k : HostName) → shown (after_again t (Some n)) k ≡ shown t k
again_sides t A A = refl
again_sides t A B = refl
again_sides t B A = refl
again_sides t B B = refl

gives_back_agrees : (t : TwoHosts) (n : HostName) (r : RunningSet) (e : ℕ) (totals : List ℕ) → Agrees t r → stage_at t n ≡ stage.Offering e totals → Agrees (after_give_up t (Some n)) (after_reply (give_up_reply t (Some n)) r)
gives_back_agrees t n r e totals old is =
    subst (λ (q : Reply). Agrees (after_give_up t (Some n)) (after_reply q r)) (sym (ap (gave_reply t) is))
    (subst (λ k. Agrees (after_give_up t (Some n)) (insert k r)) (sym (old.offers n e (ap side_of is))) (agrees_runs t (after_give_up t (Some n)) n Running (give_up_acted t n) (give_up_still t n) r old refl (ap (λ (g : MoveStage). drains_on (side_of g)) is)))

gives_way_agrees : (b : Snapshot) (t : TwoHosts) (n : HostName) (r : RunningSet) → Agrees t r → HostsInvariant b t → stage_at t n ≡ stage.Draining → Agrees (after_give_up t (Some n)) (after_reply (give_up_reply t (Some n)) r)
gives_way_agrees b t n r old kept is =
    let drains : r.drains ≡ true = old.drains ∙ drains_beside t n ∙ ap (λ (g : MoveStage). drains_on (side_of g) || drains_on (shown t (other n))) is in
    subst (λ (q : Reply). Agrees (after_give_up t (Some n)) (after_reply q r)) (sym (ap (gave_reply t) is))
    (subst (Agrees (after_give_up t (Some n))) (sym (cond-true r.drains (drained r) (insert r.source r) drains))
    (agrees_turns t (after_give_up t (Some n)) n Running (give_up_acted t n) (give_up_still t n) r old false refl (ap (λ (g : MoveStage). runs_on (side_of g)) is) (sym (beside_undrained b t r n old kept (ap (λ (g : MoveStage). active_on (side_of g)) is)))))

give_up_agrees : (b : Snapshot) (t : TwoHosts) (n : HostName) (r : RunningSet) → Agrees t r → HostsInvariant b t → is_leaving (stage_at t n) ≡ true → Agrees (after_give_up t (Some n)) (after_reply (give_up_reply t (Some n)) r)
give_up_agrees b t n r old kept is = go (leaving_stage (stage_at t n) is)
  where
    go : (stage_at t n ≡ stage.Draining) ⊎ ((e : ℕ) × (totals : List ℕ) × (stage_at t n ≡ stage.Offering e totals)) → Agrees (after_give_up t (Some n)) (after_reply (give_up_reply t (Some n)) r)
    go (inl at) = gives_way_agrees b t n r old kept at
    go (inr at) = gives_back_agrees t n r at.0 at.1 old at.2

-- ---- a line of the guest

guest_sides : (b : Snapshot) (t : TwoHosts) (n k : HostName) (e : Event) (g : Reply) → shown (guest_line_on b t n e g) k ≡ shown t k
guest_sides b t A A e g = refl
guest_sides b t A B e g = refl
guest_sides b t B A e g = refl
guest_sides b t B B e g = refl

-- a set in which none drains stays so
still_undrained : (r : RunningSet) → r.drains ≡ false → drained r ≡ r
still_undrained r off = ap (λ d. record r { drains = d }) (sym off)

of_device : (q : Reply) (r : RunningSet) → r.drains ≡ false → IsOfDevice q → after_reply q r ≡ r
of_device (reply.Done number) r off is = still_undrained r off
of_device (reply.Cancelled number) r off is = still_undrained r off
of_device (reply.Lost number) r off is = still_undrained r off
of_device (reply.Offered e m) r off is = absurd is
of_device (reply.Draining number) r off is = absurd is
of_device (reply.DoneOffered number e m) r off is = absurd is
of_device (reply.DoneLink number) r off is = absurd is
of_device (reply.CancelledOffered number e m) r off is = absurd is
of_device (reply.CancelledLink number) r off is = absurd is
of_device reply.Resumed r off is = absurd is
of_device (reply.ResumedSent m) r off is = absurd is
of_device reply.Running r off is = absurd is
of_device _ r off is = refl

on_agrees_at : (b : Snapshot) (t : TwoHosts) (n : HostName) (e : Event) (q : Reply) (r : RunningSet) → Agrees t r → HostsInvariant b t → stage_at t n ≡ stage.Running → IsReplyTo b t.history (fails_at (host_of t n)) (Some e) q → Agrees (guest_line_on b t n e q) (after_reply q r)
on_agrees_at b t n e q r old kept at is =
    let off : r.drains ≡ false = undrained b t r n old kept (ap (λ (g : MoveStage). active_on (side_of g)) at) (ap (λ (g : MoveStage). drains_on (side_of g)) at) in
    subst (Agrees (guest_line_on b t n e q)) (sym (of_device q r off (replies_of_device b t.history (fails_at (host_of t n)) e q is))) (same_sides t _ r (λ k. guest_sides b t n k e q) old)

on_agrees : (b : Snapshot) (t : TwoHosts) (e : Event) (q : Reply) (r : RunningSet) → Agrees t r → HostsInvariant b t → AnswersOn b t (running_host t) e q → Agrees (guest_line_on_any b t (running_host t) e q) (after_reply q r)
on_agrees b t e q r old kept answers = host_where_cases is_running t (λ found. AnswersOn b t found e q → Agrees (guest_line_on_any b t found e q) (after_reply q r))
    (λ n is at. on_agrees_at b t n e q r old kept (running_stage (stage_at t n) is) at) (λ is. subst (λ a. Agrees t (after_reply a r)) (sym is) old) answers

-- ---- a step of the worker of a host that drains

step_agrees : (b : Snapshot) (t : TwoHosts) (n : HostName) (q : Reply) (r : RunningSet) → Agrees t r → HostsInvariant b t → stage_at t n ≡ stage.Draining → IsOfDevice q
    → Agrees (after_work_at b t n stage.Draining (draining_reply b t n q)) (after_reply (draining_reply b t n q) r)
step_agrees b t n (reply.Done number) r old kept at is =
    let after : TwoHosts = guest_line_on b t n line.Work (reply.Done number) in
    let then : HostsInvariant b after = guest_kept b t kept.0 n line.Work (reply.Done number) kept.1 (ap holds_device at) in
    let agrees : Agrees after r = same_sides t after r (λ k. guest_sides b t n k line.Work (reply.Done number)) old in
    let there : shown after n ≡ Draining = guest_sides b t n n line.Work (reply.Done number) ∙ ap side_of at in
    cond_both (fails_at (host_after_guest b t.history line.Work (reply.Done number) (host_of t n)) 9) _ _ (λ a. Agrees (after_work_at b t n stage.Draining a) (after_reply a r))
    (λ fails. undrains_agrees b after n r None ((host_of after n).calls + 0) agrees then there)
    (λ works. offered_agrees b (snapshot_after b after.history) after n r agrees then (ap runs_on there))
step_agrees b t n (reply.Cancelled number) r old kept at is =
    let after : TwoHosts = guest_line_on b t n line.Work (reply.Cancelled number) in
    let then : HostsInvariant b after = guest_kept b t kept.0 n line.Work (reply.Cancelled number) kept.1 (ap holds_device at) in
    let agrees : Agrees after r = same_sides t after r (λ k. guest_sides b t n k line.Work (reply.Cancelled number)) old in
    let there : shown after n ≡ Draining = guest_sides b t n n line.Work (reply.Cancelled number) ∙ ap side_of at in
    cond_both (fails_at (host_after_guest b t.history line.Work (reply.Cancelled number) (host_of t n)) 9) _ _ (λ a. Agrees (after_work_at b t n stage.Draining a) (after_reply a r))
    (λ fails. undrains_agrees b after n r None ((host_of after n).calls + 0) agrees then there)
    (λ works. offered_agrees b (snapshot_after b after.history) after n r agrees then (ap runs_on there))
step_agrees b t n (reply.Lost number) r old kept at is =
    let after : TwoHosts = guest_line_on b t n line.Work (reply.Lost number) in
    let then : HostsInvariant b after = guest_kept b t kept.0 n line.Work (reply.Lost number) kept.1 (ap holds_device at) in
    let agrees : Agrees after r = same_sides t after r (λ k. guest_sides b t n k line.Work (reply.Lost number)) old in
    undrains_agrees b after n r (host_of after n).injected_fault (host_of after n).calls agrees then (guest_sides b t n n line.Work (reply.Lost number) ∙ ap side_of at)
step_agrees b t n (reply.Offered e m) r old kept at is = absurd is
step_agrees b t n (reply.Draining number) r old kept at is = absurd is
step_agrees b t n (reply.DoneOffered number e m) r old kept at is = absurd is
step_agrees b t n (reply.DoneLink number) r old kept at is = absurd is
step_agrees b t n (reply.CancelledOffered number e m) r old kept at is = absurd is
step_agrees b t n (reply.CancelledLink number) r old kept at is = absurd is
step_agrees b t n reply.Resumed r old kept at is = absurd is
step_agrees b t n (reply.ResumedSent m) r old kept at is = absurd is
step_agrees b t n reply.Running r old kept at is = absurd is
step_agrees b t n q r old kept at is = same_sides t _ r (λ k. guest_sides b t n k line.Work q) old

work_agrees_at : (b : Snapshot) (t : TwoHosts) (n : HostName) (g : MoveStage) (q : Reply) (r : RunningSet) → Agrees t r → HostsInvariant b t → stage_at t n ≡ g → is_working g ≡ true → AnswersWorkAt b t n g q → Agrees (after_work_at b t n g q) (after_reply q r)
work_agrees_at b t n stage.Running q r old kept at works answers = on_agrees_at b t n line.Work q r old kept at answers
work_agrees_at b t n stage.Draining q r old kept at works answers = subst (λ a. Agrees (after_work_at b t n stage.Draining a) (after_reply a r)) (sym answers)
    (step_agrees b t n _ r old kept at (step_ends b t.history (fails_at (host_of t n))).of_device)
work_agrees_at b t n stage.Empty q r old kept at works answers = absurd cc
work_agrees_at b t n (stage.Offering e totals) q r old kept at works answers = absurd cc
work_agrees_at b t n (stage.Released e) q r old kept at works answers = absurd cc
work_agrees_at b t n (stage.Filling e totals part place) q r old kept at works answers = absurd cc
work_agrees_at b t n (stage.Prepared e) q r old kept at works answers = absurd cc

work_agrees : (b : Snapshot) (t : TwoHosts) (q : Reply) (r : RunningSet) → Agrees t r → HostsInvariant b t → AnswersWork b t (working_host t) q → Agrees (after_work b t (working_host t) q) (after_reply q r)
work_agrees b t q r old kept answers = host_where_cases is_working t (λ found. AnswersWork b t found q → Agrees (after_work b t found q) (after_reply q r))
    (λ n is at. work_agrees_at b t n (stage_at t n) q r old kept refl is at) (λ is. subst (λ a. Agrees t (after_reply a r)) (sym is) old) answers

fault_agrees : (b : Snapshot) (t : TwoHosts) (n : HostName) (call : ℕ) (q : Reply) (r : RunningSet) → Agrees t r → q ≡ reply.Accepted → Agrees (guest_line_on b t n (line.Fail n call) q) (after_reply q r)
fault_agrees b t n call q r old is = subst (λ a. Agrees (guest_line_on b t n (line.Fail n call) q) (after_reply a r)) (sym is) (same_sides t _ r (λ k. guest_sides b t n k (line.Fail n call) q) old)

-- ---- every line

line_agrees : (b : Snapshot) (piece : ℕ) (t : TwoHosts) (l : Event) (q : Reply) (r : RunningSet) → Agrees t r → HostsInvariant b t → HostsInvariant b (after_line b piece t l q) → AnswersLine b piece t l q → Agrees (after_line b piece t l q) (after_reply q r)
line_agrees b piece t (line.Access a) q r old kept then answers = on_agrees b t (line.Access a) q r old kept answers
line_agrees b piece t line.Work q r old kept then answers = work_agrees b t q r old kept answers
line_agrees b piece t line.Ask q r old kept then answers = on_agrees b t line.Ask q r old kept answers
line_agrees b piece t line.Reset q r old kept then answers = on_agrees b t line.Reset q r old kept answers
line_agrees b piece t (line.Fail host call) q r old kept then answers = fault_agrees b t host call q r old answers
line_agrees b piece t Offer q r old kept then answers = host_where_cases is_running t (λ found. q ≡ offer_reply b t found → Agrees (after_offer b t found q) (after_reply q r))
    (λ n is at. offer_agrees b t n q r old kept (ap side_of (running_stage (stage_at t n) is)) at) (λ at. subst (λ a. Agrees t (after_reply a r)) (sym at) old) answers
line_agrees b piece t (Deliver k) q r old kept then answers = deliver_agrees b piece t (message_at t.sent k) q r old kept then answers
line_agrees b piece t GiveUp q r old kept then answers = subst (λ a. Agrees (after_give_up t (host_where is_leaving t)) (after_reply a r)) (sym answers)
    (host_where_cases is_leaving t (λ found. Agrees (after_give_up t found) (after_reply (give_up_reply t found) r)) (λ n is. give_up_agrees b t n r old kept is) old)
line_agrees b piece t Again q r old kept then answers = subst (λ a. Agrees (after_again t (host_where is_prepared t)) (after_reply a r)) (sym answers)
    (host_where_cases is_prepared t (λ found. Agrees (after_again t found) (after_reply (again_reply t found) r)) (λ n is. same_sides t _ r (again_sides t n) old) old)
line_agrees b piece t (Show k) q r old kept then answers = subst (λ a. Agrees t (after_reply a r)) (sym answers) (shows (message_at t.sent k))
  where
    shows : (found : Option Message) → Agrees t (after_reply (show_reply found) r)
    shows None = old
    shows (Some m) = old

first_agrees : (b : Snapshot) → Agrees (first_hosts b) (record { a = true; b = false; drains = false; source = A })
first_agrees b = record { runs = runs; drains = refl; offers = offers; released = released }
  where
    runs : (n : HostName) → contains (record { a = true; b = false; drains = false; source = A }) n ≡ runs_on (shown (first_hosts b) n)
    runs A = refl
    runs B = refl

    offers : (n : HostName) (e : ℕ) → shown (first_hosts b) n ≡ Offering e → A ≡ n
    offers A e h = refl
    offers B e h = absurd cc

    released : (n : HostName) (e : ℕ) → shown (first_hosts b) n ≡ Released e → shown (first_hosts b) (other n) ≡ Prepared e → A ≡ n
    released A e h at = refl
    released B e h at = absurd cc

exchange_agrees : (b : Snapshot) (piece : ℕ) (t : TwoHosts) (l : Option Event) (q : Reply) (r : RunningSet) → Agrees t r → HostsInvariant b t → HostsInvariant b (after_exchange b piece t l q) → AnswersIn b piece t l q → Agrees (after_exchange b piece t l q) (after_reply q r)
exchange_agrees b piece t None q r old kept then answers = absurd answers
exchange_agrees b piece t (Some l) q r old kept then answers = line_agrees b piece t l q r old kept then answers

pub run_agrees : (b : Snapshot) (piece : ℕ) (t : Transcript) → InTurn b piece t → Agrees (hosts_after b piece t) (running_set t)
run_agrees b piece [] in_turn = first_agrees b
run_agrees b piece (x ∷ t) in_turn = exchange_agrees b piece (hosts_after b piece t) x.line x.reply (running_set t) (run_agrees b piece t in_turn.0) (run_kept b piece t in_turn.0) (run_kept b piece (x ∷ t) in_turn) in_turn.1

-- ---- what follows

pub runs_where : (b : Snapshot) (piece : ℕ) (t : Transcript) → InTurn b piece t → (n : HostName) → contains (running_set t) n ≡ is_working (stage_at (hosts_after b piece t) n)
runs_where b piece t in_turn n = (run_agrees b piece t in_turn).runs n ∙ sym (working_on (stage_at (hosts_after b piece t) n))

pub drains_where : (b : Snapshot) (piece : ℕ) (t : Transcript) → InTurn b piece t → (running_set t).drains ≡ (is_draining (stage_at (hosts_after b piece t) A) || is_draining (stage_at (hosts_after b piece t) B))
drains_where b piece t in_turn =
    let w : TwoHosts = hosts_after b piece t in
    (run_agrees b piece t in_turn).drains ∙ ap (λ x. x || drains_on (shown w B)) (sym (draining_on (stage_at w A))) ∙ ap (λ x. is_draining (stage_at w A) || x) (sym (draining_on (stage_at w B)))

pub never_two : (b : Snapshot) (piece : ℕ) (t : Transcript) → InTurn b piece t → ((running_set t).a && (running_set t).b) ≡ false
never_two b piece t in_turn = go (runs_on (shown w A)) refl
  where
    w : TwoHosts
    w = hosts_after b piece t

    agrees : Agrees (hosts_after b piece t) (running_set t)
    agrees = run_agrees b piece t in_turn

    go : (c : Bool) → runs_on (shown (hosts_after b piece t) A) ≡ c → ((running_set t).a && (running_set t).b) ≡ false
    go true is =
        let off : (running_set t).b ≡ false = agrees.runs B ∙ idle (shown (hosts_after b piece t) B) (alone b (hosts_after b piece t) (run_kept b piece t in_turn) A (runs_active (shown (hosts_after b piece t) A) is)) in
        ap (λ x. (running_set t).a && x) off ∙ last (running_set t).a
      where
        last : (x : Bool) → (x && false) ≡ false
        last true = refl
        last false = refl
    go false is = ap (λ x. x && (running_set t).b) (agrees.runs A ∙ is)
