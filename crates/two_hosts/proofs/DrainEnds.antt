-- A host that drains comes to the end of its command within three `work` lines.
use Rattle.std.proofs.Common.{◌≡◌, ℕ, ◌+◌, ◌≤◌, ◌⊎◌, inl, inr, Bool, true, false, not, ◌&&◌, ◌==◌, [], ◌∷◌, ◌++◌, Option, Some, None, refl, sym, ◌∙◌, ap, subst, arith}
use Rattle.std.specs.Prelude.{◌≢◌, ◌-◌, ◌^◌, if◌then◌else◌}
use Rattle.std.proofs.lemmas.Bool.{cond_both, cond-true, cond-false, and_parts}
use Rattle.crb_regs.specs.Registers.{is_executing, is_lost}
use Rattle.crb_history.specs.Snapshot.{Snapshot}
use Rattle.crb_history.specs.Event.{History}
use Rattle.crb_history.specs.Device.{phase_of, stage_of, number_of, JobStage}
use Rattle.crb_history.specs.Device.JobStage.{Waiting, Claimed, HasSent, HasHeader}
use Rattle.crb_history.specs.Cancelling.{is_waiting}
use Rattle.vt_transcript.specs.Replies.{is_under_way, is_fault, reaches, has_rest, worker_reply, worker_reply_at, WorkerReplyInputs, worker_reply_inputs, exchange, Exchange, Transcript}
use Rattle.vt_transcript.specs.Endings.{steps_of, step_count}
use Rattle.vt_script.specs.declared.event.Event.{Event}
use Rattle.vt_script.specs.declared.event.Event.TheVariants as line
use Rattle.vt_script.specs.declared.reply.Reply.{Reply}
use Rattle.vt_script.specs.declared.reply.Reply.TheVariants as reply
use Rattle.vt_base.specs.declared.types.HostName.{HostName}
use Rattle.vt_base.specs.declared.types.HostName.TheVariants.{A, B}
use Rattle.move_codec.specs.declared.message.Message.{Message}
use Rattle.move_core.specs.declared.stage.MoveStage.{MoveStage}
use Rattle.move_core.specs.declared.stage.MoveStage.TheVariants as stage
use Rattle.move_core.specs.declared.side.Side.TheVariants.{Draining}
use Rattle.move_core.specs.Sides.{other, side_of, is_running}
use Rattle.two_hosts.specs.Deliveries.{SideState, Outcome, delivered, calls_of_delivery}
use Rattle.two_hosts.specs.Hosts.{TwoHosts, HostState, hosts_after, host_of, stage_at, with_host, with_outcome, host_at, host_where, running_host, working_host, is_working, is_prepared, message_at, fails_at, host_after_guest, context_for, counted, after_delivery, after_offer, after_work, after_work_at, after_again, guest_line_on, guest_line_on_any, after_line, after_exchange}
use Rattle.two_hosts.specs.Replies.{AnswersIn, AnswersLine, AnswersWork, AnswersWorkAt, InTurn, draining_reply, drained_reply, offer_reply}
use Rattle.two_hosts.specs.Invariant.{HostsInvariant, IsPassive, side_at, shown_side}
use Rattle.two_hosts.specs.Drains.{NeverGivesUp, NeverFails, IsOfferBehind, IsDrainEnd, HasReply}
use Rattle.two_hosts.proofs.InvariantKept.{host_where_cases, running_stage, run_kept}
use Rattle.two_hosts.proofs.RunningSets.{shown, alone, idle, same_or_other}
use Rattle.two_hosts.proofs.Shifts.{Shift, shift, active_on, working_on}
use Rattle.two_hosts.proofs.Shifts.Shift.{same as kept_side, waits as now_waits, releases as now_released, runs as now_runs, resumes as now_resumes}
use Rattle.two_hosts.proofs.DrainKept.{draining_stage, guest_stage}

-- how many steps of the worker end the command at most
abbrev left : JobStage → ℕ
left Waiting = 4
left Claimed = 3
left HasSent = 2
left HasHeader = 1

left_least : (s : JobStage) → 1 ≤ left s
left_least Waiting = omega arith
left_least Claimed = omega arith
left_least HasSent = omega arith
left_least HasHeader = omega arith

claimed_left : (s : JobStage) → not (is_waiting s) ≡ true → 0 + left s ≤ 3
claimed_left Waiting is = absurd cc
claimed_left Claimed is = omega arith
claimed_left HasSent is = omega arith
claimed_left HasHeader is = omega arith

unreached : (injected : Option ℕ) (count : ℕ) → injected ≡ None → reaches injected count ≡ false
unreached injected count none = ap (λ order. reaches order count) none

never_met : (injected : Option ℕ) (count : ℕ) → injected ≡ None → reaches injected count ≡ true → ⊥
never_met injected count none is = let wrong : false ≡ true = sym (unreached injected count none) ∙ is in cc

still_none : (injected : Option ℕ) (fault : Bool) → injected ≡ None → (if fault then None else injected) ≡ None
still_none injected true none = refl
still_none injected false none = none

-- ---- the host that drains is found by `work`, and no host runs

passive_stops : (g : MoveStage) → IsPassive (side_of g) → is_running g ≡ false
passive_stops stage.Empty is = refl
passive_stops (stage.Released d) is = refl
passive_stops (stage.Filling d totals part place) is = refl
passive_stops (stage.Prepared d) is = refl
passive_stops stage.Running is = absurd is
passive_stops stage.Draining is = absurd is
passive_stops (stage.Offering d totals) is = absurd is

passive_rests : (g : MoveStage) → IsPassive (side_of g) → is_working g ≡ false
passive_rests g is = working_on g ∙ idle (side_of g) is

drains_alone : (b : Snapshot) (w : TwoHosts) (n : HostName) → HostsInvariant b w → stage_at w n ≡ stage.Draining → IsPassive (shown w (other n))
drains_alone b w n kept is = alone b w kept n (ap (λ (g : MoveStage). active_on (side_of g)) is)

works_there : (w : TwoHosts) (n : HostName) → stage_at w n ≡ stage.Draining → IsPassive (shown w (other n)) → working_host w ≡ Some n
works_there w A is passive = cond-true (is_working w.a.side.stage) _ _ (ap is_working is)
works_there w B is passive = cond-false (is_working w.a.side.stage) _ _ (passive_rests w.a.side.stage passive) ∙ cond-true (is_working w.b.side.stage) _ _ (ap is_working is)

none_runs_there : (w : TwoHosts) (n : HostName) → stage_at w n ≡ stage.Draining → IsPassive (shown w (other n)) → running_host w ≡ None
none_runs_there w A is passive = cond-false (is_running w.a.side.stage) _ _ (ap is_running is) ∙ cond-false (is_running w.b.side.stage) _ _ (passive_stops w.b.side.stage passive)
none_runs_there w B is passive = cond-false (is_running w.a.side.stage) _ _ (passive_stops w.a.side.stage passive) ∙ cond-false (is_running w.b.side.stage) _ _ (ap is_running is)

-- ---- the end of a command, by whether calls may fail

-- where no call is to fail the host offers
abbrev Ends : Bool → ℕ → Reply → Type 0
Ends true number r = IsOfferBehind number r
Ends false number r = IsDrainEnd number r

module _ (calm : Bool) (number k : ℕ) (named : k ≡ number) where
  done_offered : (e m : ℕ) → Ends calm number (reply.DoneOffered k e m)
  done_offered e m = go calm
    where
      go : (c : Bool) → Ends c number (reply.DoneOffered k e m)
      go true = named
      go false = named

  cancelled_offered : (e m : ℕ) → Ends calm number (reply.CancelledOffered k e m)
  cancelled_offered e m = go calm
    where
      go : (c : Bool) → Ends c number (reply.CancelledOffered k e m)
      go true = named
      go false = named

  -- a call failed
  module _ (failed : calm ≡ true → ⊥) where
    done_link : Ends calm number (reply.DoneLink k)
    done_link = go calm failed
      where
        go : (c : Bool) → (c ≡ true → ⊥) → Ends c number (reply.DoneLink k)
        go true wrong = absurd (wrong refl)
        go false wrong = named

    cancelled_link : Ends calm number (reply.CancelledLink k)
    cancelled_link = go calm failed
      where
        go : (c : Bool) → (c ≡ true → ⊥) → Ends c number (reply.CancelledLink k)
        go true wrong = absurd (wrong refl)
        go false wrong = named

    lost : Ends calm number (reply.Lost k)
    lost = go calm failed
      where
        go : (c : Bool) → (c ≡ true → ⊥) → Ends c number (reply.Lost k)
        go true wrong = absurd (wrong refl)
        go false wrong = named

-- ---- one line

-- the host drains with the command of this number, after so many steps
record GoesOn (calm : Bool) (b : Snapshot) (w : TwoHosts) (n : HostName) (number steps : ℕ) : Type 0 where
  drains : stage_at w n ≡ stage.Draining
  executing : is_executing (phase_of b w.history) ≡ true
  same : number_of b w.history ≡ number
  unordered : calm ≡ true → (host_of w n).injected_fault ≡ None
  within_limit : steps + left (stage_of b w.history) ≤ 3

guest_acted : (b : Snapshot) (w : TwoHosts) (n : HostName) (e : Event) (r : Reply) → host_of (guest_line_on b w n e r) n ≡ host_after_guest b w.history e r (host_of w n)
guest_acted b w A e r = refl
guest_acted b w B e r = refl

guest_still : (b : Snapshot) (w : TwoHosts) (n : HostName) (e : Event) (r : Reply) → host_of (guest_line_on b w (other n) e r) n ≡ host_of w n
guest_still b w A e r = refl
guest_still b w B e r = refl

module _ (calm : Bool) (b : Snapshot) (w : TwoHosts) (n : HostName) (number steps : ℕ) (g : GoesOn calm b w n number steps) where
  -- what a step leads to: the end of the command, or one step less that is left
  abbrev Leads : Reply → Type 0
  Leads r = Ends calm number r ⊎ GoesOn calm b (after_work_at b w n stage.Draining r) n number (steps + 1)

  ended_cancelled : (k : ℕ) → k ≡ number → Leads (draining_reply b w n (reply.Cancelled k))
  ended_cancelled k named =
      let h : HostState = host_after_guest b w.history line.Work (reply.Cancelled k) (host_of w n) in
      cond_both (fails_at h 9) _ _ Leads (λ fails. inl (cancelled_link calm number k named (λ quiet. never_met h.injected_fault (h.calls + 9) (g.unordered quiet) fails))) (λ works. inl (cancelled_offered calm number k named _ _))

  ended_done : (k : ℕ) → k ≡ number → Leads (draining_reply b w n (reply.Done k))
  ended_done k named =
      let h : HostState = host_after_guest b w.history line.Work (reply.Done k) (host_of w n) in
      cond_both (fails_at h 9) _ _ Leads (λ fails. inl (done_link calm number k named (λ quiet. never_met h.injected_fault (h.calls + 9) (g.unordered quiet) fails))) (λ works. inl (done_offered calm number k named _ _))

  ended_lost : (k : ℕ) → k ≡ number → fails_at (host_of w n) 1 ≡ true → Leads (draining_reply b w n (reply.Lost k))
  ended_lost k named fails = inl (lost calm number k named (λ quiet. never_met (host_of w n).injected_fault ((host_of w n).calls + 1) (g.unordered quiet) fails))

  -- the command goes on
  on_sent : (k : ℕ) → stage_of b w.history ≡ Claimed → Leads (draining_reply b w n (reply.Sent k))
  on_sent k is = inr (record {
    drains = guest_stage b w n n line.Work (reply.Sent k) ∙ g.drains;
    executing = g.executing;
    same = g.same;
    unordered = λ quiet. ap (λ (h : HostState). h.injected_fault) (guest_acted b w n line.Work (reply.Sent k)) ∙ g.unordered quiet;
    within_limit = let within_limit = rw is at g.within_limit in omega arith;
  })

  on_exec : (k : ℕ) → stage_of b w.history ≡ HasSent → Leads (draining_reply b w n (reply.Exec k))
  on_exec k is = inr (record {
    drains = guest_stage b w n n line.Work (reply.Exec k) ∙ g.drains;
    executing = g.executing;
    same = g.same;
    unordered = λ quiet. ap (λ (h : HostState). h.injected_fault) (guest_acted b w n line.Work (reply.Exec k)) ∙ g.unordered quiet;
    within_limit = let within_limit = rw is at g.within_limit in omega arith;
  })

  stepped : (s : JobStage) (x : WorkerReplyInputs) → stage_of b w.history ≡ s → x.number ≡ number → Leads (draining_reply b w n (worker_reply_at s x (fails_at (host_of w n))))
  stepped Waiting x is named = absurd (let within_limit = rw is at g.within_limit in omega arith)
  stepped Claimed x is named = cond_both x.held _ _ (λ q. Leads (draining_reply b w n q)) (λ held. ended_cancelled x.number named)
      (λ free. cond_both (fails_at (host_of w n) 1) _ _ (λ q. Leads (draining_reply b w n q)) (λ fails. ended_lost x.number named fails) (λ works. on_sent x.number is))
  stepped HasSent x is named = cond_both (fails_at (host_of w n) 1) _ _ (λ q. Leads (draining_reply b w n q)) (λ fails. ended_lost x.number named fails) (λ works. on_exec x.number is)
  stepped HasHeader x is named = cond_both x.in_time _ _ (λ q. Leads (draining_reply b w n q)) (λ late. ended_cancelled x.number named)
      (λ early. cond_both (has_rest x.size && fails_at (host_of w n) 1) _ _ (λ q. Leads (draining_reply b w n q)) (λ fails. ended_lost x.number named (and_parts (has_rest x.size) (fails_at (host_of w n) 1) fails).1) (λ works. ended_done x.number named))

  worked : (r : Reply) → HostsInvariant b w → AnswersWork b w (working_host w) r → Ends calm number r ⊎ GoesOn calm b (after_work b w (working_host w) r) n number (steps + 1)
  worked r kept answers =
      let there : working_host w ≡ Some n = works_there w n g.drains (drains_alone b w n kept g.drains) in
      let at_host : AnswersWorkAt b w n (stage_at w n) r = subst (λ found. AnswersWork b w found r) there answers in
      let due : r ≡ draining_reply b w n (worker_reply b w.history (fails_at (host_of w n))) = subst (λ s. AnswersWorkAt b w n s r) g.drains at_host in
      let step : worker_reply b w.history (fails_at (host_of w n)) ≡ worker_reply_at (stage_of b w.history) (worker_reply_inputs b w.history) (fails_at (host_of w n)) = cond-true (is_executing (phase_of b w.history)) _ _ g.executing in
      subst (λ found. Ends calm number r ⊎ GoesOn calm b (after_work b w found r) n number (steps + 1)) (sym there)
      (subst (λ s. Ends calm number r ⊎ GoesOn calm b (after_work_at b w n s r) n number (steps + 1)) (sym g.drains)
      (subst Leads (sym (due ∙ ap (draining_reply b w n) step)) (stepped (stage_of b w.history) (worker_reply_inputs b w.history) refl g.same)))

-- a delivery leaves a side that is Draining
drains_after : (s : SideState) (after : Outcome) → Shift s after → s.stage ≡ stage.Draining → after.side.stage ≡ stage.Draining
drains_after s after (kept_side same quiet) is = draining_stage after.side.stage (same ∙ ap side_of is)
drains_after s after (now_waits off waits quiet) is = absurd (let wrong : active_on (side_of stage.Draining) ≡ false = sym (ap (λ (g : MoveStage). active_on (side_of g)) is) ∙ off in cc)
drains_after s after (now_released e was now quiet) is = absurd (let wrong = sym was ∙ ap side_of is in cc)
drains_after s after (now_runs e was now says) is = absurd (let wrong = sym was ∙ ap side_of is in cc)
drains_after s after (now_resumes e was now says) is = absurd (let wrong = sym was ∙ ap side_of is in cc)

module _ (calm : Bool) (b : Snapshot) (n : HostName) (number : ℕ) where
  -- the history is the same, and so is what is said of this host
  delivered_on : (w : TwoHosts) (steps : ℕ) (to : HostName) (h : HostState) (after : Outcome) → GoesOn calm b w n number steps → Shift (side_at w to) after → ((host_of w to).injected_fault ≡ None → h.injected_fault ≡ None)
      → GoesOn calm b (with_outcome w to h after) n number steps
  delivered_on w steps to h after g moved none = record { drains = (acts n to moved none).0 g.drains; executing = g.executing; same = g.same; unordered = λ quiet. (acts n to moved none).1 (g.unordered quiet); within_limit = g.within_limit }
    where
      acts : (k to : HostName) → Shift (side_at w to) after → ((host_of w to).injected_fault ≡ None → h.injected_fault ≡ None)
          → (stage_at w k ≡ stage.Draining → stage_at (with_outcome w to h after) k ≡ stage.Draining) × ((host_of w k).injected_fault ≡ None → (host_of (with_outcome w to h after) k).injected_fault ≡ None)
      acts A A moved none = (drains_after (side_at w A) after moved, none)
      acts B B moved none = (drains_after (side_at w B) after moved, none)
      acts A B moved none = (λ is. is, λ is. is)
      acts B A moved none = (λ is. is, λ is. is)

  delivers_on : (piece : ℕ) (w : TwoHosts) (steps : ℕ) (found : Option Message) (r : Reply) → GoesOn calm b w n number steps → GoesOn calm b (after_delivery piece w found r) n number steps
  delivers_on piece w steps None r g = g
  delivers_on piece w steps (Some m) r g = delivered_on w steps m.to (counted r (calls_of_delivery (context_for piece w m.to (is_fault r)) (side_at w m.to) m.epoch m.body) (host_of w m.to)) (delivered (context_for piece w m.to (is_fault r)) (side_at w m.to) m.epoch m.body) g
      (shift (context_for piece w m.to (is_fault r)) (side_at w m.to) m.epoch m.body) (still_none (host_of w m.to).injected_fault (is_fault r))

  again_on : (w : TwoHosts) (steps : ℕ) (found : Option HostName) → GoesOn calm b w n number steps → GoesOn calm b (after_again w found) n number steps
  again_on w steps None g = g
  again_on w steps (Some k) g = record { drains = acts n g.drains; executing = g.executing; same = g.same; unordered = λ quiet. orders n (g.unordered quiet); within_limit = g.within_limit }
    where
      acts : (j : HostName) → stage_at w j ≡ stage.Draining → stage_at (after_again w (Some k)) j ≡ stage.Draining
      acts A is = is
      acts B is = is

      orders : (j : HostName) → (host_of w j).injected_fault ≡ None → (host_of (after_again w (Some k)) j).injected_fault ≡ None
      orders A is = is
      orders B is = is

  -- a fault for the other host, or any fault where calls may fail
  fault_on : (w : TwoHosts) (steps : ℕ) (host : HostName) (call : ℕ) (r : Reply) → GoesOn calm b w n number steps → (calm ≡ true → n ≢ host) → GoesOn calm b (guest_line_on b w host (line.Fail host call) r) n number steps
  fault_on w steps host call r g off = record {
    drains = guest_stage b w host n (line.Fail host call) r ∙ g.drains;
    executing = g.executing;
    same = g.same;
    unordered = λ quiet. orders quiet (same_or_other n host);
    within_limit = g.within_limit;
  }
    where
      orders : calm ≡ true → (n ≡ host) ⊎ (n ≡ other host) → (host_of (guest_line_on b w host (line.Fail host call) r) n).injected_fault ≡ None
      orders quiet (inl here) = absurd (off quiet here)
      orders quiet (inr there) = subst (λ k. (host_of w k).injected_fault ≡ None → (host_of (guest_line_on b w host (line.Fail host call) r) k).injected_fault ≡ None) (sym there) (beside host) (g.unordered quiet)
        where
          beside : (k : HostName) → (host_of w (other k)).injected_fault ≡ None → (host_of (guest_line_on b w k (line.Fail host call) r) (other k)).injected_fault ≡ None
          beside A is = is
          beside B is = is

  none_more : (steps : ℕ) (w : TwoHosts) → GoesOn calm b w n number steps → GoesOn calm b w n number (steps + 0)
  none_more steps w g = record { drains = g.drains; executing = g.executing; same = g.same; unordered = g.unordered; within_limit = let within_limit = g.within_limit in omega (arith, within_limit) }

  -- what one more line leads to
  abbrev Led : TwoHosts → ℕ → Reply → Type 0
  Led w steps r = Ends calm number r ⊎ GoesOn calm b w n number steps

  -- a line that acts on the host that runs finds none
  module _ (piece : ℕ) (w : TwoHosts) (steps : ℕ) (kept : HostsInvariant b w) (g : GoesOn calm b w n number steps) where
    none_runs : running_host w ≡ None
    none_runs = none_runs_there w n g.drains (drains_alone b w n kept g.drains)

    guests_on : (e : Event) (r : Reply) → GoesOn calm b (guest_line_on_any b w (running_host w) e r) n number steps
    guests_on e r = subst (λ found. GoesOn calm b (guest_line_on_any b w found e r) n number steps) (sym none_runs) g

    offers_on : (r : Reply) → GoesOn calm b (after_offer b w (running_host w) r) n number steps
    offers_on r = subst (λ found. GoesOn calm b (after_offer b w found r) n number steps) (sym none_runs) g

    rests_on : (r : Reply) (new : TwoHosts) → GoesOn calm b new n number steps → Led new (steps + 0) r
    rests_on r new on = inr (none_more steps new on)

    line_leads : (l : Event) (r : Reply) → (l ≢ line.GiveUp) → (calm ≡ true → (call : ℕ) → l ≢ line.Fail n call) → AnswersLine b piece w l r → Led (after_line b piece w l r) (steps + steps_of (Some l)) r
    line_leads (line.Access a) r stays quiet answers = rests_on r _ (guests_on (line.Access a) r)
    line_leads line.Work r stays quiet answers = worked calm b w n number steps g r kept answers
    line_leads line.Ask r stays quiet answers = rests_on r _ (guests_on line.Ask r)
    line_leads line.Reset r stays quiet answers = rests_on r _ (guests_on line.Reset r)
    line_leads (line.Fail host call) r stays quiet answers = rests_on r _ (fault_on w steps host call r g (λ calmly here. quiet calmly call (ap (λ k. line.Fail k call) (sym here))))
    line_leads line.Offer r stays quiet answers = rests_on r _ (offers_on r)
    line_leads (line.Deliver k) r stays quiet answers = rests_on r _ (delivers_on piece w steps (message_at w.sent k) r g)
    line_leads line.GiveUp r stays quiet answers = absurd (stays refl)
    line_leads line.Again r stays quiet answers = rests_on r _ (again_on w steps (host_where is_prepared w) g)
    line_leads (line.Show k) r stays quiet answers = rests_on r _ g

    exchange_leads : (l : Option Event) (r : Reply) → (l ≢ Some line.GiveUp) → (calm ≡ true → (call : ℕ) → l ≢ Some (line.Fail n call)) → AnswersIn b piece w l r → Led (after_exchange b piece w l r) (steps + steps_of l) r
    exchange_leads None r stays quiet answers = absurd answers
    exchange_leads (Some l) r stays quiet answers = line_leads l r (λ is. stays (ap Some is)) (λ calmly call is. quiet calmly call (ap Some is)) answers

  -- ---- line by line

  module _ (piece : ℕ) (t : Transcript) (begins : GoesOn calm b (hosts_after b piece t) n number 0) where
    ended_or : (more : Transcript) → InTurn b piece (more ++ t) → NeverGivesUp more → (calm ≡ true → NeverFails n more) → HasReply (Ends calm number) more ⊎ GoesOn calm b (hosts_after b piece (more ++ t)) n number (step_count more)
    ended_or [] in_turn stays quiet = inr begins
    ended_or (x ∷ more) in_turn stays quiet = go (ended_or more in_turn.0 stays.0 (λ calmly. (quiet calmly).0))
      where
        last : Led (hosts_after b piece (x ∷ more ++ t)) (step_count (x ∷ more)) x.reply → HasReply (Ends calm number) (x ∷ more) ⊎ GoesOn calm b (hosts_after b piece (x ∷ more ++ t)) n number (step_count (x ∷ more))
        last (inl end) = inl (inr end)
        last (inr on) = inr on

        go : HasReply (Ends calm number) more ⊎ GoesOn calm b (hosts_after b piece (more ++ t)) n number (step_count more)
            → HasReply (Ends calm number) (x ∷ more) ⊎ GoesOn calm b (hosts_after b piece (x ∷ more ++ t)) n number (step_count (x ∷ more))
        go (inl end) = inl (inl end)
        go (inr on) = last (exchange_leads piece (hosts_after b piece (more ++ t)) (step_count more) (run_kept b piece (more ++ t) in_turn.0) on x.line x.reply stays.1 (λ calmly. (quiet calmly).1) in_turn.1)

    within_three : (more : Transcript) → InTurn b piece (more ++ t) → NeverGivesUp more → (calm ≡ true → NeverFails n more) → 3 ≤ step_count more → HasReply (Ends calm number) more
    within_three more in_turn stays quiet enough = go (ended_or more in_turn stays quiet)
      where
        go : HasReply (Ends calm number) more ⊎ GoesOn calm b (hosts_after b piece (more ++ t)) n number (step_count more) → HasReply (Ends calm number) more
        go (inl end) = end
        go (inr on) = absurd (let within_limit = on.within_limit in let least = left_least (stage_of b (hosts_after b piece (more ++ t)).history) in omega (arith, enough, within_limit, least))

-- ---- from the reply `draining`

-- that reply comes while the command of its number is claimed
record Announces (b : Snapshot) (p : History) (r : Reply) : Type 0 where
  announced : (number : ℕ) → r ≡ reply.Draining number → (is_under_way b p ≡ true) × (number_of b p ≡ number)

abbrev number_in : Reply → ℕ
number_in (reply.Draining number) = number
number_in _ = 0

announces : (b : Snapshot) (w : TwoHosts) (n : HostName) → Announces b w.history (offer_reply b w (Some n))
announces b w n =
    cond_both (is_lost (phase_of b w.history)) _ _ (Announces b w.history) (λ yes. record { announced = λ k is. absurd cc }) (λ no.
    cond_both ((host_of w n).side.top == 2 ^ 64 - 1) _ _ (Announces b w.history) (λ yes. record { announced = λ k is. absurd cc }) (λ no.
    cond_both (is_under_way b w.history) _ _ (Announces b w.history) (λ yes. record { announced = λ k is. (yes, ap number_in is) }) (λ no.
    cond_both (fails_at (host_of w n) 9) _ _ (Announces b w.history) (λ yes. record { announced = λ k is. absurd cc }) (λ no. record { announced = λ k is. absurd cc }))))

drained_acted : (w : TwoHosts) (n : HostName) → host_of (with_host w n (host_at stage.Draining (host_of w n))) n ≡ host_at stage.Draining (host_of w n)
drained_acted w A = refl
drained_acted w B = refl

begins_at : (calm : Bool) (b : Snapshot) (piece : ℕ) (t : Transcript) (n : HostName) (number : ℕ) → reply.Draining number ≡ offer_reply b (hosts_after b piece t) (Some n) → running_host (hosts_after b piece t) ≡ Some n
    → (calm ≡ true → (host_of (hosts_after b piece t) n).injected_fault ≡ None) → GoesOn calm b (hosts_after b piece (exchange line.Offer (reply.Draining number) ∷ t)) n number 0
begins_at calm b piece t n number answers runs none =
    subst (λ found. GoesOn calm b (after_offer b w found (reply.Draining number)) n number 0) (sym runs) (record {
      drains = ap (λ (h : HostState). h.side.stage) (drained_acted w n);
      executing = (and_parts (is_executing (phase_of b w.history)) (not (is_waiting (stage_of b w.history))) said.0).0;
      same = said.1;
      unordered = λ quiet. ap (λ (h : HostState). h.injected_fault) (drained_acted w n) ∙ none quiet;
      within_limit = claimed_left (stage_of b w.history) (and_parts (is_executing (phase_of b w.history)) (not (is_waiting (stage_of b w.history))) said.0).1;
    })
  where
    w : TwoHosts
    w = hosts_after b piece t

    said : (is_under_way b (hosts_after b piece t).history ≡ true) × (number_of b (hosts_after b piece t).history ≡ number)
    said = (announces b (hosts_after b piece t) n).announced number (sym answers)

in_turn_before : (b : Snapshot) (piece : ℕ) (more t : Transcript) → InTurn b piece (more ++ t) → InTurn b piece t
in_turn_before b piece [] t in_turn = in_turn
in_turn_before b piece (x ∷ more) t in_turn = in_turn_before b piece more t in_turn.0

-- the host that was asked for an offer
asked_host : (b : Snapshot) (piece : ℕ) (t : Transcript) (number : ℕ) → reply.Draining number ≡ offer_reply b (hosts_after b piece t) (running_host (hosts_after b piece t)) → (n : HostName) × (running_host (hosts_after b piece t) ≡ Some n)
asked_host b piece t number answers = go (running_host (hosts_after b piece t)) refl answers
  where
    go : (found : Option HostName) → running_host (hosts_after b piece t) ≡ found → reply.Draining number ≡ offer_reply b (hosts_after b piece t) found → (n : HostName) × (running_host (hosts_after b piece t) ≡ Some n)
    go None is at = absurd cc
    go (Some n) is at = (n, is)

answered : (b : Snapshot) (piece : ℕ) (t more : Transcript) (number : ℕ) → InTurn b piece (more ++ exchange line.Offer (reply.Draining number) ∷ t) → reply.Draining number ≡ offer_reply b (hosts_after b piece t) (running_host (hosts_after b piece t))
answered b piece t more number in_turn = (in_turn_before b piece more (exchange line.Offer (reply.Draining number) ∷ t) in_turn).1

pub drains_end : (b : Snapshot) (piece : ℕ) (t more : Transcript) (number : ℕ) → InTurn b piece (more ++ exchange line.Offer (reply.Draining number) ∷ t) → NeverGivesUp more → 3 ≤ step_count more → HasReply (IsDrainEnd number) more
drains_end b piece t more number in_turn stays enough =
    let at : reply.Draining number ≡ offer_reply b (hosts_after b piece t) (running_host (hosts_after b piece t)) = answered b piece t more number in_turn in
    let found : (n : HostName) × (running_host (hosts_after b piece t) ≡ Some n) = asked_host b piece t number at in
    within_three false b found.0 number piece (exchange line.Offer (reply.Draining number) ∷ t)
    (begins_at false b piece t found.0 number (at ∙ ap (offer_reply b (hosts_after b piece t)) found.1) found.1 (λ wrong. absurd cc)) more in_turn stays (λ wrong. absurd cc) enough

pub drains_offer : (b : Snapshot) (piece : ℕ) (t more : Transcript) (n : HostName) (number : ℕ) → InTurn b piece (more ++ exchange line.Offer (reply.Draining number) ∷ t) → running_host (hosts_after b piece t) ≡ Some n
    → (host_of (hosts_after b piece t) n).injected_fault ≡ None → NeverFails n more → NeverGivesUp more → 3 ≤ step_count more → HasReply (IsOfferBehind number) more
drains_offer b piece t more n number in_turn runs none quiet stays enough =
    within_three true b n number piece (exchange line.Offer (reply.Draining number) ∷ t)
    (begins_at true b piece t n number (answered b piece t more number in_turn ∙ ap (offer_reply b (hosts_after b piece t)) runs) runs (λ calmly. none)) more in_turn stays (λ calmly. quiet) enough
