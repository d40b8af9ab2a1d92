-- While a host drains, its command is claimed and unfinished.
use Rattle.std.proofs.Common.{◌≡◌, ℕ, ◌+◌, ◌⊎◌, inl, inr, Bool, true, false, not, ◌&&◌, ◌==◌, [], ◌∷◌, Option, Some, None, refl, sym, ◌∙◌, ap, subst}
use Rattle.std.specs.Prelude.{◌-◌, ◌^◌}
use Rattle.std.proofs.lemmas.Bool.{cond_both, and_parts}
use Rattle.crb_regs.specs.Registers.{is_executing, is_lost}
use Rattle.crb_history.specs.Snapshot.{Snapshot}
use Rattle.crb_history.specs.Event.{History}
use Rattle.crb_history.specs.Continued.{snapshot_after}
use Rattle.crb_history.specs.Device.{phase_of, stage_of, number_of}
use Rattle.crb_history.specs.Cancelling.{is_waiting}
use Rattle.vt_transcript.specs.Replies.{is_under_way, Transcript, is_fault}
use Rattle.vt_script.specs.declared.event.Event.{Event}
use Rattle.vt_script.specs.declared.event.Event.TheVariants as line
use Rattle.vt_script.specs.declared.reply.Reply.{Reply}
use Rattle.vt_script.specs.declared.reply.Reply.TheVariants as reply
use Rattle.vt_base.specs.declared.types.HostName.{HostName}
use Rattle.vt_base.specs.declared.types.HostName.TheVariants.{A, B}
use Rattle.move_codec.specs.declared.message.Message.{Message}
use Rattle.move_core.specs.declared.stage.MoveStage.{MoveStage}
use Rattle.move_core.specs.declared.stage.MoveStage.TheVariants as stage
use Rattle.move_core.specs.declared.side.Side.{Side}
use Rattle.move_core.specs.declared.side.Side.TheVariants.{Running, Draining, Offering}
use Rattle.move_core.specs.Sides.{other, side_of, is_running}
use Rattle.two_hosts.specs.Deliveries.{Outcome, delivered, calls_of_delivery}
use Rattle.two_hosts.specs.Hosts.{TwoHosts, HostState, hosts_after, first_hosts, host_of, stage_at, with_host, with_outcome, host_where, running_host, working_host, is_working, is_leaving, is_prepared, running_again, message_at, fails_at, host_after_guest, context_for, counted, after_message, after_delivery, after_offer, offered_by, after_work, after_work_at, after_drained, after_give_up, after_again, guest_line_on, guest_line_on_any, after_line, after_exchange}
use Rattle.two_hosts.specs.Replies.{AnswersIn, AnswersLine, AnswersWork, AnswersWorkAt, InTurn, draining_reply, offer_reply}
use Rattle.two_hosts.specs.Invariant.{HostsInvariant, IsPassive, DrainsUnderWay, side_at, shown_side}
use Rattle.two_hosts.proofs.InvariantKept.{host_where_cases, running_stage, step_ends, run_kept}
use Rattle.two_hosts.proofs.GuestReplies.{IsOfDevice}
use Rattle.two_hosts.proofs.RunningSets.{shown, alone, same_or_other}
use Rattle.two_hosts.proofs.Shifts.{Shift, shift, IsWaiting, active_on}
use Rattle.two_hosts.proofs.Shifts.Shift.{same as kept_side, waits as now_waits, releases as now_released, runs as now_runs, resumes as now_resumes}

-- a stage that is shown as Draining is Draining
pub draining_stage : (g : MoveStage) → side_of g ≡ Draining → g ≡ stage.Draining
draining_stage stage.Draining is = refl
draining_stage stage.Empty is = absurd cc
draining_stage stage.Running is = absurd cc
draining_stage (stage.Offering e totals) is = absurd cc
draining_stage (stage.Released e) is = absurd cc
draining_stage (stage.Filling e totals part place) is = absurd cc
draining_stage (stage.Prepared e) is = absurd cc

passive_drains : (g : MoveStage) → IsPassive (side_of g) → g ≡ stage.Draining → ⊥
passive_drains g passive is = let wrong : ⊥ = subst (λ (x : MoveStage). IsPassive (side_of x)) is passive in wrong

-- where no host drains
none_drains : (b : Snapshot) (t : TwoHosts) → ((n : HostName) → stage_at t n ≡ stage.Draining → ⊥) → DrainsUnderWay b t
none_drains b t none = λ n is. absurd (none n is)

-- one host is active and doesn't drain: after a change of it alone none drains
module _ (b : Snapshot) (t new : TwoHosts) (n : HostName) (kept : HostsInvariant b t) (active : active_on (shown t n) ≡ true) (acted : stage_at new n ≡ stage.Draining → ⊥) (still : stage_at new (other n) ≡ stage_at t (other n)) where
  pub rests_all : DrainsUnderWay b new
  rests_all = none_drains b new (λ k is. go k is (same_or_other k n))
    where
      go : (k : HostName) → stage_at new k ≡ stage.Draining → (k ≡ n) ⊎ (k ≡ other n) → ⊥
      go k is (inl here) = acted (subst (λ j. stage_at new j ≡ stage.Draining) here is)
      go k is (inr there) = passive_drains (stage_at t (other n)) (alone b t kept n active) (sym still ∙ subst (λ j. stage_at new j ≡ stage.Draining) there is)

pub guest_stage : (b : Snapshot) (t : TwoHosts) (n k : HostName) (e : Event) (r : Reply) → stage_at (guest_line_on b t n e r) k ≡ stage_at t k
guest_stage b t A A e r = refl
guest_stage b t A B e r = refl
guest_stage b t B A e r = refl
guest_stage b t B B e r = refl

-- a line on a host that runs
on_running : (b : Snapshot) (t : TwoHosts) (n : HostName) (e : Event) (r : Reply) → HostsInvariant b t → stage_at t n ≡ stage.Running → DrainsUnderWay b (guest_line_on b t n e r)
on_running b t n e r kept is = rests_all b t (guest_line_on b t n e r) n kept (ap (λ (g : MoveStage). active_on (side_of g)) is)
    (λ at. let wrong : stage.Running ≡ stage.Draining = sym is ∙ sym (guest_stage b t n n e r) ∙ at in cc) (guest_stage b t n (other n) e r)

guests_drain : (b : Snapshot) (t : TwoHosts) (e : Event) (r : Reply) → HostsInvariant b t → DrainsUnderWay b t → DrainsUnderWay b (guest_line_on_any b t (running_host t) e r)
guests_drain b t e r kept old = host_where_cases is_running t (λ found. DrainsUnderWay b (guest_line_on_any b t found e r)) (λ n is. on_running b t n e r kept (running_stage (stage_at t n) is)) old

-- ---- a step of the worker of a host that drains

offered_acted : (b : Snapshot) (t : TwoHosts) (n : HostName) (v : Snapshot) → stage_at (offered_by v t n) n ≡ stage.Draining → ⊥
offered_acted b t A v is = cc
offered_acted b t B v is = cc

offered_still : (t : TwoHosts) (n : HostName) (v : Snapshot) → stage_at (offered_by v t n) (other n) ≡ stage_at t (other n)
offered_still t A v = refl
offered_still t B v = refl

turned_acted : (t : TwoHosts) (n : HostName) (order : Option ℕ) (calls : ℕ) → stage_at (with_host t n (record { side = record (side_at t n) { stage = stage.Running }; injected_fault = order; calls = calls })) n ≡ stage.Draining → ⊥
turned_acted t A order calls is = cc
turned_acted t B order calls is = cc

turned_still : (t : TwoHosts) (n : HostName) (g : MoveStage) (order : Option ℕ) (calls : ℕ) → stage_at (with_host t n (record { side = record (side_at t n) { stage = g }; injected_fault = order; calls = calls })) (other n) ≡ stage_at t (other n)
turned_still t A g order calls = refl
turned_still t B g order calls = refl

-- the host went on with its command, and what follows it turned it away from draining
module _ (b : Snapshot) (t : TwoHosts) (n : HostName) (kept : HostsInvariant b t) (is : stage_at t n ≡ stage.Draining) (old : DrainsUnderWay b t) where
  active : active_on (shown t n) ≡ true
  active = ap (λ (g : MoveStage). active_on (side_of g)) is

  executes : is_executing (phase_of b t.history) ≡ true
  executes = (and_parts (is_executing (phase_of b t.history)) (not (is_waiting (stage_of b t.history))) (old n is)).0

  away : (r : Reply) (new : TwoHosts) → (stage_at new n ≡ stage.Draining → ⊥) → stage_at new (other n) ≡ stage_at (guest_line_on b t n line.Work r) (other n) → DrainsUnderWay b new
  away r new acted still = rests_all b t new n kept active acted (still ∙ guest_stage b t n (other n) line.Work r)

  step_drains : (q : Reply) → IsOfDevice q → DrainsUnderWay b (after_work_at b t n stage.Draining (draining_reply b t n q))
  step_drains (reply.Done number) of =
      let after : TwoHosts = guest_line_on b t n line.Work (reply.Done number) in
      cond_both (fails_at (host_after_guest b t.history line.Work (reply.Done number) (host_of t n)) 9) _ _ (λ a. DrainsUnderWay b (after_work_at b t n stage.Draining a))
      (λ fails. away (reply.Done number) (with_host after n (running_again (counted reply.Link 0 (host_of after n)))) (turned_acted after n None ((host_of after n).calls + 0)) (turned_still after n stage.Running None ((host_of after n).calls + 0)))
      (λ works. away (reply.Done number) (offered_by (snapshot_after b after.history) after n) (offered_acted b after n (snapshot_after b after.history)) (offered_still after n (snapshot_after b after.history)))
  step_drains (reply.Cancelled number) of =
      let after : TwoHosts = guest_line_on b t n line.Work (reply.Cancelled number) in
      cond_both (fails_at (host_after_guest b t.history line.Work (reply.Cancelled number) (host_of t n)) 9) _ _ (λ a. DrainsUnderWay b (after_work_at b t n stage.Draining a))
      (λ fails. away (reply.Cancelled number) (with_host after n (running_again (counted reply.Link 0 (host_of after n)))) (turned_acted after n None ((host_of after n).calls + 0)) (turned_still after n stage.Running None ((host_of after n).calls + 0)))
      (λ works. away (reply.Cancelled number) (offered_by (snapshot_after b after.history) after n) (offered_acted b after n (snapshot_after b after.history)) (offered_still after n (snapshot_after b after.history)))
  step_drains (reply.Lost number) of =
      let after : TwoHosts = guest_line_on b t n line.Work (reply.Lost number) in
      away (reply.Lost number) (with_host after n (running_again (host_of after n))) (turned_acted after n (host_of after n).injected_fault (host_of after n).calls) (turned_still after n stage.Running (host_of after n).injected_fault (host_of after n).calls)
  step_drains (reply.Claim number) of = λ k at. ap (λ x. x && true) executes
  step_drains (reply.Sent number) of = λ k at. ap (λ x. x && true) executes
  step_drains (reply.Exec number) of = λ k at. ap (λ x. x && true) executes
  step_drains reply.Idle of = λ k at. old n is
  step_drains reply.Accepted of = λ k at. old n is
  step_drains (reply.Value value size) of = λ k at. old n is
  step_drains reply.Link of = λ k at. old n is
  step_drains reply.Asked of = λ k at. old n is
  step_drains reply.FailedDevice of = λ k at. old n is
  step_drains reply.NotYet of = λ k at. old n is
  step_drains reply.Reset of = λ k at. old n is
  step_drains _ of = absurd of

work_drains_at : (b : Snapshot) (t : TwoHosts) (n : HostName) (g : MoveStage) (r : Reply) → HostsInvariant b t → DrainsUnderWay b t → stage_at t n ≡ g → is_working g ≡ true → AnswersWorkAt b t n g r → DrainsUnderWay b (after_work_at b t n g r)
work_drains_at b t n stage.Running r kept old is works answers = on_running b t n line.Work r kept is
work_drains_at b t n stage.Draining r kept old is works answers = subst (λ a. DrainsUnderWay b (after_work_at b t n stage.Draining a)) (sym answers) (step_drains b t n kept is old _ (step_ends b t.history (fails_at (host_of t n))).of_device)
work_drains_at b t n stage.Empty r kept old is works answers = absurd cc
work_drains_at b t n (stage.Offering e totals) r kept old is works answers = absurd cc
work_drains_at b t n (stage.Released e) r kept old is works answers = absurd cc
work_drains_at b t n (stage.Filling e totals part place) r kept old is works answers = absurd cc
work_drains_at b t n (stage.Prepared e) r kept old is works answers = absurd cc

work_drains : (b : Snapshot) (t : TwoHosts) (r : Reply) → HostsInvariant b t → DrainsUnderWay b t → AnswersWork b t (working_host t) r → DrainsUnderWay b (after_work b t (working_host t) r)
work_drains b t r kept old answers = host_where_cases is_working t (λ found. AnswersWork b t found r → DrainsUnderWay b (after_work b t found r))
    (λ n is at. work_drains_at b t n (stage_at t n) r kept old refl is at) (λ at. old) answers

-- ---- an offer

-- a reply by which a host drains comes only while its command is claimed
record MayDrain (b : Snapshot) (p : History) (r : Reply) : Type 0 where
  may : (number : ℕ) → r ≡ reply.Draining number → is_under_way b p ≡ true

may_drain : (b : Snapshot) (t : TwoHosts) (n : HostName) → MayDrain b t.history (offer_reply b t (Some n))
may_drain b t n =
    cond_both (is_lost (phase_of b t.history)) _ _ (MayDrain b t.history) (λ yes. record { may = λ k is. absurd cc }) (λ no.
    cond_both ((host_of t n).side.top == 2 ^ 64 - 1) _ _ (MayDrain b t.history) (λ yes. record { may = λ k is. absurd cc }) (λ no.
    cond_both (is_under_way b t.history) _ _ (MayDrain b t.history) (λ yes. record { may = λ k is. yes }) (λ no.
    cond_both (fails_at (host_of t n) 9) _ _ (MayDrain b t.history) (λ yes. record { may = λ k is. absurd cc }) (λ no. record { may = λ k is. absurd cc }))))

counted_stage : (t : TwoHosts) (r : Reply) (calls : ℕ) (n k : HostName) → stage_at (with_host t n (counted r calls (host_of t n))) k ≡ stage_at t k
counted_stage t r calls A A = refl
counted_stage t r calls A B = refl
counted_stage t r calls B A = refl
counted_stage t r calls B B = refl

offer_drains : (b : Snapshot) (t : TwoHosts) (n : HostName) (r : Reply) → HostsInvariant b t → DrainsUnderWay b t → stage_at t n ≡ stage.Running → r ≡ offer_reply b t (Some n) → DrainsUnderWay b (after_offer b t (Some n) r)
offer_drains b t n (reply.Offered e m) kept old is answers = rests_all b t (offered_by (snapshot_after b t.history) t n) n kept (ap (λ (g : MoveStage). active_on (side_of g)) is) (offered_acted b t n (snapshot_after b t.history)) (offered_still t n (snapshot_after b t.history))
offer_drains b t n (reply.Draining number) kept old is answers = λ k at. (may_drain b t n).may number (sym answers)
offer_drains b t n r kept old is answers = λ k at. old k (sym (counted_stage t r 0 n k) ∙ at)

-- ---- a delivery

outcome_drains : (b : Snapshot) (t : TwoHosts) (to : HostName) (h : HostState) (after : Outcome) → DrainsUnderWay b t → Shift (side_at t to) after → DrainsUnderWay b (with_outcome t to h after)
outcome_drains b t to h after old moved = λ k is. go to k moved is
  where
    stays : (n : HostName) → Shift (side_at t n) after → after.side.stage ≡ stage.Draining → stage_at t n ≡ stage.Draining
    stays n (kept_side same quiet) is = draining_stage (stage_at t n) (sym same ∙ ap side_of is)
    stays n (now_waits off waits quiet) is = absurd (let wrong : ⊥ = subst IsWaiting (ap side_of is) waits in wrong)
    stays n (now_released e was now quiet) is = absurd (let wrong = sym now ∙ ap side_of is in cc)
    stays n (now_runs e was now says) is = absurd (let wrong = sym now ∙ ap side_of is in cc)
    stays n (now_resumes e was now says) is = absurd (let wrong = sym now ∙ ap side_of is in cc)

    go : (to k : HostName) → Shift (side_at t to) after → stage_at (with_outcome t to h after) k ≡ stage.Draining → is_under_way b t.history ≡ true
    go A A moved is = old A (stays A moved is)
    go B B moved is = old B (stays B moved is)
    go A B moved is = old B is
    go B A moved is = old A is

deliver_drains : (b : Snapshot) (piece : ℕ) (t : TwoHosts) (found : Option Message) (r : Reply) → DrainsUnderWay b t → DrainsUnderWay b (after_delivery piece t found r)
deliver_drains b piece t None r old = old
deliver_drains b piece t (Some m) r old = outcome_drains b t m.to (counted r (calls_of_delivery (context_for piece t m.to (is_fault r)) (side_at t m.to) m.epoch m.body) (host_of t m.to)) (delivered (context_for piece t m.to (is_fault r)) (side_at t m.to) m.epoch m.body) old
    (shift (context_for piece t m.to (is_fault r)) (side_at t m.to) m.epoch m.body)

-- ---- the other lines

give_up_drains : (b : Snapshot) (t : TwoHosts) (found : Option HostName) → DrainsUnderWay b t → DrainsUnderWay b (after_give_up t found)
give_up_drains b t None old = old
give_up_drains b t (Some n) old = λ k is. go n k is
  where
    go : (n k : HostName) → stage_at (after_give_up t (Some n)) k ≡ stage.Draining → is_under_way b t.history ≡ true
    go A A is = absurd cc
    go B B is = absurd cc
    go A B is = old B is
    go B A is = old A is

again_drains : (b : Snapshot) (t : TwoHosts) (found : Option HostName) → DrainsUnderWay b t → DrainsUnderWay b (after_again t found)
again_drains b t None old = old
again_drains b t (Some n) old = λ k is. go k is
  where
    go : (k : HostName) → stage_at (after_again t (Some n)) k ≡ stage.Draining → is_under_way b t.history ≡ true
    go A is = old A is
    go B is = old B is

pub line_drains : (b : Snapshot) (piece : ℕ) (t : TwoHosts) (l : Event) (r : Reply) → HostsInvariant b t → DrainsUnderWay b t → AnswersLine b piece t l r → DrainsUnderWay b (after_line b piece t l r)
line_drains b piece t (line.Access a) r kept old answers = guests_drain b t (line.Access a) r kept old
line_drains b piece t line.Work r kept old answers = work_drains b t r kept old answers
line_drains b piece t line.Ask r kept old answers = guests_drain b t line.Ask r kept old
line_drains b piece t line.Reset r kept old answers = guests_drain b t line.Reset r kept old
line_drains b piece t (line.Fail host call) r kept old answers = λ k is. old k (sym (guest_stage b t host k (line.Fail host call) r) ∙ is)
line_drains b piece t line.Offer r kept old answers = host_where_cases is_running t (λ found. r ≡ offer_reply b t found → DrainsUnderWay b (after_offer b t found r)) (λ n is at. offer_drains b t n r kept old (running_stage (stage_at t n) is) at) (λ at. old) answers
line_drains b piece t (line.Deliver k) r kept old answers = deliver_drains b piece t (message_at t.sent k) r old
line_drains b piece t line.GiveUp r kept old answers = give_up_drains b t (host_where is_leaving t) old
line_drains b piece t line.Again r kept old answers = again_drains b t (host_where is_prepared t) old
line_drains b piece t (line.Show k) r kept old answers = old

exchange_drains : (b : Snapshot) (piece : ℕ) (t : TwoHosts) (l : Option Event) (r : Reply) → HostsInvariant b t → DrainsUnderWay b t → AnswersIn b piece t l r → DrainsUnderWay b (after_exchange b piece t l r)
exchange_drains b piece t None r kept old answers = old
exchange_drains b piece t (Some l) r kept old answers = line_drains b piece t l r kept old answers

pub first_drains : (b : Snapshot) → DrainsUnderWay b (first_hosts b)
first_drains b A is = absurd cc
first_drains b B is = absurd cc

pub run_drains : (b : Snapshot) (piece : ℕ) (t : Transcript) → InTurn b piece t → DrainsUnderWay b (hosts_after b piece t)
run_drains b piece [] in_turn = first_drains b
run_drains b piece (x ∷ t) in_turn = exchange_drains b piece (hosts_after b piece t) x.line x.reply (run_kept b piece t in_turn.0) (run_drains b piece t in_turn.0) in_turn.1
