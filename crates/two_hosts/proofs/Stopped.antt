-- A line is answered `stopped` exactly where it needs a running host and none runs. While a host drains, `work` isn't.
use Rattle.std.proofs.Common.{◌≡◌, ℕ, Bool, true, false, not, ◌&&◌, ◌||◌, List, Option, Some, None, refl, sym, ◌∙◌, ap}
use Rattle.std.specs.Prelude.{◌-◌, ◌^◌, ◌==◌, if◌then◌else◌}
use Rattle.std.proofs.lemmas.Bool.{cond_both}
use Rattle.crb_history.specs.Snapshot.{Snapshot}
use Rattle.crb_history.specs.Device.{phase_of}
use Rattle.vt_transcript.specs.Replies.{is_under_way, worker_reply, Transcript}
use Rattle.crb_regs.specs.Registers.{is_lost}
use Rattle.vt_script.specs.declared.event.Event.{Event}
use Rattle.vt_script.specs.declared.event.Event.TheVariants as line
use Rattle.vt_base.specs.declared.types.HostName.{HostName}
use Rattle.vt_base.specs.declared.types.HostName.TheVariants.{A, B}
use Rattle.move_codec.specs.declared.message.Message.{Message}
use Rattle.move_core.specs.declared.answers.Delivered.{Delivered}
use Rattle.move_core.specs.declared.answers.Delivered.TheVariants as delivers
use Rattle.move_core.specs.Sides.{other, side_of, is_running, is_draining}
use Rattle.vt_script.specs.declared.event.Event.TheVariants.{Offer, Deliver, GiveUp, Again, Show}
use Rattle.vt_script.specs.declared.reply.Reply.{Reply}
use Rattle.vt_script.specs.declared.reply.Reply.TheVariants as reply
use Rattle.two_hosts.specs.Hosts.{TwoHosts, HostState, hosts_after, host_of, stage_at, host_where, running_host, working_host, is_working, is_leaving, is_prepared, host_after_guest, message_at, fails_at}
use Rattle.two_hosts.specs.Replies.{AnswersLine, AnswersOn, AnswersWork, AnswersWorkAt, InTurn, drained_reply, gave_reply, offer_reply, deliver_reply, delivery_reply, give_up_reply, again_reply, show_reply}
use Rattle.two_hosts.specs.RunningSet.{is_empty, running_set, needs_running, waits_for_drain, is_stopped}
use Rattle.two_hosts.proofs.GuestReplies.{IsOfDevice, replies_of_device}
use Rattle.two_hosts.proofs.RunningSets.{shown, alone, rests_undrained, runs_where, drains_where}
use Rattle.two_hosts.proofs.InvariantKept.{running_stage, step_ends, run_kept}
use Rattle.two_hosts.proofs.Shifts.{active_on, draining_on}
use Rattle.two_hosts.specs.Invariant.{HostsInvariant}
use Rattle.move_core.specs.declared.stage.MoveStage.{MoveStage}
use Rattle.move_core.specs.declared.stage.MoveStage.TheVariants as stage

-- neither host runs
abbrev none_runs : TwoHosts → Bool
none_runs t = not (is_running t.a.side.stage || is_running t.b.side.stage)

found_cases : (a b : Bool) (P : Option HostName → Bool → Type 0) → ((n : HostName) → P (Some n) false) → P None true → P (if a then Some A else (if b then Some B else None)) (not (a || b))
found_cases true b P some none = some A
found_cases false true P some none = some B
found_cases false false P some none = none

running_cases : (t : TwoHosts) (P : Option HostName → Bool → Type 0) → ((n : HostName) → P (Some n) false) → P None true → P (running_host t) (none_runs t)
running_cases t P some none = found_cases (is_running t.a.side.stage) (is_running t.b.side.stage) P some none

abbrev GoesOn : Reply → Type 0
GoesOn q = is_stopped q ≡ false

of_device : (q : Reply) → IsOfDevice q → GoesOn q
of_device reply.Stopped is = absurd is
of_device _ is = refl

-- no worker goes on
abbrev none_works : TwoHosts → Bool
none_works t = not (is_working t.a.side.stage || is_working t.b.side.stage)

on_stopped : (b : Snapshot) (t : TwoHosts) (e : Event) (q : Reply) → AnswersOn b t (running_host t) e q → is_stopped q ≡ none_runs t
on_stopped b t e q answers = running_cases t (λ found none. AnswersOn b t found e q → is_stopped q ≡ none) (λ n is. of_device q (replies_of_device b t.history (fails_at (host_of t n)) e q is)) (λ is. ap is_stopped is) answers

offer_goes_on : (b : Snapshot) (t : TwoHosts) (n : HostName) → GoesOn (offer_reply b t (Some n))
offer_goes_on b t n = cond_both (is_lost (phase_of b t.history)) _ _ GoesOn (λ yes. refl) (λ no.
    cond_both ((host_of t n).side.top == 2 ^ 64 - 1) _ _ GoesOn (λ yes. refl) (λ no.
    cond_both (is_under_way b t.history) _ _ GoesOn (λ yes. refl) (λ no.
    cond_both (fails_at (host_of t n) 9) _ _ GoesOn (λ yes. refl) (λ no. refl))))

offer_stopped : (b : Snapshot) (t : TwoHosts) (q : Reply) → q ≡ offer_reply b t (running_host t) → is_stopped q ≡ none_runs t
offer_stopped b t q is = ap is_stopped is ∙ running_cases t (λ found none. is_stopped (offer_reply b t found) ≡ none) (λ n. offer_goes_on b t n) refl

delivery_goes_on : (sent : List Message) (a : Delivered) → GoesOn (delivery_reply sent a)
delivery_goes_on sent delivers.Ignored = refl
delivery_goes_on sent delivers.Took = refl
delivery_goes_on sent (delivers.Sent m) = refl
delivery_goes_on sent delivers.Runs = refl
delivery_goes_on sent delivers.Resumed = refl
delivery_goes_on sent (delivers.Refused m) = refl
delivery_goes_on sent (delivers.Wires fault) = refl

deliver_goes_on : (piece : ℕ) (t : TwoHosts) (found : Option Message) → GoesOn (deliver_reply piece t found)
deliver_goes_on piece t None = refl
deliver_goes_on piece t (Some m) = delivery_goes_on t.sent _

gave_goes_on : (t : TwoHosts) (g : MoveStage) → GoesOn (gave_reply t g)
gave_goes_on t stage.Draining = refl
gave_goes_on t _ = refl

give_up_goes_on : (t : TwoHosts) (found : Option HostName) → GoesOn (give_up_reply t found)
give_up_goes_on t None = refl
give_up_goes_on t (Some n) = gave_goes_on t (stage_at t n)

again_goes_on : (t : TwoHosts) (found : Option HostName) → GoesOn (again_reply t found)
again_goes_on t None = refl
again_goes_on t (Some n) = refl

show_goes_on : (found : Option Message) → GoesOn (show_reply found)
show_goes_on None = refl
show_goes_on (Some m) = refl

-- a step of the worker of a host that drains is answered
drained_goes_on : (t : TwoHosts) (h : HostState) (q : Reply) → IsOfDevice q → GoesOn (drained_reply t h q)
drained_goes_on t h (reply.Done number) is = cond_both (fails_at h 9) _ _ GoesOn (λ yes. refl) (λ no. refl)
drained_goes_on t h (reply.Cancelled number) is = cond_both (fails_at h 9) _ _ GoesOn (λ yes. refl) (λ no. refl)
drained_goes_on t h reply.Stopped is = absurd is
drained_goes_on t h _ is = refl

work_at_stopped : (b : Snapshot) (t : TwoHosts) (n : HostName) (g : MoveStage) (q : Reply) → AnswersWorkAt b t n g q → GoesOn q
work_at_stopped b t n stage.Draining q answers = ap is_stopped answers ∙ drained_goes_on t (host_after_guest b t.history line.Work (worker_reply b t.history (fails_at (host_of t n))) (host_of t n)) (worker_reply b t.history (fails_at (host_of t n))) (step_ends b t.history (fails_at (host_of t n))).of_device
work_at_stopped b t n _ q answers = of_device q (replies_of_device b t.history (fails_at (host_of t n)) line.Work q answers)

work_stopped : (b : Snapshot) (t : TwoHosts) (q : Reply) → AnswersWork b t (working_host t) q → is_stopped q ≡ none_works t
work_stopped b t q answers = found_cases (is_working t.a.side.stage) (is_working t.b.side.stage) (λ found none. AnswersWork b t found q → is_stopped q ≡ none)
    (λ n is. work_at_stopped b t n (stage_at t n) q is) (λ is. ap is_stopped is) answers

-- where a line is answered `stopped`, by the sides
abbrev stops : Event → TwoHosts → Bool
stops line.Work t = none_works t
stops l t = needs_running l && none_runs t

line_stopped : (b : Snapshot) (piece : ℕ) (t : TwoHosts) (l : Event) (q : Reply) → AnswersLine b piece t l q → is_stopped q ≡ stops l t
line_stopped b piece t (line.Access a) q answers = on_stopped b t (line.Access a) q answers
line_stopped b piece t line.Work q answers = work_stopped b t q answers
line_stopped b piece t line.Ask q answers = on_stopped b t line.Ask q answers
line_stopped b piece t line.Reset q answers = on_stopped b t line.Reset q answers
line_stopped b piece t (line.Fail host call) q answers = ap is_stopped answers
line_stopped b piece t Offer q answers = offer_stopped b t q answers
line_stopped b piece t (Deliver k) q answers = ap is_stopped answers ∙ deliver_goes_on piece t (message_at t.sent k)
line_stopped b piece t GiveUp q answers = ap is_stopped answers ∙ give_up_goes_on t (host_where is_leaving t)
line_stopped b piece t Again q answers = ap is_stopped answers ∙ again_goes_on t (host_where is_prepared t)
line_stopped b piece t (Show k) q answers = ap is_stopped answers ∙ show_goes_on (message_at t.sent k)

-- ---- by the set

-- beside a host that runs none drains
run_alone : (b : Snapshot) (t : TwoHosts) (n : HostName) → HostsInvariant b t → is_running (stage_at t n) ≡ true → is_draining (stage_at t (other n)) ≡ false
run_alone b t n kept is =
    draining_on (stage_at t (other n)) ∙ rests_undrained (shown t (other n)) (alone b t kept n (ap (λ (g : MoveStage). active_on (side_of g)) (running_stage (stage_at t n) is)))

works_is : (s : MoveStage) → is_working s ≡ (is_running s || is_draining s)
works_is stage.Empty = refl
works_is stage.Running = refl
works_is stage.Draining = refl
works_is (stage.Offering e totals) = refl
works_is (stage.Released e) = refl
works_is (stage.Filling e totals part place) = refl
works_is (stage.Prepared e) = refl

never_both : (s : MoveStage) → (is_running s && is_draining s) ≡ false
never_both stage.Empty = refl
never_both stage.Running = refl
never_both stage.Draining = refl
never_both (stage.Offering e totals) = refl
never_both (stage.Released e) = refl
never_both (stage.Filling e totals part place) = refl
never_both (stage.Prepared e) = refl

-- no host runs exactly where no worker goes on, or one host drains
no_run_is : (ra rb da db : Bool) → (ra && da) ≡ false → (rb && db) ≡ false → (ra ≡ true → db ≡ false) → (rb ≡ true → da ≡ false) → not (ra || rb) ≡ (not ((ra || da) || (rb || db)) || (da || db))
no_run_is true true true db x y p q = absurd cc
no_run_is true true false true x y p q = absurd cc
no_run_is true true false false x y p q = refl
no_run_is true false true db x y p q = absurd cc
no_run_is true false false true x y p q = absurd (let wrong : true ≡ false = p refl in cc)
no_run_is true false false false x y p q = refl
no_run_is false true true db x y p q = absurd (let wrong : true ≡ false = q refl in cc)
no_run_is false true false true x y p q = absurd cc
no_run_is false true false false x y p q = refl
no_run_is false false true true x y p q = refl
no_run_is false false true false x y p q = refl
no_run_is false false false true x y p q = refl
no_run_is false false false false x y p q = refl

none_runs_is : (b : Snapshot) (t : TwoHosts) → HostsInvariant b t → none_runs t ≡ (none_works t || (is_draining t.a.side.stage || is_draining t.b.side.stage))
none_runs_is b t kept =
    no_run_is (is_running t.a.side.stage) (is_running t.b.side.stage) (is_draining t.a.side.stage) (is_draining t.b.side.stage) (never_both t.a.side.stage) (never_both t.b.side.stage) (run_alone b t A kept) (run_alone b t B kept)
    ∙ ap (λ x. not (x || (is_running t.b.side.stage || is_draining t.b.side.stage)) || (is_draining t.a.side.stage || is_draining t.b.side.stage)) (sym (works_is t.a.side.stage))
    ∙ ap (λ x. not (is_working t.a.side.stage || x) || (is_draining t.a.side.stage || is_draining t.b.side.stage)) (sym (works_is t.b.side.stage))

off_right : (a : Bool) → a ≡ (a || false)
off_right true = refl
off_right false = refl

stops_is : (b : Snapshot) (t : TwoHosts) (l : Event) → HostsInvariant b t → stops l t ≡ ((needs_running l && none_works t) || (waits_for_drain l && (is_draining t.a.side.stage || is_draining t.b.side.stage)))
stops_is b t line.Work kept = off_right (none_works t)
stops_is b t (line.Access a) kept = none_runs_is b t kept
stops_is b t line.Ask kept = none_runs_is b t kept
stops_is b t line.Reset kept = none_runs_is b t kept
stops_is b t Offer kept = none_runs_is b t kept
stops_is b t (line.Fail host call) kept = refl
stops_is b t (Deliver k) kept = refl
stops_is b t GiveUp kept = refl
stops_is b t Again kept = refl
stops_is b t (Show k) kept = refl

pub stopped_where_empty : (b : Snapshot) (piece : ℕ) (t : Transcript) (l : Event) (q : Reply) → InTurn b piece t → AnswersLine b piece (hosts_after b piece t) l q
    → is_stopped q ≡ ((needs_running l && is_empty (running_set t)) || (waits_for_drain l && (running_set t).drains))
stopped_where_empty b piece t l q in_turn answers =
    let w : TwoHosts = hosts_after b piece t in
    let none : none_works w ≡ is_empty (running_set t) = sym (ap (λ x. not (x || (running_set t).b)) (runs_where b piece t in_turn A) ∙ ap (λ y. not (is_working (stage_at w A) || y)) (runs_where b piece t in_turn B)) in
    line_stopped b piece w l q answers ∙ stops_is b w l (run_kept b piece t in_turn)
    ∙ ap (λ x. (needs_running l && x) || (waits_for_drain l && (is_draining w.a.side.stage || is_draining w.b.side.stage))) none
    ∙ ap (λ x. (needs_running l && is_empty (running_set t)) || (waits_for_drain l && x)) (sym (drains_where b piece t in_turn))
