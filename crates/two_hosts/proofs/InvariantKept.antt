-- Every run keeps what every line keeps.
use Rattle.std.proofs.Common.{◌≡◌, ℕ, zero, suc, ◌+◌, ◌⊎◌, inl, inr, Bool, true, false, not, List, [], ◌∷◌, ◌++◌, Option, Some, None, refl, arith, subst, sym, ap, ◌∙◌, append-nil}
use Rattle.std.specs.Prelude.{slice_get, nat_lt, ◌==◌, ◌-◌, ◌^◌}
use Rattle.std.proofs.lemmas.Bool.{cond_both}
use Rattle.crb_regs.specs.Registers.{is_executing, is_lost}
use Rattle.vt_script.specs.declared.event.Event.{Event}
use Rattle.vt_script.specs.declared.event.Event.TheVariants as line
use Rattle.vt_script.specs.declared.reply.Reply.{Reply}
use Rattle.crb_history.specs.Snapshot.{Snapshot}
use Rattle.crb_history.specs.Event.{History}
use Rattle.crb_history.specs.Device.{phase_of, phase_at_end, stage_of, number_of, JobStage}
use Rattle.crb_history.specs.Event.Event.{Finish}
use Rattle.crb_port.specs.declared.job.Outcome.{Outcome as JobEnd}
use Rattle.crb_port.specs.declared.job.Outcome.TheVariants as ending
use Rattle.crb_regs.specs.declared.phase.Phase.{Phase}
use Rattle.crb_regs.specs.declared.phase.Phase.TheVariants as at_phase
use Rattle.crb_history.specs.Device.JobStage.{Waiting, Claimed, HasSent, HasHeader}
use Rattle.crb_history.specs.Continued.{snapshot_after, MaySuspend}
use Rattle.vt_transcript.specs.Replies.{is_under_way, worker_reply, worker_reply_inputs, Transcript, is_fault}
use Rattle.crb_history.specs.Cancelling.{is_waiting}
use Rattle.vt_base.specs.declared.types.HostName.{HostName}
use Rattle.vt_base.specs.declared.types.HostName.TheVariants.{A, B}
use Rattle.move_codec.specs.declared.message.Message.{Message}
use Rattle.move_codec.specs.declared.message.Body.{Body}
use Rattle.move_codec.specs.declared.message.Body.TheVariants as body
use Rattle.move_core.specs.Messages.{message_from}
use Rattle.move_core.specs.declared.stage.MoveStage.{MoveStage}
use Rattle.move_core.specs.declared.stage.MoveStage.TheVariants as stage
use Rattle.move_core.specs.declared.side.Side.TheVariants.{Running, Offering}
use Rattle.move_core.specs.Sides.{side_of, is_running, holds_device, other}
use Rattle.vt_script.specs.declared.event.Event.TheVariants.{Offer, Deliver, GiveUp, Again, Show}
use Rattle.vt_script.specs.declared.reply.Reply.TheVariants as reply
use Rattle.two_hosts.specs.Deliveries.{Outcome, delivered, calls_of_delivery}
use Rattle.two_hosts.specs.Hosts.{TwoHosts, HostState, hosts_after, first_hosts, host_of, stage_at, host_where, running_host, working_host, is_working, is_leaving, is_offering, is_prepared, running_again, aborts_in, host_after_guest, fails_at, after_work, after_work_at, message_at, bag_size, with_host, epoch_of, message_in, context_for, counted, with_outcome, after_delivery, after_message, after_offer, offered_by, after_give_up, after_again, guest_line_on, guest_line_on_any, after_line, after_exchange}
use Rattle.two_hosts.specs.Replies.{AnswersIn, AnswersLine, AnswersWork, AnswersWorkAt, InTurn, draining_reply, offer_reply, offer_reply_at}
use Rattle.two_hosts.specs.Invariant.{IsSent, IsPassive, IsConsistent, PairInvariant, HostsInvariant, IsPresent, side_at}
use Rattle.two_hosts.proofs.GuestReplies.{IsOfDevice, turned_at}
use Rattle.two_hosts.proofs.HolderActs as holder
use Rattle.two_hosts.proofs.RestActs as rest

pub running_stage : (s : MoveStage) → is_running s ≡ true → s ≡ stage.Running
running_stage stage.Running h = refl
running_stage stage.Draining h = absurd cc
running_stage stage.Empty h = absurd cc
running_stage (stage.Offering e totals) h = absurd cc
running_stage (stage.Released e) h = absurd cc
running_stage (stage.Filling e totals part place) h = absurd cc
running_stage (stage.Prepared e) h = absurd cc

-- a host that runs doesn't hold its device
pub running_free : (s : MoveStage) → is_running s ≡ true → holds_device s ≡ false
running_free s is = ap holds_device (running_stage s is)

pub working_free : (s : MoveStage) → is_working s ≡ true → holds_device s ≡ false
working_free stage.Running h = refl
working_free stage.Draining h = refl
working_free stage.Empty h = absurd cc
working_free (stage.Offering e totals) h = absurd cc
working_free (stage.Released e) h = absurd cc
working_free (stage.Filling e totals part place) h = absurd cc
working_free (stage.Prepared e) h = absurd cc

-- nor does it rest
pub free_active : (s : MoveStage) → holds_device s ≡ false → IsPassive (side_of s) → ⊥
free_active stage.Running h passive = passive
free_active stage.Draining h passive = passive
free_active stage.Empty h passive = cc
free_active (stage.Offering e totals) h passive = cc
free_active (stage.Released e) h passive = cc
free_active (stage.Filling e totals part place) h passive = cc
free_active (stage.Prepared e) h passive = cc

pub leaving_stage : (s : MoveStage) → is_leaving s ≡ true → (s ≡ stage.Draining) ⊎ ((e : ℕ) × (totals : List ℕ) × (s ≡ stage.Offering e totals))
leaving_stage stage.Draining h = inl refl
leaving_stage (stage.Offering e totals) h = inr (e, totals, refl)
leaving_stage stage.Empty h = absurd cc
leaving_stage stage.Running h = absurd cc
leaving_stage (stage.Released e) h = absurd cc
leaving_stage (stage.Filling e totals part place) h = absurd cc
leaving_stage (stage.Prepared e) h = absurd cc

pub offering_stage : (s : MoveStage) → is_offering s ≡ true → (e : ℕ) × (totals : List ℕ) × (s ≡ stage.Offering e totals)
offering_stage (stage.Offering e totals) h = (e, totals, refl)
offering_stage stage.Empty h = absurd cc
offering_stage stage.Running h = absurd cc
offering_stage stage.Draining h = absurd cc
offering_stage (stage.Released e) h = absurd cc
offering_stage (stage.Filling e totals part place) h = absurd cc
offering_stage (stage.Prepared e) h = absurd cc

pub prepared_stage : (s : MoveStage) → is_prepared s ≡ true → (e : ℕ) × (s ≡ stage.Prepared e)
prepared_stage (stage.Prepared e) h = (e, refl)
prepared_stage stage.Empty h = absurd cc
prepared_stage stage.Running h = absurd cc
prepared_stage stage.Draining h = absurd cc
prepared_stage (stage.Offering e totals) h = absurd cc
prepared_stage (stage.Released e) h = absurd cc
prepared_stage (stage.Filling e totals part place) h = absurd cc

pub host_where_cases : (test : MoveStage → Bool) (t : TwoHosts) (P : Option HostName → Type 0) → ((n : HostName) → test (stage_at t n) ≡ true → P (Some n)) → P None → P (host_where test t)
host_where_cases test t P found none = cond_both (test t.a.side.stage) _ _ P (λ at. found A at) (λ not_a. cond_both (test t.b.side.stage) _ _ P (λ at. found B at) (λ not_b. none))

-- ---- a delivery

holder_leads : (b : Snapshot) (t : TwoHosts) (n : HostName) (h : HostState) (after : Outcome) → holder.HolderLed n (other n) (side_at t (other n)) t.offered (IsPresent b t.history) t.sent after → HostsInvariant b (with_outcome t n h after)
holder_leads b t n h after led = go n after led.led
  where
    go : (n : HostName) (after : Outcome)
        → PairInvariant n (other n) after.side (side_at t (other n)) t.offered (IsPresent b t.history) (t.sent ++ message_in after.answer) ⊎ PairInvariant (other n) n (side_at t (other n)) after.side t.offered (IsPresent b t.history) (t.sent ++ message_in after.answer)
        → HostsInvariant b (with_outcome t n h after)
    go A after (inl kept) = (A, kept)
    go A after (inr kept) = (B, kept)
    go B after (inl kept) = (B, kept)
    go B after (inr kept) = (A, kept)

message_kept : (b : Snapshot) (piece : ℕ) (t : TwoHosts) (n to : HostName) (h : HostState) (fails : Bool) (e : ℕ) (says : Body)
    → PairInvariant n (other n) (side_at t n) (side_at t (other n)) t.offered (IsPresent b t.history) t.sent → IsConsistent n (other n) (side_at t n) (side_at t (other n)) t.offered (record { to = to; epoch = e; body = says })
    → HostsInvariant b (with_outcome t to h (delivered (context_for piece t to fails) (side_at t to) e says))
message_kept b piece t A A h fails e says kept fits = holder_leads b t A h _ (holder.message_led A B t.a.side t.b.side t.offered _ t.sent kept piece fails e says fits.epoch fits.says)
message_kept b piece t B B h fails e says kept fits = holder_leads b t B h _ (holder.message_led B A t.b.side t.a.side t.offered _ t.sent kept piece fails e says fits.epoch fits.says)
message_kept b piece t A B h fails e says kept fits = (A, (rest.message_led A B t.a.side t.b.side t.offered _ t.sent kept piece fails e says fits.epoch fits.says).led)
message_kept b piece t B A h fails e says kept fits = (B, (rest.message_led B A t.b.side t.a.side t.offered _ t.sent kept piece fails e says fits.epoch fits.says).led)

pub delivery_kept : (b : Snapshot) (piece : ℕ) (t : TwoHosts) (m : Message) (r : Reply) → HostsInvariant b t → IsSent t.sent m → HostsInvariant b (after_message piece t m r)
delivery_kept b piece t m r kept is =
    message_kept b piece t kept.0 m.to (counted r (calls_of_delivery (context_for piece t m.to (is_fault r)) (side_at t m.to) m.epoch m.body) (host_of t m.to)) (is_fault r) m.epoch m.body kept.1 (kept.1.each m is)

pub in_bag_sent : (sent : List Message) (k : ℕ) (m : Message) → message_at sent k ≡ Some m → IsSent sent m
in_bag_sent sent zero m is = absurd cc
in_bag_sent sent (suc k) m is = cond_both (nat_lt k bag_size) (slice_get sent k) None (λ o. o ≡ Some m → IsSent sent m) (λ lt at. (k, at)) (λ ge at. absurd cc) is

comes_kept : (b : Snapshot) (piece : ℕ) (t : TwoHosts) (found : Option Message) (r : Reply) → HostsInvariant b t → ((m : Message) → found ≡ Some m → IsSent t.sent m) → HostsInvariant b (after_delivery piece t found r)
comes_kept b piece t None r kept is = kept
comes_kept b piece t (Some m) r kept is = delivery_kept b piece t m r kept (is m refl)

-- ---- a line for the host that it suits

pub offered_kept : (b : Snapshot) (t : TwoHosts) (n to : HostName) → PairInvariant n (other n) (side_at t n) (side_at t (other n)) t.offered (IsPresent b t.history) t.sent → holds_device (stage_at t to) ≡ false → MaySuspend b t.history
    → HostsInvariant b (offered_by (snapshot_after b t.history) t to)
offered_kept b t A A kept is may = (A, holder.offered_next A B t.a.side t.b.side t.offered _ t.sent kept _ is (record { values = refl; may = may }))
offered_kept b t B B kept is may = (B, holder.offered_next B A t.b.side t.a.side t.offered _ t.sent kept _ is (record { values = refl; may = may }))
offered_kept b t A B kept is may = absurd (free_active t.b.side.stage is (rest.rests A B t.a.side t.b.side t.offered _ t.sent kept (side_of t.b.side.stage) refl))
offered_kept b t B A kept is may = absurd (free_active t.a.side.stage is (rest.rests B A t.b.side t.a.side t.offered _ t.sent kept (side_of t.a.side.stage) refl))

-- the side of a host that doesn't hold its device turns to such a one
pub turned_kept : (b : Snapshot) (t : TwoHosts) (n to : HostName) (g : MoveStage) (order : Option ℕ) (calls : ℕ) → PairInvariant n (other n) (side_at t n) (side_at t (other n)) t.offered (IsPresent b t.history) t.sent
    → holds_device g ≡ false → holds_device (stage_at t to) ≡ false
    → HostsInvariant b (with_host t to (record { side = record (side_at t to) { stage = g }; injected_fault = order; calls = calls }))
turned_kept b t A A g order calls kept now is = (A, holder.turned A B t.a.side t.b.side t.offered _ t.sent kept g now is)
turned_kept b t B B g order calls kept now is = (B, holder.turned B A t.b.side t.a.side t.offered _ t.sent kept g now is)
turned_kept b t A B g order calls kept now is = absurd (free_active t.b.side.stage is (rest.rests A B t.a.side t.b.side t.offered _ t.sent kept (side_of t.b.side.stage) refl))
turned_kept b t B A g order calls kept now is = absurd (free_active t.a.side.stage is (rest.rests B A t.b.side t.a.side t.offered _ t.sent kept (side_of t.a.side.stage) refl))

undrained_kept : (b : Snapshot) (t : TwoHosts) (n to : HostName) → PairInvariant n (other n) (side_at t n) (side_at t (other n)) t.offered (IsPresent b t.history) t.sent → stage_at t to ≡ stage.Draining → HostsInvariant b (after_give_up t (Some to))
undrained_kept b t n to kept is =
    let none : aborts_in to (stage_at t to) ≡ [] = ap (aborts_in to) is in
    let same : t.sent ++ aborts_in to (stage_at t to) ≡ t.sent = ap (λ more. t.sent ++ more) none ∙ append-nil t.sent in
    subst (λ sent. HostsInvariant b (record (with_host t to (running_again (host_of t to))) { sent = sent })) (sym same)
    (turned_kept b t n to stage.Running (host_of t to).injected_fault (host_of t to).calls kept refl (ap holds_device is))

gives_back_kept : (b : Snapshot) (t : TwoHosts) (n to : HostName) (e : ℕ) (totals : List ℕ) → PairInvariant n (other n) (side_at t n) (side_at t (other n)) t.offered (IsPresent b t.history) t.sent → stage_at t to ≡ stage.Offering e totals → HostsInvariant b (after_give_up t (Some to))
gives_back_kept b t A A e totals kept is = (A, rw is (holder.given_up A B t.a.side t.b.side t.offered _ t.sent kept e totals is))
gives_back_kept b t B B e totals kept is = (B, rw is (holder.given_up B A t.b.side t.a.side t.offered _ t.sent kept e totals is))
gives_back_kept b t A B e totals kept is = absurd (rest.rests A B t.a.side t.b.side t.offered _ t.sent kept (Offering e) (ap side_of is))
gives_back_kept b t B A e totals kept is = absurd (rest.rests B A t.b.side t.a.side t.offered _ t.sent kept (Offering e) (ap side_of is))

pub gives_up_kept : (b : Snapshot) (t : TwoHosts) (n to : HostName) → PairInvariant n (other n) (side_at t n) (side_at t (other n)) t.offered (IsPresent b t.history) t.sent → is_leaving (stage_at t to) ≡ true → HostsInvariant b (after_give_up t (Some to))
gives_up_kept b t n to kept is = go (leaving_stage (stage_at t to) is)
  where
    go : (stage_at t to ≡ stage.Draining) ⊎ ((e : ℕ) × (totals : List ℕ) × (stage_at t to ≡ stage.Offering e totals)) → HostsInvariant b (after_give_up t (Some to))
    go (inl at) = undrained_kept b t n to kept at
    go (inr at) = gives_back_kept b t n to at.0 at.1 kept at.2

pub says_again_kept : (b : Snapshot) (t : TwoHosts) (n to : HostName) → PairInvariant n (other n) (side_at t n) (side_at t (other n)) t.offered (IsPresent b t.history) t.sent → is_prepared (stage_at t to) ≡ true → HostsInvariant b (after_again t (Some to))
says_again_kept b t A A kept is = let at = prepared_stage t.a.side.stage is in (A, subst (λ s. PairInvariant A B t.a.side t.b.side t.offered (IsPresent b t.history) (t.sent ++ message_from A (epoch_of s) body.Prepared ∷ [])) (sym at.1) (holder.said_again A B t.a.side t.b.side t.offered _ t.sent kept at.0 at.1))
says_again_kept b t B B kept is = let at = prepared_stage t.b.side.stage is in (B, subst (λ s. PairInvariant B A t.b.side t.a.side t.offered (IsPresent b t.history) (t.sent ++ message_from B (epoch_of s) body.Prepared ∷ [])) (sym at.1) (holder.said_again B A t.b.side t.a.side t.offered _ t.sent kept at.0 at.1))
says_again_kept b t A B kept is = let at = prepared_stage t.b.side.stage is in (A, subst (λ s. PairInvariant A B t.a.side t.b.side t.offered (IsPresent b t.history) (t.sent ++ message_from B (epoch_of s) body.Prepared ∷ [])) (sym at.1) (rest.said_again A B t.a.side t.b.side t.offered _ t.sent kept at.0 at.1))
says_again_kept b t B A kept is = let at = prepared_stage t.a.side.stage is in (B, subst (λ s. PairInvariant B A t.b.side t.a.side t.offered (IsPresent b t.history) (t.sent ++ message_from A (epoch_of s) body.Prepared ∷ [])) (sym at.1) (rest.said_again B A t.b.side t.a.side t.offered _ t.sent kept at.0 at.1))

-- ---- an offer

may_suspend : (b : Snapshot) (p : History) → is_lost (phase_of b p) ≡ false → is_under_way b p ≡ false → MaySuspend b p
may_suspend b p working idle = record { working = λ lost. let wrong : true ≡ false = sym (ap is_lost lost) ∙ working in cc; unclaimed = λ executes. waits (stage_of b p) (rw executes at idle) }
  where
    waits : (s : JobStage) → not (is_waiting s) ≡ false → s ≡ Waiting
    waits Waiting is = refl
    waits Claimed is = absurd cc
    waits HasSent is = absurd cc
    waits HasHeader is = absurd cc

-- an offer comes only where it may
record MayOffer (b : Snapshot) (p : History) (r : Reply) : Type 0 where
  may : (epoch message : ℕ) → r ≡ reply.Offered epoch message → MaySuspend b p

may_offer : (b : Snapshot) (t : TwoHosts) (h : HostState) → MayOffer b t.history (offer_reply_at (is_lost (phase_of b t.history)) (is_under_way b t.history) (number_of b t.history) t h)
may_offer b t h =
    cond_both (is_lost (phase_of b t.history)) _ _ (MayOffer b t.history) (λ yes. record { may = λ e m is. absurd cc }) (λ working.
    cond_both (h.side.top == 2 ^ 64 - 1) _ _ (MayOffer b t.history) (λ yes. record { may = λ e m is. absurd cc }) (λ below.
    cond_both (is_under_way b t.history) _ _ (MayOffer b t.history) (λ yes. record { may = λ e m is. absurd cc }) (λ idle.
    record { may = λ e m is. may_suspend b t.history working idle })))

-- calls were counted
counted_kept : (b : Snapshot) (t : TwoHosts) (to : HostName) (r : Reply) (calls : ℕ) → HostsInvariant b t → HostsInvariant b (with_host t to (counted r calls (host_of t to)))
counted_kept b t to r calls kept = (kept.0, go to kept.0 kept.1)
  where
    go : (to n : HostName) → PairInvariant n (other n) (side_at t n) (side_at t (other n)) t.offered (IsPresent b t.history) t.sent
        → PairInvariant n (other n) (side_at (with_host t to (counted r calls (host_of t to))) n) (side_at (with_host t to (counted r calls (host_of t to))) (other n)) (with_host t to (counted r calls (host_of t to))).offered (IsPresent b (with_host t to (counted r calls (host_of t to))).history) (with_host t to (counted r calls (host_of t to))).sent
    go A A kept = kept
    go A B kept = kept
    go B A kept = kept
    go B B kept = kept

offers_kept : (b : Snapshot) (t : TwoHosts) (n : HostName) (r : Reply) → HostsInvariant b t → is_running (stage_at t n) ≡ true → r ≡ offer_reply b t (Some n) → HostsInvariant b (after_offer b t (Some n) r)
offers_kept b t n (reply.Draining number) kept is answers = turned_kept b t kept.0 n stage.Draining (host_of t n).injected_fault (host_of t n).calls kept.1 refl (running_free (stage_at t n) is)
offers_kept b t n (reply.Offered epoch message) kept is answers = offered_kept b t kept.0 n kept.1 (running_free (stage_at t n) is) ((may_offer b t (host_of t n)).may epoch message (sym answers))
offers_kept b t n r kept is answers = counted_kept b t n r 0 kept

-- ---- a line of the guest

pub guest_kept : (b : Snapshot) (t : TwoHosts) (n to : HostName) (e : Event) (r : Reply) → PairInvariant n (other n) (side_at t n) (side_at t (other n)) t.offered (IsPresent b t.history) t.sent → holds_device (stage_at t to) ≡ false → HostsInvariant b (guest_line_on b t to e r)
guest_kept b t A A e r kept is = (A, holder.works_on A B t.a.side t.b.side t.offered _ t.sent kept _ is)
guest_kept b t B B e r kept is = (B, holder.works_on B A t.b.side t.a.side t.offered _ t.sent kept _ is)
guest_kept b t A B e r kept is = absurd (free_active t.b.side.stage is (rest.rests A B t.a.side t.b.side t.offered _ t.sent kept (side_of t.b.side.stage) refl))
guest_kept b t B A e r kept is = absurd (free_active t.a.side.stage is (rest.rests B A t.b.side t.a.side t.offered _ t.sent kept (side_of t.a.side.stage) refl))

guests_kept : (b : Snapshot) (t : TwoHosts) (e : Event) (r : Reply) → HostsInvariant b t → HostsInvariant b (guest_line_on_any b t (running_host t) e r)
guests_kept b t e r kept = host_where_cases is_running t (λ n. HostsInvariant b (guest_line_on_any b t n e r)) (λ n is. guest_kept b t kept.0 n e r kept.1 (running_free (stage_at t n) is)) kept

-- ---- a step of the worker of a host that drains

pub guest_stage : (b : Snapshot) (t : TwoHosts) (n : HostName) (e : Event) (r : Reply) → stage_at (guest_line_on b t n e r) n ≡ stage_at t n
guest_stage b t A e r = refl
guest_stage b t B e r = refl

-- a command that ended, as done or as cancelled, leaves a guest that may be suspended
pub ended_may : (b : Snapshot) (p : History) (outcome : JobEnd) → is_executing (phase_of b p) ≡ true → (outcome ≡ ending.Done) ⊎ (outcome ≡ ending.Cancelled) → MaySuspend b (Finish outcome ∷ p)
ended_may b p outcome executing ends = record { working = λ lost. completes (phase_of b p) outcome executing ends lost; unclaimed = λ executes. absurd (rests (phase_of b p) outcome executing ends executes) }
  where
    completes : (phase : Phase) (outcome : JobEnd) → is_executing phase ≡ true → (outcome ≡ ending.Done) ⊎ (outcome ≡ ending.Cancelled) → phase_at_end outcome phase ≡ at_phase.Lost → ⊥
    completes at_phase.Execution ending.Done executing ends lost = cc
    completes at_phase.Execution ending.Cancelled executing ends lost = cc
    completes at_phase.Execution ending.Lost executing (inl wrong) lost = cc
    completes at_phase.Execution ending.Lost executing (inr wrong) lost = cc
    completes at_phase.Idle outcome executing ends lost = cc
    completes at_phase.Ready outcome executing ends lost = cc
    completes at_phase.Reception outcome executing ends lost = cc
    completes at_phase.Completion outcome executing ends lost = cc
    completes at_phase.Lost outcome executing ends lost = cc

    rests : (phase : Phase) (outcome : JobEnd) → is_executing phase ≡ true → (outcome ≡ ending.Done) ⊎ (outcome ≡ ending.Cancelled) → phase_at_end outcome phase ≡ at_phase.Execution → ⊥
    rests at_phase.Execution ending.Done executing ends executes = cc
    rests at_phase.Execution ending.Cancelled executing ends executes = cc
    rests at_phase.Execution ending.Lost executing (inl wrong) executes = cc
    rests at_phase.Execution ending.Lost executing (inr wrong) executes = cc
    rests at_phase.Idle outcome executing ends executes = cc
    rests at_phase.Ready outcome executing ends executes = cc
    rests at_phase.Reception outcome executing ends executes = cc
    rests at_phase.Completion outcome executing ends executes = cc
    rests at_phase.Lost outcome executing ends executes = cc

-- what a reply of the worker says of the guest
pub record EndsCommand (b : Snapshot) (p : History) (q : Reply) : Type 0 where
  pub of_device : IsOfDevice q
  pub done : (number : ℕ) → q ≡ reply.Done number → MaySuspend b (Finish ending.Done ∷ p)
  pub cancelled : (number : ℕ) → q ≡ reply.Cancelled number → MaySuspend b (Finish ending.Cancelled ∷ p)

pub step_ends : (b : Snapshot) (p : History) (fails : ℕ → Bool) → EndsCommand b p (worker_reply b p fails)
step_ends b p fails = cond_both (is_executing (phase_of b p)) _ _ (EndsCommand b p)
    (λ executing. record {
      of_device = turned_at (stage_of b p) (worker_reply_inputs b p) fails;
      done = λ number is. ended_may b p ending.Done executing (inl refl);
      cancelled = λ number is. ended_may b p ending.Cancelled executing (inr refl);
    })
    (λ no. record { of_device = tt; done = λ number is. absurd cc; cancelled = λ number is. absurd cc })

-- the step, and what follows it
step_kept : (b : Snapshot) (t : TwoHosts) (n : HostName) (q : Reply) → HostsInvariant b t → holds_device (stage_at t n) ≡ false → EndsCommand b t.history q
    → HostsInvariant b (after_work_at b t n stage.Draining (draining_reply b t n q))
step_kept b t n (reply.Done number) kept is ends =
    let after : TwoHosts = guest_line_on b t n line.Work (reply.Done number) in
    let then : HostsInvariant b after = guest_kept b t kept.0 n line.Work (reply.Done number) kept.1 is in
    let free : holds_device (stage_at after n) ≡ false = ap holds_device (guest_stage b t n line.Work (reply.Done number)) ∙ is in
    cond_both (fails_at (host_after_guest b t.history line.Work (reply.Done number) (host_of t n)) 9) _ _ (λ r. HostsInvariant b (after_work_at b t n stage.Draining r))
    (λ fails. turned_kept b after then.0 n stage.Running None ((host_of after n).calls + 0) then.1 refl free)
    (λ works. offered_kept b after then.0 n then.1 free (ends.done number refl))
step_kept b t n (reply.Cancelled number) kept is ends =
    let after : TwoHosts = guest_line_on b t n line.Work (reply.Cancelled number) in
    let then : HostsInvariant b after = guest_kept b t kept.0 n line.Work (reply.Cancelled number) kept.1 is in
    let free : holds_device (stage_at after n) ≡ false = ap holds_device (guest_stage b t n line.Work (reply.Cancelled number)) ∙ is in
    cond_both (fails_at (host_after_guest b t.history line.Work (reply.Cancelled number) (host_of t n)) 9) _ _ (λ r. HostsInvariant b (after_work_at b t n stage.Draining r))
    (λ fails. turned_kept b after then.0 n stage.Running None ((host_of after n).calls + 0) then.1 refl free)
    (λ works. offered_kept b after then.0 n then.1 free (ends.cancelled number refl))
step_kept b t n (reply.Lost number) kept is ends =
    let after : TwoHosts = guest_line_on b t n line.Work (reply.Lost number) in
    let then : HostsInvariant b after = guest_kept b t kept.0 n line.Work (reply.Lost number) kept.1 is in
    let free : holds_device (stage_at after n) ≡ false = ap holds_device (guest_stage b t n line.Work (reply.Lost number)) ∙ is in
    turned_kept b after then.0 n stage.Running (host_of after n).injected_fault (host_of after n).calls then.1 refl free
step_kept b t n (reply.DoneOffered number epoch message) kept is ends = absurd ends.of_device
step_kept b t n (reply.DoneLink number) kept is ends = absurd ends.of_device
step_kept b t n (reply.CancelledOffered number epoch message) kept is ends = absurd ends.of_device
step_kept b t n (reply.CancelledLink number) kept is ends = absurd ends.of_device
step_kept b t n q kept is ends = guest_kept b t kept.0 n line.Work q kept.1 is

work_kept_at : (b : Snapshot) (t : TwoHosts) (n : HostName) (g : MoveStage) (r : Reply) → HostsInvariant b t → holds_device (stage_at t n) ≡ false → AnswersWorkAt b t n g r → HostsInvariant b (after_work_at b t n g r)
work_kept_at b t n stage.Draining r kept is answers = subst (λ x. HostsInvariant b (after_work_at b t n stage.Draining x)) (sym answers) (step_kept b t n _ kept is (step_ends b t.history (fails_at (host_of t n))))
work_kept_at b t n _ r kept is answers = guest_kept b t kept.0 n line.Work r kept.1 is

work_kept : (b : Snapshot) (t : TwoHosts) (r : Reply) → HostsInvariant b t → AnswersWork b t (working_host t) r → HostsInvariant b (after_work b t (working_host t) r)
work_kept b t r kept answers = host_where_cases is_working t (λ found. AnswersWork b t found r → HostsInvariant b (after_work b t found r))
    (λ n is at. work_kept_at b t n (stage_at t n) r kept (working_free (stage_at t n) is) at) (λ at. kept) answers

ordered_kept : (b : Snapshot) (t : TwoHosts) (n : HostName) (call : ℕ) → HostsInvariant b t → HostsInvariant b (guest_line_on b t n (line.Fail n call) reply.Accepted)
ordered_kept b t A call kept = (kept.0, go kept.0 kept.1)
  where
    go : (n : HostName) → PairInvariant n (other n) (side_at t n) (side_at t (other n)) t.offered (IsPresent b t.history) t.sent
        → PairInvariant n (other n) (side_at (guest_line_on b t A (line.Fail A call) reply.Accepted) n) (side_at (guest_line_on b t A (line.Fail A call) reply.Accepted) (other n)) t.offered (IsPresent b t.history) t.sent
    go A kept = kept
    go B kept = kept
ordered_kept b t B call kept = (kept.0, go kept.0 kept.1)
  where
    go : (n : HostName) → PairInvariant n (other n) (side_at t n) (side_at t (other n)) t.offered (IsPresent b t.history) t.sent
        → PairInvariant n (other n) (side_at (guest_line_on b t B (line.Fail B call) reply.Accepted) n) (side_at (guest_line_on b t B (line.Fail B call) reply.Accepted) (other n)) t.offered (IsPresent b t.history) t.sent
    go A kept = kept
    go B kept = kept

-- ---- every line

pub line_kept : (b : Snapshot) (piece : ℕ) (t : TwoHosts) (l : Event) (r : Reply) → HostsInvariant b t → AnswersLine b piece t l r → HostsInvariant b (after_line b piece t l r)
line_kept b piece t (line.Access a) r kept answers = guests_kept b t (line.Access a) r kept
line_kept b piece t line.Work r kept answers = work_kept b t r kept answers
line_kept b piece t line.Ask r kept answers = guests_kept b t line.Ask r kept
line_kept b piece t line.Reset r kept answers = guests_kept b t line.Reset r kept
line_kept b piece t (line.Fail host call) r kept answers = subst (λ x. HostsInvariant b (guest_line_on b t host (line.Fail host call) x)) (sym answers) (ordered_kept b t host call kept)
line_kept b piece t Offer r kept answers = host_where_cases is_running t (λ n. r ≡ offer_reply b t n → HostsInvariant b (after_offer b t n r)) (λ n is at. offers_kept b t n r kept is at) (λ at. kept) answers
line_kept b piece t (Deliver k) r kept answers = comes_kept b piece t (message_at t.sent k) r kept (in_bag_sent t.sent k)
line_kept b piece t GiveUp r kept answers = host_where_cases is_leaving t (λ n. HostsInvariant b (after_give_up t n)) (λ n is. gives_up_kept b t kept.0 n kept.1 is) kept
line_kept b piece t Again r kept answers = host_where_cases is_prepared t (λ n. HostsInvariant b (after_again t n)) (λ n is. says_again_kept b t kept.0 n kept.1 is) kept
line_kept b piece t (Show k) r kept answers = kept

pub exchange_kept : (b : Snapshot) (piece : ℕ) (t : TwoHosts) (l : Option Event) (r : Reply) → HostsInvariant b t → AnswersIn b piece t l r → HostsInvariant b (after_exchange b piece t l r)
exchange_kept b piece t None r kept answers = kept
exchange_kept b piece t (Some l) r kept answers = line_kept b piece t l r kept answers

pub first_kept : (b : Snapshot) → HostsInvariant b (first_hosts b)
first_kept b = (A, record { sides = record { holds = tt; order = omega arith; holder = tt; rest = tt; same = λ not. absurd cc }; each = λ m is. absurd (none is.0 is.1); apart = λ c d is at clash. absurd (none is.0 is.1) })
  where
    none : {m : Message} (k : ℕ) → slice_get [] k ≡ Some m → ⊥
    none k is = absurd cc

pub run_kept : (b : Snapshot) (piece : ℕ) (t : Transcript) → InTurn b piece t → HostsInvariant b (hosts_after b piece t)
run_kept b piece [] in_turn = first_kept b
run_kept b piece (x ∷ t) in_turn = exchange_kept b piece (hosts_after b piece t) x.line x.reply (run_kept b piece t in_turn.0) in_turn.1
