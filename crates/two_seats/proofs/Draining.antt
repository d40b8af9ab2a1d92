-- A step of the worker of a host that drains leads both hosts on: the step itself, as for one host, and then what follows its end, as an
-- offer of a host that runs.
use Rattle.std.proofs.Common.{◌≡◌, ◌≢◌, ℕ, ◌+◌, Bool, true, false, not, ◌&&◌, List, [], ◌∷◌, take, refl, sym, ap, subst, ◌∙◌, Some, None, Ok, Err, ◌⊎◌, inl, inr, arith}
use Rattle.std.specs.Prelude.{Option, Result, if◌then◌else◌, ◌==◌, ◌-◌, ◌^◌}
use Rattle.std.proofs.lemmas.Bool.{cond-true, cond-false, cond_both, and_parts}
use Rattle.crb_regs.specs.Registers.{is_executing, is_lost}
use Rattle.crb_port.specs.Plain.{plain}
use Rattle.crb_port.specs.declared.job.PortState.{PortState}
use Rattle.crb_machine.specs.Over.{plain_device}
use Rattle.crb_history.specs.Snapshot.{Snapshot, IsValidSnapshot}
use Rattle.crb_history.specs.Event.{History}
use Rattle.crb_history.specs.Continued.{snapshot_after, MaySuspend}
use Rattle.crb_history.specs.Device.{phase_of, phase_at_end, stage_of, number_of, JobStage}
use Rattle.crb_history.specs.Device.JobStage.{Waiting}
use Rattle.crb_history.specs.Cancelling.{is_waiting}
use Rattle.crb_regs.specs.declared.phase.Phase.{Phase}
use Rattle.crb_regs.specs.declared.phase.Phase.TheVariants as at_phase
use Rattle.crb_port.specs.declared.job.Outcome.TheVariants as ending
use Rattle.vt_transcript.specs.Replies.{is_under_way, with_event, worker_reply}
use Rattle.vt_script.specs.declared.event.Event.TheVariants as event
use Rattle.vt_script.specs.declared.reply.Reply.{Reply}
use Rattle.vt_script.specs.declared.reply.Reply.TheVariants as reply
use Rattle.vt_base.specs.declared.types.HostName.{HostName}
use Rattle.vt_base.specs.declared.types.HostName.TheVariants.{A, B}
use Rattle.move_codec.specs.declared.message.Message.{Message}
use Rattle.move_core.specs.declared.stage.MoveStage.{MoveStage}
use Rattle.move_core.specs.declared.stage.MoveStage.TheVariants as stage
use Rattle.move_core.specs.Model.{HostModel}
use Rattle.move_core.specs.Sides.{holds_device, is_running, other}
use Rattle.move_core.specs.Hosts.{IsConsistentHost, HasRecord}
use Rattle.two_hosts.specs.Hosts.{TwoHosts, HostState, host_of, host_at, stage_at, with_host, host_after_guest, fails_at, next_number, running_host, working_host, guest_line_on, running_again, counted, offered_by, after_offer, after_work, after_work_at, bag_size, worker_part, after_drained}
use Rattle.two_hosts.specs.Replies.{AnswersWork, AnswersWorkAt, draining_reply, drained_reply, offer_reply}
use Rattle.crb_history.specs.Legal.{Legal}
use Rattle.two_hosts.specs.Invariant.{DrainsUnderWay, HostsInvariant, IsSent}
use Rattle.two_hosts.proofs.InvariantKept.{turned_kept, guest_kept, running_free, EndsCommand, step_ends}
use Rattle.two_hosts.proofs.DrainKept.{rests_all}
use Rattle.vt_seat.specs.State.{SeatState}
use Rattle.two_seats.specs.Seats.{AtStage, IsSeat}
use Rattle.two_seats.specs.Both.{TwoSeats, seat_of, with_seat, FollowsBoth, StepsBoth, ended_offered, ended_link}
use Rattle.two_seats.proofs.Seating.{seated_both}
use Rattle.two_seats.proofs.Lines.{Leads, Went, GuestLed, guest_led, free_stands, stands_free}

-- a consistent host that drains is one that runs, but for its side
pub undrained_consistent : (h : HostModel PortState) → h.stage ≡ stage.Draining → IsConsistentHost plain h → IsConsistentHost plain (record h { stage = stage.Running })
undrained_consistent h is consistent = record {
  matches_side = record {
    held = consistent.matches_side.held ∙ ap holds_device is;
    least = consistent.matches_side.least;
    most = consistent.matches_side.most;
    at_top = tt;
    keeps = subst (λ (g : MoveStage). HasRecord g h.record_bytes h.device) is consistent.matches_side.keeps;
  };
  device = consistent.device;
}

-- ---- the hosts after the step, the host of it running

-- the hosts after a step of the worker, where that host runs again
abbrev pub stepped_hosts : Snapshot → TwoHosts → HostName → Reply → TwoHosts
stepped_hosts b t n r = with_host (guest_line_on b t n event.Work r) n (running_again (host_of (guest_line_on b t n event.Work r) n))

abbrev pub undrained_seat : SeatState PortState → SeatState PortState
undrained_seat s = record s { host = record s.host { stage = stage.Running } }

seat_undrained : (b : Snapshot) (piece : ℕ) (p : History) (offered : ℕ → Snapshot) (k : HostName) (h : HostState) (s : SeatState PortState) → holds_device h.side.stage ≡ false → IsSeat b piece p offered k h s → IsSeat b piece p offered k (running_again h) (undrained_seat s)
seat_undrained b piece p offered k h s free is = record {
  name_is = is.name_is;
  piece_is = is.piece_is;
  pieces = is.pieces;
  stage_is = refl;
  top_is = is.top_is;
  calls_to_fault = is.calls_to_fault;
  stands = free_stands b p offered h.side.stage s free is.stands;
}

module _ (b : Snapshot) (piece : ℕ) (t : TwoHosts) (w : TwoSeats) (n : HostName) (r : Reply) (new : SeatState PortState) (went : Went b piece t w n event.Work r new) (drains : (seat_of w n).host.stage ≡ stage.Draining) where
  abbrev after : TwoHosts
  after = guest_line_on b t n event.Work r

  here_drains : stage_at t n ≡ stage.Draining
  here_drains = sym (went.follows.seats n).stage_is ∙ drains

  led : Leads b piece t.history (with_seat w n new) after
  led = (guest_led b piece t w n event.Work r new went).leads

  invariant_after : HostsInvariant b after
  invariant_after = guest_kept b t went.follows.invariant.0 n event.Work r went.follows.invariant.1 (ap holds_device here_drains)

  still_drains : (n : HostName) → stage_at (guest_line_on b t n event.Work r) n ≡ stage_at t n
  still_drains A = refl
  still_drains B = refl

  free_after : holds_device (stage_at after n) ≡ false
  free_after = ap holds_device (still_drains n ∙ here_drains)

  now_runs : (n : HostName) → stage_at (stepped_hosts b t n r) n ≡ stage.Running
  now_runs A = refl
  now_runs B = refl

  pub stepped_follows : FollowsBoth b piece (stepped_hosts b t n r) (with_seat w n (undrained_seat new))
  stepped_follows = record {
    fit = went.follows.fit;
    invariant = invariant_now;
    drains = none_now;
    fits = led.fits;
    seats = go n (led.seats n) (led.seats (other n)) free_after;
    some = led.some;
    bag_is = led.bag_is;
  }
    where
      invariant_now : HostsInvariant b (stepped_hosts b t n r)
      invariant_now = turned_kept b after invariant_after.0 n stage.Running (host_of after n).injected_fault (host_of after n).calls invariant_after.1 refl free_after

      none_now : DrainsUnderWay b (stepped_hosts b t n r)
      none_now = rests_all b (stepped_hosts b t n r) (stepped_hosts b t n r) n invariant_now (ap (λ (g : MoveStage). Rattle.two_hosts.proofs.Shifts.active_on (Rattle.move_core.specs.Sides.side_of g)) (now_runs n)) (λ at. let wrong : stage.Running ≡ stage.Draining = sym (now_runs n) ∙ at in cc) refl

      go : (n : HostName) → IsSeat b piece (guest_line_on b t n event.Work r).history (guest_line_on b t n event.Work r).offered n (host_of (guest_line_on b t n event.Work r) n) (seat_of (with_seat w n new) n)
          → IsSeat b piece (guest_line_on b t n event.Work r).history (guest_line_on b t n event.Work r).offered (other n) (host_of (guest_line_on b t n event.Work r) (other n)) (seat_of (with_seat w n new) (other n))
          → holds_device (stage_at (guest_line_on b t n event.Work r) n) ≡ false
          → (k : HostName) → IsSeat b piece (stepped_hosts b t n r).history (stepped_hosts b t n r).offered k (host_of (stepped_hosts b t n r) k) (seat_of (with_seat w n (undrained_seat new)) k)
      go A is others free A = seat_undrained b piece _ _ A _ _ free is
      go A is others free B = others
      go B is others free A = others
      go B is others free B = seat_undrained b piece _ _ B _ _ free is

-- ---- what the reply of the offer says of the step

-- a command that may be suspended isn't claimed
may_idle : (b : Snapshot) (p : History) → MaySuspend b p → is_under_way b p ≡ true → ⊥
may_idle b p may under =
    let parts = and_parts (is_executing (phase_of b p)) (not (is_waiting (stage_of b p))) under in
    let waits : stage_of b p ≡ Waiting = may.unclaimed (executing_is (phase_of b p) parts.0) in
    let wrong : false ≡ true = sym (ap (λ (s : JobStage). not (is_waiting s)) waits) ∙ parts.1 in cc
  where
    executing_is : (phase : Phase) → is_executing phase ≡ true → phase ≡ at_phase.Execution
    executing_is at_phase.Execution is = refl
    executing_is at_phase.Idle is = absurd cc
    executing_is at_phase.Ready is = absurd cc
    executing_is at_phase.Reception is = absurd cc
    executing_is at_phase.Completion is = absurd cc
    executing_is at_phase.Lost is = absurd cc

may_lives : (b : Snapshot) (p : History) → MaySuspend b p → is_lost (phase_of b p) ≡ false
may_lives b p may = go (phase_of b p) may.working
  where
    go : (phase : Phase) → phase ≢ at_phase.Lost → is_lost phase ≡ false
    go at_phase.Lost not = absurd (not refl)
    go at_phase.Execution not = refl
    go at_phase.Idle not = refl
    go at_phase.Ready not = refl
    go at_phase.Reception not = refl
    go at_phase.Completion not = refl

lost_idle : (b : Snapshot) (p : History) → is_lost (phase_of b p) ≡ true → is_under_way b p ≡ true → ⊥
lost_idle b p lost under = go (phase_of b p) lost (and_parts (is_executing (phase_of b p)) (not (is_waiting (stage_of b p))) under).0
  where
    go : (phase : Phase) → is_lost phase ≡ true → is_executing phase ≡ true → ⊥
    go at_phase.Lost lost is = cc
    go at_phase.Execution lost is = cc
    go at_phase.Idle lost is = cc
    go at_phase.Ready lost is = cc
    go at_phase.Reception lost is = cc
    go at_phase.Completion lost is = cc

-- a step leaves a command that is claimed and unfinished, or it ends it
pub data StepEnds (b : Snapshot) (p : History) (fails : ℕ → Bool) (q : Reply) : Type 0 where
  goes_on : is_under_way b (with_event (Some event.Work) q fails p) ≡ true → ((t : TwoHosts) (h : HostState) → drained_reply t h q ≡ q) → ((t : TwoHosts) (n : HostName) → after_drained b t n q ≡ t) → worker_part q ≡ q → StepEnds b p fails q
  ends : (number : ℕ) → (q ≡ reply.Done number) ⊎ (q ≡ reply.Cancelled number) → MaySuspend b (with_event (Some event.Work) q fails p) → StepEnds b p fails q
  is_lost_now : (number : ℕ) → q ≡ reply.Lost number → is_lost (phase_of b (with_event (Some event.Work) q fails p)) ≡ true → StepEnds b p fails q

pub step_ends_so : (b : Snapshot) (p : History) (fails : ℕ → Bool) (q : Reply) → is_under_way b p ≡ true → EndsCommand b p q → StepEnds b p fails q
step_ends_so b p fails q under e = go q e
  where
    executes : is_executing (phase_of b p) ≡ true
    executes = (and_parts (is_executing (phase_of b p)) (not (is_waiting (stage_of b p))) under).0

    claimed : (is_executing (phase_of b p) && true) ≡ true
    claimed = ap (λ x. x && true) executes

    lost : (phase : Phase) → is_executing phase ≡ true → is_lost (phase_at_end ending.Lost phase) ≡ true
    lost at_phase.Execution is = refl
    lost at_phase.Idle is = absurd cc
    lost at_phase.Ready is = absurd cc
    lost at_phase.Reception is = absurd cc
    lost at_phase.Completion is = absurd cc
    lost at_phase.Lost is = absurd cc

    go : (q : Reply) → EndsCommand b p q → StepEnds b p fails q
    go (reply.Done number) e = ends number (inl refl) (e.done number refl)
    go (reply.Cancelled number) e = ends number (inr refl) (e.cancelled number refl)
    go (reply.Lost number) e = is_lost_now number refl (lost (phase_of b p) executes)
    go (reply.Claim number) e = goes_on claimed (λ t h. refl) (λ t n. refl) refl
    go (reply.Sent number) e = goes_on claimed (λ t h. refl) (λ t n. refl) refl
    go (reply.Exec number) e = goes_on claimed (λ t h. refl) (λ t n. refl) refl
    go reply.Idle e = goes_on under (λ t h. refl) (λ t n. refl) refl
    go reply.Accepted e = goes_on under (λ t h. refl) (λ t n. refl) refl
    go (reply.Value value size) e = goes_on under (λ t h. refl) (λ t n. refl) refl
    go reply.Link e = goes_on under (λ t h. refl) (λ t n. refl) refl
    go reply.Asked e = goes_on under (λ t h. refl) (λ t n. refl) refl
    go reply.FailedDevice e = goes_on under (λ t h. refl) (λ t n. refl) refl
    go reply.NotYet e = goes_on under (λ t h. refl) (λ t n. refl) refl
    go reply.Reset e = goes_on under (λ t h. refl) (λ t n. refl) refl
    go _ e = absurd e.of_device

-- the reply of an offer, by its tests
pub record OfferTests (lost under end fails : Bool) (epoch next : ℕ) (number : ℕ) (r : Reply) : Type 0 where
  pub says : r ≡ (if lost then reply.FailedDevice else (if end then reply.EpochEnd else (if under then reply.Draining number else (if fails then reply.Link else reply.Offered epoch next))))

offered_tests : (lost under end fails : Bool) (epoch next number e m : ℕ) → OfferTests lost under end fails epoch next number (reply.Offered e m) → (lost ≡ false) × ((under ≡ false) × ((fails ≡ false) × ((e ≡ epoch) × (m ≡ next))))
offered_tests true under end fails epoch next number e m is = absurd (let wrong = is.says in cc)
offered_tests false under true fails epoch next number e m is = absurd (let wrong = is.says in cc)
offered_tests false true false fails epoch next number e m is = absurd (let wrong = is.says in cc)
offered_tests false false false true epoch next number e m is = absurd (let wrong = is.says in cc)
offered_tests false false false false epoch next number e m is = (refl, (refl, (refl, (epoch_is is.says, message_is is.says))))
  where
    epoch_is : reply.Offered e m ≡ reply.Offered epoch next → e ≡ epoch
    epoch_is is = cc

    message_is : reply.Offered e m ≡ reply.Offered epoch next → m ≡ next
    message_is is = cc

link_tests : (lost under end fails : Bool) (epoch next number : ℕ) → OfferTests lost under end fails epoch next number reply.Link → (lost ≡ false) × ((under ≡ false) × (fails ≡ true))
link_tests true under end fails epoch next number is = absurd (let wrong = is.says in cc)
link_tests false under true fails epoch next number is = absurd (let wrong = is.says in cc)
link_tests false true false fails epoch next number is = absurd (let wrong = is.says in cc)
link_tests false false false false epoch next number is = absurd (let wrong = is.says in cc)
link_tests false false false true epoch next number is = (refl, (refl, refl))

device_tests : (lost under end fails : Bool) (epoch next number : ℕ) → OfferTests lost under end fails epoch next number reply.FailedDevice → lost ≡ true
device_tests true under end fails epoch next number is = refl
device_tests false under true fails epoch next number is = absurd (let wrong = is.says in cc)
device_tests false true false fails epoch next number is = absurd (let wrong = is.says in cc)
device_tests false false false false epoch next number is = absurd (let wrong = is.says in cc)
device_tests false false false true epoch next number is = absurd (let wrong = is.says in cc)

-- ---- the step and the offer, as one line

offered_same : (v : Snapshot) (a : TwoHosts) (n : HostName) → offered_by v (with_host a n (running_again (host_of a n))) n ≡ offered_by v a n
offered_same v a A = refl
offered_same v a B = refl

counted_same : (a : TwoHosts) (n : HostName) → with_host (with_host a n (running_again (host_of a n))) n (counted reply.Link 0 (host_of (with_host a n (running_again (host_of a n))) n)) ≡ with_host a n (running_again (counted reply.Link 0 (host_of a n)))
counted_same a A = refl
counted_same a B = refl

unused_same : (a : TwoHosts) (n : HostName) → with_host (with_host a n (running_again (host_of a n))) n (counted reply.FailedDevice 0 (host_of (with_host a n (running_again (host_of a n))) n)) ≡ with_host a n (running_again (host_of a n))
unused_same a A = ap (λ (k : ℕ). with_host a A (record (running_again a.a) { calls = k })) (omega arith)
unused_same a B = ap (λ (k : ℕ). with_host a B (record (running_again a.b) { calls = k })) (omega arith)

module _ (b : Snapshot) (piece : ℕ) (t : TwoHosts) (n : HostName) (q : Reply) (found : working_host t ≡ Some n) (at : stage_at t n ≡ stage.Draining) (step : q ≡ worker_reply b t.history (fails_at (host_of t n)))
    (under : is_under_way b t.history ≡ true) (w3 : TwoSeats) (found2 : running_host (stepped_hosts b t n q) ≡ Some n) (legal1 : Legal b t.history → Legal b (guest_line_on b t n event.Work q).history) where
  abbrev t2 : TwoHosts
  t2 = stepped_hosts b t n q

  abbrev after_step : TwoHosts
  after_step = guest_line_on b t n event.Work q

  abbrev Ends : Reply → Type 0
  Ends x = StepEnds b t.history (fails_at (host_of t n)) x

  ending_is : Ends q
  ending_is = step_ends_so b t.history (fails_at (host_of t n)) q under (subst (EndsCommand b t.history) (sym step) (step_ends b t.history (fails_at (host_of t n))))

  work_line : (r3 : Reply) (t3 : TwoHosts) → r3 ≡ draining_reply b t n q → after_work_at b t n stage.Draining r3 ≡ t3 → t3.history ≡ after_step.history → FollowsBoth b piece t3 w3 → StepsBoth b piece t event.Work r3 w3
  work_line r3 t3 due leads same_history follows =
      let same : after_work b t (working_host t) r3 ≡ t3 = ap (λ k. after_work b t k r3) found ∙ ap (λ g. after_work_at b t n g r3) at ∙ leads in
      record {
        answers = subst (λ k. AnswersWork b t k r3) (sym found) (subst (λ g. AnswersWorkAt b t n g r3) (sym at) (due ∙ ap (draining_reply b t n) step));
        legal = subst (λ (x : TwoHosts). Legal b t.history → Legal b x.history) (sym same) (subst (λ h. Legal b t.history → Legal b h) (sym same_history) legal1);
        follows = subst (λ (x : TwoHosts). FollowsBoth b piece x w3) (sym same) follows;
      }

  fails_same : (n : HostName) → fails_at (host_of (stepped_hosts b t n q) n) 9 ≡ fails_at (host_after_guest b t.history event.Work q (host_of t n)) 9
  fails_same A = refl
  fails_same B = refl

  top_same : (n : HostName) → (host_of (stepped_hosts b t n q) n).side.top ≡ (host_of t n).side.top
  top_same A = refl
  top_same B = refl

  abbrev Tests : Reply → Type 0
  Tests r = OfferTests (is_lost (phase_of b after_step.history)) (is_under_way b after_step.history) ((host_of t2 n).side.top == 2 ^ 64 - 1) (fails_at (host_of t2 n) 9) ((host_of t2 n).side.top + 1) (next_number t.sent) (number_of b after_step.history) r

  tests : (r : Reply) → StepsBoth b piece t2 event.Offer r w3 → Tests r
  tests r s = record { says = s.answers ∙ ap (offer_reply b t2) found2 }

  pub offered_work : (e m : ℕ) → StepsBoth b piece t2 event.Offer (reply.Offered e m) w3 → StepsBoth b piece t event.Work (ended_offered q e m) w3
  offered_work e m s =
      let is = offered_tests _ _ _ _ _ _ _ e m (tests (reply.Offered e m) s) in
      let follows : FollowsBoth b piece (offered_by (snapshot_after b after_step.history) after_step n) w3 =
      subst (λ (x : TwoHosts). FollowsBoth b piece x w3) (ap (λ k. after_offer b t2 k (reply.Offered e m)) found2 ∙ offered_same (snapshot_after b after_step.history) after_step n) s.follows in
      go is.0 is.1.0 (sym (fails_same n) ∙ is.1.1.0) (is.1.1.1.0 ∙ ap (λ k. k + 1) (top_same n)) is.1.1.1.1 follows ending_is
    where
      go : is_lost (phase_of b after_step.history) ≡ false → is_under_way b after_step.history ≡ false → fails_at (host_after_guest b t.history event.Work q (host_of t n)) 9 ≡ false → e ≡ (host_of t n).side.top + 1 → m ≡ next_number t.sent
          → FollowsBoth b piece (offered_by (snapshot_after b after_step.history) after_step n) w3 → Ends q → StepsBoth b piece t event.Work (ended_offered q e m) w3
      go lives idle works epoch next follows (goes_on still reply_is after_is part_is) = absurd (let wrong : false ≡ true = sym idle ∙ still in cc)
      go lives idle works epoch next follows (is_lost_now number is lost) = absurd (let wrong : false ≡ true = sym lives ∙ lost in cc)
      go lives idle works epoch next follows (ends number (inl is) may) = subst (λ x. StepsBoth b piece t event.Work (ended_offered x e m) w3) (sym is)
          (work_line (reply.DoneOffered number e m) (offered_by (snapshot_after b after_step.history) after_step n)
          (ap (λ k. reply.DoneOffered number k m) epoch ∙ ap (reply.DoneOffered number ((host_of t n).side.top + 1)) next ∙ sym (ap (draining_reply b t n) is ∙ cond-false (fails_at (host_after_guest b t.history event.Work (reply.Done number) (host_of t n)) 9) _ _ (subst (λ x. fails_at (host_after_guest b t.history event.Work x (host_of t n)) 9 ≡ false) is works)))
          (ap (λ x. offered_by (snapshot_after b (guest_line_on b t n event.Work x).history) (guest_line_on b t n event.Work x) n) (sym is)) refl follows)
      go lives idle works epoch next follows (ends number (inr is) may) = subst (λ x. StepsBoth b piece t event.Work (ended_offered x e m) w3) (sym is)
          (work_line (reply.CancelledOffered number e m) (offered_by (snapshot_after b after_step.history) after_step n)
          (ap (λ k. reply.CancelledOffered number k m) epoch ∙ ap (reply.CancelledOffered number ((host_of t n).side.top + 1)) next ∙ sym (ap (draining_reply b t n) is ∙ cond-false (fails_at (host_after_guest b t.history event.Work (reply.Cancelled number) (host_of t n)) 9) _ _ (subst (λ x. fails_at (host_after_guest b t.history event.Work x (host_of t n)) 9 ≡ false) is works)))
          (ap (λ x. offered_by (snapshot_after b (guest_line_on b t n event.Work x).history) (guest_line_on b t n event.Work x) n) (sym is)) refl follows)

  pub linked_work : StepsBoth b piece t2 event.Offer reply.Link w3 → StepsBoth b piece t event.Work (ended_link q) w3
  linked_work s =
      let is = link_tests _ _ _ _ _ _ _ (tests reply.Link s) in
      let follows : FollowsBoth b piece (with_host after_step n (running_again (counted reply.Link 0 (host_of after_step n)))) w3 =
      subst (λ (x : TwoHosts). FollowsBoth b piece x w3) (ap (λ k. after_offer b t2 k reply.Link) found2 ∙ counted_same after_step n) s.follows in
      go is.0 is.1.0 (sym (fails_same n) ∙ is.1.1) follows ending_is
    where
      go : is_lost (phase_of b after_step.history) ≡ false → is_under_way b after_step.history ≡ false → fails_at (host_after_guest b t.history event.Work q (host_of t n)) 9 ≡ true
          → FollowsBoth b piece (with_host after_step n (running_again (counted reply.Link 0 (host_of after_step n)))) w3 → Ends q → StepsBoth b piece t event.Work (ended_link q) w3
      go lives idle fails follows (goes_on still reply_is after_is part_is) = absurd (let wrong : false ≡ true = sym idle ∙ still in cc)
      go lives idle fails follows (is_lost_now number is lost) = absurd (let wrong : false ≡ true = sym lives ∙ lost in cc)
      go lives idle fails follows (ends number (inl is) may) = subst (λ x. StepsBoth b piece t event.Work (ended_link x) w3) (sym is)
          (work_line (reply.DoneLink number) (with_host after_step n (running_again (counted reply.Link 0 (host_of after_step n))))
          (sym (ap (draining_reply b t n) is ∙ cond-true (fails_at (host_after_guest b t.history event.Work (reply.Done number) (host_of t n)) 9) _ _ (subst (λ x. fails_at (host_after_guest b t.history event.Work x (host_of t n)) 9 ≡ true) is fails)))
          (ap (λ x. with_host (guest_line_on b t n event.Work x) n (running_again (counted reply.Link 0 (host_of (guest_line_on b t n event.Work x) n)))) (sym is)) refl follows)
      go lives idle fails follows (ends number (inr is) may) = subst (λ x. StepsBoth b piece t event.Work (ended_link x) w3) (sym is)
          (work_line (reply.CancelledLink number) (with_host after_step n (running_again (counted reply.Link 0 (host_of after_step n))))
          (sym (ap (draining_reply b t n) is ∙ cond-true (fails_at (host_after_guest b t.history event.Work (reply.Cancelled number) (host_of t n)) 9) _ _ (subst (λ x. fails_at (host_after_guest b t.history event.Work x (host_of t n)) 9 ≡ true) is fails)))
          (ap (λ x. with_host (guest_line_on b t n event.Work x) n (running_again (counted reply.Link 0 (host_of (guest_line_on b t n event.Work x) n)))) (sym is)) refl follows)

  pub lost_work : StepsBoth b piece t2 event.Offer reply.FailedDevice w3 → StepsBoth b piece t event.Work q w3
  lost_work s =
      let lost = device_tests _ _ _ _ _ _ _ (tests reply.FailedDevice s) in
      let follows : FollowsBoth b piece (with_host after_step n (running_again (host_of after_step n))) w3 =
      subst (λ (x : TwoHosts). FollowsBoth b piece x w3) (ap (λ k. after_offer b t2 k reply.FailedDevice) found2 ∙ unused_same after_step n) s.follows in
      go lost follows ending_is
    where
      go : is_lost (phase_of b after_step.history) ≡ true → FollowsBoth b piece (with_host after_step n (running_again (host_of after_step n))) w3 → Ends q → StepsBoth b piece t event.Work q w3
      go lost follows (goes_on still reply_is after_is part_is) = absurd (lost_idle b after_step.history lost still)
      go lost follows (ends number which may) = absurd (let wrong : false ≡ true = sym (may_lives b after_step.history may) ∙ lost in cc)
      go lost follows (is_lost_now number is now) = subst (λ x. StepsBoth b piece t event.Work x w3) (sym is)
          (work_line (reply.Lost number) (with_host after_step n (running_again (host_of after_step n))) (sym (ap (draining_reply b t n) is))
          (ap (λ x. with_host (guest_line_on b t n event.Work x) n (running_again (host_of (guest_line_on b t n event.Work x) n))) (sym is)) refl follows)

  -- the command is still claimed: nothing follows the step
  pub still_work : is_under_way b after_step.history ≡ true → FollowsBoth b piece after_step w3 → StepsBoth b piece t event.Work q w3
  still_work still follows = go follows ending_is
    where
      go : FollowsBoth b piece after_step w3 → Ends q → StepsBoth b piece t event.Work q w3
      go follows (goes_on claimed reply_is after_is part_is) = work_line q after_step (sym (reply_is t (host_after_guest b t.history event.Work q (host_of t n))))
          (ap (λ x. after_drained b (guest_line_on b t n event.Work x) n q) part_is ∙ after_is after_step n) refl follows
      go follows (ends number which may) = absurd (may_idle b after_step.history may still)
      go follows (is_lost_now number is now) = absurd (lost_idle b after_step.history now still)
