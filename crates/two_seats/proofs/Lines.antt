-- The lines of the guest, a fault to inject, and the lines that use no wires lead both hosts on.
use Rattle.std.proofs.Common.{◌≡◌, ℕ, zero, suc, ◌<◌, ◌≤◌, ◌-◌, Bool, true, false, List, [], ◌∷◌, ◌++◌, take, refl, sym, ap, subst, ◌∙◌, arith, Some, None, ◌⊎◌, inl, inr, append-nil}
use Rattle.std.specs.Prelude.{Option, slice_get, nat_lt, if◌then◌else◌}
use Rattle.std.proofs.lemmas.Bool.{cond-true, cond-false, cond_both, ltb-true, ltb-false}
use Rattle.crb_history.specs.Snapshot.{Snapshot, IsValidSnapshot}
use Rattle.crb_history.specs.Event.{History}
use Rattle.crb_history.specs.Legal.{Legal}
use Rattle.vt_transcript.specs.Plain.{is_plain}
use Rattle.crb_port.specs.Plain.{plain}
use Rattle.crb_port.specs.declared.job.PortState.{PortState}
use Rattle.vt_script.specs.declared.event.Event.{Event}
use Rattle.vt_seat.proofs.Steps.{the_same}
use Rattle.vt_script.specs.declared.event.Event.TheVariants as event
use Rattle.vt_script.specs.declared.reply.Reply.{Reply}
use Rattle.vt_script.specs.declared.reply.Reply.TheVariants as reply
use Rattle.vt_base.specs.declared.types.HostName.{HostName}
use Rattle.vt_base.specs.declared.types.HostName.TheVariants.{A, B}
use Rattle.move_codec.specs.declared.message.Message.{Message}
use Rattle.move_codec.specs.declared.message.Body.TheVariants as body
use Rattle.move_core.specs.declared.stage.MoveStage.{MoveStage}
use Rattle.move_core.specs.declared.stage.MoveStage.TheVariants as stage
use Rattle.move_core.specs.Model.{HostModel}
use Rattle.move_core.specs.Sides.{is_running, is_draining, holds_device, other}
use Rattle.move_core.specs.Hosts.{IsConsistentHost}
use Rattle.move_core.specs.Table.{message_from}
use Rattle.move_core.specs.Calls.{GivesUp, GivesUpAt, said_again}
use Rattle.move_codec.specs.Encoding.{HasPiece}
use Rattle.vt_script.specs.declared.event.Event.TheVariants.{Offer, Deliver, GiveUp, Again, Show}
use Rattle.two_hosts.specs.Hosts.{TwoHosts, pick, host_of, stage_at, running_host, host_where, working_host, is_working, is_leaving, is_prepared, host_after_guest, fails_at, guest_line_on, guest_line_on_any, with_host, bag_size, next_number, running_again, aborts_in, after_work, after_work_at, after_give_up, after_again, epoch_of, after_line, message_at}
use Rattle.two_hosts.specs.Replies.{AnswersOn, AnswersWork, AnswersWorkAt, AnswersLine, gave_reply, give_up_reply, again_reply, show_reply}
use Rattle.two_hosts.proofs.Frames.{sent_cases}
use Rattle.two_hosts.specs.Invariant.{IsSent}
use Rattle.two_hosts.proofs.InvariantKept.{line_kept}
use Rattle.two_hosts.proofs.DrainKept.{line_drains}
use Rattle.vt_transcript.specs.Replies.{IsReplyTo}
use Rattle.crb_machine.specs.Over.{plain_device}
use Rattle.move_core.specs.declared.answers.Gave.{Gave}
use Rattle.move_core.specs.declared.answers.Gave.TheVariants as gave
use Rattle.vt_seat.specs.Follows.{RefinesAt, RefinesOneHost, StepRefinesOneHost}
use Rattle.vt_seat.specs.Seats.{world_of}
use Rattle.vt_seat.specs.State.{SeatState}
use Rattle.two_seats.specs.Seats.{AtStage, IsSeat}
use Rattle.two_seats.specs.Both.{TwoSeats, seat_of, with_seat, one_of, running_of, FollowsBoth, StepsBoth, Keeps}
use Rattle.two_seats.proofs.Seating.{seated_both, seat_still, other_still, held_still, running_host-is, working_host-is, offers_present, goes_on_here}

-- ---- what is decoded after a line

pub record Leads (b : Snapshot) (piece : ℕ) (p : History) (new : TwoSeats) (after : TwoHosts) : Type 0 where
  pub legal : Legal b p → Legal b after.history
  pub seats : (k : HostName) → IsSeat b piece after.history after.offered k (host_of after k) (seat_of new k)
  pub fits : (e : ℕ) → IsValidSnapshot (after.offered e)
  pub some : (m : Message) → IsSent after.sent m → HasPiece m.body
  pub bag_is : new.bag ≡ take bag_size after.sent

pub steps_by : (b : Snapshot) (piece : ℕ) (t : TwoHosts) (w new : TwoSeats) (line : Event) (r : Reply) → FollowsBoth b piece t w → AnswersLine b piece t line r → Leads b piece t.history new (after_line b piece t line r) → StepsBoth b piece t line r new
steps_by b piece t w new line r f answers l = record {
  answers = answers;
  legal = l.legal;
  follows = record { fit = f.fit; invariant = line_kept b piece t line r f.invariant answers; drains = line_drains b piece t line r f.invariant f.drains answers; fits = l.fits; some = l.some; seats = l.seats; bag_is = l.bag_is };
}

abort_is : (m k : Message) → gave.Abort m ≡ gave.Abort k → m ≡ k
abort_is m k is = cc

-- ---- the guest

-- the device of a host that runs or drains is where the history of the guest leads
pub free_stands : (b : Snapshot) (p : History) (offered : ℕ → Snapshot) (x : MoveStage) (s : SeatState PortState) → holds_device x ≡ false → AtStage b p offered x s → RefinesAt b p (plain_device s.host.device) s.progress s.link
free_stands b p offered stage.Running s free is = is
free_stands b p offered stage.Draining s free is = is
free_stands b p offered stage.Empty s free is = absurd cc
free_stands b p offered (stage.Offering e totals) s free is = absurd cc
free_stands b p offered (stage.Released e) s free is = absurd cc
free_stands b p offered (stage.Filling e totals part place) s free is = absurd cc
free_stands b p offered (stage.Prepared e) s free is = absurd cc

pub stands_free : (b : Snapshot) (p : History) (offered : ℕ → Snapshot) (x : MoveStage) (s : SeatState PortState) → holds_device x ≡ false → RefinesAt b p (plain_device s.host.device) s.progress s.link → AtStage b p offered x s
stands_free b p offered stage.Running s free is = is
stands_free b p offered stage.Draining s free is = is
stands_free b p offered stage.Empty s free is = absurd cc
stands_free b p offered (stage.Offering e totals) s free is = absurd cc
stands_free b p offered (stage.Released e) s free is = absurd cc
stands_free b p offered (stage.Filling e totals part place) s free is = absurd cc
stands_free b p offered (stage.Prepared e) s free is = absurd cc

-- a line led this host on
pub record GuestLed (b : Snapshot) (piece : ℕ) (t : TwoHosts) (w : TwoSeats) (n : HostName) (line : Event) (r : Reply) (new : (SeatState PortState)) : Type 0 where
  pub answers : IsReplyTo b t.history (fails_at (host_of t n)) (Some line) r
  pub leads : Leads b piece t.history (with_seat w n new) (guest_line_on b t n line r)

-- the host runs or drains, and its seat changed as that of one host
pub record Went (b : Snapshot) (piece : ℕ) (t : TwoHosts) (w : TwoSeats) (n : HostName) (line : Event) (r : Reply) (new : (SeatState PortState)) : Type 0 where
  pub follows : FollowsBoth b piece t w
  pub works : holds_device (seat_of w n).host.stage ≡ false
  pub steps : RefinesOneHost b (one_of t n) (world_of (seat_of w n)) → StepRefinesOneHost b (one_of t n) line r (world_of new)
  pub others : new.host ≡ record (seat_of w n).host { device = new.host.device }
  pub piece_is : RefinesOneHost b (one_of t n) (world_of (seat_of w n)) → new.link.emulator.piece ≡ (seat_of w n).link.emulator.piece

module _ (b : Snapshot) (piece : ℕ) (t : TwoHosts) (w : TwoSeats) (n : HostName) (line : Event) (r : Reply) (new : (SeatState PortState)) (went : Went b piece t w n line r new) where
  here : IsSeat b piece t.history t.offered n (host_of t n) (seat_of w n)
  here = went.follows.seats n

  free : holds_device (stage_at t n) ≡ false
  free = ap holds_device (sym here.stage_is) ∙ went.works

  still : holds_device (stage_at t (other n)) ≡ true
  still = other_still b t n went.follows.invariant free

  alone : RefinesOneHost b (one_of t n) (world_of (seat_of w n))
  alone = record { fit = went.follows.fit; stands = free_stands b t.history t.offered (stage_at t n) (seat_of w n) free here.stands; calls_to_fault = here.calls_to_fault }

  stepped : StepRefinesOneHost b (one_of t n) line r (world_of new)
  stepped = went.steps alone

  abbrev q : History
  q = (guest_line_on b t n line r).history

  seated : IsSeat b piece q t.offered n (host_after_guest b t.history line r (host_of t n)) new
  seated = record {
    name_is = ap (λ (h : HostModel _). h.name) went.others ∙ here.name_is;
    piece_is = ap (λ (h : HostModel _). h.piece) went.others ∙ here.piece_is;
    pieces = went.piece_is alone ∙ here.pieces;
    stage_is = ap (λ (h : HostModel _). h.stage) went.others ∙ here.stage_is;
    top_is = ap (λ (h : HostModel _). h.top) went.others ∙ here.top_is;
    calls_to_fault = stepped.follows.calls_to_fault;
    stands = stands_free b q t.offered (stage_at t n) new free stepped.follows.stands;
  }

  pub guest_led : GuestLed b piece t w n line r new
  guest_led = record {
    answers = stepped.answers;
    leads = record {
      legal = stepped.legal;
      seats = seated_both b piece q t.offered t w n (host_after_guest b t.history line r (host_of t n)) new seated (seat_still b piece t.history q t.offered (other n) (host_of t (other n)) (seat_of w (other n)) still (went.follows.seats (other n)));
      fits = went.follows.fits;
      some = went.follows.some;
      bag_is = went.follows.bag_is;
    };
  }

  pub found_working : working_host t ≡ Some n
  found_working = working_host-is t n free still

  module _ (runs : is_running (seat_of w n).host.stage ≡ true) where
    pub there : stage_at t n ≡ stage.Running
    there = Rattle.two_hosts.proofs.InvariantKept.running_stage (stage_at t n) (ap is_running (sym here.stage_is) ∙ runs)

    pub found_running : running_host t ≡ Some n
    found_running = running_host-is t n (ap is_running there) (held_still (stage_at t (other n)) still)

-- a host that runs is where the history of the guest leads
pub follows_one : (b : Snapshot) (piece : ℕ) (t : TwoHosts) (w : TwoSeats) (n : HostName) → FollowsBoth b piece t w → is_running (seat_of w n).host.stage ≡ true → RefinesOneHost b (one_of t n) (world_of (seat_of w n))
follows_one b piece t w n f runs =
    let at : stage_at t n ≡ stage.Running = Rattle.two_hosts.proofs.InvariantKept.running_stage (stage_at t n) (ap is_running (sym (f.seats n).stage_is) ∙ runs) in
    record { fit = f.fit; stands = subst (λ x. AtStage b t.history t.offered x (seat_of w n)) at (f.seats n).stands; calls_to_fault = (f.seats n).calls_to_fault }

-- A's guest goes on where it was, with nothing else changed
pub goes_on_at_a : (b : Snapshot) (piece : ℕ) (t : TwoHosts) (w : TwoSeats) (new : SeatState PortState) → FollowsBoth b piece t w → is_running w.a.host.stage ≡ true → RefinesOneHost b (one_of t A) (world_of new)
    → new ≡ record w.a { host = record w.a.host { device = new.host.device } } → FollowsBoth b piece t (record w { a = new })
goes_on_at_a b piece t w new f runs goes others =
    let here : IsSeat b piece t.history t.offered A t.a w.a = f.seats A in
    let at : t.a.side.stage ≡ stage.Running = Rattle.two_hosts.proofs.InvariantKept.running_stage t.a.side.stage (ap is_running (sym here.stage_is) ∙ runs) in
    let seated : IsSeat b piece t.history t.offered A t.a new = record {
      name_is = ap (λ (s : SeatState PortState). s.host.name) others ∙ here.name_is;
      piece_is = ap (λ (s : SeatState PortState). s.host.piece) others ∙ here.piece_is;
      pieces = ap (λ (s : SeatState PortState). s.link.emulator.piece) others ∙ here.pieces;
      stage_is = ap (λ (s : SeatState PortState). s.host.stage) others ∙ here.stage_is;
      top_is = ap (λ (s : SeatState PortState). s.host.top) others ∙ here.top_is;
      calls_to_fault = goes.calls_to_fault;
      stands = subst (λ x. AtStage b t.history t.offered x new) (sym at) goes.stands;
    } in
    record { fit = f.fit; invariant = f.invariant; drains = f.drains; fits = f.fits; seats = seated_both b piece t.history t.offered t w A t.a new seated (f.seats B); some = f.some; bag_is = f.bag_is }

-- a line of the host that runs
on_steps : (b : Snapshot) (piece : ℕ) (t : TwoHosts) (w : TwoSeats) (n : HostName) (line : Event) (r : Reply) (new : (SeatState PortState)) → Went b piece t w n line r new → is_running (seat_of w n).host.stage ≡ true
    → AnswersOn b t (running_host t) line r × Leads b piece t.history (with_seat w n new) (guest_line_on_any b t (running_host t) line r)
on_steps b piece t w n line r new went runs =
    let led = guest_led b piece t w n line r new went in
    let found = found_running b piece t w n line r new went runs in (
      subst (λ k. AnswersOn b t k line r) (sym found) led.answers,
      subst (λ k. Leads b piece t.history (with_seat w n new) (guest_line_on_any b t k line r)) (sym found) led.leads,
    )

work_steps : (b : Snapshot) (piece : ℕ) (t : TwoHosts) (w : TwoSeats) (n : HostName) (r : Reply) (new : (SeatState PortState)) → Went b piece t w n event.Work r new → is_running (seat_of w n).host.stage ≡ true
    → AnswersWork b t (working_host t) r × Leads b piece t.history (with_seat w n new) (after_work b t (working_host t) r)
work_steps b piece t w n r new went runs =
    let led = guest_led b piece t w n event.Work r new went in
    let found = found_working b piece t w n event.Work r new went in
    let at = there b piece t w n event.Work r new went runs in (
      subst (λ k. AnswersWork b t k r) (sym found) (subst (λ g. AnswersWorkAt b t n g r) (sym at) led.answers),
      subst (λ k. Leads b piece t.history (with_seat w n new) (after_work b t k r)) (sym found) (subst (λ g. Leads b piece t.history (with_seat w n new) (after_work_at b t n g r)) (sym at) led.leads),
    )

pub guest_steps : (b : Snapshot) (piece : ℕ) (t : TwoHosts) (w : TwoSeats) (n : HostName) (line : Event) (r : Reply) (new : (SeatState PortState)) → is_plain line ≡ true → Went b piece t w n line r new → is_running (seat_of w n).host.stage ≡ true
    → StepsBoth b piece t line r (with_seat w n new)
guest_steps b piece t w n (event.Fail host call) r new is went runs = absurd cc
guest_steps b piece t w n event.Offer r new is went runs = absurd cc
guest_steps b piece t w n (event.Deliver k) r new is went runs = absurd cc
guest_steps b piece t w n event.GiveUp r new is went runs = absurd cc
guest_steps b piece t w n event.Again r new is went runs = absurd cc
guest_steps b piece t w n (event.Show k) r new is went runs = absurd cc
guest_steps b piece t w n (event.Access a) r new is went runs = let l = on_steps b piece t w n (event.Access a) r new went runs in steps_by b piece t w (with_seat w n new) (event.Access a) r went.follows l.0 l.1
guest_steps b piece t w n event.Work r new is went runs = let l = work_steps b piece t w n r new went runs in steps_by b piece t w (with_seat w n new) event.Work r went.follows l.0 l.1
guest_steps b piece t w n event.Ask r new is went runs = let l = on_steps b piece t w n event.Ask r new went runs in steps_by b piece t w (with_seat w n new) event.Ask r went.follows l.0 l.1
guest_steps b piece t w n event.Reset r new is went runs = let l = on_steps b piece t w n event.Reset r new went runs in steps_by b piece t w (with_seat w n new) event.Reset r went.follows l.0 l.1

-- ---- a fault to inject

pub order_steps : (b : Snapshot) (piece : ℕ) (t : TwoHosts) (w : TwoSeats) (n : HostName) (call : ℕ) → FollowsBoth b piece t w
    → StepsBoth b piece t (event.Fail n call) reply.Accepted (with_seat w n (record (seat_of w n) { calls_to_fault = Some (call - 1) }))
order_steps b piece t w n call f =
    let here = f.seats n in
    record {
      answers = refl;
      legal = λ legal. legal;
      follows = record {
        fit = f.fit;
        invariant = line_kept b piece t (event.Fail n call) reply.Accepted f.invariant refl;
        drains = line_drains b piece t (event.Fail n call) reply.Accepted f.invariant f.drains refl;
        seats = seated_both b piece t.history t.offered t w n (host_after_guest b t.history (event.Fail n call) reply.Accepted (host_of t n)) (record (seat_of w n) { calls_to_fault = Some (call - 1) })
            (record { name_is = here.name_is; piece_is = here.piece_is; pieces = here.pieces; stage_is = here.stage_is; top_is = here.top_is; calls_to_fault = (omega arith, ap Some (omega arith)); stands = stands_on here.stands })
            (f.seats (other n));
        fits = f.fits;
        some = f.some;
        bag_is = f.bag_is;
      };
    }
  where
    stands_by : (x : MoveStage) (s : (SeatState PortState)) (calls_to_fault : Option ℕ) → AtStage b t.history t.offered x s → AtStage b t.history t.offered x (record s { calls_to_fault = calls_to_fault })
    stands_by stage.Empty s calls_to_fault is = is
    stands_by stage.Running s calls_to_fault is = is
    stands_by stage.Draining s calls_to_fault is = is
    stands_by (stage.Offering e totals) s calls_to_fault is = is
    stands_by (stage.Released e) s calls_to_fault is = is
    stands_by (stage.Filling e totals part place) s calls_to_fault is = is
    stands_by (stage.Prepared e) s calls_to_fault is = is

    stands_on : AtStage b t.history t.offered (stage_at t n) (seat_of w n) → AtStage b t.history t.offered (stage_at t n) (record (seat_of w n) { calls_to_fault = Some (call - 1) })
    stands_on is = stands_by (stage_at t n) (seat_of w n) (Some (call - 1)) is

-- ---- the lines of a move: what is decoded after them

-- each Piece that was sent has bytes, where the one that is sent now has
pub more_some : (sent : List Message) (m : Message) → ((x : Message) → IsSent sent x → HasPiece x.body) → HasPiece m.body → (x : Message) → IsSent (sent ++ m ∷ []) x → HasPiece x.body
more_some sent m each has x is = go (sent_cases sent m x is.0 is.1)
  where
    go : IsSent sent x ⊎ (x ≡ m) → HasPiece x.body
    go (inl old) = each x old
    go (inr same) = subst (λ (y : Message). HasPiece y.body) (sym same) has

-- nothing was done
pub leads_nowhere : (b : Snapshot) (piece : ℕ) (t : TwoHosts) (w : TwoSeats) → FollowsBoth b piece t w → Leads b piece t.history w t
leads_nowhere b piece t w f = record { legal = λ legal. legal; seats = f.seats; fits = f.fits; some = f.some; bag_is = f.bag_is }

-- ---- giveup

-- an offer was taken back
module _ (b : Snapshot) (piece : ℕ) (t : TwoHosts) (w : TwoSeats) (n : HostName) (f : FollowsBoth b piece t w) (consistent : IsConsistentHost plain (seat_of w n).host)
    (m : Message) (host : HostModel PortState) (number : ℕ) (bag : List Message) (keeps : Keeps m number t.sent bag) where
  abbrev s : (SeatState PortState)
  s = seat_of w n

  abbrev given_up : (SeatState PortState)
  given_up = record s { host = host }

  abbrev here_at : IsSeat b piece t.history t.offered n (host_of t n) s
  here_at = f.seats n

  gives_up_led : (x : MoveStage) → s.host.stage ≡ x → GivesUpAt x plain s.host (gave.Abort m) host → Leads b piece t.history (record (with_seat w n given_up) { bag = bag }) (after_give_up t (Some n))
  gives_up_led (stage.Offering e totals) is (said, resumes) =
      let at : stage_at t n ≡ stage.Offering e totals = sym here_at.stage_is ∙ is in
      let stands : AtStage b t.history t.offered (stage.Offering e totals) s = subst (λ x. AtStage b t.history t.offered x s) at here_at.stands in
      let held : s.host.device.held ≡ true = consistent.matches_side.held ∙ ap (λ x. holds_device x) is in
      let sent : m ≡ message_from n e body.Abort = abort_is m _ said ∙ ap (λ name. message_from name e body.Abort) here_at.name_is in
      subst (λ (more : List Message). Leads b piece t.history (record (with_seat w n given_up) { bag = bag }) (record (with_host t n (running_again (host_of t n))) { sent = t.sent ++ more })) (sym (ap (aborts_in n) at))
      (record {
        legal = λ legal. legal;
        seats = seated_both b piece t.history t.offered t w n (running_again (host_of t n)) given_up
            (record {
              name_is = ap (λ (h : HostModel PortState). h.name) resumes.rest ∙ here_at.name_is;
              piece_is = ap (λ (h : HostModel PortState). h.piece) resumes.rest ∙ here_at.piece_is;
              pieces = here_at.pieces;
              stage_is = ap (λ (h : HostModel PortState). h.stage) resumes.rest;
              top_is = ap (λ (h : HostModel PortState). h.top) resumes.rest ∙ here_at.top_is;
              calls_to_fault = here_at.calls_to_fault;
              stands = goes_on_here b t.history (t.offered e) s.host.device host.device s.progress s.link (offers_present b t n e totals f.invariant at) stands.1 stands.0 held consistent.device resumes.device;
            })
            (f.seats (other n));
        fits = f.fits;
        some = more_some t.sent (message_from n e body.Abort) f.some tt;
        bag_is = keeps.bag_is ∙ ap (λ x. take bag_size (t.sent ++ x ∷ [])) sent;
      })
  gives_up_led stage.Empty is (none, same) = absurd cc
  gives_up_led stage.Running is (none, same) = absurd cc
  gives_up_led stage.Draining is (none, same) = absurd cc
  gives_up_led (stage.Released e) is (none, same) = absurd cc
  gives_up_led (stage.Filling e totals part place) is (none, same) = absurd cc
  gives_up_led (stage.Prepared e) is (none, same) = absurd cc

  gave_is : (x : MoveStage) → s.host.stage ≡ x → GivesUpAt x plain s.host (gave.Abort m) host → gave_reply t (stage_at t n) ≡ reply.ResumedSent (next_number t.sent)
  gave_is (stage.Offering e totals) is gives = ap (gave_reply t) (sym here_at.stage_is ∙ is)
  gave_is stage.Draining is (none, same) = absurd cc
  gave_is stage.Empty is (none, same) = absurd cc
  gave_is stage.Running is (none, same) = absurd cc
  gave_is (stage.Released e) is (none, same) = absurd cc
  gave_is (stage.Filling e totals part place) is (none, same) = absurd cc
  gave_is (stage.Prepared e) is (none, same) = absurd cc

  pub gives_up_steps : host_where is_leaving t ≡ Some n → GivesUp plain s.host (gave.Abort m) host → StepsBoth b piece t GiveUp (reply.ResumedSent number) (record (with_seat w n given_up) { bag = bag })
  gives_up_steps found gives = steps_by b piece t w (record (with_seat w n given_up) { bag = bag }) GiveUp (reply.ResumedSent number) f
      (ap reply.ResumedSent keeps.number_is ∙ sym (ap (give_up_reply t) found ∙ gave_is s.host.stage refl gives))
      (subst (λ k. Leads b piece t.history (record (with_seat w n given_up) { bag = bag }) (after_give_up t k)) (sym found) (gives_up_led s.host.stage refl gives))

-- a host that drained runs again, and sends nothing
module _ (b : Snapshot) (piece : ℕ) (t : TwoHosts) (w : TwoSeats) (n : HostName) (f : FollowsBoth b piece t w) (host : HostModel PortState) where
  undrained_at : (x : MoveStage) → (seat_of w n).host.stage ≡ x → GivesUpAt x plain (seat_of w n).host gave.Undrained host → (stage_at t n ≡ stage.Draining) × (host ≡ record (seat_of w n).host { stage = stage.Running })
  undrained_at stage.Draining is (said, same) = (sym (f.seats n).stage_is ∙ is, same)
  undrained_at stage.Empty is (none, same) = absurd cc
  undrained_at stage.Running is (none, same) = absurd cc
  undrained_at (stage.Offering e totals) is (none, same) = absurd cc
  undrained_at (stage.Released e) is (none, same) = absurd cc
  undrained_at (stage.Filling e totals part place) is (none, same) = absurd cc
  undrained_at (stage.Prepared e) is (none, same) = absurd cc

  undrained_led : stage_at t n ≡ stage.Draining → host ≡ record (seat_of w n).host { stage = stage.Running } → Leads b piece t.history (with_seat w n (record (seat_of w n) { host = host })) (after_give_up t (Some n))
  undrained_led at same =
      let here = f.seats n in
      let nothing : t.sent ++ aborts_in n (stage_at t n) ≡ t.sent = ap (λ (g : MoveStage). t.sent ++ aborts_in n g) at ∙ append-nil t.sent in
      subst (λ (sent : List Message). Leads b piece t.history (with_seat w n (record (seat_of w n) { host = host })) (record (with_host t n (running_again (host_of t n))) { sent = sent })) (sym nothing)
      (record {
        legal = λ legal. legal;
        seats = seated_both b piece t.history t.offered t w n (running_again (host_of t n)) (record (seat_of w n) { host = host })
            (record {
              name_is = ap (λ (h : HostModel PortState). h.name) same ∙ here.name_is;
              piece_is = ap (λ (h : HostModel PortState). h.piece) same ∙ here.piece_is;
              pieces = here.pieces;
              stage_is = ap (λ (h : HostModel PortState). h.stage) same;
              top_is = ap (λ (h : HostModel PortState). h.top) same ∙ here.top_is;
              calls_to_fault = here.calls_to_fault;
              stands = subst (λ (h : HostModel PortState). RefinesAt b t.history (plain_device h.device) (seat_of w n).progress (seat_of w n).link) (sym same)
                  (free_stands b t.history t.offered (stage_at t n) (seat_of w n) (ap holds_device at) here.stands);
            })
            (f.seats (other n));
        fits = f.fits;
        some = f.some;
        bag_is = f.bag_is;
      })

  pub undrains_steps : host_where is_leaving t ≡ Some n → GivesUp plain (seat_of w n).host gave.Undrained host → StepsBoth b piece t GiveUp reply.Resumed (with_seat w n (record (seat_of w n) { host = host }))
  undrains_steps found gives =
      let is = undrained_at (seat_of w n).host.stage refl gives in
      steps_by b piece t w (with_seat w n (record (seat_of w n) { host = host })) GiveUp reply.Resumed f
      (sym (ap (give_up_reply t) found ∙ ap (gave_reply t) is.0))
      (subst (λ k. Leads b piece t.history (with_seat w n (record (seat_of w n) { host = host })) (after_give_up t k)) (sym found) (undrained_led is.0 is.1))

pub none_gives_up : (b : Snapshot) (piece : ℕ) (t : TwoHosts) (w : TwoSeats) → FollowsBoth b piece t w → host_where is_leaving t ≡ None → StepsBoth b piece t GiveUp reply.NotOffering w
none_gives_up b piece t w f found = steps_by b piece t w w GiveUp reply.NotOffering f (sym (ap (give_up_reply t) found)) (subst (λ k. Leads b piece t.history w (after_give_up t k)) (sym found) (leads_nowhere b piece t w f))

-- ---- again

module _ (b : Snapshot) (piece : ℕ) (t : TwoHosts) (w : TwoSeats) (n : HostName) (f : FollowsBoth b piece t w) (m : Message) (number : ℕ) (bag : List Message) (keeps : Keeps m number t.sent bag) where
  again_led : (x : MoveStage) → (seat_of w n).host.stage ≡ x → Some m ≡ said_again x (seat_of w n).host → Leads b piece t.history (record w { bag = bag }) (after_again t (Some n))
  again_led (stage.Prepared e) is said =
      let here = f.seats n in
      let at : stage_at t n ≡ stage.Prepared e = sym here.stage_is ∙ is in
      let sent : m ≡ message_from n (epoch_of (stage_at t n)) body.Prepared = the_same _ _ said ∙ ap (λ name. message_from name e body.Prepared) here.name_is ∙ ap (λ x. message_from n (epoch_of x) body.Prepared) (sym at) in
      record { legal = λ legal. legal; seats = f.seats; fits = f.fits; some = more_some t.sent (message_from n (epoch_of (stage_at t n)) body.Prepared) f.some tt; bag_is = keeps.bag_is ∙ ap (λ x. take bag_size (t.sent ++ x ∷ [])) sent }
  again_led stage.Empty is said = absurd cc
  again_led stage.Running is said = absurd cc
  again_led stage.Draining is said = absurd cc
  again_led (stage.Offering e totals) is said = absurd cc
  again_led (stage.Released e) is said = absurd cc
  again_led (stage.Filling e totals part place) is said = absurd cc

  pub again_steps : host_where is_prepared t ≡ Some n → Some m ≡ said_again (seat_of w n).host.stage (seat_of w n).host → StepsBoth b piece t Again (reply.SentMessage number) (record w { bag = bag })
  again_steps found said = steps_by b piece t w (record w { bag = bag }) Again (reply.SentMessage number) f
      (ap reply.SentMessage keeps.number_is ∙ sym (ap (again_reply t) found))
      (subst (λ k. Leads b piece t.history (record w { bag = bag }) (after_again t k)) (sym found) (again_led (seat_of w n).host.stage refl said))

pub none_again : (b : Snapshot) (piece : ℕ) (t : TwoHosts) (w : TwoSeats) → FollowsBoth b piece t w → host_where is_prepared t ≡ None → StepsBoth b piece t Again reply.NotPrepared w
none_again b piece t w f found = steps_by b piece t w w Again reply.NotPrepared f (sym (ap (again_reply t) found)) (subst (λ k. Leads b piece t.history w (after_again t k)) (sym found) (leads_nowhere b piece t w f))

-- ---- where no host runs

stopped_led : (b : Snapshot) (piece : ℕ) (t : TwoHosts) (w : TwoSeats) (line : Event) → FollowsBoth b piece t w → running_host t ≡ None → Leads b piece t.history w (guest_line_on_any b t (running_host t) line reply.Stopped)
stopped_led b piece t w line f none = subst (λ k. Leads b piece t.history w (guest_line_on_any b t k line reply.Stopped)) (sym none) (leads_nowhere b piece t w f)

-- where no host runs and none drains no worker goes on
pub none_works : (t : TwoHosts) → running_host t ≡ None → host_where is_draining t ≡ None → working_host t ≡ None
none_works t runs drains = go t.a.side.stage t.b.side.stage runs drains
  where
    rest : (y : MoveStage) → (if is_running y then Some B else None) ≡ None → (if is_draining y then Some B else None) ≡ None → (if is_working y then Some B else None) ≡ None
    rest stage.Running runs drains = absurd cc
    rest stage.Draining runs drains = absurd cc
    rest stage.Empty runs drains = refl
    rest (stage.Offering e totals) runs drains = refl
    rest (stage.Released e) runs drains = refl
    rest (stage.Filling e totals part place) runs drains = refl
    rest (stage.Prepared e) runs drains = refl

    go : (x y : MoveStage) → (if is_running x then Some A else (if is_running y then Some B else None)) ≡ None → (if is_draining x then Some A else (if is_draining y then Some B else None)) ≡ None
        → (if is_working x then Some A else (if is_working y then Some B else None)) ≡ None
    go stage.Running y runs drains = absurd cc
    go stage.Draining y runs drains = absurd cc
    go stage.Empty y runs drains = rest y runs drains
    go (stage.Offering e totals) y runs drains = rest y runs drains
    go (stage.Released e) y runs drains = rest y runs drains
    go (stage.Filling e totals part place) y runs drains = rest y runs drains
    go (stage.Prepared e) y runs drains = rest y runs drains

pub stopped_steps : (b : Snapshot) (piece : ℕ) (t : TwoHosts) (w : TwoSeats) (line : Event) → is_plain line ≡ true → FollowsBoth b piece t w → running_host t ≡ None → (line ≡ event.Work → host_where is_draining t ≡ None) → StepsBoth b piece t line reply.Stopped w
stopped_steps b piece t w (event.Fail host call) is f none undrained = absurd cc
stopped_steps b piece t w event.Offer is f none undrained = absurd cc
stopped_steps b piece t w (event.Deliver k) is f none undrained = absurd cc
stopped_steps b piece t w event.GiveUp is f none undrained = absurd cc
stopped_steps b piece t w event.Again is f none undrained = absurd cc
stopped_steps b piece t w (event.Show k) is f none undrained = absurd cc
stopped_steps b piece t w (event.Access a) is f none undrained = steps_by b piece t w w (event.Access a) reply.Stopped f (subst (λ k. AnswersOn b t k (event.Access a) reply.Stopped) (sym none) refl) (stopped_led b piece t w (event.Access a) f none)
stopped_steps b piece t w event.Work is f none undrained =
    let idle : working_host t ≡ None = none_works t none (undrained refl) in
    steps_by b piece t w w event.Work reply.Stopped f (subst (λ k. AnswersWork b t k reply.Stopped) (sym idle) refl) (subst (λ k. Leads b piece t.history w (after_work b t k reply.Stopped)) (sym idle) (leads_nowhere b piece t w f))
stopped_steps b piece t w event.Ask is f none undrained = steps_by b piece t w w event.Ask reply.Stopped f (subst (λ k. AnswersOn b t k event.Ask reply.Stopped) (sym none) refl) (stopped_led b piece t w event.Ask f none)
stopped_steps b piece t w event.Reset is f none undrained = steps_by b piece t w w event.Reset reply.Stopped f (subst (λ k. AnswersOn b t k event.Reset reply.Stopped) (sym none) refl) (stopped_led b piece t w event.Reset f none)

-- ---- show

pub show_steps : (b : Snapshot) (piece : ℕ) (t : TwoHosts) (w : TwoSeats) (k : ℕ) (r : Reply) → FollowsBoth b piece t w → r ≡ show_reply (message_at t.sent k) → StepsBoth b piece t (Show k) r w
show_steps b piece t w k r f is = steps_by b piece t w w (Show k) r f is (leads_nowhere b piece t w f)

-- a message in the bag is the one of its number
pub bag_at : (sent bag : List Message) (k : ℕ) → bag ≡ take bag_size sent → 0 < k → slice_get bag (k - 1) ≡ message_at sent k
bag_at sent bag zero is some = absurd (omega (arith, some))
bag_at sent bag (suc k) is some = ap (λ x. slice_get x (suc k - 1)) is ∙ ap (slice_get (take bag_size sent)) (omega arith) ∙ (cond_both (nat_lt k bag_size) (slice_get sent k) None (λ o. slice_get (take bag_size sent) k ≡ o) (λ lt. get_take bag_size sent k (ltb-true k bag_size lt)) (λ ge. past_take bag_size sent k (ltb-false k bag_size ge)))
  where
    get_take : (n : ℕ) (xs : List Message) (i : ℕ) → i < n → slice_get (take n xs) i ≡ slice_get xs i
    get_take zero xs i lt = absurd (omega (arith, lt))
    get_take (suc n) [] i lt = refl
    get_take (suc n) (x ∷ xs) zero lt = refl
    get_take (suc n) (x ∷ xs) (suc i) lt = get_take n xs i (omega (arith, lt))

    past_take : (n : ℕ) (xs : List Message) (i : ℕ) → n ≤ i → slice_get (take n xs) i ≡ None
    past_take zero xs i le = refl
    past_take (suc n) [] i le = refl
    past_take (suc n) (x ∷ xs) zero le = absurd (omega (arith, le))
    past_take (suc n) (x ∷ xs) (suc i) le = past_take n xs i (omega (arith, le))

pub room_is : bag_size ≡ 16384
unfolding bag_size
room_is = refl

-- the host that runs, by what the code finds
runs_go : (a b : Bool) (n : HostName) → (if a then Some A else (if b then Some B else None)) ≡ Some n → pick n a b ≡ true
runs_go true b A is = refl
runs_go true b B is = absurd cc
runs_go false true A is = absurd cc
runs_go false true B is = refl
runs_go false false n is = absurd cc

pub runs_here : (w : TwoSeats) (n : HostName) → running_of w ≡ Some n → is_running (seat_of w n).host.stage ≡ true
runs_here w A found = runs_go (is_running w.a.host.stage) (is_running w.b.host.stage) A found
runs_here w B found = runs_go (is_running w.a.host.stage) (is_running w.b.host.stage) B found

-- the host that is looked for, by what the code finds
pub found_a : (b : Snapshot) (piece : ℕ) (t : TwoHosts) (w : TwoSeats) (test : MoveStage → Bool) → FollowsBoth b piece t w → test w.a.host.stage ≡ true → host_where test t ≡ Some A
found_a b piece t w test f met = cond-true (test t.a.side.stage) _ _ (ap test (sym (f.seats A).stage_is) ∙ met)

pub found_b : (b : Snapshot) (piece : ℕ) (t : TwoHosts) (w : TwoSeats) (test : MoveStage → Bool) → FollowsBoth b piece t w → test w.a.host.stage ≡ false → test w.b.host.stage ≡ true → host_where test t ≡ Some B
found_b b piece t w test f unmet met = cond-false (test t.a.side.stage) _ _ (ap test (sym (f.seats A).stage_is) ∙ unmet) ∙ cond-true (test t.b.side.stage) _ _ (ap test (sym (f.seats B).stage_is) ∙ met)

pub found_none : (b : Snapshot) (piece : ℕ) (t : TwoHosts) (w : TwoSeats) (test : MoveStage → Bool) → FollowsBoth b piece t w → test w.a.host.stage ≡ false → test w.b.host.stage ≡ false → host_where test t ≡ None
found_none b piece t w test f unmet none = cond-false (test t.a.side.stage) _ _ (ap test (sym (f.seats A).stage_is) ∙ unmet) ∙ cond-false (test t.b.side.stage) _ _ (ap test (sym (f.seats B).stage_is) ∙ none)

pub gave_up : (x : MoveStage) (h : HostModel PortState) (m : Message) (new : HostModel PortState) → GivesUpAt x plain h (gave.Abort m) new → is_leaving x ≡ true
gave_up (stage.Offering e totals) h m new is = refl
gave_up stage.Draining h m new is = refl
gave_up stage.Empty h m new (none, same) = absurd cc
gave_up stage.Running h m new (none, same) = absurd cc
gave_up (stage.Released e) h m new (none, same) = absurd cc
gave_up (stage.Filling e totals part place) h m new (none, same) = absurd cc
gave_up (stage.Prepared e) h m new (none, same) = absurd cc

pub gave_way : (x : MoveStage) (h new : HostModel PortState) → GivesUpAt x plain h gave.Undrained new → is_leaving x ≡ true
gave_way (stage.Offering e totals) h new is = refl
gave_way stage.Draining h new is = refl
gave_way stage.Empty h new (none, same) = absurd cc
gave_way stage.Running h new (none, same) = absurd cc
gave_way (stage.Released e) h new (none, same) = absurd cc
gave_way (stage.Filling e totals part place) h new (none, same) = absurd cc
gave_way (stage.Prepared e) h new (none, same) = absurd cc

pub gave_none : (x : MoveStage) (h new : HostModel PortState) → GivesUpAt x plain h gave.NotOffering new → (is_leaving x ≡ false) × (new ≡ h)
gave_none (stage.Offering e totals) h new (none, resumes) = absurd cc
gave_none stage.Draining h new (none, same) = absurd cc
gave_none stage.Empty h new (none, same) = (refl, same)
gave_none stage.Running h new (none, same) = (refl, same)
gave_none (stage.Released e) h new (none, same) = (refl, same)
gave_none (stage.Filling e totals part place) h new (none, same) = (refl, same)
gave_none (stage.Prepared e) h new (none, same) = (refl, same)

pub said_some : (x : MoveStage) (h : HostModel PortState) (m : Message) → Some m ≡ said_again x h → is_prepared x ≡ true
said_some (stage.Prepared e) h m is = refl
said_some stage.Empty h m is = absurd cc
said_some stage.Running h m is = absurd cc
said_some stage.Draining h m is = absurd cc
said_some (stage.Offering e totals) h m is = absurd cc
said_some (stage.Released e) h m is = absurd cc
said_some (stage.Filling e totals part place) h m is = absurd cc

pub said_none : (x : MoveStage) (h : HostModel PortState) → None ≡ said_again x h → is_prepared x ≡ false
said_none (stage.Prepared e) h is = absurd cc
said_none stage.Empty h is = refl
said_none stage.Running h is = refl
said_none stage.Draining h is = refl
said_none (stage.Offering e totals) h is = refl
said_none (stage.Released e) h is = refl
said_none (stage.Filling e totals part place) h is = refl
