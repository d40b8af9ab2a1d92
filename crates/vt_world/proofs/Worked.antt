-- A step of the worker of a host that drains leads both hosts on, with the offer that follows the end of its command.
use Rattle.std.proofs.Common.{◌≡◌, ℕ, true, false, List, refl, sym, ap, subst, ◌∙◌, ◌⊎◌, Some, None, Ok, Err}
use Rattle.std.specs.Prelude.{Option, Result}
use Rattle.crb_port.specs.Plain.{plain}
use Rattle.crb_port.specs.declared.job.PortState.{PortState}
use Rattle.crb_machine.specs.Model.{DeviceModel}
use Rattle.crb_machine.specs.Over.{plain_device, Stops as DeviceStops}
use Rattle.ctrl_client.specs.declared.fault.ClientFault.{ClientFault}
use Rattle.ctrl_model.specs.Link.{Link}
use Rattle.crb_history.specs.Snapshot.{Snapshot}
use Rattle.crb_history.specs.Legal.{Legal}
use Rattle.vt_transcript.specs.Replies.{is_under_way, worker_reply}
use Rattle.vt_base.specs.declared.types.HostName.{HostName}
use Rattle.vt_base.specs.declared.types.HostName.TheVariants.{A, B}
use Rattle.vt_script.specs.declared.event.Event.TheVariants as event
use Rattle.vt_script.specs.declared.reply.Reply.{Reply}
use Rattle.vt_script.specs.declared.reply.Reply.TheVariants as reply
use Rattle.move_codec.specs.declared.message.Message.{Message}
use Rattle.move_core.specs.Calls.{Drains, StopsAndOffers}
use Rattle.move_core.specs.Hosts.{IsConsistentHost}
use Rattle.move_core.specs.Model.{HostModel}
use Rattle.move_core.specs.Requests.{WiresView}
use Rattle.move_core.specs.Sides.{is_running, holds_device, other}
use Rattle.move_core.specs.declared.answers.Offered.{Offered}
use Rattle.move_core.specs.declared.answers.Offered.TheVariants as offered
use Rattle.move_core.specs.declared.answers.OfferFault.{OfferFault}
use Rattle.move_core.specs.declared.answers.OfferFault.TheVariants as fault
use Rattle.move_core.specs.declared.stage.MoveStage.TheVariants as stage
use Rattle.two_hosts.specs.Hosts.{TwoHosts, host_of, stage_at, fails_at, running_host, working_host, guest_line_on}
use Rattle.two_hosts.specs.Replies.{offer_reply}
use Rattle.two_hosts.proofs.InvariantKept.{guest_kept}
use Rattle.vt_seat.proofs.Savings.{stands-on, busy_at}
use Rattle.vt_seat.proofs.Steps.{the_same}
use Rattle.vt_seat.specs.Follows.{RefinesAt}
use Rattle.vt_seat.specs.Seats.{view_of}
use Rattle.vt_seat.specs.State.{SeatState}
use Rattle.two_seats.specs.Both.{TwoSeats, seat_of, with_seat, FollowsBoth, StepsBoth, Keeps, said_drained, bag_drained, ended_offered, ended_link}
use Rattle.two_seats.specs.Seats.{IsSeat}
use Rattle.two_seats.proofs.Draining.{stepped_hosts, stepped_follows, undrained_seat, undrained_consistent, offered_work, linked_work, lost_work, still_work}
use Rattle.two_seats.proofs.Lines.{Leads, Went, guest_led, found_working, free_stands, stands_free}
use Rattle.two_seats.proofs.Offering.{GoesOnAsBefore, IsBusyAs, busy_by, offer_any, offer_by_link}
use Rattle.two_seats.proofs.Seating.{other_still, held_still, running_host-is}
use Rattle.vt_world.proofs.CountedDrains.{IsLinkBehind, link_behind}

sent_is : (m k : Message) → let one : Result Offered OfferFault = Ok (offered.Sent m) in let two : Result Offered OfferFault = Ok (offered.Sent k) in one ≡ two → m ≡ k
sent_is m k is = cc

module _ (b : Snapshot) (piece : ℕ) (t : TwoHosts) (w : TwoSeats) (n : HostName) (q : Reply) (mid : SeatState PortState) (went : Went b piece t w n event.Work q mid) (drains : (seat_of w n).host.stage ≡ stage.Draining)
    (consistent : IsConsistentHost plain mid.host) (law : GoesOnAsBefore) where
  -- the hosts and the seats after the step, the host of it running
  abbrev t2 : TwoHosts
  t2 = stepped_hosts b t n q

  abbrev w2 : TwoSeats
  w2 = with_seat w n (undrained_seat mid)

  abbrev s2 : SeatState PortState
  s2 = seat_of w2 n

  seat_is : (n : HostName) (x : SeatState PortState) → seat_of (with_seat w n x) n ≡ x
  seat_is A x = refl
  seat_is B x = refl

  ended_is : (n : HostName) (s : SeatState PortState) (host : HostModel PortState) (link : Link) (calls_to_fault : Option ℕ) (bag : List Message)
      → record (with_seat (with_seat w n (undrained_seat s)) n (record (seat_of (with_seat w n (undrained_seat s)) n) { host = host; link = link; calls_to_fault = calls_to_fault })) { bag = bag }
      ≡ record (with_seat w n (record s { host = host; link = link; calls_to_fault = calls_to_fault })) { bag = bag }
  ended_is A s host link calls_to_fault bag = refl
  ended_is B s host link calls_to_fault bag = refl

  at : stage_at t n ≡ stage.Draining
  at = sym (went.follows.seats n).stage_is ∙ drains

  found : working_host t ≡ Some n
  found = found_working b piece t w n event.Work q mid went

  step : q ≡ worker_reply b t.history (fails_at (host_of t n))
  step = (guest_led b piece t w n event.Work q mid went).answers

  legal1 : Legal b t.history → Legal b (guest_line_on b t n event.Work q).history
  legal1 = (guest_led b piece t w n event.Work q mid went).leads.legal

  under : is_under_way b t.history ≡ true
  under = went.follows.drains n at

  ran : (n : HostName) → is_running (stage_at (stepped_hosts b t n q) n) ≡ true
  ran A = refl
  ran B = refl

  beside : (n : HostName) → stage_at (stepped_hosts b t n q) (other n) ≡ stage_at t (other n)
  beside A = refl
  beside B = refl

  found2 : running_host (stepped_hosts b t n q) ≡ Some n
  found2 = running_host-is (stepped_hosts b t n q) n (ran n) (ap is_running (beside n) ∙ held_still (stage_at t (other n)) (other_still b t n went.follows.invariant (ap holds_device at)))

  follows2 : FollowsBoth b piece t2 w2
  follows2 = stepped_follows b piece t w n q mid went drains

  consistent2 : IsConsistentHost plain s2.host
  consistent2 = subst (λ (s : SeatState PortState). IsConsistentHost plain s.host) (sym (seat_is n (undrained_seat mid)))
      (undrained_consistent mid.host (ap (λ (h : HostModel PortState). h.stage) went.others ∙ drains) consistent)

  runs2 : s2.host.stage ≡ stage.Running
  runs2 = ap (λ (s : SeatState PortState). s.host.stage) (seat_is n (undrained_seat mid))

  -- what the draining host did, as what the host that runs does
  offers2 : (r : Result Message OfferFault) (v : WiresView (Option ℕ)) (host : HostModel PortState) → StopsAndOffers plain (record mid.host { stage = stage.Running }) (view_of mid) r v host
      → StopsAndOffers plain s2.host (view_of s2) r v host
  offers2 r v host so = subst (λ (s : SeatState PortState). StopsAndOffers plain s.host (view_of s) r v host) (sym (seat_is n (undrained_seat mid))) so

  -- the seats after the step and the offer
  abbrev seats_after : SeatState PortState → List Message → TwoSeats
  seats_after new bag = record (with_seat w n (record mid { host = new.host; link = new.link; calls_to_fault = new.calls_to_fault })) { bag = bag }

  offered_on : (m : Message) (new : SeatState PortState) (number : ℕ) (bag : List Message) → StopsAndOffers plain (record mid.host { stage = stage.Running }) (view_of mid) (Ok m) (view_of new) new.host → Keeps m number t.sent bag
      → StepsBoth b piece t2 event.Offer (reply.Offered m.epoch number) (seats_after new bag)
  offered_on m new number bag so keeps = subst (λ (x : TwoSeats). StepsBoth b piece t2 event.Offer (reply.Offered m.epoch number) x) (ended_is n mid new.host new.link new.calls_to_fault bag)
      (offer_any b piece t2 w2 n follows2 consistent2 law (Ok (offered.Sent m)) new.host new.link new.calls_to_fault s2.faults new.faults number bag (ap is_running runs2) (runs2, offers2 (Ok m) (view_of new) new.host so)
      (λ k is. subst (λ (x : Message). Keeps x number t.sent bag) (sent_is m k is) keeps))

  lost_on : (new : SeatState PortState) → StopsAndOffers plain (record mid.host { stage = stage.Running }) (view_of mid) (Err fault.Device) (view_of new) new.host → StepsBoth b piece t2 event.Offer reply.FailedDevice (seats_after new w.bag)
  lost_on new so = subst (λ (x : TwoSeats). StepsBoth b piece t2 event.Offer reply.FailedDevice x) (ended_is n mid new.host new.link new.calls_to_fault w.bag)
      (offer_any b piece t2 w2 n follows2 consistent2 law (Err fault.Device) new.host new.link new.calls_to_fault s2.faults new.faults 0 w.bag (ap is_running runs2) (runs2, offers2 (Err fault.Device) (view_of new) new.host so) (λ k is. absurd cc))

  linked_on : (f : ClientFault) (new : SeatState PortState) → StopsAndOffers plain (record mid.host { stage = stage.Running }) (view_of mid) (Err (fault.Wires f)) (view_of new) new.host → StepsBoth b piece t2 event.Offer reply.Link (seats_after new w.bag)
  linked_on f new so = subst (λ (x : TwoSeats). StepsBoth b piece t2 event.Offer reply.Link x) (ended_is n mid new.host new.link new.calls_to_fault w.bag)
      (offer_any b piece t2 w2 n follows2 consistent2 law (Err (fault.Wires f)) new.host new.link new.calls_to_fault s2.faults new.faults 0 w.bag (ap is_running runs2) (runs2, offers2 (Err (fault.Wires f)) (view_of new) new.host so) (λ k is. absurd cc))

  -- the hosts after the step alone
  abbrev t1 : TwoHosts
  t1 = guest_line_on b t n event.Work q

  led : Leads b piece t.history (with_seat w n mid) t1
  led = (guest_led b piece t w n event.Work q mid went).leads

  stays_at : (n : HostName) → stage_at (guest_line_on b t n event.Work q) n ≡ stage_at t n
  stays_at A = refl
  stays_at B = refl

  free1 : holds_device (stage_at t1 n) ≡ false
  free1 = ap holds_device (stays_at n ∙ at)

  -- the command is claimed still: its answer isn't there, and the device took back nothing
  module _ (new : HostModel PortState) (number : ℕ) (stops : DeviceStops plain mid.host.device (Err (record { number = number })) new.device) (rest : new ≡ record mid.host { device = new.device }) where
    abbrev d : DeviceModel PortState
    d = mid.host.device

    busy : IsBusyAs d new.device (record { number = d.number })
    busy = busy_by d.regs d.number d.own_buffer d.held d.cancelled d.port new.device stops.1

    here : IsSeat b piece t1.history t1.offered n (host_of t1 n) mid
    here = subst (IsSeat b piece t1.history t1.offered n (host_of t1 n)) (seat_is n mid) (led.seats n)

    refines : RefinesAt b t1.history (plain_device d) mid.progress mid.link
    refines = free_stands b t1.history t1.offered (stage_at t1 n) mid free1 here.stands

    claimed : is_under_way b t1.history ≡ true
    claimed = (busy_at b t1.history (plain_device d) mid.progress mid.link (record { number = d.number }) refines busy.done).busy

    seated : IsSeat b piece t1.history t1.offered n (host_of t1 n) (record mid { host = new })
    seated = record {
      name_is = ap (λ (h : HostModel PortState). h.name) rest ∙ here.name_is;
      piece_is = ap (λ (h : HostModel PortState). h.piece) rest ∙ here.piece_is;
      pieces = here.pieces;
      stage_is = ap (λ (h : HostModel PortState). h.stage) rest ∙ here.stage_is;
      top_is = ap (λ (h : HostModel PortState). h.top) rest ∙ here.top_is;
      calls_to_fault = here.calls_to_fault;
      stands = stands_free b t1.history t1.offered (stage_at t1 n) (record mid { host = new }) free1
          (stands-on b t1.history (plain_device d) (plain_device new.device) mid.progress mid.link refines busy.same);
    }

    follows1 : FollowsBoth b piece t1 (with_seat w n (record mid { host = new }))
    follows1 = record {
      fit = went.follows.fit;
      invariant = guest_kept b t went.follows.invariant.0 n event.Work q went.follows.invariant.1 (ap holds_device at);
      drains = λ k is. claimed;
      fits = led.fits;
      seats = both n seated (led.seats (other n));
      some = led.some;
      bag_is = led.bag_is;
    }
      where
        both : (n : HostName) → IsSeat b piece (guest_line_on b t n event.Work q).history (guest_line_on b t n event.Work q).offered n (host_of (guest_line_on b t n event.Work q) n) (record mid { host = new })
            → IsSeat b piece (guest_line_on b t n event.Work q).history (guest_line_on b t n event.Work q).offered (other n) (host_of (guest_line_on b t n event.Work q) (other n)) (seat_of (with_seat w n mid) (other n))
            → (k : HostName) → IsSeat b piece (guest_line_on b t n event.Work q).history (guest_line_on b t n event.Work q).offered k (host_of (guest_line_on b t n event.Work q) k) (seat_of (with_seat w n (record mid { host = new })) k)
        both A is others A = is
        both A is others B = others
        both B is others A = others
        both B is others B = is

    unended : StepsBoth b piece t event.Work q (with_seat w n (record mid { host = new }))
    unended = still_work b piece t n q found at step under (with_seat w n (record mid { host = new })) found2 legal1 claimed follows1

  pub drained_steps : (answer : Result (Option Message) OfferFault) (new : SeatState PortState) (number : ℕ) (bag : List Message) → Drains plain mid.host (view_of mid) answer (view_of new) new.host
      → ((m : Message) → answer ≡ Ok (Some m) → Keeps m number t.sent bag) → StepsBoth b piece t event.Work (said_drained q answer number) (seats_after new (bag_drained answer bag w.bag))
  drained_steps (Ok None) new number bag (same, k, stops, is) keeps =
      let link_is : mid.link ≡ new.link = sym (the_same _ _ (ap (λ (x : WiresView (Option ℕ)). x.link) same)) in
      let calls_is : mid.calls_to_fault ≡ new.calls_to_fault = sym (ap (λ (x : WiresView (Option ℕ)). x.schedule) same) in
      subst (λ (link : Link). StepsBoth b piece t event.Work q (with_seat w n (record mid { host = new.host; link = link; calls_to_fault = new.calls_to_fault }))) link_is
      (subst (λ (calls : Option ℕ). StepsBoth b piece t event.Work q (with_seat w n (record mid { host = new.host; calls_to_fault = calls }))) calls_is
      (unended new.host k stops is))
  drained_steps (Ok (Some m)) new number bag so keeps =
      offered_work b piece t n q found at step under (seats_after new bag) found2 legal1 m.epoch number (offered_on m new number bag so (keeps m refl))
  drained_steps (Err fault.Device) new number bag so keeps = lost_work b piece t n q found at step under (seats_after new w.bag) found2 legal1 (lost_on new so)
  drained_steps (Err (fault.Wires f)) new number bag so keeps = linked_work b piece t n q found at step under (seats_after new w.bag) found2 legal1 (linked_on f new so)
  drained_steps (Err fault.Stopped) new number bag so keeps = absurd so
  drained_steps (Err fault.EpochEnd) new number bag so keeps = absurd so

  pub drained_by : (answer : Result (Option Message) OfferFault) (new : SeatState PortState) → Drains plain mid.host (view_of mid) answer (view_of new) new.host → IsLinkBehind q answer
  drained_by (Err (fault.Wires f)) new so = (
    offer_by_link b piece t2 w2 n follows2 consistent2 law (Err (fault.Wires f)) new.host new.link new.calls_to_fault s2.faults new.faults (runs2, offers2 (Err (fault.Wires f)) (view_of new) new.host so),
    link_behind b t n q step under ((linked_on f new so).answers ∙ ap (offer_reply b t2) found2),
  )
  drained_by (Ok answer) new so = tt
  drained_by (Err fault.Device) new so = tt
  drained_by (Err fault.Stopped) new so = tt
  drained_by (Err fault.EpochEnd) new so = tt
