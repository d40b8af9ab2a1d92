-- Any end of an offer leads both hosts on.
use Rattle.std.proofs.Common.{◌≡◌, ℕ, ◌+◌, Bool, true, false, List, refl, sym, ap, subst, ◌∙◌, Some, None, Ok, Err, inl, inr}
use Rattle.std.specs.Prelude.{Option, Result}
use Rattle.crb_regs.specs.declared.registers.Regs.{Regs}
use Rattle.crb_port.specs.Plain.{plain}
use Rattle.crb_port.specs.Views.{waiting_stage}
use Rattle.crb_port.specs.declared.job.PortStage as port
use Rattle.crb_port.specs.declared.job.PortState.{PortState}
use Rattle.crb_port.specs.declared.job.PortState.TheVariants as port_state
use Rattle.crb_machine.specs.Over.{plain_device, placed, IsConsistentDevice, GoesOn, Stops, IsBusy as IsBusyDevice}
use Rattle.crb_machine.specs.Steps.{collected, reset_reply}
use Rattle.crb_machine.specs.declared.device.NotYet.{NotYet}
use Rattle.crb_machine.specs.Model.{DeviceModel}
use Rattle.ctrl_client.specs.declared.fault.ClientFault.{ClientFault}
use Rattle.ctrl_client.specs.declared.fault.ClientFault.TheVariants.{Link as LinkFault}
use Rattle.ctrl_client.specs.Schedules.{fails_within}
use Rattle.ctrl_model.specs.Link.{Link}
use Rattle.crb_history.specs.Snapshot.{Snapshot}
use Rattle.vt_script.specs.declared.reply.Reply.TheVariants as reply
use Rattle.vt_base.specs.declared.types.HostName.{HostName}
use Rattle.move_codec.specs.declared.message.Message.{Message}
use Rattle.move_core.specs.declared.answers.OfferFault.{OfferFault}
use Rattle.move_core.specs.declared.answers.Offered.{Offered}
use Rattle.move_core.specs.declared.answers.Offered.TheVariants as offered
use Rattle.move_core.specs.declared.answers.OfferFault.TheVariants as fault
use Rattle.move_core.specs.Model.{HostModel}
use Rattle.move_core.specs.declared.stage.MoveStage.TheVariants as stage
use Rattle.move_core.specs.Sides.{is_running, holds_device}
use Rattle.move_core.specs.Hosts.{IsConsistentHost}
use Rattle.move_core.specs.Requests.{WiresView, wires_view}
use Rattle.move_core.specs.Calls.{Offers, OffersParts, Resumes, EpochEnds}
use Rattle.vt_script.specs.declared.event.Event.TheVariants.{Offer}
use Rattle.vt_script.specs.declared.reply.Reply.{Reply}
use Rattle.two_hosts.specs.Hosts.{TwoHosts}
use Rattle.vt_seat.specs.Wires.{fails_next, after_call}
use Rattle.vt_seat.proofs.Steps.{the_same}
use Rattle.vt_seat.specs.State.{SeatState}
use Rattle.two_seats.specs.Both.{TwoSeats, seat_of, with_seat, FollowsBoth, StepsBoth, Keeps, said_offer, bag_offer}
use Rattle.two_seats.proofs.Counting.{IsByLink}
use Rattle.vt_seat.specs.Follows.{tpm_at}
use Rattle.two_seats.proofs.Exact.{Wired, lengths_of}
use Rattle.two_seats.proofs.Offers as of
use Rattle.two_seats.proofs.Offers.{blobs}

number_is : (k number : ℕ) → let one : NotYet = record { number = k } in let two : NotYet = record { number = number } in one ≡ two → k ≡ number
number_is k number is = ap (λ (x : NotYet). x.number) is

-- a device whose job is claimed
pub record IsBusyAs (d e : DeviceModel PortState) (not_yet : NotYet) : Type 0 where
  pub done : reset_reply (plain_device d) ≡ Err not_yet
  pub same : plain_device e ≡ collected (plain_device d)

pub busy_by : (regs : Regs) (number : ℕ) (own_buffer : Option (List ℕ)) (held cancelled : Bool) (s : PortState) (e : DeviceModel PortState) → IsBusyDevice plain (record { regs = regs; number = number; own_buffer = own_buffer; held = held; cancelled = cancelled; port = s }) e
    → IsBusyAs (record { regs = regs; number = number; own_buffer = own_buffer; held = held; cancelled = cancelled; port = s }) e (record { number = number })
busy_by regs number (Some buf) held cancelled s e busy = let wrong : Some buf ≡ None = busy.away in absurd cc
busy_by regs number None held cancelled (port_state.Claimed claimed) e busy =
    let stays : e.port ≡ port_state.Claimed claimed = the_same _ _ busy.pulls.0.state in
    record { done = refl; same = ap plain_device busy.same ∙ ap (placed regs number None) stays }
busy_by regs number None held cancelled port_state.Nothing e busy = absurd (let wrong : true ≡ false = busy.pulls.1 in cc)
busy_by regs number None held cancelled (port_state.Waiting job) e busy = absurd (elim busy.pulls.2 [ inl found ↦ waits job.cancelled found.state | inr more ↦ let wrong : Some (port_state.Waiting job) ≡ None = more.1 in cc ])
  where
    waits : (c : Bool) → waiting_stage c ≡ port.TheVariants.Claimed → ⊥
    waits true is = cc
    waits false is = cc
busy_by regs number None held cancelled (port_state.Answered a) e busy = absurd (elim busy.pulls.2 [ inl found ↦ let wrong : port.TheVariants.Answered ≡ port.TheVariants.Claimed = found.state in cc | inr more ↦ let wrong : Some (port_state.Answered a) ≡ None = more.1 in cc ])

abbrev AreSame : Result (List ℕ) ClientFault → Result (List ℕ) ClientFault → Type 0
AreSame a b = a ≡ b

link_of : (met : Bool) (fault : ClientFault) (xs : List ℕ) → (met ≡ false → AreSame (Err fault) (Ok xs)) → (met ≡ true → AreSame (Err fault) (Err LinkFault)) → fault ≡ LinkFault
link_of true fault xs done lost = let e = lost refl in cc
link_of false fault xs done lost = absurd (let e = done refl in cc)

-- what the law of stops and goings on says of this port
abbrev pub GoesOnAsBefore : Type 0
GoesOnAsBefore = (d e f : DeviceModel PortState) → IsConsistentDevice plain d → d.held ≡ false → Stops plain d (Ok tt) e → GoesOn plain e f → Some (plain_device f) ≡ Some (collected (plain_device d))

module _ (b : Snapshot) (piece : ℕ) (t : TwoHosts) (w : TwoSeats) (n : HostName) (f : FollowsBoth b piece t w) (consistent : IsConsistentHost plain (seat_of w n).host) (law : GoesOnAsBefore) where
  abbrev s : (SeatState PortState)
  s = seat_of w n

  abbrev seen_at : Link → Option ℕ → ℕ → WiresView (Option ℕ)
  seen_at link calls_to_fault faults = wires_view fails_next after_call (Some link) calls_to_fault faults None

  wired : (faults : ℕ) → Wired (seen_at s.link s.calls_to_fault faults) s.link s.calls_to_fault
  wired faults = record { fails = refl; later = refl; link = refl; schedule = refl }

  -- the wires weren't used
  record Kept (link : Link) (calls_to_fault : Option ℕ) : Type 0 where
    link_is : link ≡ s.link
    calls_to_fault_is : calls_to_fault ≡ s.calls_to_fault

  unused : (link : Link) (calls_to_fault : Option ℕ) (fa fb : ℕ) → seen_at link calls_to_fault fb ≡ seen_at s.link s.calls_to_fault fa → Kept link calls_to_fault
  unused link calls_to_fault fa fb same = record { link_is = the_same _ _ (ap (λ (x : WiresView (Option ℕ)). x.link) same); calls_to_fault_is = ap (λ (x : WiresView (Option ℕ)). x.schedule) same }

  abbrev after : HostModel PortState → Link → Option ℕ → TwoSeats
  after host link calls_to_fault = with_seat w n (record s { host = host; link = link; calls_to_fault = calls_to_fault })

  by_link : (r : Reply) (host : HostModel PortState) (link : Link) (calls_to_fault : Option ℕ) → link ≡ s.link → StepsBoth b piece t Offer r (with_seat w n (record s { host = host; calls_to_fault = calls_to_fault })) → StepsBoth b piece t Offer r (after host link calls_to_fault)
  by_link r host link calls_to_fault is steps = subst (λ (x : Link). StepsBoth b piece t Offer r (after host x calls_to_fault)) (sym is) steps

  by_due : (r : Reply) (host : HostModel PortState) (calls_to_fault : Option ℕ) → calls_to_fault ≡ s.calls_to_fault → StepsBoth b piece t Offer r (with_seat w n (record s { host = host })) → StepsBoth b piece t Offer r (with_seat w n (record s { host = host; calls_to_fault = calls_to_fault }))
  by_due r host calls_to_fault is steps = subst (λ (x : Option ℕ). StepsBoth b piece t Offer r (with_seat w n (record s { host = host; calls_to_fault = x }))) (sym is) steps

  -- behind a refusal the device goes on, and the host is as before but for an answer that came back
  module _ (runs : s.host.stage ≡ stage.Running) (device : DeviceModel PortState) (stops : Stops plain s.host.device (Ok tt) device) (held host : HostModel PortState) (same : held ≡ record s.host { device = device }) (resumes : Resumes plain held host) where
    back_rest : host ≡ record s.host { device = host.device }
    back_rest = resumes.rest ∙ ap (λ (x : HostModel PortState). record x { device = host.device }) same

    back_device : plain_device host.device ≡ collected (plain_device s.host.device)
    back_device =
        let goes : GoesOn plain device host.device = subst (λ (x : HostModel PortState). GoesOn plain x.device host.device) same resumes.device in
        some_is _ _ (law s.host.device device host.device consistent.device (consistent.matches_side.held ∙ ap (λ x. holds_device x) runs) stops goes)
      where
        some_is : {T : Type 0} (x y : T) → Some x ≡ Some y → x ≡ y
        some_is x y is = cc

  pub offer_any : (r : Result Offered OfferFault) (host : HostModel PortState) (link : Link) (calls_to_fault : Option ℕ) (fa fb number : ℕ) (bag : List Message)
      → is_running s.host.stage ≡ true → Offers plain s.host (seen_at s.link s.calls_to_fault fa) r (seen_at link calls_to_fault fb) host → ((m : Message) → r ≡ Ok (offered.Sent m) → Keeps m number t.sent bag)
      → StepsBoth b piece t Offer (said_offer r number) (record (after host link calls_to_fault) { bag = bag_offer r bag w.bag })
  offer_any (Err fault.Stopped) host link calls_to_fault fa fb number bag on (stopped, same, is) keeps = absurd (let wrong : true ≡ false = sym on ∙ stopped in cc)
  offer_any (Ok (offered.Draining k)) host link calls_to_fault fa fb number bag on (runs, below, same, stops, is) keeps =
      let kept = unused link calls_to_fault fa fb same in
      let d = s.host.device in
      let busy = busy_by d.regs d.number d.own_buffer d.held d.cancelled d.port host.device stops.1 in
      let numbered : k ≡ d.number = number_is k d.number stops.0 in
      by_link (reply.Draining k) host link calls_to_fault kept.link_is (by_due (reply.Draining k) host calls_to_fault kept.calls_to_fault_is
      (subst (λ j. StepsBoth b piece t Offer (reply.Draining j) (with_seat w n (record s { host = host }))) (sym numbered)
      (of.drains_steps b piece t w n f consistent runs host (record { number = d.number }) busy.done busy.same below is)))
  offer_any (Err fault.Device) host link calls_to_fault fa fb number bag on (runs, o) keeps =
      let kept = unused link calls_to_fault fa fb o.offers.1 in
      by_link reply.FailedDevice host link calls_to_fault kept.link_is (by_due reply.FailedDevice host calls_to_fault kept.calls_to_fault_is
      (of.lost_steps b piece t w n f consistent runs o.device o.stops host o.offers.0 (back_rest runs o.device o.stops o.held host o.offers.2 o.ends) (back_device runs o.device o.stops o.held host o.offers.2 o.ends)))
  offer_any (Err fault.EpochEnd) host link calls_to_fault fa fb number bag on (runs, EpochEnds.Claimed k last same stops is) keeps =
      let kept = unused link calls_to_fault fa fb same in
      let d = s.host.device in
      let busy = busy_by d.regs d.number d.own_buffer d.held d.cancelled d.port host.device stops.1 in
      by_link reply.EpochEnd host link calls_to_fault kept.link_is (by_due reply.EpochEnd host calls_to_fault kept.calls_to_fault_is
      (of.end_busy_steps b piece t w n f consistent runs host (record { number = d.number }) busy.done busy.same last is))
  offer_any (Err fault.EpochEnd) host link calls_to_fault fa fb number bag on (runs, EpochEnds.Unclaimed o) keeps =
      let kept = unused link calls_to_fault fa fb o.offers.2 in
      by_link reply.EpochEnd host link calls_to_fault kept.link_is (by_due reply.EpochEnd host calls_to_fault kept.calls_to_fault_is
      (of.end_steps b piece t w n f consistent runs o.device o.stops o.offers.0 host o.offers.1 (back_rest runs o.device o.stops o.held host o.offers.3 o.ends) (back_device runs o.device o.stops o.held host o.offers.3 o.ends)))
  offer_any (Err (fault.Wires fault)) host link calls_to_fault fa fb number bag on (runs, o) keeps =
      let exact = of.asked b piece t w n f consistent runs o.device o.stops o.offers.0 (seen_at s.link s.calls_to_fault fa) (seen_at link calls_to_fault fb) (wired fa) (Err fault) o.offers.2 in
      by_link reply.Link host link calls_to_fault (the_same _ _ exact.wired.link)
      (of.fault_steps b piece t w n f consistent runs o.device o.stops o.offers.0 (seen_at s.link s.calls_to_fault fa) (seen_at link calls_to_fault fb) (wired fa) fault host calls_to_fault o.offers.2 o.offers.1 refl
      (back_rest runs o.device o.stops o.held host o.offers.3 o.ends) (back_device runs o.device o.stops o.held host o.offers.3 o.ends))
  offer_any (Ok (offered.Sent m)) host link calls_to_fault fa fb number bag on (runs, o) keeps =
      let exact = of.asked b piece t w n f consistent runs o.device o.stops o.offers.0 (seen_at s.link s.calls_to_fault fa) (seen_at link calls_to_fault fb) (wired fa) (Ok o.offers.1.totals) o.offers.1.asked in
      let parts : OffersParts (record s.host { device = o.device }) (seen_at s.link s.calls_to_fault fa) (seen_at link calls_to_fault fb) m host = subst (OffersParts (record s.host { device = o.device }) (seen_at s.link s.calls_to_fault fa) (seen_at link calls_to_fault fb) m) (sym o.ends) o.offers.1 in
      let steps = of.offered_steps b piece t w n f consistent runs o.device o.stops o.offers.0 (seen_at s.link s.calls_to_fault fa) (seen_at link calls_to_fault fb) (wired fa) m host calls_to_fault number bag parts refl (keeps m refl) in
      let named : reply.Offered m.epoch number ≡ reply.Offered (s.host.top + 1) number = ap (λ (x : Message). reply.Offered x.epoch number) parts.said in
      subst (λ (x : Link). StepsBoth b piece t Offer (reply.Offered m.epoch number) (record (after host x calls_to_fault) { bag = bag })) (sym (the_same _ _ exact.wired.link))
      (subst (λ (x : Reply). StepsBoth b piece t Offer x (record (with_seat w n (record s { host = host; calls_to_fault = calls_to_fault })) { bag = bag })) (sym named) steps)

  -- an offer fails by the wires alone
  pub offer_by_link : (r : Result Offered OfferFault) (host : HostModel PortState) (link : Link) (calls_to_fault : Option ℕ) (fa fb : ℕ) → Offers plain s.host (seen_at s.link s.calls_to_fault fa) r (seen_at link calls_to_fault fb) host → IsByLink r
  offer_by_link (Err (fault.Wires fault)) host link calls_to_fault fa fb (runs, o) =
      let exact = of.asked b piece t w n f consistent runs o.device o.stops o.offers.0 (seen_at s.link s.calls_to_fault fa) (seen_at link calls_to_fault fb) (wired fa) (Err fault) o.offers.2 in
      link_of (fails_within fails_next after_call 9 s.calls_to_fault) fault (lengths_of blobs (tpm_at b t.history)) exact.done exact.lost
  offer_by_link (Err fault.Stopped) host link calls_to_fault fa fb o = tt
  offer_by_link (Err fault.Device) host link calls_to_fault fa fb o = tt
  offer_by_link (Err fault.EpochEnd) host link calls_to_fault fa fb o = tt
  offer_by_link (Ok a) host link calls_to_fault fa fb o = tt
