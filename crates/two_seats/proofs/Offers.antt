-- An offer leads both hosts on.
use Rattle.std.proofs.Common.{◌≡◌, ◌≢◌, ℕ, ◌≤◌, ◌<◌, ◌+◌, ◌-◌, ◌^◌, Bool, true, false, List, [], ◌∷◌, ◌++◌, length, take, refl, sym, ap, subst, ◌∙◌, arith, Some, None, Ok, Err}
use Rattle.std.specs.Prelude.{Option, Result, ◌==◌}
use Rattle.std.proofs.lemmas.Bool.{cond-true, cond-false, cond_both, ne_eqb, eq-eqb}
use Rattle.vt_base.specs.declared.types.Kind.{Kind}
use Rattle.vt_base.specs.declared.types.Kind.TheVariants as kind
use Rattle.crb_regs.specs.Registers.{is_lost}
use Rattle.crb_regs.specs.declared.phase.Phase.TheVariants.{Lost}
use Rattle.crb_port.specs.Plain.{plain}
use Rattle.crb_port.specs.declared.job.PortState.{PortState}
use Rattle.crb_machine.specs.Values.{DeviceValues, AreValid, held_values, values_at}
use Rattle.crb_machine.specs.Over.{plain_device, Stops}
use Rattle.crb_machine.specs.Steps.{collected, reset_reply}
use Rattle.crb_machine.specs.Model.{DeviceModel}
use Rattle.tpm_core.specs.Steps.{IsValid}
use Rattle.tpm_core.proofs.Law.{fit-past}
use Rattle.state_blobs.proofs.Sizes.{text_least, text_most}
use Rattle.device_record.specs.Records.{encode_record}
use Rattle.ctrl_client.specs.declared.fault.ClientFault.{ClientFault}
use Rattle.ctrl_client.specs.Schedules.{fails_within}
use Rattle.crb_history.specs.Snapshot.{Snapshot, IsValidSnapshot}
use Rattle.crb_history.specs.Event.{History}
use Rattle.crb_history.specs.Device.{phase_of, number_of, executed, last_command}
use Rattle.crb_history.specs.Cancelling.{cancelled_in_emulator}
use Rattle.crb_history.specs.Continued.{snapshot_after, device_after}
use Rattle.vt_transcript.specs.Replies.{is_under_way}
use Rattle.vt_script.specs.declared.reply.Reply.TheVariants as reply
use Rattle.vt_base.specs.declared.types.HostName.{HostName}
use Rattle.vt_base.specs.declared.types.HostName.TheVariants.{A, B}
use Rattle.move_codec.specs.declared.names.Part.TheVariants.{Record}
use Rattle.move_codec.specs.declared.message.Message.{Message}
use Rattle.move_codec.specs.declared.message.Body.TheVariants as body
use Rattle.move_core.specs.declared.stage.MoveStage.{MoveStage}
use Rattle.move_core.specs.declared.stage.MoveStage.TheVariants as stage
use Rattle.move_core.specs.Model.{HostModel}
use Rattle.move_core.specs.Sides.{is_running, holds_device, other}
use Rattle.move_core.specs.Hosts.{IsConsistentHost}
use Rattle.move_core.specs.Requests.{WiresView, GetsTotals}
use Rattle.move_core.specs.Table.{message_from}
use Rattle.move_core.specs.Calls.{OffersParts}
use Rattle.vt_script.specs.declared.event.Event.TheVariants.{Offer}
use Rattle.vt_script.specs.declared.reply.Reply.{Reply}
use Rattle.two_hosts.specs.Parts.{part_bytes, totals_of}
use Rattle.two_hosts.specs.Hosts.{TwoHosts, HostState, host_of, with_host, host_at, stage_at, running_host, bag_size, counted, with_offer, offering_host, after_offer, offered_by, fails_at}
use Rattle.two_hosts.specs.Replies.{offer_reply, offer_reply_at}
use Rattle.two_hosts.specs.Invariant.{MatchesOffer, side_at, PairInvariant, IsPresent}
use Rattle.two_hosts.proofs.InvariantKept.{free_active}
use Rattle.two_hosts.proofs.RestActs.{rests as rest_passive}
use Rattle.vt_seat.specs.Wires.{fails_next, after_call}
use Rattle.vt_seat.specs.Follows.{RefinesAt, IsInjected, tpm_at, place_of}
use Rattle.vt_seat.proofs.Jobs.{Rests, to_rest}
use Rattle.vt_seat.proofs.InjectedFaults.{fails-reaches, due-passed, due-failed, due-same}
use Rattle.vt_seat.proofs.Resets.{IsBusy}
use Rattle.crb_machine.specs.declared.device.NotYet.{NotYet}
use Rattle.vt_seat.proofs.Savings.{IsStopped, stopped_where, stands-on, busy_at, value_at}
use Rattle.vt_seat.specs.State.{SeatState}
use Rattle.two_seats.specs.Seats.{IsIdle, HasValues, AtStage, IsSeat}
use Rattle.two_seats.specs.Both.{TwoSeats, seat_of, with_seat, FollowsBoth, StepsBoth, Keeps}
use Rattle.vt_seat.proofs.Going.{stopped-as}
use Rattle.two_seats.proofs.Seating.{seated_both, other_still, held_still, running_host-is}
use Rattle.two_seats.proofs.Lines.{Leads, steps_by, more_some}
use Rattle.two_seats.proofs.Exact.{Wired, Gives, Totals, totals_exact, lengths_of}

ok_is : (x y : List ℕ) → let one : Result (List ℕ) ClientFault = Ok x in let two : Result (List ℕ) ClientFault = Ok y in one ≡ two → x ≡ y
ok_is x y is = cc

abbrev pub blobs : List Kind
blobs = kind.Permanent ∷ kind.Volatile ∷ kind.Saved ∷ []

-- ---- where the values of one more epoch are offered, the others are as before

module _ (offered : ℕ → Snapshot) (e : ℕ) (new : Snapshot) where
  noted_else : (d : ℕ) → d ≢ e → with_offer offered e new d ≡ offered d
  noted_else d other = cond-false (d == e) new (offered d) (ne_eqb d e other)

  pub noted_here : with_offer offered e new e ≡ new
  noted_here = cond-true (e == e) new (offered e) (eq-eqb e e refl)

  pub stands_noted : (b : Snapshot) (p : History) (x : MoveStage) (top : ℕ) (s : (SeatState PortState)) → MatchesOffer offered x top → top < e → AtStage b p offered x s → AtStage b p (with_offer offered e new) x s
  stands_noted b p stage.Empty top s seated below is = is
  stands_noted b p stage.Running top s seated below is = is
  stands_noted b p stage.Draining top s seated below is = is
  stands_noted b p (stage.Released d) top s seated below is = is
  stands_noted b p (stage.Offering d totals) top s seated below is = rw (noted_else d (λ same. omega (arith, seated.0, below, same))) is
  stands_noted b p (stage.Filling d totals part place) top s seated below is = rw (noted_else d (λ same. omega (arith, seated.0, below, same))) is
  stands_noted b p (stage.Prepared d) top s seated below is = rw (noted_else d (λ same. omega (arith, seated, below, same))) is

-- the other host's side and top fit
rest_seated : (b : Snapshot) (t : TwoHosts) (n : HostName) → (PairInvariant : (holder : HostName) × PairInvariant holder (other holder) (side_at t holder) (side_at t (other holder)) t.offered (IsPresent b t.history) t.sent) → holds_device (stage_at t n) ≡ false
    → MatchesOffer t.offered (stage_at t (other n)) (side_at t (other n)).top × ((side_at t (other n)).top ≤ (side_at t n).top)
rest_seated b t n (holder, k) runs = go holder n k runs
  where
    go : (holder n : HostName) → PairInvariant holder (other holder) (side_at t holder) (side_at t (other holder)) t.offered (IsPresent b t.history) t.sent → holds_device (stage_at t n) ≡ false
        → MatchesOffer t.offered (stage_at t (other n)) (side_at t (other n)).top × ((side_at t (other n)).top ≤ (side_at t n).top)
    go A A k runs = (k.sides.rest, k.sides.order)
    go B B k runs = (k.sides.rest, k.sides.order)
    go A B k runs = absurd (free_active t.b.side.stage runs (rest_passive A B t.a.side t.b.side t.offered _ t.sent k _ refl))
    go B A k runs = absurd (free_active t.a.side.stage runs (rest_passive B A t.b.side t.a.side t.offered _ t.sent k _ refl))

-- ---- a running host whose device was stopped

module _ (b : Snapshot) (piece : ℕ) (t : TwoHosts) (w : TwoSeats) (n : HostName) (f : FollowsBoth b piece t w) (consistent : IsConsistentHost plain (seat_of w n).host) (runs : (seat_of w n).host.stage ≡ stage.Running) where
  abbrev s : (SeatState PortState)
  s = seat_of w n

  abbrev h : HostState
  h = host_of t n

  abbrev p : History
  p = t.history

  abbrev here : IsSeat b piece t.history t.offered n (host_of t n) s
  here = f.seats n

  at : stage_at t n ≡ stage.Running
  at = sym here.stage_is ∙ runs

  still : holds_device (stage_at t (other n)) ≡ true
  still = other_still b t n f.invariant (ap holds_device at)

  found : running_host t ≡ Some n
  found = running_host-is t n (ap is_running at) (held_still (stage_at t (other n)) still)

  stands : RefinesAt b p (plain_device s.host.device) s.progress s.link
  stands = subst (λ x. AtStage b p t.offered x s) at here.stands

  not_held : s.host.device.held ≡ false
  not_held = consistent.matches_side.held ∙ ap (λ x. holds_device x) runs

  -- calls were counted, and the device took back what stood
  refused : (r : Reply) (calls_to_fault : Option ℕ) (host : HostModel PortState) → IsInjected (counted r 0 h).injected_fault (counted r 0 h).calls calls_to_fault → host ≡ record s.host { device = host.device } → plain_device host.device ≡ collected (plain_device s.host.device)
      → Leads b piece p (with_seat w n (record s { host = host; calls_to_fault = calls_to_fault })) (with_host t n (counted r 0 h))
  refused r calls_to_fault host counts rest device = record {
    legal = λ legal. legal;
    seats = seated_both b piece p t.offered t w n (counted r 0 h) (record s { host = host; calls_to_fault = calls_to_fault })
        (record {
          name_is = ap (λ (x : HostModel PortState). x.name) rest ∙ here.name_is;
          piece_is = ap (λ (x : HostModel PortState). x.piece) rest ∙ here.piece_is;
          pieces = here.pieces;
          stage_is = ap (λ (x : HostModel PortState). x.stage) rest ∙ here.stage_is;
          top_is = ap (λ (x : HostModel PortState). x.top) rest ∙ here.top_is;
          calls_to_fault = counts;
          stands = subst (λ x. AtStage b p t.offered x (record s { host = host; calls_to_fault = calls_to_fault })) (sym at) (stands-on b p (plain_device s.host.device) (plain_device host.device) s.progress s.link stands device);
        })
        (f.seats (other n));
    fits = f.fits;
    some = f.some;
    bag_is = f.bag_is;
  }

  -- the reply by the tests in their order
  reply_is : (r : Reply) → r ≡ offer_reply_at (is_lost (phase_of b p)) (is_under_way b p) (number_of b p) t h → r ≡ offer_reply b t (running_host t)
  reply_is r is = is ∙ sym (ap (offer_reply b t) found)

  -- a refusal is a step
  refused_steps : (r : Reply) (calls_to_fault : Option ℕ) (host : HostModel PortState) → ((epoch message : ℕ) → r ≢ reply.Offered epoch message) → r ≡ offer_reply b t (running_host t)
      → Leads b piece p (with_seat w n (record s { host = host; calls_to_fault = calls_to_fault })) (with_host t n (counted r 0 h))
      → Leads b piece p (with_seat w n (record s { host = host; calls_to_fault = calls_to_fault })) (after_offer b t (Some n) r)
      → StepsBoth b piece t Offer r (with_seat w n (record s { host = host; calls_to_fault = calls_to_fault }))
  refused_steps r calls_to_fault host none answers l same = steps_by b piece t w (with_seat w n (record s { host = host; calls_to_fault = calls_to_fault })) Offer r f answers
      (subst (λ k. Leads b piece p (with_seat w n (record s { host = host; calls_to_fault = calls_to_fault })) (after_offer b t k r)) (sym found) same)

  -- a command is claimed and unfinished
  module _ (host : HostModel PortState) (not_yet : NotYet) (early : reset_reply (plain_device s.host.device) ≡ Err not_yet) (same : plain_device host.device ≡ collected (plain_device s.host.device)) where
    busy : IsBusy b p
    busy = busy_at b p (plain_device s.host.device) s.progress s.link not_yet stands early

    lives_on : is_lost (phase_of b p) ≡ false
    lives_on = ap is_lost busy.executing

    -- the greatest epoch was used
    pub end_busy_steps : s.host.top ≡ 2 ^ 64 - 1 → host ≡ record s.host { device = host.device } → StepsBoth b piece t Offer reply.EpochEnd (with_seat w n (record s { host = host }))
    end_busy_steps last rest =
        let l = refused reply.EpochEnd s.calls_to_fault host (due-same h.injected_fault h.calls s.calls_to_fault here.calls_to_fault) rest same in
        let top : (h.side.top == 2 ^ 64 - 1) ≡ true = eq-eqb h.side.top (2 ^ 64 - 1) (sym here.top_is ∙ last) in
        refused_steps reply.EpochEnd s.calls_to_fault host (λ e m is. absurd cc) (reply_is reply.EpochEnd (rw (lives_on, top) refl)) l l

    drains_led : host ≡ record s.host { stage = stage.Draining; device = host.device } → Leads b piece p (with_seat w n (record s { host = host })) (with_host t n (host_at stage.Draining h))
    drains_led rest = record {
      legal = λ legal. legal;
      seats = seated_both b piece p t.offered t w n (host_at stage.Draining h) (record s { host = host })
          (record {
            name_is = ap (λ (x : HostModel PortState). x.name) rest ∙ here.name_is;
            piece_is = ap (λ (x : HostModel PortState). x.piece) rest ∙ here.piece_is;
            pieces = here.pieces;
            stage_is = ap (λ (x : HostModel PortState). x.stage) rest;
            top_is = ap (λ (x : HostModel PortState). x.top) rest ∙ here.top_is;
            calls_to_fault = here.calls_to_fault;
            stands = stands-on b p (plain_device s.host.device) (plain_device host.device) s.progress s.link stands same;
          })
          (f.seats (other n));
      fits = f.fits;
      some = f.some;
      bag_is = f.bag_is;
    }

    -- the host drains
    pub drains_steps : s.host.top < 2 ^ 64 - 1 → host ≡ record s.host { stage = stage.Draining; device = host.device } → StepsBoth b piece t Offer (reply.Draining not_yet.number) (with_seat w n (record s { host = host }))
    drains_steps below rest =
        let numbered : not_yet.number ≡ number_of b p = value_at b p (plain_device s.host.device) s.progress s.link not_yet stands early in
        let top : (h.side.top == 2 ^ 64 - 1) ≡ false = ne_eqb h.side.top (2 ^ 64 - 1) (λ is. omega (arith, below, is, here.top_is)) in
        let due : reply.Draining (number_of b p) ≡ offer_reply_at (is_lost (phase_of b p)) (is_under_way b p) (number_of b p) t h = rw (lives_on, top, busy.busy) refl in
        steps_by b piece t w (with_seat w n (record s { host = host })) Offer (reply.Draining not_yet.number) f
        (reply_is (reply.Draining not_yet.number) (ap reply.Draining numbered ∙ due))
        (subst (λ k. Leads b piece p (with_seat w n (record s { host = host })) (after_offer b t k (reply.Draining not_yet.number))) (sym found) (drains_led rest))

  module _ (device : DeviceModel PortState) (stops : Stops plain s.host.device (Ok tt) device) where
    stopped_values : held_values device ≡ values_at (collected (plain_device s.host.device))
    stopped_values = (stopped-as s.host.device device not_held consistent.device stops).values

    stopped_done : reset_reply (plain_device s.host.device) ≡ Ok tt
    stopped_done = (stopped-as s.host.device device not_held consistent.device stops).done

    phase_here : device.regs.phase ≡ phase_of b p
    phase_here = ap (λ (v : DeviceValues). v.phase) stopped_values ∙ ap (λ r. r.phase) stands.device.regs

    -- the device is lost
    pub lost_steps : (host : HostModel PortState) → is_lost device.regs.phase ≡ true → host ≡ record s.host { device = host.device } → plain_device host.device ≡ collected (plain_device s.host.device)
        → StepsBoth b piece t Offer reply.FailedDevice (with_seat w n (record s { host = host }))
    lost_steps host lost rest same =
        let l = refused reply.FailedDevice s.calls_to_fault host (due-same h.injected_fault h.calls s.calls_to_fault here.calls_to_fault) rest same in
        refused_steps reply.FailedDevice s.calls_to_fault host (λ e m is. absurd cc) (reply_is reply.FailedDevice (rw (sym (ap is_lost phase_here) ∙ lost) refl)) l l

    module _ (working : is_lost device.regs.phase ≡ false) where
      far : phase_of b p ≢ Lost
      far lost = let wrong : true ≡ false = sym (ap is_lost (phase_here ∙ lost)) ∙ working in cc

      whole : IsStopped b p (plain_device s.host.device) s.progress
      whole = stopped_where b p (plain_device s.host.device) s.progress s.link stands far stopped_done

      lives : is_lost (phase_of b p) ≡ false
      lives = sym (ap is_lost phase_here) ∙ working

      values_are : held_values device ≡ device_after b p
      values_are = stopped_values ∙ whole.values

      rests : Rests (tpm_at b p) s.link
      rests = to_rest (place_of b p) (cancelled_in_emulator b p) (tpm_at b p) (last_command b p) s.link whole.rest.place (stands.link lives)

      tpm_fit : IsValid (tpm_at b p)
      tpm_fit = fit-past b.tpm (executed b p) f.fit

      gives : Gives s.link (tpm_at b p)
      gives = record {
        quiet = stands.quiet;
        tpm = rests.emulator.tpm;
        fields = λ k. omega (arith, text_most k (tpm_at b p) tpm_fit);
        least = omega (arith, consistent.matches_side.least, here.piece_is, here.pieces);
        most = omega (arith, consistent.matches_side.most, here.piece_is, here.pieces);
      }

      -- the greatest epoch was used
      pub end_steps : (host : HostModel PortState) → s.host.top ≡ 2 ^ 64 - 1 → host ≡ record s.host { device = host.device } → plain_device host.device ≡ collected (plain_device s.host.device)
          → StepsBoth b piece t Offer reply.EpochEnd (with_seat w n (record s { host = host }))
      end_steps host last rest same =
          let l = refused reply.EpochEnd s.calls_to_fault host (due-same h.injected_fault h.calls s.calls_to_fault here.calls_to_fault) rest same in
          let top : (h.side.top == 2 ^ 64 - 1) ≡ true = eq-eqb h.side.top (2 ^ 64 - 1) (sym here.top_is ∙ last) in
          refused_steps reply.EpochEnd s.calls_to_fault host (λ e m is. absurd cc) (reply_is reply.EpochEnd (rw (lives, whole.rest.early, top) refl)) l l

      below_end : s.host.top < 2 ^ 64 - 1 → (h.side.top == 2 ^ 64 - 1) ≡ false
      below_end below = ne_eqb h.side.top (2 ^ 64 - 1) (λ same. omega (arith, below, same, here.top_is))

      fails_are : fails_at h 9 ≡ fails_within fails_next after_call 9 s.calls_to_fault
      fails_are = sym (fails-reaches h.injected_fault h.calls s.calls_to_fault 9 (omega arith) here.calls_to_fault)

      module _ (first after : WiresView (Option ℕ)) (wired : Wired first s.link s.calls_to_fault) where
        pub asked : (r : Result (List ℕ) ClientFault) → GetsTotals blobs first after r → Totals blobs s.link (tpm_at b p) s.calls_to_fault after r
        asked r gets = totals_exact blobs first after s.link (tpm_at b p) s.calls_to_fault r wired gives (λ k. omega (arith, text_least k (tpm_at b p))) gets

        -- a call failed
        pub fault_steps : (fault : ClientFault) (host : HostModel PortState) (calls_to_fault : Option ℕ) → GetsTotals blobs first after (Err fault) → s.host.top < 2 ^ 64 - 1 → after.schedule ≡ calls_to_fault
            → host ≡ record s.host { device = host.device } → plain_device host.device ≡ collected (plain_device s.host.device)
            → StepsBoth b piece t Offer reply.Link (with_seat w n (record s { host = host; calls_to_fault = calls_to_fault }))
        fault_steps fault host calls_to_fault gets below schedule rest same =
            let exact = asked (Err fault) gets in
            let met : fails_within fails_next after_call 9 s.calls_to_fault ≡ true = met_of (fails_within fails_next after_call 9 s.calls_to_fault) refl exact in
            let none : calls_to_fault ≡ None = sym schedule ∙ exact.wired.schedule ∙ due-failed h.injected_fault h.calls s.calls_to_fault 9 met here.calls_to_fault in
            let l = refused reply.Link calls_to_fault host none rest same in
            refused_steps reply.Link calls_to_fault host (λ e m is. absurd cc) (reply_is reply.Link (rw (lives, whole.rest.early, below_end below, fails_are ∙ met) refl)) l l
          where
            met_of : (c : Bool) → fails_within fails_next after_call 9 s.calls_to_fault ≡ c → Totals blobs s.link (tpm_at b p) s.calls_to_fault after (Err fault) → fails_within fails_next after_call 9 s.calls_to_fault ≡ true
            met_of true is exact = is
            met_of false is exact = absurd (let wrong = exact.done is in cc)

        -- all was decoded
        module _ (m : Message) (host : HostModel PortState) (calls_to_fault : Option ℕ) (number : ℕ) (bag : List Message) (o : OffersParts (record s.host { device = device }) first after m host) (schedule : after.schedule ≡ calls_to_fault) (keeps : Keeps m number t.sent bag) where
          abbrev new : TwoSeats
          new = record (with_seat w n (record s { host = host; calls_to_fault = calls_to_fault })) { bag = bag }

          abbrev v : Snapshot
          v = snapshot_after b p

          abbrev e : ℕ
          e = h.side.top + 1

          exact : Totals blobs s.link (tpm_at b p) s.calls_to_fault after (Ok o.totals)
          exact = asked (Ok o.totals) o.asked

          unmet : fails_within fails_next after_call 9 s.calls_to_fault ≡ false
          unmet = unmet_of (fails_within fails_next after_call 9 s.calls_to_fault) refl exact
            where
              unmet_of : (c : Bool) → fails_within fails_next after_call 9 s.calls_to_fault ≡ c → Totals blobs s.link (tpm_at b p) s.calls_to_fault after (Ok o.totals) → fails_within fails_next after_call 9 s.calls_to_fault ≡ false
              unmet_of false is exact = is
              unmet_of true is exact = absurd (let wrong = exact.lost is in cc)

          totals_are : length (encode_record (held_values device)) ∷ o.totals ≡ totals_of v
          totals_are = ap (λ (x : DeviceValues). length (encode_record x) ∷ o.totals) values_are ∙ ap (λ xs. length (encode_record (device_after b p)) ∷ xs) (ok_is o.totals (lengths_of blobs (tpm_at b p)) (exact.done unmet))

          sent : m ≡ message_from n e (body.Offer (totals_of v))
          sent = o.said ∙ ap (λ k. message_from k (s.host.top + 1) (body.Offer (length (encode_record (held_values device)) ∷ o.totals))) here.name_is
              ∙ ap (λ k. message_from n (k + 1) (body.Offer (length (encode_record (held_values device)) ∷ o.totals))) here.top_is ∙ ap (λ k. message_from n e (body.Offer k)) totals_are

          v_fit : IsValidSnapshot v
          v_fit = record { device = subst AreValid values_are o.fit.fit; tpm = tpm_fit }

          seated : IsSeat b piece p (with_offer t.offered e v) n (offering_host v h) (record s { host = host; calls_to_fault = calls_to_fault })
          seated = record {
            name_is = ap (λ (x : HostModel PortState). x.name) o.new_is ∙ here.name_is;
            piece_is = ap (λ (x : HostModel PortState). x.piece) o.new_is ∙ here.piece_is;
            pieces = here.pieces;
            stage_is = ap (λ (x : HostModel PortState). x.stage) o.new_is ∙ ap (λ k. stage.Offering (k + 1) (length (encode_record (held_values device)) ∷ o.totals)) here.top_is ∙ ap (stage.Offering e) totals_are;
            top_is = ap (λ (x : HostModel PortState). x.top) o.new_is ∙ ap (λ k. k + 1) here.top_is;
            calls_to_fault = subst (λ (d : Option ℕ). IsInjected h.injected_fault (h.calls + 9) d) (sym exact.wired.schedule ∙ schedule) (due-passed h.injected_fault h.calls s.calls_to_fault 9 unmet here.calls_to_fault);
            stands = subst (λ x. IsIdle s.progress s.link × HasValues x host.device s.link × (host.record_bytes ≡ part_bytes x Record)) (sym (noted_here t.offered e v)) (
              record { free = whole.rest.free; quiet = stands.quiet; channel = rests.channel; none = rests.emulator.held_is },
              record {
                fit = record { device = subst AreValid values_are o.fit.fit; tpm = tpm_fit };
                device = ap (λ (x : HostModel PortState). held_values x.device) o.new_is ∙ values_are;
                emulator = rests.emulator;
              },
              ap (λ (x : HostModel PortState). x.record_bytes) o.new_is ∙ ap encode_record values_are,
            );
          }

          others : IsSeat b piece p (with_offer t.offered e v) (other n) (host_of t (other n)) (seat_of w (other n))
          others =
              let is = f.seats (other n) in
              let rest = rest_seated b t n f.invariant (ap holds_device at) in
              record {
                name_is = is.name_is;
                piece_is = is.piece_is;
                pieces = is.pieces;
                stage_is = is.stage_is;
                top_is = is.top_is;
                calls_to_fault = is.calls_to_fault;
                stands = stands_noted t.offered e v b p (stage_at t (other n)) (side_at t (other n)).top (seat_of w (other n)) rest.0 (omega (arith, rest.1)) is.stands;
              }

          led : Leads b piece p new (offered_by v t n)
          led = record {
            legal = λ legal. legal;
            seats = seated_both b piece p (with_offer t.offered e v) t w n (offering_host v h) (record s { host = host; calls_to_fault = calls_to_fault }) seated others;
            fits = λ d. cond_both (d == e) v (t.offered d) IsValidSnapshot (λ here. v_fit) (λ else_where. f.fits d);
            some = more_some t.sent (message_from n e (body.Offer (totals_of v))) f.some tt;
            bag_is = keeps.bag_is ∙ ap (λ x. take bag_size (t.sent ++ x ∷ [])) sent;
          }

          pub offered_steps : StepsBoth b piece t Offer (reply.Offered (s.host.top + 1) number) new
          offered_steps = steps_by b piece t w new Offer (reply.Offered (s.host.top + 1) number) f
              (reply_is (reply.Offered (s.host.top + 1) number) (rw (lives, whole.rest.early, below_end o.below, fails_are ∙ unmet) (ap (λ k. reply.Offered k number) (ap (λ k. k + 1) here.top_is) ∙ ap (reply.Offered (h.side.top + 1)) keeps.number_is)))
              (subst (λ k. Leads b piece p new (after_offer b t k (reply.Offered (s.host.top + 1) number))) (sym found) led)
