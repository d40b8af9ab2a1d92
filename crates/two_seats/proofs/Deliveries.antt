-- A delivery of any message that was sent with_outcome both hosts on.
use Rattle.std.proofs.Common.{◌≡◌, ℕ, ◌≤◌, ◌<◌, ◌+◌, ◌-◌, Bool, true, false, ◌&&◌, List, ◌++◌, length, take, drop, refl, sym, ap, subst, ◌∙◌, arith, Some, None, append-nil}
use Rattle.std.specs.Prelude.{Option, nat_lt, ◌==◌, if◌then◌else◌, get_or}
use Rattle.std.proofs.lemmas.Bool.{cond_both, ltb-true, and_parts, eqb-true}
use Rattle.std.proofs.lemmas.List.{length-take, length-drop}
use Rattle.crb_port.specs.Plain.{plain}
use Rattle.ctrl_client.specs.declared.fault.ClientFault.TheVariants.{Link as LinkFault}
use Rattle.crb_port.specs.declared.job.PortState.{PortState}
use Rattle.ctrl_model.specs.Link.{Link}
use Rattle.state_blobs.specs.Encodings.{slice}
use Rattle.vt_transcript.specs.Replies.{is_fault}
use Rattle.crb_history.specs.Snapshot.{Snapshot}
use Rattle.vt_base.specs.declared.types.HostName.{HostName}
use Rattle.vt_base.specs.declared.types.HostName.TheVariants.{A, B}
use Rattle.move_codec.specs.declared.names.Part.{Part}
use Rattle.move_codec.specs.declared.message.Message.{Message}
use Rattle.move_codec.specs.declared.message.Body.{Body}
use Rattle.move_codec.specs.declared.message.Body.TheVariants as body
use Rattle.move_core.specs.declared.answers.Delivered.{Delivered}
use Rattle.move_core.specs.declared.answers.Delivered.TheVariants as delivers
use Rattle.move_core.specs.declared.stage.MoveStage.{MoveStage}
use Rattle.move_core.specs.declared.stage.MoveStage.TheVariants as stage
use Rattle.move_core.specs.Model.{HostModel}
use Rattle.move_core.specs.Sides.{is_same, is_active, other, side_of, total_of, part_after, first_bad}
use Rattle.move_core.specs.Hosts.{IsConsistentHost}
use Rattle.move_core.specs.Table as table
use Rattle.move_core.specs.Table.{Row}
use Rattle.move_core.specs.Calls.{Follows, HasBytes}
use Rattle.move_codec.specs.Encoding.{HasPiece}
use Rattle.vt_script.specs.declared.event.Event.TheVariants.{Deliver}
use Rattle.vt_script.specs.declared.reply.Reply.{Reply}
use Rattle.vt_script.specs.declared.reply.Reply.TheVariants as reply
use Rattle.two_hosts.specs.Parts.{part_bytes, totals_of}
use Rattle.two_hosts.specs.Deliveries as talk
use Rattle.two_hosts.specs.Deliveries.{SideState, Outcome, DeliveryContext, calls_at, calls_of_delivery}
use Rattle.two_hosts.specs.Hosts.{TwoHosts, HostState, host_of, stage_at, counted, context_for, after_message, after_delivery, message_at, message_in, bag_size}
use Rattle.two_hosts.specs.Replies.{delivery_reply, meets_fault, deliver_reply, reason_in}
use Rattle.two_hosts.specs.Invariant.{PairInvariant, Says, IsPresent, IsSent, IsPassive, MatchesOffer, side_at}
use Rattle.two_hosts.proofs.RestActs.{rests}
use Rattle.two_hosts.proofs.InvariantKept.{in_bag_sent}
use Rattle.std.proofs.lemmas.Option.{slice_get_read, slice_get_past}
use Rattle.vt_seat.specs.Seats.{view_of}
use Rattle.vt_seat.specs.State.{SeatState}
use Rattle.two_seats.specs.Seats.{IsSeat}
use Rattle.two_seats.specs.Both.{TwoSeats, seat_of, with_seat, FollowsBoth, StepsBoth, KeepsAllIn, said_delivery, bag_delivery, IsOutcome}
use Rattle.two_seats.proofs.Seating.{seated_both}
use Rattle.two_seats.proofs.Lines.{Leads, steps_by, leads_nowhere, more_some, bag_at}
use Rattle.two_seats.proofs.Bounds.{totals_good}
use Rattle.two_seats.proofs.Counting.{IsSentByLink}
use Rattle.two_seats.proofs.Delivering as d
use Rattle.two_seats.proofs.Delivering.{seen_at, Ends, commit_present}
use Rattle.two_seats.proofs.Piecing as pieces

pub has_bytes : (q : Body) → HasPiece q → HasBytes q
has_bytes (body.Piece part offset bytes) has = omega (arith, has.0)
has_bytes (body.Offer totals) has = tt
has_bytes (body.Need part offset) has = tt
has_bytes body.Prepared has = tt
has_bytes body.Commit has = tt
has_bytes body.Abort has = tt
has_bytes (body.Refuse why value) has = tt

passive_off : (x : MoveStage) → IsPassive (side_of x) → is_active x ≡ false
passive_off stage.Empty is = refl
passive_off (stage.Released e) is = refl
passive_off (stage.Filling e totals part place) is = refl
passive_off (stage.Prepared e) is = refl
passive_off stage.Running is = absurd is
passive_off stage.Draining is = absurd is
passive_off (stage.Offering e totals) is = absurd is

same_name : (n : HostName) → is_same n n ≡ true
same_name A = refl
same_name B = refl

module _ (b : Snapshot) (piece : ℕ) (t : TwoHosts) (w : TwoSeats) (n : HostName) (f : FollowsBoth b piece t w) (consistent : IsConsistentHost plain (seat_of w n).host) (m : Message) (sent : IsSent t.sent m) (to : m.to ≡ n) where
  abbrev s : (SeatState PortState)
  s = seat_of w n

  abbrev h : HostState
  h = host_of t n

  abbrev x : Bool → DeliveryContext
  x fails = context_for piece t n fails

  -- an offer to a host that runs or offers is an old one
  passive : h.side.top < m.epoch → is_active h.side.stage ≡ false
  passive = go f.invariant.0 n f.invariant.1
    where
      go : (holder n : HostName) → PairInvariant holder (other holder) (side_at t holder) (side_at t (other holder)) t.offered (IsPresent b t.history) t.sent → (side_at t n).top < m.epoch → is_active (stage_at t n) ≡ false
      go A A k newer = absurd (omega (arith, newer, (k.each m sent).epoch))
      go B B k newer = absurd (omega (arith, newer, (k.each m sent).epoch))
      go A B k newer = passive_off t.b.side.stage (rests A B t.a.side t.b.side t.offered _ t.sent k _ refl)
      go B A k newer = passive_off t.a.side.stage (rests B A t.b.side t.a.side t.offered _ t.sent k _ refl)

  -- what the message says of what was offered
  abbrev IsTrue : Body → Type 0
  IsTrue (body.Offer totals) = totals ≡ totals_of (t.offered m.epoch)
  IsTrue (body.Piece part offset bytes) = bytes ≡ slice (part_bytes (t.offered m.epoch) part) offset (length bytes)
  IsTrue _ = Unit {0}

  is_true : IsTrue m.body
  is_true = go m.body (f.invariant.1.each m sent).says
    where
      go : (q : Body) → Says f.invariant.0 (other f.invariant.0) (side_at t f.invariant.0) (side_at t (other f.invariant.0)) t.offered m.to m.epoch q → IsTrue q
      go (body.Offer totals) says = says
      go (body.Need part offset) says = tt
      go (body.Piece part offset bytes) says = says
      go body.Prepared says = tt
      go body.Commit says = tt
      go body.Abort says = tt
      go (body.Refuse why value) says = tt

  -- the real host and the one that is decoded are on the same shown_side
  by_stage : (q : Body) (R : MoveStage → Row PortState) (T : MoveStage → Bool → Outcome) → ((st : MoveStage) → s.host.stage ≡ st → h.side.stage ≡ st → d.Good b piece t w n f consistent q (R st) (T st)) → d.Good b piece t w n f consistent q (R s.host.stage) (T h.side.stage)
  by_stage q R T each = subst (λ st. d.Good b piece t w n f consistent q (R st) (T h.side.stage)) (sym (f.seats n).stage_is) (each h.side.stage (f.seats n).stage_is refl)

  row : (q : Body) → m.body ≡ q → IsTrue q → HasBytes q → d.Good b piece t w n f consistent q (table.on_message s.host m.epoch q) (λ fails. talk.delivered (x fails) h.side m.epoch q)
  row (body.Offer totals) is exact has = d.offer_row b piece t w n f consistent m.epoch totals passive (ap first_bad exact ∙ totals_good (t.offered m.epoch) (f.fits m.epoch))
  row (body.Need part offset) is exact has = by_stage (body.Need part offset) (λ st. table.on_need s.host st m.epoch part offset) (λ st. (λ fails. talk.on_need (x fails) h.side st m.epoch part offset)) (λ st real at. d.need_row b piece t w n f consistent st m.epoch part offset at)
  row (body.Piece part offset bytes) is exact has = by_stage (body.Piece part offset bytes) (λ st. table.on_piece s.host st m.epoch part offset bytes) (λ st. (λ fails. talk.on_piece (x fails) h.side st m.epoch part offset bytes)) (λ st real at. pieces.piece_row b piece t w n f consistent st m.epoch part offset bytes has exact at)
  row body.Prepared is exact has = by_stage body.Prepared (λ st. table.on_prepared s.host st m.epoch) (λ st. (λ fails. talk.on_prepared (x fails) h.side st m.epoch)) (λ st real at. d.prepared_row b piece t w n f consistent st m.epoch real at)
  row body.Commit is exact has = by_stage body.Commit (λ st. table.on_commit s.host st m.epoch) (λ st. (λ fails. talk.on_commit h.side st m.epoch))
      (λ st real at. d.commit_row b piece t w n f consistent st m.epoch (λ e same stands. commit_present b t n e m f.invariant sent to (sym same) is stands) real at)
  row body.Abort is exact has = by_stage body.Abort (λ st. table.on_abort s.host st m.epoch) (λ st. (λ fails. talk.on_abort h.side st m.epoch)) (λ st real at. d.abort_row b piece t w n f consistent st m.epoch real at)
  row (body.Refuse why value) is exact has = by_stage (body.Refuse why value) (λ st. table.on_refuse s.host st m.epoch) (λ st. (λ fails. talk.on_refuse h.side st m.epoch)) (λ st real at. d.refuse_row b piece t w n f consistent st m.epoch why value real at)

  -- any row
  pub delivered_row : d.Good b piece t w n f consistent m.body (table.delivered s.host m) (λ fails. talk.delivered (x fails) h.side m.epoch m.body)
  unfolding table.delivered
  delivered_row = subst (λ c. d.Good b piece t w n f consistent m.body (if c then table.on_message s.host m.epoch m.body else table.ignored s.host) (λ fails. talk.delivered (x fails) h.side m.epoch m.body))
      (sym (ap (λ k. is_same k m.to) (f.seats n).name_is ∙ ap (is_same n) to ∙ same_name n)) (row m.body refl is_true (has_bytes m.body (f.some m sent)))

-- ---- what is sent has bytes, where it is a Piece; and a fault is one of the wires

abbrev HasMessage : Delivered → Type 0
HasMessage (delivers.Sent m) = HasPiece m.body
HasMessage (delivers.Refused m) = HasPiece m.body
HasMessage (delivers.Wires f) = f ≡ LinkFault
HasMessage _ = Unit {0}

record SaysSome (after : Outcome) : Type 0 where
  some : HasMessage after.answer

trivially : (s : SideState) (says : Delivered) → HasMessage says → SaysSome (talk.answers s says)
trivially s says has = record { some = has }

slice_some : (xs : List ℕ) (offset size : ℕ) → offset < length xs → 1 ≤ size → size ≤ 4096 → (0 < length (slice xs offset size)) × (length (slice xs offset size) ≤ 4096)
slice_some xs offset size within least most = (omega (arith, length-take size (drop offset xs), length-drop offset xs, within, least), omega (arith, length-take size (drop offset xs), most))

module _ (x : DeliveryContext) (s : SideState) (least : 1 ≤ x.piece) (most : x.piece ≤ 4096) where
  wants_some : (e : ℕ) (totals : List ℕ) (part : Part) (place : ℕ) → SaysSome (talk.wants x s e totals part place)
  wants_some e totals part place = record { some = tt }

  goes_some : (e : ℕ) (totals : List ℕ) (following : Option Part) → SaysSome (talk.goes_to x s e totals following)
  goes_some e totals (Some part) = record { some = tt }
  goes_some e totals None = record { some = tt }

  takes_some : (z : SideState) (e : ℕ) (totals : List ℕ) (bad : Option ℕ) → SaysSome (talk.takes_offer x z e totals bad)
  takes_some z e totals (Some bad) = record { some = tt }
  takes_some z e totals None = cond_both x.fails _ _ SaysSome (λ lost. record { some = tt }) (λ fine. record { some = tt })

  -- a piece that is given begins within its part
  need_some : (st : MoveStage) (e : ℕ) (part : Part) (offset : ℕ) → MatchesOffer x.offered st s.top → ((v : Snapshot) (q : Part) → total_of (totals_of v) q ≡ length (part_bytes v q)) → SaysSome (talk.on_need x s st e part offset)
  need_some (stage.Offering m totals) e part offset seated total_is = cond_both (m == e && nat_lt offset (total_of totals part)) _ _ SaysSome
      (λ met. cond_both x.fails _ _ SaysSome (λ lost. record { some = refl }) (λ fine.
      let tests = and_parts (m == e) (nat_lt offset (total_of totals part)) met in
      let totals_are : total_of totals part ≡ length (part_bytes (x.offered e) part) = ap (λ k. total_of k part) seated.1 ∙ ap (λ k. total_of (totals_of (x.offered k)) part) (eqb-true m e tests.0) ∙ total_is (x.offered e) part in
      record { some = slice_some (part_bytes (x.offered e) part) offset x.piece (omega (arith, ltb-true offset (total_of totals part) tests.1, totals_are)) least most }))
      (λ unmet. record { some = tt })
  need_some stage.Empty e part offset seated total_is = record { some = tt }
  need_some stage.Running e part offset seated total_is = record { some = tt }
  need_some stage.Draining e part offset seated total_is = record { some = tt }
  need_some (stage.Released m) e part offset seated total_is = record { some = tt }
  need_some (stage.Filling m totals next place) e part offset seated total_is = record { some = tt }
  need_some (stage.Prepared m) e part offset seated total_is = record { some = tt }

  piece_some : (st : MoveStage) (e : ℕ) (part : Part) (offset : ℕ) (bytes : List ℕ) → SaysSome (talk.on_piece x s st e part offset bytes)
  piece_some (stage.Filling m totals next place) e part offset bytes = cond_both (m == e && table.is_next totals next place part offset (length bytes)) _ _ SaysSome
      (λ met. cond_both x.fails _ _ SaysSome (λ lost. record { some = tt }) (λ fine. cond_both (nat_lt (place + length bytes) (total_of totals next)) _ _ SaysSome (λ more. wants_some e totals next (place + length bytes)) (λ less. goes_some e totals (part_after next))))
      (λ unmet. record { some = tt })
  piece_some stage.Empty e part offset bytes = record { some = tt }
  piece_some stage.Running e part offset bytes = record { some = tt }
  piece_some stage.Draining e part offset bytes = record { some = tt }
  piece_some (stage.Offering m totals) e part offset bytes = record { some = tt }
  piece_some (stage.Released m) e part offset bytes = record { some = tt }
  piece_some (stage.Prepared m) e part offset bytes = record { some = tt }

  others_some : (st : MoveStage) (e : ℕ) → SaysSome (talk.on_prepared x s st e) × SaysSome (talk.on_commit s st e) × SaysSome (talk.on_abort s st e) × SaysSome (talk.on_refuse s st e)
  others_some stage.Empty e = (record { some = tt }, record { some = tt }, record { some = tt }, record { some = tt })
  others_some stage.Running e = (record { some = tt }, record { some = tt }, record { some = tt }, record { some = tt })
  others_some stage.Draining e = (record { some = tt }, record { some = tt }, record { some = tt }, record { some = tt })
  others_some (stage.Offering m totals) e = (cond_both (m == e) _ _ SaysSome (λ met. record { some = tt }) (λ unmet. record { some = tt }), record { some = tt }, record { some = tt }, cond_both (m == e) _ _ SaysSome (λ met. record { some = tt }) (λ unmet. record { some = tt }))
  others_some (stage.Released m) e = (cond_both (m == e) _ _ SaysSome (λ met. record { some = tt }) (λ unmet. record { some = tt }), record { some = tt }, record { some = tt }, record { some = tt })
  others_some (stage.Filling m totals next place) e = (record { some = tt }, record { some = tt }, cond_both (m == e) _ _ SaysSome (λ met. record { some = tt }) (λ unmet. record { some = tt }), record { some = tt })
  others_some (stage.Prepared m) e = (record { some = tt }, cond_both (m == e) _ _ SaysSome (λ met. record { some = tt }) (λ unmet. record { some = tt }), cond_both (m == e) _ _ SaysSome (λ met. record { some = tt }) (λ unmet. record { some = tt }), record { some = tt })

  delivered_some : (e : ℕ) (q : Body) → MatchesOffer x.offered s.stage s.top → ((v : Snapshot) (q : Part) → total_of (totals_of v) q ≡ length (part_bytes v q)) → SaysSome (talk.delivered x s e q)
  delivered_some e (body.Offer totals) seated total_is = cond_both (nat_lt s.top e) _ _ SaysSome
      (λ newer. cond_both (is_active s.stage) _ _ SaysSome (λ busy. record { some = tt }) (λ free. takes_some (record s { top = e }) e totals (first_bad totals))) (λ older. record { some = tt })
  delivered_some e (body.Need part offset) seated total_is = need_some s.stage e part offset seated total_is
  delivered_some e (body.Piece part offset bytes) seated total_is = piece_some s.stage e part offset bytes
  delivered_some e body.Prepared seated total_is = (others_some s.stage e).0
  delivered_some e body.Commit seated total_is = (others_some s.stage e).1
  delivered_some e body.Abort seated total_is = (others_some s.stage e).2
  delivered_some e (body.Refuse why value) seated total_is = (others_some s.stage e).3

by_wires : (answer : Delivered) → HasMessage answer → IsSentByLink answer
by_wires delivers.Ignored has = tt
by_wires delivers.Took has = tt
by_wires (delivers.Sent m) has = tt
by_wires delivers.Runs has = tt
by_wires delivers.Resumed has = tt
by_wires (delivers.Refused m) has = tt
by_wires (delivers.Wires f) has = has

-- ---- the line

-- the message of an answer went into the bag
abbrev pub KeepsAll : Delivered → ℕ → List Message → List Message → Type 0
KeepsAll answer number sent new = KeepsAllIn bag_size answer number sent new

said_is : (answer : Delivered) (number : ℕ) (sent new : List Message) → KeepsAll answer number sent new → said_delivery answer number ≡ delivery_reply sent answer
said_is delivers.Ignored number sent new keeps = refl
said_is delivers.Took number sent new keeps = refl
said_is (delivers.Sent m) number sent new keeps = ap reply.SentMessage keeps.number_is
said_is delivers.Runs number sent new keeps = refl
said_is delivers.Resumed number sent new keeps = refl
said_is (delivers.Refused m) number sent new keeps = ap (λ c. reply.RefusedSent (reason_in m.body) c) keeps.number_is
said_is (delivers.Wires fault) number sent new keeps = refl

bag_is : (answer : Delivered) (number : ℕ) (sent new old : List Message) → KeepsAll answer number sent new → old ≡ take bag_size sent → bag_delivery answer new old ≡ take bag_size (sent ++ message_in answer)
bag_is delivers.Ignored number sent new old keeps is = is ∙ ap (take bag_size) (sym (append-nil sent))
bag_is delivers.Took number sent new old keeps is = is ∙ ap (take bag_size) (sym (append-nil sent))
bag_is (delivers.Sent m) number sent new old keeps is = keeps.bag_is
bag_is delivers.Runs number sent new old keeps is = is ∙ ap (take bag_size) (sym (append-nil sent))
bag_is delivers.Resumed number sent new old keeps is = is ∙ ap (take bag_size) (sym (append-nil sent))
bag_is (delivers.Refused m) number sent new old keeps is = keeps.bag_is
bag_is (delivers.Wires fault) number sent new old keeps is = is ∙ ap (take bag_size) (sym (append-nil sent))

some_is : (answer : Delivered) (sent : List Message) → HasMessage answer → ((x : Message) → IsSent sent x → HasPiece x.body) → (x : Message) → IsSent (sent ++ message_in answer) x → HasPiece x.body
some_is (delivers.Sent m) sent has each = more_some sent m each has
some_is (delivers.Refused m) sent has each = more_some sent m each has
some_is delivers.Ignored sent has each = λ x is. each x (subst (λ ms. IsSent ms x) (append-nil sent) is)
some_is delivers.Took sent has each = λ x is. each x (subst (λ ms. IsSent ms x) (append-nil sent) is)
some_is delivers.Runs sent has each = λ x is. each x (subst (λ ms. IsSent ms x) (append-nil sent) is)
some_is delivers.Resumed sent has each = λ x is. each x (subst (λ ms. IsSent ms x) (append-nil sent) is)
some_is (delivers.Wires fault) sent has each = λ x is. each x (subst (λ ms. IsSent ms x) (append-nil sent) is)

module _ (b : Snapshot) (piece : ℕ) (t : TwoHosts) (w : TwoSeats) (k : ℕ) (m : Message) (f : FollowsBoth b piece t w) (consistent : IsConsistentHost plain (seat_of w m.to).host) (found : message_at t.sent k ≡ Some m) (sent : IsSent t.sent m)
    (answer : Delivered) (host : HostModel PortState) (link : Link) (calls_to_fault : Option ℕ) (fa fb number : ℕ) (bag : List Message)
    (follows : Follows plain (table.delivered (seat_of w m.to).host m) (seen_at (seat_of w m.to).link (seat_of w m.to).calls_to_fault fa) (seen_at link calls_to_fault fb) answer host) (keeps : KeepsAll answer number t.sent bag) where
  abbrev exact : HostState
  exact = host_of t m.to

  abbrev y : Bool → Outcome
  y fails = talk.delivered (context_for piece t m.to fails) exact.side m.epoch m.body

  abbrev r : Reply
  r = said_delivery answer number

  abbrev new : TwoSeats
  new = record (with_seat w m.to (record (seat_of w m.to) { host = host; link = link; calls_to_fault = calls_to_fault })) { bag = bag_delivery answer bag w.bag }

  r_is : r ≡ delivery_reply t.sent answer
  r_is = said_is answer number t.sent bag keeps

  ends : Ends b piece t m.to (seat_of w m.to) m.body y answer host link calls_to_fault
  ends = delivered_row b piece t w m.to f consistent m sent refl answer host link calls_to_fault fa fb follows

  fault : is_fault r ≡ ends.met
  fault = ap is_fault r_is ∙ ends.fault_is

  answer_is : answer ≡ (y (is_fault r)).answer
  answer_is = ends.answer_is ∙ ap (λ c. (y c).answer) (sym fault)

  least : 1 ≤ piece
  least = omega (arith, consistent.matches_side.least, (f.seats m.to).piece_is)

  most : piece ≤ 4096
  most = omega (arith, consistent.matches_side.most, (f.seats m.to).piece_is)

  led : Leads b piece t.history new (after_message piece t m r)
  led = record {
    legal = λ legal. legal;
    seats = seated_both b piece t.history t.offered t w m.to (record (counted r (calls_at m.body (y false).side.stage (y false).answer) exact) { side = (y (is_fault r)).side }) (record (seat_of w m.to) { host = host; link = link; calls_to_fault = calls_to_fault })
        (subst (λ c. IsSeat b piece t.history t.offered m.to (record (counted r (calls_at m.body (y false).side.stage (y false).answer) exact) { side = (y c).side }) (record (seat_of w m.to) { host = host; link = link; calls_to_fault = calls_to_fault })) (sym fault)
        (subst (λ c. IsSeat b piece t.history t.offered m.to (record (counted c (calls_at m.body (y false).side.stage (y false).answer) exact) { side = (y ends.met).side }) (record (seat_of w m.to) { host = host; link = link; calls_to_fault = calls_to_fault })) (sym r_is) ends.seated))
        (f.seats (other m.to));
    fits = f.fits;
    some = some_is (y (is_fault r)).answer t.sent (delivered_some (context_for piece t m.to (is_fault r)) exact.side least most m.epoch m.body (d.seated_here b piece t w m.to f consistent) (d.total-is b piece t w m.to f consistent)).some f.some;
    bag_is = bag_is answer number t.sent bag w.bag keeps f.bag_is ∙ ap (λ a. take bag_size (t.sent ++ message_in a)) answer_is;
  }

  pub delivered_by_wires : IsSentByLink answer
  delivered_by_wires = subst IsSentByLink (sym answer_is) (by_wires (y (is_fault r)).answer (delivered_some (context_for piece t m.to (is_fault r)) exact.side least most m.epoch m.body (d.seated_here b piece t w m.to f consistent) (d.total-is b piece t w m.to f consistent)).some)

  pub deliver_steps : StepsBoth b piece t (Deliver k) r new
  deliver_steps = steps_by b piece t w new (Deliver k) r f
      (r_is ∙ ap (delivery_reply t.sent) (ends.answer_is ∙ ap (λ c. (y c).answer) ends.met_is) ∙ sym (ap (deliver_reply piece t) found))
      (subst (λ o. Leads b piece t.history new (after_delivery piece t o r)) (sym found) led)

-- no message has this number
pub none_delivered : (b : Snapshot) (piece : ℕ) (t : TwoHosts) (w : TwoSeats) (k : ℕ) → FollowsBoth b piece t w → message_at t.sent k ≡ None → StepsBoth b piece t (Deliver k) reply.NoMessage w
none_delivered b piece t w k f found = steps_by b piece t w w (Deliver k) reply.NoMessage f (sym (ap (deliver_reply piece t) found)) (subst (λ o. Leads b piece t.history w (after_delivery piece t o reply.NoMessage)) (sym found) (leads_nowhere b piece t w f))

-- by the receiver's name
pub deliver_at : (b : Snapshot) (piece : ℕ) (t : TwoHosts) (w : TwoSeats) (k : ℕ) (m : Message) (f : FollowsBoth b piece t w) (n : HostName) (to : m.to ≡ n) (consistent : IsConsistentHost plain (seat_of w n).host) (found : message_at t.sent k ≡ Some m)
    (answer : Delivered) (host : HostModel PortState) (link : Link) (calls_to_fault : Option ℕ) (fa fb number : ℕ) (bag : List Message)
    → Follows plain (table.delivered (seat_of w n).host m) (seen_at (seat_of w n).link (seat_of w n).calls_to_fault fa) (seen_at link calls_to_fault fb) answer host → KeepsAll answer number t.sent bag
    → StepsBoth b piece t (Deliver k) (said_delivery answer number) (record (with_seat w n (record (seat_of w n) { host = host; link = link; calls_to_fault = calls_to_fault })) { bag = bag_delivery answer bag w.bag })
deliver_at b piece t w k m f n to consistent found answer host link calls_to_fault fa fb number bag follows keeps =
    subst (λ (n : HostName). IsConsistentHost plain (seat_of w n).host → Follows plain (table.delivered (seat_of w n).host m) (seen_at (seat_of w n).link (seat_of w n).calls_to_fault fa) (seen_at link calls_to_fault fb) answer host
    → StepsBoth b piece t (Deliver k) (said_delivery answer number) (record (with_seat w n (record (seat_of w n) { host = host; link = link; calls_to_fault = calls_to_fault })) { bag = bag_delivery answer bag w.bag })) to
    (λ consistent follows. deliver_steps b piece t w k m f consistent found (in_bag_sent t.sent k m found) answer host link calls_to_fault fa fb number bag follows keeps) consistent follows

-- a delivery fails by the wires alone
pub delivered_by_link_at : (b : Snapshot) (piece : ℕ) (t : TwoHosts) (w : TwoSeats) (k : ℕ) (m : Message) (f : FollowsBoth b piece t w) (n : HostName) (to : m.to ≡ n) (consistent : IsConsistentHost plain (seat_of w n).host) (found : message_at t.sent k ≡ Some m)
    (answer : Delivered) (host : HostModel PortState) (link : Link) (calls_to_fault : Option ℕ) (fa fb number : ℕ) (bag : List Message)
    → Follows plain (table.delivered (seat_of w n).host m) (seen_at (seat_of w n).link (seat_of w n).calls_to_fault fa) (seen_at link calls_to_fault fb) answer host → KeepsAll answer number t.sent bag
    → IsSentByLink answer
delivered_by_link_at b piece t w k m f n to consistent found answer host link calls_to_fault fa fb number bag follows keeps =
    subst (λ (n : HostName). IsConsistentHost plain (seat_of w n).host → Follows plain (table.delivered (seat_of w n).host m) (seen_at (seat_of w n).link (seat_of w n).calls_to_fault fa) (seen_at link calls_to_fault fb) answer host → IsSentByLink answer) to
    (λ consistent follows. delivered_by_wires b piece t w k m f consistent found (in_bag_sent t.sent k m found) answer host link calls_to_fault fa fb number bag follows keeps) consistent follows

-- the message that the code finds
pub found_in : (sent bag : List Message) (k n : ℕ) (m : Message) → bag ≡ take bag_size sent → 1 ≤ k → n ≡ length bag → k - 1 < n → m ≡ get_or bag (k - 1) m → message_at sent k ≡ Some m
found_in sent bag k n m is some len within at = sym (bag_at sent bag k is (omega (arith, some))) ∙ slice_get_read bag n (k - 1) m len within at

pub none_in : (sent bag : List Message) (k n : ℕ) → bag ≡ take bag_size sent → 1 ≤ k → n ≡ length bag → n ≤ k - 1 → message_at sent k ≡ None
none_in sent bag k n is some len past = sym (bag_at sent bag k is (omega (arith, some))) ∙ slice_get_past bag (k - 1) (omega (arith, len, past))

-- ---- the two tables

-- what a host makes of a message that was sent to it is what the table of two hosts says
pub tables_agree : (b : Snapshot) (piece : ℕ) (t : TwoHosts) (w : TwoSeats) (k : ℕ) (m : Message) (answer : Delivered) (host : HostModel PortState) (link : Link) (calls_to_fault : Option ℕ) (faults : ℕ)
    → FollowsBoth b piece t w → IsConsistentHost plain (seat_of w m.to).host → message_at t.sent k ≡ Some m
    → Follows plain (table.delivered (seat_of w m.to).host m) (view_of (seat_of w m.to)) (seen_at link calls_to_fault faults) answer host
    → IsOutcome (talk.delivered (context_for piece t m.to (meets_fault piece t m)) (host_of t m.to).side m.epoch m.body) answer host
tables_agree b piece t w k m answer host link calls_to_fault faults f consistent found follows =
    let y : Bool → Outcome = λ fails. talk.delivered (context_for piece t m.to fails) (host_of t m.to).side m.epoch m.body in
    let ends : Ends b piece t m.to (seat_of w m.to) m.body y answer host link calls_to_fault = delivered_row b piece t w m.to f consistent m (in_bag_sent t.sent k m found) refl answer host link calls_to_fault (seat_of w m.to).faults faults follows in
    let met : ends.met ≡ meets_fault piece t m = ends.met_is in
    record {
      answer_is = ends.answer_is ∙ ap (λ c. (y c).answer) met;
      stage_is = ends.seated.stage_is ∙ ap (λ c. (y c).side.stage) met;
      top_is = ends.seated.top_is ∙ ap (λ c. (y c).side.top) met;
    }
