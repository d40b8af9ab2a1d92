-- A Piece leads its receiver on.
use Rattle.std.proofs.Common.{◌≡◌, ℕ, ◌≤◌, ◌<◌, ◌+◌, Bool, true, false, ◌&&◌, List, [], ◌∷◌, ◌++◌, length, take, refl, sym, ap, subst, ◌∙◌, arith, Some, None, Ok, Err}
use Rattle.std.specs.Prelude.{Option, Result, nat_lt, nat_le, ◌==◌, if◌then◌else◌}
use Rattle.std.proofs.lemmas.Bool.{eqb-true, ltb-false, leb-true, and_parts}
use Rattle.std.proofs.lemmas.List.{take_all}
use Rattle.std.proofs.Math.Seq.{take-add}
use Rattle.vt_base.specs.declared.types.Kind.{Kind}
use Rattle.vt_base.specs.declared.types.Kind.TheVariants as kind
use Rattle.vt_base.specs.declared.types.Malformed.{Malformed}
use Rattle.crb_port.specs.Plain.{plain}
use Rattle.crb_port.specs.declared.job.PortState.{PortState}
use Rattle.crb_machine.specs.Values.{DeviceValues, held_values}
use Rattle.device_record.specs.Records.{encode_record}
use Rattle.device_record.specs.Layouts.{IsRefused}
use Rattle.device_record.proofs.Apart.{text_not_refused}
use Rattle.device_record.proofs.Values.{values_once}
use Rattle.state_blobs.specs.Encodings.{encode_blob, slice}
use Rattle.ctrl_codec.specs.declared.request.Request.TheVariants.{Init, SetStateBlob}
use Rattle.ctrl_client.specs.declared.fault.ClientFault.{ClientFault}
use Rattle.ctrl_client.specs.declared.fault.ClientFault.TheVariants.{Link as LinkFault}
use Rattle.ctrl_model.specs.Emulator.{EmulatorState, Gathers, RequestOutcome, gather_of, with_gather, type_of, switched_on, resulted, HandlesRequest}
use Rattle.ctrl_model.specs.declared.profile.TheConstants.{SUCCESS}
use Rattle.state_blobs.specs.Refusals.{IsRefused as IsRefusedBlob}
use Rattle.ctrl_client.specs.Exchange.{result_of, calls_of}
use Rattle.ctrl_model.specs.Link.{Link}
use Rattle.ctrl_client.specs.Schedules.{fails_within, schedule_after}
use Rattle.crb_history.specs.Snapshot.{Snapshot}
use Rattle.vt_base.specs.declared.types.HostName.{HostName}
use Rattle.vt_base.specs.declared.types.Reason.TheVariants as reason
use Rattle.move_codec.specs.declared.names.Part.{Part}
use Rattle.move_codec.specs.declared.names.Part.TheVariants.{Record, Permanent, Volatile, Saved}
use Rattle.move_codec.specs.declared.message.Body.{Body}
use Rattle.move_codec.specs.declared.message.Body.TheVariants as body
use Rattle.move_core.specs.declared.answers.Delivered.{Delivered}
use Rattle.move_core.specs.declared.answers.Delivered.TheVariants as delivers
use Rattle.move_core.specs.declared.stage.MoveStage.{MoveStage}
use Rattle.move_core.specs.declared.stage.MoveStage.TheVariants as stage
use Rattle.move_core.specs.Model.{HostModel}
use Rattle.move_core.specs.Sides.{total_of, part_after, part_number}
use Rattle.move_core.specs.Hosts.{IsConsistentHost, Decodes}
use Rattle.move_core.specs.Requests.{WiresView, GivesPiece, GivesLastPiece, SwitchesOn}
use Rattle.move_core.specs.Table as table
use Rattle.move_core.specs.Table.{Row, message_from, is_next}
use Rattle.move_core.specs.Calls.{Follows, EndsIn}
use Rattle.two_hosts.specs.Parts.{part_bytes, totals_of}
use Rattle.two_hosts.specs.Deliveries as talk
use Rattle.two_hosts.specs.Deliveries.{SideState, Outcome, DeliveryContext, calls_at, is_blob}
use Rattle.two_hosts.specs.Hosts.{TwoHosts, HostState, host_of, context_for}
use Rattle.two_hosts.specs.Invariant.{MatchesOffer}
use Rattle.vt_seat.specs.Wires.{fails_next, after_call}
use Rattle.vt_seat.proofs.Steps.{the_same}
use Rattle.vt_seat.specs.State.{SeatState}
use Rattle.two_seats.specs.Seats.{IsIdle, Comes, gathered, AtStage, IsSeat}
use Rattle.two_seats.specs.Both.{TwoSeats, seat_of, FollowsBoth}
use Rattle.two_seats.proofs.Exact.{Wired, Asked, asks_exact, within_joined, schedule_joined, schedule_failed, within_more, true-false}
use Rattle.two_seats.proofs.Puts.{prefix_fine, put_desk, put_turn, whole_gathers, init_turn}
use Rattle.two_seats.proofs.Delivering as d
use Rattle.two_seats.proofs.Delivering.{seen_at, Ends}

pub part_same : (p q : Part) → part_number p ≡ part_number q → p ≡ q
part_same Record Record h = refl
part_same Permanent Permanent h = refl
part_same Volatile Volatile h = refl
part_same Saved Saved h = refl
part_same Record Permanent h = absurd (omega arith)
part_same Record Volatile h = absurd (omega arith)
part_same Record Saved h = absurd (omega arith)
part_same Permanent Record h = absurd (omega arith)
part_same Permanent Volatile h = absurd (omega arith)
part_same Permanent Saved h = absurd (omega arith)
part_same Volatile Record h = absurd (omega arith)
part_same Volatile Permanent h = absurd (omega arith)
part_same Volatile Saved h = absurd (omega arith)
part_same Saved Record h = absurd (omega arith)
part_same Saved Permanent h = absurd (omega arith)
part_same Saved Volatile h = absurd (omega arith)

module _ (b : Snapshot) (piece : ℕ) (t : TwoHosts) (w : TwoSeats) (n : HostName) (f : FollowsBoth b piece t w) (consistent : IsConsistentHost plain (seat_of w n).host) where
  abbrev s : (SeatState PortState)
  s = seat_of w n

  abbrev h : HostState
  h = host_of t n

  abbrev x : Bool → DeliveryContext
  x fails = context_for piece t n fails

  abbrev here : IsSeat b piece t.history t.offered n (host_of t n) s
  here = f.seats n

  abbrev Good : Body → Row PortState → (Bool → Outcome) → Type 0
  Good says row by = (answer : Delivered) (host : HostModel PortState) (link : Link) (calls_to_fault : Option ℕ) (fa fb : ℕ) → Follows plain row (seen_at s.link s.calls_to_fault fa) (seen_at link calls_to_fault fb) answer host → Ends b piece t n s says by answer host link calls_to_fault

  -- the next piece of what was offered in this epoch comes to a host that fills
  module _ (e : ℕ) (totals : List ℕ) (next : Part) (place offset : ℕ) (bytes : List ℕ) (at : h.side.stage ≡ stage.Filling e totals next place) (some : 0 < length bytes)
      (within : place + length bytes ≤ total_of totals next) (exact : bytes ≡ slice (part_bytes (t.offered e) next) place (length bytes)) where
    abbrev pub v : Snapshot
    v = t.offered e

    abbrev pub there : ℕ
    there = place + length bytes

    abbrev pub says : Body
    says = body.Piece next offset bytes

    pub totals_are : totals ≡ totals_of v
    totals_are = (subst (λ st. MatchesOffer t.offered st h.side.top) at (d.seated_here b piece t w n f consistent)).1

    pub total_here : (part : Part) → total_of totals part ≡ length (part_bytes v part)
    total_here part = ap (λ xs. total_of xs part) totals_are ∙ d.total-is b piece t w n f consistent v part

    pub stands_so : AtStage b t.history t.offered (stage.Filling e totals next place) s
    stands_so = d.stands_at b piece t w n f consistent (stage.Filling e totals next place) at

    pub prefix : (kept : List ℕ) → kept ≡ take place (part_bytes v next) → kept ++ bytes ≡ take there (part_bytes v next)
    prefix kept is = ap (λ k. k ++ bytes) is ∙ ap (λ k. take place (part_bytes v next) ++ k) exact ∙ sym (take-add place (length bytes) (part_bytes v next))

    -- talk's end, by whether more of this part is wanted
    abbrev pub by_of : Bool → Bool → Outcome
    by_of more fails = if fails then talk.breaks_off (x fails) h.side e else (if more then talk.wants (x fails) h.side e totals next there else talk.goes_to (x fails) h.side e totals (part_after next))

    pub split : (more : Bool) (yes_row no_row : Row PortState) → (more ≡ true → Good says yes_row (by_of true)) → (more ≡ false → Good says no_row (by_of false)) → Good says (if more then yes_row else no_row) (by_of more)
    split true yes_row no_row met unmet = met refl
    split false yes_row no_row met unmet = unmet refl

    pub full : nat_lt there (total_of totals next) ≡ false → there ≡ length (part_bytes v next)
    full is = omega (arith, ltb-false there (total_of totals next) is, within, total_here next)

  -- ---- the record

  module _ (e : ℕ) (totals : List ℕ) (place offset : ℕ) (bytes : List ℕ) (at : h.side.stage ≡ stage.Filling e totals Record place) (some : 0 < length bytes)
      (within : place + length bytes ≤ total_of totals Record) (exact : bytes ≡ slice (part_bytes (t.offered e) Record) place (length bytes)) where
    abbrev r_v : Snapshot
    r_v = t.offered e

    abbrev r_there : ℕ
    r_there = place + length bytes

    abbrev r_by : Bool → Bool → Outcome
    r_by = by_of e totals Record place offset bytes at some within exact

    r_stands : AtStage b t.history t.offered (stage.Filling e totals Record place) s
    r_stands = stands_so e totals Record place offset bytes at some within exact

    r_prefix : s.host.record_bytes ++ bytes ≡ take r_there (part_bytes r_v Record)
    r_prefix = prefix e totals Record place offset bytes at some within exact s.host.record_bytes r_stands.1.come.0

    record_more : Good (body.Piece Record offset bytes) (Row.Ends (table.wants (record s.host { record_bytes = s.host.record_bytes ++ bytes }) e totals Record r_there)) (r_by true)
    record_more answer host link calls_to_fault fa fb (same, made) =
        d.quiet_of b piece t w n f consistent (body.Piece Record offset bytes) (r_by true) answer host link calls_to_fault fa fb same refl refl (made.answer_is ∙ d.named b piece t w n f consistent e (body.Need Record r_there))
        (ap (λ (k : HostModel PortState). k.name) made.host_is) (ap (λ (k : HostModel PortState). k.piece) made.host_is) (ap (λ (k : HostModel PortState). k.stage) made.host_is) (ap (λ (k : HostModel PortState). k.top) made.host_is ∙ here.top_is)
        (subst (λ k. AtStage b t.history t.offered (stage.Filling e totals Record r_there) (record s { host = k })) (sym made.host_is) (r_stands.0, record { fit = f.fits e; off = r_stands.1.off; come = (r_prefix, r_stands.1.come.1) }))

    module _ (whole : r_there ≡ length (part_bytes r_v Record)) where
      whole_text : s.host.record_bytes ++ bytes ≡ encode_record r_v.device
      whole_text = r_prefix ∙ take_all r_there (part_bytes r_v Record) (omega (arith, whole))

      record_full : Good (body.Piece Record offset bytes) (Row.Loads (s.host.record_bytes ++ bytes) (table.loads s.host e totals (s.host.record_bytes ++ bytes))) (r_by false)
      record_full answer host link calls_to_fault fa fb (r, is_said, same, made) = go r is_said made
        where
          go : (r : Result DeviceValues Malformed) → Decodes (s.host.record_bytes ++ bytes) r → EndsIn plain (table.loads s.host e totals (s.host.record_bytes ++ bytes) r) answer host → Ends b piece t n s (body.Piece Record offset bytes) (r_by false) answer host link calls_to_fault
          go (Err fault) is_said made = absurd (text_not_refused r_v.device fault (f.fits e).device (subst (IsRefused fault) whole_text is_said))
          go (Ok values) is_said made =
              let values_are : values ≡ r_v.device = values_once values r_v.device is_said.fit (f.fits e).device (sym is_said.spelled ∙ whole_text) in
              d.quiet_of b piece t w n f consistent (body.Piece Record offset bytes) (r_by false) answer host link calls_to_fault fa fb same refl refl (made.answer_is ∙ d.named b piece t w n f consistent e (body.Need Permanent 0))
              (ap (λ (k : HostModel PortState). k.name) made.host_is) (ap (λ (k : HostModel PortState). k.piece) made.host_is) (ap (λ (k : HostModel PortState). k.stage) made.host_is) (ap (λ (k : HostModel PortState). k.top) made.host_is ∙ here.top_is)
              (subst (λ k. AtStage b t.history t.offered (stage.Filling e totals Permanent 0) (record s { host = k })) (sym made.host_is) (r_stands.0, record { fit = f.fits e; off = r_stands.1.off; come = (values_are, r_stands.1.come.1) }))

    pub record_row : Good (body.Piece Record offset bytes) (table.takes_piece s.host e totals Record r_there bytes) (r_by (nat_lt r_there (total_of totals Record)))
    record_row = split e totals Record place offset bytes at some within exact (nat_lt r_there (total_of totals Record)) _ _ (λ more. record_more) (λ less. record_full (full e totals Record place offset bytes at some within exact less))

  -- ---- a blob

  module _ (k : Kind) (e : ℕ) (totals : List ℕ) (next : Part) (place offset : ℕ) (bytes : List ℕ) (at : h.side.stage ≡ stage.Filling e totals next place) (some : 0 < length bytes)
      (within : place + length bytes ≤ total_of totals next) (exact : bytes ≡ slice (part_bytes (t.offered e) next) place (length bytes))
      (text_is : part_bytes (t.offered e) next ≡ encode_blob k (t.offered e).tpm) (blob : is_blob next ≡ true) (gather_is : gather_of k s.link.emulator.gathers ≡ take place (part_bytes (t.offered e) next)) where
    abbrev b_v : Snapshot
    b_v = t.offered e

    abbrev b_there : ℕ
    b_there = place + length bytes

    b_stands : AtStage b t.history t.offered (stage.Filling e totals next place) s
    b_stands = stands_so e totals next place offset bytes at some within exact

    -- the blob so far is a prefix of it
    b_prefix : gather_of k s.link.emulator.gathers ++ bytes ≡ take b_there (encode_blob k b_v.tpm)
    b_prefix = prefix e totals next place offset bytes at some within exact (gather_of k s.link.emulator.gathers) gather_is ∙ ap (take b_there) text_is

    turn_is : (request_outcome : RequestOutcome) → HandlesRequest (SetStateBlob 0 (type_of k) (length bytes)) bytes s.link.emulator request_outcome → request_outcome ≡ resulted SUCCESS (put_desk k bytes s.link.emulator)
    turn_is request_outcome obeys = put_turn k bytes s.link.emulator request_outcome b_stands.1.off some (λ fault refused. prefix_fine k b_v.tpm b_there fault (f.fits e).tpm (subst (IsRefusedBlob k fault) b_prefix refused)) obeys

    three_calls : calls_of bytes ≡ 3
    three_calls = go bytes some
      where
        go : (bs : List ℕ) → 0 < length bs → calls_of bs ≡ 3
        go [] none = absurd (omega (arith, none))
        go (c ∷ bs) more = refl

    -- the piece was given
    put : (first after : WiresView (Option ℕ)) (r : Result (Unit {0}) ClientFault) → Wired first s.link s.calls_to_fault → GivesPiece k bytes first after r → Asked (SetStateBlob 0 (type_of k) (length bytes)) bytes s.link s.calls_to_fault after r
    put first after r wired asks = asks_exact (SetStateBlob 0 (type_of k) (length bytes)) bytes first after s.link s.calls_to_fault r wired b_stands.0.quiet tt (λ request_outcome obeys. ap (λ (y : RequestOutcome). result_of y.reply) (turn_is request_outcome obeys)) asks

    -- the host wants more
    abbrev wants_by : Part → ℕ → Bool → Outcome
    wants_by q at_place fails = if fails then talk.breaks_off (x fails) h.side e else talk.wants (x fails) h.side e totals q at_place

    gives_row : (q : Part) (at_place : ℕ) → table.reaches s.host e totals next b_there ≡ table.wants s.host e totals q at_place
        → Comes b_v q at_place s.host.record_bytes (held_values s.host.device) (put_desk k bytes s.link.emulator).gathers
        → Good (body.Piece next offset bytes) (Row.Gives k bytes (table.took s.host e totals next b_there)) (wants_by q at_place)
    gives_row q at_place real comes answer host link calls_to_fault fa fb (r, asks, made) =
        d.calls_row b piece t w n f consistent (body.Piece next offset bytes) (wants_by q at_place) 3 answer host link calls_to_fault (omega arith) (rw blob refl)
        (subst (λ c. calls_to_fault ≡ schedule_after fails_next after_call c s.calls_to_fault) three_calls asked.wired.schedule) (λ met is. go met (subst (λ c. fails_within fails_next after_call c s.calls_to_fault ≡ met) (sym three_calls) is))
      where
        asked : Asked (SetStateBlob 0 (type_of k) (length bytes)) bytes s.link s.calls_to_fault (seen_at link calls_to_fault fb) r
        asked = put (seen_at s.link s.calls_to_fault fa) (seen_at link calls_to_fault fb) r (d.wired b piece t w n f consistent fa) asks

        link_is : link ≡ asked.link
        link_is = the_same _ _ asked.wired.link

        idle_now : IsIdle s.progress link
        idle_now = subst (IsIdle s.progress) (sym link_is) (d.still_idle b piece t w n f consistent s.link asked.link asked.rested b_stands.0)

        pieces : link.emulator.piece ≡ s.link.emulator.piece
        pieces = ap (λ (l : Link). l.emulator.piece) link_is ∙ d.rested_piece b piece t w n f consistent s.link asked.link asked.rested

        go : (met : Bool) → fails_within fails_next after_call (calls_of bytes) s.calls_to_fault ≡ met → d.EndsSo b piece t w n f consistent (wants_by q at_place) met answer host link calls_to_fault
        go false is =
            let done = asked.done is in
            let now : EndsIn plain (table.reaches s.host e totals next b_there) answer host = subst (λ (r : Result (Unit {0}) ClientFault). EndsIn plain (table.took s.host e totals next b_there r) answer host) done.0 made in
            let wanted : EndsIn plain (table.wants s.host e totals q at_place) answer host = subst (λ a. EndsIn plain a answer host) real now in
            let emulator : link.emulator ≡ put_desk k bytes s.link.emulator = ap (λ (l : Link). l.emulator) link_is ∙ done.1.2 ∙ ap (λ (y : RequestOutcome). y.emulator) (turn_is done.1.0 done.1.1) in
            let kept_is : host.record_bytes ≡ s.host.record_bytes = ap (λ (z : HostModel PortState). z.record_bytes) wanted.host_is in
            let values_are : held_values host.device ≡ held_values s.host.device = ap (λ (z : HostModel PortState). held_values z.device) wanted.host_is in
            record {
              answer_is = wanted.answer_is ∙ d.named b piece t w n f consistent e (body.Need q at_place);
              fault_is = refl;
              name_is = ap (λ (z : HostModel PortState). z.name) wanted.host_is;
              piece_is = ap (λ (z : HostModel PortState). z.piece) wanted.host_is;
              pieces = pieces;
              stage_is = ap (λ (z : HostModel PortState). z.stage) wanted.host_is;
              top_is = ap (λ (z : HostModel PortState). z.top) wanted.host_is ∙ here.top_is;
              stands = (
                idle_now,
                record {
                  fit = f.fits e;
                  off = ap (λ (c : EmulatorState). c.on) emulator ∙ b_stands.1.off;
                  come = subst (λ kept. Comes b_v q at_place kept (held_values host.device) link.emulator.gathers) (sym kept_is)
                      (subst (λ values. Comes b_v q at_place s.host.record_bytes values link.emulator.gathers) (sym values_are) (subst (λ (c : EmulatorState). Comes b_v q at_place s.host.record_bytes (held_values s.host.device) c.gathers) (sym emulator) comes));
                },
              );
            }
        go true is =
            let now : EndsIn plain (table.refuses_for LinkFault s.host e) answer host = subst (λ (r : Result (Unit {0}) ClientFault). EndsIn plain (table.took s.host e totals next b_there r) answer host) (asked.lost is) made in
            record {
              answer_is = now.answer_is ∙ ap (λ z. delivers.Refused (message_from z e (body.Refuse reason.Link 0))) here.name_is;
              fault_is = refl;
              name_is = ap (λ (z : HostModel PortState). z.name) now.host_is;
              piece_is = ap (λ (z : HostModel PortState). z.piece) now.host_is;
              pieces = pieces;
              stage_is = ap (λ (z : HostModel PortState). z.stage) now.host_is;
              top_is = ap (λ (z : HostModel PortState). z.top) now.host_is ∙ here.top_is;
              stands = idle_now;
            }

    -- more of this blob is wanted
    more_row : nat_lt b_there (total_of totals next) ≡ true → Comes b_v next b_there s.host.record_bytes (held_values s.host.device) (put_desk k bytes s.link.emulator).gathers
        → Good (body.Piece next offset bytes) (Row.Gives k bytes (table.took s.host e totals next b_there)) (by_of e totals next place offset bytes at some within exact (nat_lt b_there (total_of totals next)))
    more_row more comes = subst (λ c. Good (body.Piece next offset bytes) (Row.Gives k bytes (table.took s.host e totals next b_there)) (by_of e totals next place offset bytes at some within exact c)) (sym more)
        (gives_row next b_there (ap (λ c. if c then table.wants s.host e totals next b_there else table.goes_to s.host e totals (part_after next)) more) comes)

    -- the next blob is wanted
    full_row : (q : Part) → part_after next ≡ Some q → nat_lt b_there (total_of totals next) ≡ false → Comes b_v q 0 s.host.record_bytes (held_values s.host.device) (put_desk k bytes s.link.emulator).gathers
        → Good (body.Piece next offset bytes) (Row.Gives k bytes (table.took s.host e totals next b_there)) (by_of e totals next place offset bytes at some within exact (nat_lt b_there (total_of totals next)))
    full_row q following less comes =
        subst (λ c. Good (body.Piece next offset bytes) (Row.Gives k bytes (table.took s.host e totals next b_there)) (by_of e totals next place offset bytes at some within exact c)) (sym less)
        (subst (λ (by : Bool → Outcome). Good (body.Piece next offset bytes) (Row.Gives k bytes (table.took s.host e totals next b_there)) by)
        (sym (ap (λ (o : Option Part). (λ (fails : Bool). if fails then talk.breaks_off (x fails) h.side e else talk.goes_to (x fails) h.side e totals o)) following))
        (gives_row q 0 (ap (λ c. if c then table.wants s.host e totals next b_there else table.goes_to s.host e totals (part_after next)) less ∙ ap (table.goes_to s.host e totals) following) comes))

  -- ---- the last piece

  module _ (e : ℕ) (totals : List ℕ) (place offset : ℕ) (bytes : List ℕ) (at : h.side.stage ≡ stage.Filling e totals Saved place) (some : 0 < length bytes)
      (within : place + length bytes ≤ total_of totals Saved) (exact : bytes ≡ slice (part_bytes (t.offered e) Saved) place (length bytes)) (less : nat_lt (place + length bytes) (total_of totals Saved) ≡ false) where
    abbrev l_v : Snapshot
    l_v = t.offered e

    abbrev l_there : ℕ
    l_there = place + length bytes

    l_stands : AtStage b t.history t.offered (stage.Filling e totals Saved place) s
    l_stands = stands_so e totals Saved place offset bytes at some within exact

    come : (held_values s.host.device ≡ l_v.device) × (s.link.emulator.gathers ≡ gathered (part_bytes l_v Permanent) (part_bytes l_v Volatile) (take place (part_bytes l_v Saved)))
    come = l_stands.1.come

    gather_saved : gather_of kind.Saved s.link.emulator.gathers ≡ take place (part_bytes l_v Saved)
    gather_saved = ap (λ (g : Gathers). g.saved) come.1

    whole : (put_desk kind.Saved bytes s.link.emulator).gathers ≡ whole_gathers l_v.tpm
    whole =
        let last : s.link.emulator.gathers.saved ++ bytes ≡ encode_blob kind.Saved l_v.tpm = b_prefix kind.Saved e totals Saved place offset bytes at some within exact refl refl gather_saved
        ∙ take_all l_there (encode_blob kind.Saved l_v.tpm) (omega (arith, full e totals Saved place offset bytes at some within exact less)) in
        ap (λ z. with_gather kind.Saved z s.link.emulator.gathers) last ∙ ap (λ (g : Gathers). with_gather kind.Saved (encode_blob kind.Saved l_v.tpm) g) come.1

    abbrev l_by : Bool → Outcome
    l_by fails = if fails then talk.breaks_off (x fails) h.side e else talk.goes_to (x fails) h.side e totals None

    -- the piece was given, and then the emulator was switched on
    record Switched (link : Link) (calls_to_fault : Option ℕ) (r : Result (Unit {0}) ClientFault) : Type 0 where
      idle : IsIdle s.progress link
      pieces : link.emulator.piece ≡ s.link.emulator.piece
      schedule : calls_to_fault ≡ schedule_after fails_next after_call 5 s.calls_to_fault
      done : fails_within fails_next after_call 5 s.calls_to_fault ≡ false → (r ≡ Ok tt) × (link.emulator ≡ switched_on l_v.tpm (put_desk kind.Saved bytes s.link.emulator))
      lost : fails_within fails_next after_call 5 s.calls_to_fault ≡ true → r ≡ Err LinkFault

    switched : (link : Link) (calls_to_fault : Option ℕ) (fa fb : ℕ) (r : Result (Unit {0}) ClientFault) → GivesLastPiece bytes (seen_at s.link s.calls_to_fault fa) (seen_at link calls_to_fault fb) r → Switched link calls_to_fault r
    switched link calls_to_fault fa fb r last = go (fails_within fails_next after_call 3 s.calls_to_fault) refl last.given refl last.switches
      where
        first : Asked (SetStateBlob 0 (type_of kind.Saved) (length bytes)) bytes s.link s.calls_to_fault last.between last.given
        first = put kind.Saved e totals Saved place offset bytes at some within exact refl refl gather_saved (seen_at s.link s.calls_to_fault fa) last.between last.given (d.wired b piece t w n f consistent fa) last.gives

        three : calls_of bytes ≡ 3
        three = three_calls kind.Saved e totals Saved place offset bytes at some within exact refl refl gather_saved

        idle_first : IsIdle s.progress first.link
        idle_first = d.still_idle b piece t w n f consistent s.link first.link first.rested l_stands.0

        piece_first : first.link.emulator.piece ≡ s.link.emulator.piece
        piece_first = d.rested_piece b piece t w n f consistent s.link first.link first.rested

        wired_first : Wired last.between first.link (schedule_after fails_next after_call 3 s.calls_to_fault)
        wired_first = subst (λ c. Wired last.between first.link (schedule_after fails_next after_call c s.calls_to_fault)) three first.wired

        go : (met : Bool) → fails_within fails_next after_call 3 s.calls_to_fault ≡ met → (given : Result (Unit {0}) ClientFault) → last.given ≡ given → SwitchesOn given last.between (seen_at link calls_to_fault fb) r → Switched link calls_to_fault r
        go true met given is switches =
            let failed : given ≡ Err LinkFault = sym is ∙ first.lost (subst (λ c. fails_within fails_next after_call c s.calls_to_fault ≡ true) (sym three) met) in
            let ended : (seen_at link calls_to_fault fb ≡ last.between) × (r ≡ Err LinkFault) = subst (λ g. SwitchesOn g last.between (seen_at link calls_to_fault fb) r) failed switches in
            let link_is : link ≡ first.link = the_same _ _ (ap (λ (v : WiresView (Option ℕ)). v.link) ended.0 ∙ wired_first.link) in
            let all : fails_within fails_next after_call 5 s.calls_to_fault ≡ true = within_more 3 5 s.calls_to_fault (omega arith) met in
            record {
              idle = subst (IsIdle s.progress) (sym link_is) idle_first;
              pieces = ap (λ (l : Link). l.emulator.piece) link_is ∙ piece_first;
              schedule = ap (λ (v : WiresView (Option ℕ)). v.schedule) ended.0 ∙ wired_first.schedule ∙ sym (schedule_failed 3 2 s.calls_to_fault met);
              done = λ none. absurd (true-false (sym all ∙ none));
              lost = λ m. ended.1;
            }
        go false none given is switches =
            let worked = first.done (subst (λ c. fails_within fails_next after_call c s.calls_to_fault ≡ false) (sym three) none) in
            let asks = subst (λ g. SwitchesOn g last.between (seen_at link calls_to_fault fb) r) (sym is ∙ worked.0) switches in
            let emulator : first.link.emulator ≡ put_desk kind.Saved bytes s.link.emulator = worked.1.2 ∙ ap (λ (y : RequestOutcome). y.emulator) (turn_is kind.Saved e totals Saved place offset bytes at some within exact refl refl gather_saved worked.1.0 worked.1.1) in
            let gathers : first.link.emulator.gathers ≡ whole_gathers l_v.tpm = ap (λ (c : EmulatorState). c.gathers) emulator ∙ whole in
            let second = asks_exact (Init 0) [] last.between (seen_at link calls_to_fault fb) first.link (schedule_after fails_next after_call 3 s.calls_to_fault) r wired_first idle_first.quiet tt
            (λ request_outcome obeys. ap (λ (y : RequestOutcome). result_of y.reply) (init_turn l_v.tpm first.link.emulator request_outcome (f.fits e).tpm gathers obeys)) asks in
            let link_is : link ≡ second.link = the_same _ _ second.wired.link in
            let joined = within_joined 3 2 s.calls_to_fault none in
            record {
              idle = subst (IsIdle s.progress) (sym link_is) (d.still_idle b piece t w n f consistent first.link second.link second.rested idle_first);
              pieces = ap (λ (l : Link). l.emulator.piece) link_is ∙ d.rested_piece b piece t w n f consistent first.link second.link second.rested ∙ piece_first;
              schedule = second.wired.schedule ∙ sym (schedule_joined 3 2 s.calls_to_fault none);
              done = λ unmet.
                  let on = second.done (sym joined ∙ unmet) in
                  (on.0, ap (λ (l : Link). l.emulator) link_is ∙ on.1.2 ∙ ap (λ (y : RequestOutcome). y.emulator) (init_turn l_v.tpm first.link.emulator on.1.0 (f.fits e).tpm gathers on.1.1) ∙ ap (switched_on l_v.tpm) emulator);
              lost = λ met. second.lost (sym joined ∙ met);
            }

    last_row : Good (body.Piece Saved offset bytes) (Row.GivesLast bytes (table.took s.host e totals Saved l_there)) l_by
    last_row answer host link calls_to_fault fa fb (r, gives, made) =
        d.calls_row b piece t w n f consistent (body.Piece Saved offset bytes) l_by 5 answer host link calls_to_fault (omega arith) refl on.schedule (λ met is. go met is)
      where
        on : Switched link calls_to_fault r
        on = switched link calls_to_fault fa fb r gives

        go : (met : Bool) → fails_within fails_next after_call 5 s.calls_to_fault ≡ met → d.EndsSo b piece t w n f consistent l_by met answer host link calls_to_fault
        go false is =
            let done = on.done is in
            let now : EndsIn plain (table.reaches s.host e totals Saved l_there) answer host = subst (λ (r : Result (Unit {0}) ClientFault). EndsIn plain (table.took s.host e totals Saved l_there r) answer host) done.0 made in
            let ready : EndsIn plain (table.goes_to s.host e totals None) answer host = subst (λ c. EndsIn plain (if c then table.wants s.host e totals Saved l_there else table.goes_to s.host e totals None) answer host) less now in
            record {
              answer_is = ready.answer_is ∙ d.named b piece t w n f consistent e body.Prepared;
              fault_is = refl;
              name_is = ap (λ (z : HostModel PortState). z.name) ready.host_is;
              piece_is = ap (λ (z : HostModel PortState). z.piece) ready.host_is;
              pieces = on.pieces;
              stage_is = ap (λ (z : HostModel PortState). z.stage) ready.host_is;
              top_is = ap (λ (z : HostModel PortState). z.top) ready.host_is ∙ here.top_is;
              stands = (
                on.idle,
                record {
                  fit = f.fits e;
                  device = ap (λ (z : HostModel PortState). held_values z.device) ready.host_is ∙ come.0;
                  emulator = record {
                    tpm = ap (λ (c : EmulatorState). c.tpm) done.1;
                    on = ap (λ (c : EmulatorState). c.on) done.1;
                    stored = ap (λ (c : EmulatorState). c.stored) done.1;
                    gathers = ap (λ (c : EmulatorState). c.gathers) done.1;
                    held_is = on.idle.none;
                  };
                },
              );
            }
        go true is =
            let now : EndsIn plain (table.refuses_for LinkFault s.host e) answer host = subst (λ (r : Result (Unit {0}) ClientFault). EndsIn plain (table.took s.host e totals Saved l_there r) answer host) (on.lost is) made in
            record {
              answer_is = now.answer_is ∙ ap (λ z. delivers.Refused (message_from z e (body.Refuse reason.Link 0))) here.name_is;
              fault_is = refl;
              name_is = ap (λ (z : HostModel PortState). z.name) now.host_is;
              piece_is = ap (λ (z : HostModel PortState). z.piece) now.host_is;
              pieces = on.pieces;
              stage_is = ap (λ (z : HostModel PortState). z.stage) now.host_is;
              top_is = ap (λ (z : HostModel PortState). z.top) now.host_is ∙ here.top_is;
              stands = on.idle;
            }

  -- ---- any part

  takes_row : (e : ℕ) (totals : List ℕ) (next : Part) (place offset : ℕ) (bytes : List ℕ) (at : h.side.stage ≡ stage.Filling e totals next place) (some : 0 < length bytes)
      (within : place + length bytes ≤ total_of totals next) (exact : bytes ≡ slice (part_bytes (t.offered e) next) place (length bytes))
      → Good (body.Piece next offset bytes) (table.takes_piece s.host e totals next (place + length bytes) bytes) (by_of e totals next place offset bytes at some within exact (nat_lt (place + length bytes) (total_of totals next)))
  takes_row e totals Record place offset bytes at some within exact = record_row e totals place offset bytes at some within exact
  takes_row e totals Permanent place offset bytes at some within exact = go (nat_lt (place + length bytes) (total_of totals Permanent)) refl
    where
      come : (held_values s.host.device ≡ (t.offered e).device) × (s.link.emulator.gathers ≡ gathered (take place (part_bytes (t.offered e) Permanent)) [] [])
      come = (stands_so e totals Permanent place offset bytes at some within exact).1.come

      gather_is : s.link.emulator.gathers.permanent ≡ take place (part_bytes (t.offered e) Permanent)
      gather_is = ap (λ (g : Gathers). g.permanent) come.1

      filled : (put_desk kind.Permanent bytes s.link.emulator).gathers ≡ gathered (take (place + length bytes) (part_bytes (t.offered e) Permanent)) [] []
      filled = ap (λ z. with_gather kind.Permanent z s.link.emulator.gathers) (b_prefix kind.Permanent e totals Permanent place offset bytes at some within exact refl refl gather_is) ∙ ap (λ (g : Gathers). with_gather kind.Permanent (take (place + length bytes) (part_bytes (t.offered e) Permanent)) g) come.1

      go : (c : Bool) → nat_lt (place + length bytes) (total_of totals Permanent) ≡ c → Good (body.Piece Permanent offset bytes) (table.takes_piece s.host e totals Permanent (place + length bytes) bytes) (by_of e totals Permanent place offset bytes at some within exact (nat_lt (place + length bytes) (total_of totals Permanent)))
      go true more = more_row kind.Permanent e totals Permanent place offset bytes at some within exact refl refl gather_is more (come.0, filled)
      go false less = full_row kind.Permanent e totals Permanent place offset bytes at some within exact refl refl gather_is Volatile refl less
          (come.0, filled ∙ ap (λ z. gathered z [] []) (take_all (place + length bytes) (part_bytes (t.offered e) Permanent) (omega (arith, full e totals Permanent place offset bytes at some within exact less))))
  takes_row e totals Volatile place offset bytes at some within exact = go (nat_lt (place + length bytes) (total_of totals Volatile)) refl
    where
      come : (held_values s.host.device ≡ (t.offered e).device) × (s.link.emulator.gathers ≡ gathered (part_bytes (t.offered e) Permanent) (take place (part_bytes (t.offered e) Volatile)) [])
      come = (stands_so e totals Volatile place offset bytes at some within exact).1.come

      gather_is : s.link.emulator.gathers.volatile ≡ take place (part_bytes (t.offered e) Volatile)
      gather_is = ap (λ (g : Gathers). g.volatile) come.1

      filled : (put_desk kind.Volatile bytes s.link.emulator).gathers ≡ gathered (part_bytes (t.offered e) Permanent) (take (place + length bytes) (part_bytes (t.offered e) Volatile)) []
      filled = ap (λ z. with_gather kind.Volatile z s.link.emulator.gathers) (b_prefix kind.Volatile e totals Volatile place offset bytes at some within exact refl refl gather_is) ∙ ap (λ (g : Gathers). with_gather kind.Volatile (take (place + length bytes) (part_bytes (t.offered e) Volatile)) g) come.1

      go : (c : Bool) → nat_lt (place + length bytes) (total_of totals Volatile) ≡ c → Good (body.Piece Volatile offset bytes) (table.takes_piece s.host e totals Volatile (place + length bytes) bytes) (by_of e totals Volatile place offset bytes at some within exact (nat_lt (place + length bytes) (total_of totals Volatile)))
      go true more = more_row kind.Volatile e totals Volatile place offset bytes at some within exact refl refl gather_is more (come.0, filled)
      go false less = full_row kind.Volatile e totals Volatile place offset bytes at some within exact refl refl gather_is Saved refl less
          (come.0, filled ∙ ap (λ z. gathered (part_bytes (t.offered e) Permanent) z []) (take_all (place + length bytes) (part_bytes (t.offered e) Volatile) (omega (arith, full e totals Volatile place offset bytes at some within exact less))))
  takes_row e totals Saved place offset bytes at some within exact =
      split e totals Saved place offset bytes at some within exact (nat_lt (place + length bytes) (total_of totals Saved)) _ _
      (λ more. gives_row kind.Saved e totals Saved place offset bytes at some within exact refl refl gather_is Saved (place + length bytes)
      (ap (λ c. if c then table.wants s.host e totals Saved (place + length bytes) else table.goes_to s.host e totals None) more) (come.0, filled))
      (λ less. last_row e totals place offset bytes at some within exact less)
    where
      come : (held_values s.host.device ≡ (t.offered e).device) × (s.link.emulator.gathers ≡ gathered (part_bytes (t.offered e) Permanent) (part_bytes (t.offered e) Volatile) (take place (part_bytes (t.offered e) Saved)))
      come = (stands_so e totals Saved place offset bytes at some within exact).1.come

      gather_is : s.link.emulator.gathers.saved ≡ take place (part_bytes (t.offered e) Saved)
      gather_is = ap (λ (g : Gathers). g.saved) come.1

      filled : (put_desk kind.Saved bytes s.link.emulator).gathers ≡ gathered (part_bytes (t.offered e) Permanent) (part_bytes (t.offered e) Volatile) (take (place + length bytes) (part_bytes (t.offered e) Saved))
      filled = ap (λ z. with_gather kind.Saved z s.link.emulator.gathers) (b_prefix kind.Saved e totals Saved place offset bytes at some within exact refl refl gather_is) ∙ ap (λ (g : Gathers). with_gather kind.Saved (take (place + length bytes) (part_bytes (t.offered e) Saved)) g) come.1

  -- a Piece of what was offered
  pub piece_row : (st : MoveStage) (e : ℕ) (part : Part) (offset : ℕ) (bytes : List ℕ) → 0 < length bytes → bytes ≡ slice (part_bytes (t.offered e) part) offset (length bytes) → h.side.stage ≡ st
      → Good (body.Piece part offset bytes) (table.on_piece s.host st e part offset bytes) (λ fails. talk.on_piece (x fails) h.side st e part offset bytes)
  piece_row (stage.Filling m totals next place) e part offset bytes some exact at =
      d.both_by b piece t w n f consistent (body.Piece part offset bytes) (m == e && is_next totals next place part offset (length bytes)) _ _
      (λ fails. if fails then talk.breaks_off (x fails) h.side e else talk.reaches (x fails) h.side e totals next (place + length bytes)) (λ fails. talk.ignored h.side)
      (λ met.
      let tests = and_parts (m == e) (is_next totals next place part offset (length bytes)) met in
      let nexts = and_parts (part_number part == part_number next) (offset == place && nat_le (place + length bytes) (total_of totals next)) tests.1 in
      let parts = and_parts (offset == place) (nat_le (place + length bytes) (total_of totals next)) nexts.1 in
      let same : part ≡ next = part_same part next (eqb-true (part_number part) (part_number next) nexts.0) in
      let place_is : offset ≡ place = eqb-true offset place parts.0 in
      let here_at : h.side.stage ≡ stage.Filling e totals next place = at ∙ ap (λ k. stage.Filling k totals next place) (eqb-true m e tests.0) in
      let exact_here : bytes ≡ slice (part_bytes (t.offered e) next) place (length bytes) = exact ∙ ap (λ q. slice (part_bytes (t.offered e) q) offset (length bytes)) same ∙ ap (λ o. slice (part_bytes (t.offered e) next) o (length bytes)) place_is in
      subst (λ q. Good (body.Piece q offset bytes) (table.takes_piece s.host e totals next (place + length bytes) bytes) (λ fails. if fails then talk.breaks_off (x fails) h.side e else talk.reaches (x fails) h.side e totals next (place + length bytes))) (sym same)
      (takes_row e totals next place offset bytes here_at some (leb-true (place + length bytes) (total_of totals next) parts.1) exact_here))
      (λ unmet. d.ignored b piece t w n f consistent (body.Piece part offset bytes))
  piece_row stage.Empty e part offset bytes some exact at = d.ignored b piece t w n f consistent (body.Piece part offset bytes)
  piece_row stage.Running e part offset bytes some exact at = d.ignored b piece t w n f consistent (body.Piece part offset bytes)
  piece_row stage.Draining e part offset bytes some exact at = d.ignored b piece t w n f consistent (body.Piece part offset bytes)
  piece_row (stage.Offering m totals) e part offset bytes some exact at = d.ignored b piece t w n f consistent (body.Piece part offset bytes)
  piece_row (stage.Released m) e part offset bytes some exact at = d.ignored b piece t w n f consistent (body.Piece part offset bytes)
  piece_row (stage.Prepared m) e part offset bytes some exact at = d.ignored b piece t w n f consistent (body.Piece part offset bytes)
