-- A delivery leads its receiver on: what is shown of each row, and the rows that use no wires.
use Rattle.std.proofs.Common.{◌≡◌, ℕ, ◌<◌, ◌+◌, Bool, true, false, not, ◌&&◌, List, [], length, refl, sym, ap, subst, ◌∙◌, arith, Some, None, Ok, Err}
use Rattle.std.specs.Prelude.{Option, Result, nat_lt, ◌==◌, if◌then◌else◌}
use Rattle.std.proofs.lemmas.Bool.{eqb-true, eq-eqb, ltb-true, and_parts}
use Rattle.crb_port.specs.Plain.{plain}
use Rattle.crb_port.specs.declared.job.PortState.{PortState}
use Rattle.ctrl_model.specs.Link.{Link}
use Rattle.vt_transcript.specs.Replies.{is_fault}
use Rattle.crb_history.specs.Snapshot.{Snapshot}
use Rattle.crb_history.specs.Event.{History}
use Rattle.state_blobs.specs.Encodings.{slice, encode_blob}
use Rattle.vt_base.specs.declared.types.HostName.{HostName}
use Rattle.vt_base.specs.declared.types.HostName.TheVariants.{A, B}
use Rattle.vt_base.specs.declared.types.Reason.{Reason}
use Rattle.vt_base.specs.declared.types.Reason.TheVariants as reason
use Rattle.move_codec.specs.declared.names.Part.{Part}
use Rattle.move_codec.specs.declared.names.Part.TheVariants.{Record, Permanent, Volatile, Saved}
use Rattle.move_codec.specs.declared.message.Message.{Message}
use Rattle.move_codec.specs.declared.message.Body.{Body}
use Rattle.move_codec.specs.declared.message.Body.TheVariants as body
use Rattle.move_core.specs.declared.answers.Delivered.{Delivered}
use Rattle.move_core.specs.declared.answers.Delivered.TheVariants as delivers
use Rattle.move_core.specs.declared.stage.MoveStage.{MoveStage}
use Rattle.move_core.specs.declared.stage.MoveStage.TheVariants as stage
use Rattle.move_core.specs.Model.{HostModel}
use Rattle.move_core.specs.Sides.{holds_device, is_running, other, side_of, total_of, is_active, first_bad}
use Rattle.move_core.specs.Hosts.{IsConsistentHost}
use Rattle.move_core.specs.Requests.{WiresView, wires_view}
use Rattle.move_core.specs.Table as table
use Rattle.move_core.specs.Table.{Row, message_from}
use Rattle.move_core.specs.Calls.{Follows, EndsIn, Resumes}
use Rattle.two_hosts.specs.Parts.{part_bytes, totals_of}
use Rattle.two_hosts.specs.Deliveries as talk
use Rattle.two_hosts.specs.Deliveries.{SideState, Outcome, DeliveryContext, calls_at}
use Rattle.two_hosts.specs.Hosts.{TwoHosts, HostState, host_of, stage_at, counted, fails_at, context_for}
use Rattle.two_hosts.specs.Replies.{delivery_reply}
use Rattle.two_hosts.specs.Invariant.{HostsInvariant, PairInvariant, IsPresent, IsSent, IsAwaiting, Says, MatchesOffer, side_at}
use Rattle.two_hosts.proofs.RestActs.{prepared_top}
use Rattle.vt_seat.specs.Wires.{fails_next, after_call}
use Rattle.vt_seat.specs.Follows.{IsInjected}
use Rattle.std.proofs.lemmas.Bool.Decides.{nat_tests}
use Rattle.ctrl_codec.specs.declared.request.Request.TheVariants.{Stop}
use Rattle.ctrl_client.specs.declared.fault.ClientFault.{ClientFault}
use Rattle.ctrl_client.specs.declared.fault.ClientFault.TheVariants.{Link as LinkFault, Reply as BadReply}
use Rattle.ctrl_model.specs.declared.profile.TheConstants.{TOTAL_PLACE}
use Rattle.vt_base.specs.declared.types.Kind.{Kind}
use Rattle.vt_base.specs.declared.types.Kind.TheVariants as kind
use Rattle.state_blobs.proofs.Sizes.{text_most}
use Rattle.move_core.specs.declared.asking.Fetched.{Fetched}
use Rattle.ctrl_model.specs.Emulator.{EmulatorState, PendingCommand, RequestOutcome, switched_off}
use Rattle.ctrl_client.specs.Exchange.{result_of}
use Rattle.ctrl_client.specs.Schedules.{fails_within, schedule_after}
use Rattle.two_seats.proofs.Exact.{Wired, Rested, Asked, asks_exact, Gives, Fetched3, fetches_exact}
use Rattle.vt_seat.proofs.InjectedFaults.{due-same, due-passed, due-failed, fails-reaches}
use Rattle.vt_seat.proofs.Steps.{the_same}
use Rattle.vt_seat.specs.State.{SeatState}
use Rattle.two_seats.specs.Seats.{IsIdle, HasValues, AtStage, IsSeat}
use Rattle.two_seats.specs.Both.{TwoSeats, seat_of, FollowsBoth}
use Rattle.two_seats.proofs.Seating.{goes_on_here, offers_present}

abbrev pub seen_at : Link → Option ℕ → ℕ → WiresView (Option ℕ)
seen_at link calls_to_fault faults = wires_view fails_next after_call (Some link) calls_to_fault faults None

-- a host that holds by the sides, prepared: a commit to it has the present values
pub commit_present : (b : Snapshot) (t : TwoHosts) (n : HostName) (e : ℕ) (m : Message) → HostsInvariant b t → IsSent t.sent m → m.to ≡ n → m.epoch ≡ e → m.body ≡ body.Commit → stage_at t n ≡ stage.Prepared e → IsPresent b t.history (t.offered e)
commit_present b t n e m kept sent to epoch says at = go kept.0 n kept.1 to at
  where
    holder_says : (k n : HostName) (x y : SideState) → PairInvariant n k x y t.offered (IsPresent b t.history) t.sent → x.stage ≡ stage.Prepared e → IsPresent b t.history (t.offered e)
    holder_says k n x y kept at = subst (λ top. IsPresent b t.history (t.offered top)) (prepared_top t.offered x.stage x.top e (ap side_of at) kept.sides.holder) (kept.sides.same (ap holds_device at))

    never : (n k : HostName) (x y : SideState) → PairInvariant n k x y t.offered (IsPresent b t.history) t.sent → m.to ≡ k → y.stage ≡ stage.Prepared e → ⊥
    never n k x y kept to at =
        let fits = kept.each m sent in
        let exact : Says n k x y t.offered m.to m.epoch body.Commit = subst (λ b. Says n k x y t.offered m.to m.epoch b) says fits.says in
        let later : m.epoch < y.top = (exact.1 to).1 (subst (λ s. IsAwaiting (side_of s)) (sym at) tt) in
        let top = prepared_top t.offered y.stage y.top e (ap side_of at) kept.sides.rest in
        omega (arith, later, top, epoch)

    go : (holder n : HostName) → PairInvariant holder (other holder) (side_at t holder) (side_at t (other holder)) t.offered (IsPresent b t.history) t.sent → m.to ≡ n → stage_at t n ≡ stage.Prepared e → IsPresent b t.history (t.offered e)
    go A A k to at = holder_says B A t.a.side t.b.side k at
    go B B k to at = holder_says A B t.b.side t.a.side k at
    go A B k to at = absurd (never A B t.a.side t.b.side k to at)
    go B A k to at = absurd (never B A t.b.side t.a.side k to at)

-- ---- what is shown of a row

pub record Ends (b : Snapshot) (piece : ℕ) (t : TwoHosts) (n : HostName) (s : (SeatState PortState)) (says : Body) (by : Bool → Outcome) (answer : Delivered) (host : HostModel PortState) (link : Link) (calls_to_fault : Option ℕ) : Type 0 where
  pub met : Bool
  pub met_is : met ≡ (nat_lt 0 (calls_at says (by false).side.stage (by false).answer) && fails_at (host_of t n) (calls_at says (by false).side.stage (by false).answer))
  pub answer_is : answer ≡ (by met).answer
  pub fault_is : is_fault (delivery_reply t.sent answer) ≡ met
  pub seated : IsSeat b piece t.history t.offered n
      (record (counted (delivery_reply t.sent answer) (calls_at says (by false).side.stage (by false).answer) (host_of t n)) { side = (by met).side })
      (record s { host = host; link = link; calls_to_fault = calls_to_fault })

module _ (b : Snapshot) (piece : ℕ) (t : TwoHosts) (w : TwoSeats) (n : HostName) (f : FollowsBoth b piece t w) (consistent : IsConsistentHost plain (seat_of w n).host) where
  abbrev pub s : (SeatState PortState)
  s = seat_of w n

  abbrev pub h : HostState
  h = host_of t n

  abbrev pub p : History
  p = t.history

  abbrev pub here : IsSeat b piece t.history t.offered n (host_of t n) s
  here = f.seats n

  abbrev pub x : Bool → DeliveryContext
  x fails = context_for piece t n fails

  -- the row leads to an end, however it is followed
  abbrev pub Good : Body → Row PortState → (Bool → Outcome) → Type 0
  Good says row by = (answer : Delivered) (host : HostModel PortState) (link : Link) (calls_to_fault : Option ℕ) (fa fb : ℕ) → Follows plain row (seen_at s.link s.calls_to_fault fa) (seen_at link calls_to_fault fb) answer host → Ends b piece t n s says by answer host link calls_to_fault

  -- by the same test
  pub both_by : (says : Body) (test : Bool) (yes_row no_row : Row PortState) (yes_by no_by : Bool → Outcome)
      → (test ≡ true → Good says yes_row yes_by) → (test ≡ false → Good says no_row no_by) → Good says (if test then yes_row else no_row) (λ fails. if test then yes_by fails else no_by fails)
  both_by says true yes_row no_row yes_by no_by met unmet = met refl
  both_by says false yes_row no_row yes_by no_by met unmet = unmet refl

  -- the seat is the same but for these
  pub seat_with : (stage : MoveStage) (top : ℕ) (injected_fault : Option ℕ) (count : ℕ) (host : HostModel PortState) (link : Link) (calls_to_fault : Option ℕ) → host.name ≡ s.host.name → host.piece ≡ s.host.piece → link.emulator.piece ≡ s.link.emulator.piece → host.stage ≡ stage → host.top ≡ top
      → IsInjected injected_fault count calls_to_fault → AtStage b p t.offered stage (record s { host = host; link = link; calls_to_fault = calls_to_fault })
      → IsSeat b piece p t.offered n (record { side = record { stage = stage; top = top }; injected_fault = injected_fault; calls = count }) (record s { host = host; link = link; calls_to_fault = calls_to_fault })
  seat_with stage top injected_fault count host link calls_to_fault name_is piece_is pieces stage_is top_is counts stands = record {
    name_is = name_is ∙ here.name_is;
    piece_is = piece_is ∙ here.piece_is;
    pieces = pieces ∙ here.pieces;
    stage_is = stage_is;
    top_is = top_is;
    calls_to_fault = counts;
    stands = stands;
  }

  -- a row that makes no calls
  pub quiet : (says : Body) (after : Outcome) (answer : Delivered) (host : HostModel PortState) (link : Link) (calls_to_fault : Option ℕ) (fa fb : ℕ) → seen_at link calls_to_fault fb ≡ seen_at s.link s.calls_to_fault fa
      → calls_at says after.side.stage after.answer ≡ 0 → is_fault (delivery_reply t.sent after.answer) ≡ false → answer ≡ after.answer
      → host.name ≡ s.host.name → host.piece ≡ s.host.piece → host.stage ≡ after.side.stage → host.top ≡ after.side.top → AtStage b p t.offered after.side.stage (record s { host = host })
      → Ends b piece t n s says (λ fails. after) answer host link calls_to_fault
  quiet says after answer host link calls_to_fault fa fb same calls fine is name_is piece_is stage_is top_is stands =
      let link_is : link ≡ s.link = the_same _ _ (ap (λ (v : WiresView (Option ℕ)). v.link) same) in
      let calls_to_fault_is : calls_to_fault ≡ s.calls_to_fault = ap (λ (v : WiresView (Option ℕ)). v.schedule) same in
      let fault : is_fault (delivery_reply t.sent answer) ≡ false = ap (λ a. is_fault (delivery_reply t.sent a)) is ∙ fine in
      record {
        met = false;
        met_is = rw calls refl;
        answer_is = is;
        fault_is = fault;
        seated = subst (λ (l : Link). IsSeat b piece p t.offered n (record (counted (delivery_reply t.sent answer) (calls_at says after.side.stage after.answer) h) { side = after.side }) (record s { host = host; link = l; calls_to_fault = calls_to_fault })) (sym link_is)
            (subst (λ (d : Option ℕ). IsSeat b piece p t.offered n (record (counted (delivery_reply t.sent answer) (calls_at says after.side.stage after.answer) h) { side = after.side }) (record s { host = host; calls_to_fault = d })) (sym calls_to_fault_is)
            (rw (calls, fault) (seat_with after.side.stage after.side.top h.injected_fault (h.calls + 0) host s.link s.calls_to_fault name_is piece_is refl stage_is top_is (due-same h.injected_fault h.calls s.calls_to_fault here.calls_to_fault) stands)));
      }

  -- nothing fits
  pub ignored : (says : Body) → Good says (table.ignored s.host) (λ fails. talk.ignored h.side)
  ignored says answer host link calls_to_fault fa fb (same, made) =
      let is : host ≡ s.host = made.host_is in
      quiet says (talk.ignored h.side) answer host link calls_to_fault fa fb same refl refl made.answer_is (ap (λ (k : HostModel PortState). k.name) is) (ap (λ (k : HostModel PortState). k.piece) is)
      (ap (λ (k : HostModel PortState). k.stage) is ∙ here.stage_is) (ap (λ (k : HostModel PortState). k.top) is ∙ here.top_is) (subst (λ k. AtStage b p t.offered h.side.stage (record s { host = k })) (sym is) here.stands)

  pub stands_at : (stage : MoveStage) → h.side.stage ≡ stage → AtStage b p t.offered stage s
  stands_at stage at = subst (λ k. AtStage b p t.offered k s) at here.stands

  -- the host with another side, and nothing else that is decoded
  pub after_host : (says : Body) (stage : MoveStage) (reply : Delivered) (real : Delivered) (next : HostModel PortState) (answer : Delivered) (host : HostModel PortState) (link : Link) (calls_to_fault : Option ℕ) (fa fb : ℕ) → seen_at link calls_to_fault fb ≡ seen_at s.link s.calls_to_fault fa
      → calls_at says stage reply ≡ 0 → is_fault (delivery_reply t.sent reply) ≡ false → answer ≡ real → real ≡ reply → host ≡ next
      → next.name ≡ s.host.name → next.piece ≡ s.host.piece → next.stage ≡ stage → next.top ≡ s.host.top → AtStage b p t.offered stage (record s { host = next })
      → Ends b piece t n s says (λ fails. talk.answers (talk.at_stage h.side stage) reply) answer host link calls_to_fault
  after_host says stage reply real next answer host link calls_to_fault fa fb same calls fine is real_is host_is name_is piece_is stage_is top_is stands =
      quiet says (talk.answers (talk.at_stage h.side stage) reply) answer host link calls_to_fault fa fb same calls fine (is ∙ real_is)
      (ap (λ (k : HostModel PortState). k.name) host_is ∙ name_is) (ap (λ (k : HostModel PortState). k.piece) host_is ∙ piece_is) (ap (λ (k : HostModel PortState). k.stage) host_is ∙ stage_is)
      (ap (λ (k : HostModel PortState). k.top) host_is ∙ top_is ∙ here.top_is) (subst (λ k. AtStage b p t.offered stage (record s { host = k })) (sym host_is) stands)

  pub named : (e : ℕ) (says : Body) → delivers.Sent (message_from s.host.name e says) ≡ delivers.Sent (message_from n e says)
  named e says = ap (λ k. delivers.Sent (message_from k e says)) here.name_is

  pub prepared_row : (st : MoveStage) (e : ℕ) → s.host.stage ≡ st → h.side.stage ≡ st → Good body.Prepared (table.on_prepared s.host st e) (λ fails. talk.on_prepared (x fails) h.side st e)
  prepared_row (stage.Offering d totals) e real at = both_by body.Prepared (d == e) _ _ (λ fails. talk.sends (x fails) (talk.at_stage h.side (stage.Released e)) e body.Commit) (λ fails. talk.ignored h.side)
      (λ met answer host link calls_to_fault fa fb (same, made).
      after_host body.Prepared (stage.Released e) (delivers.Sent (message_from n e body.Commit)) (delivers.Sent (message_from s.host.name e body.Commit)) (record s.host { stage = stage.Released e; record_bytes = [] }) answer host link calls_to_fault fa fb same refl refl
      made.answer_is (named e body.Commit) made.host_is refl refl refl refl (stands_at (stage.Offering d totals) at).0)
      (λ unmet. ignored body.Prepared)
  prepared_row (stage.Released d) e real at = both_by body.Prepared (d == e) _ _ (λ fails. talk.sends (x fails) h.side e body.Commit) (λ fails. talk.ignored h.side)
      (λ met answer host link calls_to_fault fa fb (same, made).
      quiet body.Prepared (talk.answers h.side (delivers.Sent (message_from n e body.Commit))) answer host link calls_to_fault fa fb same refl refl (made.answer_is ∙ named e body.Commit)
      (ap (λ (k : HostModel PortState). k.name) made.host_is) (ap (λ (k : HostModel PortState). k.piece) made.host_is) (ap (λ (k : HostModel PortState). k.stage) made.host_is ∙ here.stage_is) (ap (λ (k : HostModel PortState). k.top) made.host_is ∙ here.top_is)
      (subst (λ k. AtStage b p t.offered h.side.stage (record s { host = k })) (sym made.host_is) here.stands))
      (λ unmet. ignored body.Prepared)
  prepared_row stage.Empty e real at = ignored body.Prepared
  prepared_row stage.Running e real at = ignored body.Prepared
  prepared_row stage.Draining e real at = ignored body.Prepared
  prepared_row (stage.Filling d totals part place) e real at = ignored body.Prepared
  prepared_row (stage.Prepared d) e real at = ignored body.Prepared

  pub emptied_here : (says : Body) (answer : Delivered) (host : HostModel PortState) (link : Link) (calls_to_fault : Option ℕ) (fa fb : ℕ) → seen_at link calls_to_fault fb ≡ seen_at s.link s.calls_to_fault fa → answer ≡ delivers.Took → host ≡ table.emptied s.host → calls_at says stage.Empty delivers.Took ≡ 0 → IsIdle s.progress s.link
      → Ends b piece t n s says (λ fails. talk.answers (talk.at_stage h.side stage.Empty) delivers.Took) answer host link calls_to_fault
  emptied_here says answer host link calls_to_fault fa fb same is host_is calls idle = after_host says stage.Empty delivers.Took delivers.Took (table.emptied s.host) answer host link calls_to_fault fa fb same calls refl is refl host_is refl refl refl refl idle

  pub abort_row : (st : MoveStage) (e : ℕ) → s.host.stage ≡ st → h.side.stage ≡ st → Good body.Abort (table.on_abort s.host st e) (λ fails. talk.on_abort h.side st e)
  abort_row (stage.Filling d totals part place) e real at = both_by body.Abort (d == e) _ _ (λ fails. talk.answers (talk.at_stage h.side stage.Empty) delivers.Took) (λ fails. talk.ignored h.side)
      (λ met answer host link calls_to_fault fa fb (same, made). emptied_here body.Abort answer host link calls_to_fault fa fb same made.answer_is made.host_is refl (stands_at (stage.Filling d totals part place) at).0)
      (λ unmet. ignored body.Abort)
  abort_row (stage.Prepared d) e real at = both_by body.Abort (d == e) _ _ (λ fails. talk.answers (talk.at_stage h.side stage.Empty) delivers.Took) (λ fails. talk.ignored h.side)
      (λ met answer host link calls_to_fault fa fb (same, made). emptied_here body.Abort answer host link calls_to_fault fa fb same made.answer_is made.host_is refl (stands_at (stage.Prepared d) at).0)
      (λ unmet. ignored body.Abort)
  abort_row stage.Empty e real at = ignored body.Abort
  abort_row stage.Running e real at = ignored body.Abort
  abort_row stage.Draining e real at = ignored body.Abort
  abort_row (stage.Offering d totals) e real at = ignored body.Abort
  abort_row (stage.Released d) e real at = ignored body.Abort

  -- the guest goes on here
  pub runs_here_now : (says : Body) (reply : Delivered) (d : ℕ) (answer : Delivered) (host : HostModel PortState) (link : Link) (calls_to_fault : Option ℕ) (fa fb : ℕ) → seen_at link calls_to_fault fb ≡ seen_at s.link s.calls_to_fault fa → calls_at says stage.Running reply ≡ 0 → is_fault (delivery_reply t.sent reply) ≡ false
      → answer ≡ reply → holds_device s.host.stage ≡ true → IsPresent b p (t.offered d) → HasValues (t.offered d) s.host.device s.link → IsIdle s.progress s.link → Resumes plain (record s.host { stage = stage.Running; record_bytes = [] }) host
      → Ends b piece t n s says (λ fails. talk.answers (talk.at_stage h.side stage.Running) reply) answer host link calls_to_fault
  runs_here_now says reply d answer host link calls_to_fault fa fb same calls fine is off present values idle resumes =
      let held : s.host.device.held ≡ true = consistent.matches_side.held ∙ off in
      after_host says stage.Running reply reply (record s.host { stage = stage.Running; record_bytes = []; device = host.device }) answer host link calls_to_fault fa fb same calls fine is refl resumes.rest refl refl refl refl
      (goes_on_here b p (t.offered d) s.host.device host.device s.progress s.link present values idle held consistent.device resumes.device)

  pub commit_row : (st : MoveStage) (e : ℕ) → ((d : ℕ) → d ≡ e → h.side.stage ≡ stage.Prepared d → IsPresent b p (t.offered d)) → s.host.stage ≡ st → h.side.stage ≡ st → Good body.Commit (table.on_commit s.host st e) (λ fails. talk.on_commit h.side st e)
  commit_row (stage.Prepared d) e present real at = both_by body.Commit (d == e) _ _ (λ fails. talk.answers (talk.at_stage h.side stage.Running) delivers.Runs) (λ fails. talk.ignored h.side)
      (λ met answer host link calls_to_fault fa fb (same, made).
      runs_here_now body.Commit delivers.Runs d answer host link calls_to_fault fa fb same refl refl made.answer_is (ap holds_device real) (present d (eqb-true d e met) at) (stands_at (stage.Prepared d) at).1 (stands_at (stage.Prepared d) at).0 made.host_is)
      (λ unmet. ignored body.Commit)
  commit_row stage.Empty e present real at = ignored body.Commit
  commit_row stage.Running e present real at = ignored body.Commit
  commit_row stage.Draining e present real at = ignored body.Commit
  commit_row (stage.Offering d totals) e present real at = ignored body.Commit
  commit_row (stage.Released d) e present real at = ignored body.Commit
  commit_row (stage.Filling d totals part place) e present real at = ignored body.Commit

  pub refuse_row : (st : MoveStage) (e : ℕ) (why : Reason) (value : ℕ) → s.host.stage ≡ st → h.side.stage ≡ st → Good (body.Refuse why value) (table.on_refuse s.host st e) (λ fails. talk.on_refuse h.side st e)
  refuse_row (stage.Offering d totals) e why value real at = both_by (body.Refuse why value) (d == e) _ _ (λ fails. talk.answers (talk.at_stage h.side stage.Running) delivers.Resumed) (λ fails. talk.ignored h.side)
      (λ met answer host link calls_to_fault fa fb (same, made).
      runs_here_now (body.Refuse why value) delivers.Resumed d answer host link calls_to_fault fa fb same refl refl made.answer_is (ap holds_device real) (offers_present b t n d totals f.invariant at) (stands_at (stage.Offering d totals) at).1 (stands_at (stage.Offering d totals) at).0 made.host_is)
      (λ unmet. ignored (body.Refuse why value))
  refuse_row stage.Empty e why value real at = ignored (body.Refuse why value)
  refuse_row stage.Running e why value real at = ignored (body.Refuse why value)
  refuse_row stage.Draining e why value real at = ignored (body.Refuse why value)
  refuse_row (stage.Released d) e why value real at = ignored (body.Refuse why value)
  refuse_row (stage.Filling d totals part place) e why value real at = ignored (body.Refuse why value)
  refuse_row (stage.Prepared d) e why value real at = ignored (body.Refuse why value)

  -- ---- rows that use the wires

  -- the end of such a row, by whether a call failed
  pub record EndsSo (by : Bool → Outcome) (met : Bool) (answer : Delivered) (host : HostModel PortState) (link : Link) (calls_to_fault : Option ℕ) : Type 0 where
    pub answer_is : answer ≡ (by met).answer
    pub fault_is : is_fault (delivery_reply t.sent (by met).answer) ≡ met
    pub name_is : host.name ≡ s.host.name
    pub piece_is : host.piece ≡ s.host.piece
    pub pieces : link.emulator.piece ≡ s.link.emulator.piece
    pub stage_is : host.stage ≡ (by met).side.stage
    pub top_is : host.top ≡ (by met).side.top
    pub stands : AtStage b p t.offered (by met).side.stage (record s { host = host; link = link; calls_to_fault = calls_to_fault })

  pub calls_row : (says : Body) (by : Bool → Outcome) (calls : ℕ) (answer : Delivered) (host : HostModel PortState) (link : Link) (calls_to_fault : Option ℕ) → 0 < calls → calls_at says (by false).side.stage (by false).answer ≡ calls → calls_to_fault ≡ schedule_after fails_next after_call calls s.calls_to_fault
      → ((met : Bool) → fails_within fails_next after_call calls s.calls_to_fault ≡ met → EndsSo by met answer host link calls_to_fault) → Ends b piece t n s says by answer host link calls_to_fault
  calls_row says by calls answer host link calls_to_fault some calls_are schedule ends = go (fails_within fails_next after_call calls s.calls_to_fault) refl
    where
      fails_are : fails_at h calls ≡ fails_within fails_next after_call calls s.calls_to_fault
      fails_are = sym (fails-reaches h.injected_fault h.calls s.calls_to_fault calls some here.calls_to_fault)

      some_is : nat_lt 0 calls ≡ true
      some_is = grind (arith, nat_tests, some)

      go : (met : Bool) → fails_within fails_next after_call calls s.calls_to_fault ≡ met → Ends b piece t n s says by answer host link calls_to_fault
      go false unmet =
          let e = ends false unmet in
          let fault : is_fault (delivery_reply t.sent answer) ≡ false = ap (λ a. is_fault (delivery_reply t.sent a)) e.answer_is ∙ e.fault_is in
          let calls_to_fault_is : IsInjected h.injected_fault (h.calls + calls) calls_to_fault = subst (λ (d : Option ℕ). IsInjected h.injected_fault (h.calls + calls) d) (sym schedule) (due-passed h.injected_fault h.calls s.calls_to_fault calls unmet here.calls_to_fault) in
          record {
            met = false;
            met_is = rw (calls_are, some_is, fails_are ∙ unmet) refl;
            answer_is = e.answer_is;
            fault_is = fault;
            seated = rw (fault, calls_are) (seat_with (by false).side.stage (by false).side.top h.injected_fault (h.calls + calls) host link calls_to_fault e.name_is e.piece_is e.pieces e.stage_is e.top_is calls_to_fault_is e.stands);
          }
      go true met =
          let e = ends true met in
          let fault : is_fault (delivery_reply t.sent answer) ≡ true = ap (λ a. is_fault (delivery_reply t.sent a)) e.answer_is ∙ e.fault_is in
          let calls_to_fault_is : calls_to_fault ≡ None = schedule ∙ due-failed h.injected_fault h.calls s.calls_to_fault calls met here.calls_to_fault in
          record {
            met = true;
            met_is = rw (calls_are, some_is, fails_are ∙ met) refl;
            answer_is = e.answer_is;
            fault_is = fault;
            seated = rw (fault, calls_are) (seat_with (by true).side.stage (by true).side.top None (h.calls + calls) host link calls_to_fault e.name_is e.piece_is e.pieces e.stage_is e.top_is calls_to_fault_is e.stands);
          }

  pub wired : (faults : ℕ) → Wired (seen_at s.link s.calls_to_fault faults) s.link s.calls_to_fault
  wired faults = record { fails = refl; later = refl; link = refl; schedule = refl }

  -- a host that is at rest stays so, whatever the emulator did
  pub still_idle : (l m : Link) → Rested l m → IsIdle s.progress l → IsIdle s.progress m
  still_idle l m rested idle = record {
    free = idle.free;
    quiet = record { nothing = rested.control ∙ idle.quiet.nothing; listens = ap (λ (r : ℕ × Bool × Option PendingCommand). r.1) rested.rest ∙ idle.quiet.listens };
    channel = rested.commands ∙ idle.channel;
    none = ap (λ (r : ℕ × Bool × Option PendingCommand). r.2) rested.rest ∙ idle.none;
  }

  pub rested_piece : (l m : Link) → Rested l m → m.emulator.piece ≡ l.emulator.piece
  rested_piece l m rested = ap (λ (r : ℕ × Bool × Option PendingCommand). r.0) rested.rest

  -- ---- Offer

  pub idle_where : (st : MoveStage) → is_active st ≡ false → AtStage b p t.offered st s → IsIdle s.progress s.link
  idle_where stage.Empty off is = is
  idle_where (stage.Released e) off is = is
  idle_where (stage.Filling e totals part place) off is = is.0
  idle_where (stage.Prepared e) off is = is.0
  idle_where stage.Running off is = absurd cc
  idle_where stage.Draining off is = absurd cc
  idle_where (stage.Offering e totals) off is = absurd cc

  pub begins_row : (e : ℕ) (totals : List ℕ) → is_active h.side.stage ≡ false → Good (body.Offer totals) (Row.Stops (table.begins (record s.host { top = e }) e totals))
      (λ fails. talk.takes_offer (x fails) (record h.side { top = e }) e totals None)
  begins_row e totals off answer host link calls_to_fault fa fb (r, asks, made) =
      calls_row (body.Offer totals) (λ fails. talk.takes_offer (x fails) (record h.side { top = e }) e totals None) 2 answer host link calls_to_fault (omega arith) refl (asked.wired.schedule) (λ met is. go met is made)
    where
      idle : IsIdle s.progress s.link
      idle = idle_where h.side.stage off here.stands

      asked : Asked Stop [] s.link s.calls_to_fault (seen_at link calls_to_fault fb) r
      asked = asks_exact Stop [] (seen_at s.link s.calls_to_fault fa) (seen_at link calls_to_fault fb) s.link s.calls_to_fault r (wired fa) idle.quiet tt (λ request_outcome obeys. ap (λ (x : RequestOutcome). result_of x.reply) obeys) asks

      link_is : link ≡ asked.link
      link_is = the_same _ _ asked.wired.link

      idle_now : IsIdle s.progress link
      idle_now = subst (IsIdle s.progress) (sym link_is) (still_idle s.link asked.link asked.rested idle)

      pieces : link.emulator.piece ≡ s.link.emulator.piece
      pieces = ap (λ (l : Link). l.emulator.piece) link_is ∙ rested_piece s.link asked.link asked.rested

      go : (met : Bool) → fails_within fails_next after_call 2 s.calls_to_fault ≡ met → EndsIn plain (table.begins (record s.host { top = e }) e totals r) answer host
          → EndsSo (λ fails. talk.takes_offer (x fails) (record h.side { top = e }) e totals None) met answer host link calls_to_fault
      go false is made =
          let done = asked.done is in
          let now : EndsIn plain (table.begins (record s.host { top = e }) e totals (Ok tt)) answer host = subst (λ (r : Result (Unit {0}) ClientFault). EndsIn plain (table.begins (record s.host { top = e }) e totals r) answer host) done.0 made in
          let emulator : link.emulator ≡ switched_off s.link.emulator = ap (λ (l : Link). l.emulator) link_is ∙ done.1.2 ∙ ap (λ (y : RequestOutcome). y.emulator) done.1.1 in
          record {
            answer_is = now.answer_is ∙ named e (body.Need Record 0);
            fault_is = refl;
            name_is = ap (λ (k : HostModel PortState). k.name) now.host_is;
            piece_is = ap (λ (k : HostModel PortState). k.piece) now.host_is;
            pieces = pieces;
            stage_is = ap (λ (k : HostModel PortState). k.stage) now.host_is;
            top_is = ap (λ (k : HostModel PortState). k.top) now.host_is;
            stands = (idle_now, record { fit = f.fits e; off = ap (λ (d : EmulatorState). d.on) emulator; come = (ap (λ (k : HostModel PortState). k.record_bytes) now.host_is, ap (λ (d : EmulatorState). d.gathers) emulator) });
          }
      go true is made =
          let lost = asked.lost is in
          let now : EndsIn plain (table.begins (record s.host { top = e }) e totals (Err LinkFault)) answer host = subst (λ (r : Result (Unit {0}) ClientFault). EndsIn plain (table.begins (record s.host { top = e }) e totals r) answer host) lost made in
          record {
            answer_is = now.answer_is ∙ ap (λ k. delivers.Refused (message_from k e (body.Refuse reason.Link 0))) here.name_is;
            fault_is = refl;
            name_is = ap (λ (k : HostModel PortState). k.name) now.host_is;
            piece_is = ap (λ (k : HostModel PortState). k.piece) now.host_is;
            pieces = pieces;
            stage_is = ap (λ (k : HostModel PortState). k.stage) now.host_is;
            top_is = ap (λ (k : HostModel PortState). k.top) now.host_is;
            stands = idle_now;
          }

  -- an Offer of values that are fit
  pub offer_row : (e : ℕ) (totals : List ℕ) → (h.side.top < e → is_active h.side.stage ≡ false) → first_bad totals ≡ None → Good (body.Offer totals) (table.on_offer s.host e totals) (λ fails. talk.on_offer (x fails) h.side e totals)
  offer_row e totals passive good =
      subst (λ top. Good (body.Offer totals) (if nat_lt top e then (if is_active s.host.stage then Row.Ends (table.refuses s.host e reason.Busy 0) else table.takes_offer (record s.host { top = e }) e totals (first_bad totals)) else table.ignored s.host) by) (sym here.top_is)
      (both_by (body.Offer totals) (nat_lt h.side.top e) _ _ _ (λ fails. talk.ignored h.side)
      (λ newer.
      let off = passive (ltb-true h.side.top e newer) in
      let off_real : is_active s.host.stage ≡ false = ap is_active here.stage_is ∙ off in
      subst (λ row. Good (body.Offer totals) row inner) (sym (ap (λ c. if c then Row.Ends (table.refuses s.host e reason.Busy 0) else table.takes_offer (record s.host { top = e }) e totals (first_bad totals)) off_real ∙ ap (table.takes_offer (record s.host { top = e }) e totals) good))
      (subst (λ (by : Bool → Outcome). Good (body.Offer totals) (Row.Stops (table.begins (record s.host { top = e }) e totals)) by)
      (sym (ap (λ c. (λ (fails : Bool). if c then talk.refuses (x fails) h.side e reason.Busy 0 else talk.takes_offer (x fails) (record h.side { top = e }) e totals (first_bad totals))) off
      ∙ ap (λ o. (λ (fails : Bool). talk.takes_offer (x fails) (record h.side { top = e }) e totals o)) good))
      (begins_row e totals off)))
      (λ older. ignored (body.Offer totals)))
    where
      inner : Bool → Outcome
      inner fails = if is_active h.side.stage then talk.refuses (x fails) h.side e reason.Busy 0 else talk.takes_offer (x fails) (record h.side { top = e }) e totals (first_bad totals)

      by : Bool → Outcome
      by fails = talk.on_offer (x fails) h.side e totals

  -- ---- Need

  -- a row that makes no calls, where it would matter to others whether one failed
  pub quiet_of : (says : Body) (by : Bool → Outcome) (answer : Delivered) (host : HostModel PortState) (link : Link) (calls_to_fault : Option ℕ) (fa fb : ℕ) → seen_at link calls_to_fault fb ≡ seen_at s.link s.calls_to_fault fa
      → calls_at says (by false).side.stage (by false).answer ≡ 0 → is_fault (delivery_reply t.sent (by false).answer) ≡ false → answer ≡ (by false).answer
      → host.name ≡ s.host.name → host.piece ≡ s.host.piece → host.stage ≡ (by false).side.stage → host.top ≡ (by false).side.top → AtStage b p t.offered (by false).side.stage (record s { host = host })
      → Ends b piece t n s says by answer host link calls_to_fault
  quiet_of says by answer host link calls_to_fault fa fb same calls fine is name_is piece_is stage_is top_is stands =
      let e = quiet says (by false) answer host link calls_to_fault fa fb same calls fine is name_is piece_is stage_is top_is stands in
      record { met = false; met_is = rw calls refl; answer_is = is; fault_is = ap (λ a. is_fault (delivery_reply t.sent a)) is ∙ fine; seated = e.seated }

  pub seated_here : MatchesOffer t.offered h.side.stage h.side.top
  seated_here = go f.invariant.0 n f.invariant.1
    where
      go : (holder n : HostName) → PairInvariant holder (other holder) (side_at t holder) (side_at t (other holder)) t.offered (IsPresent b t.history) t.sent → MatchesOffer t.offered (stage_at t n) (side_at t n).top
      go A A k = k.sides.holder
      go B B k = k.sides.holder
      go A B k = k.sides.rest
      go B A k = k.sides.rest

  pub total-is : (v : Snapshot) (part : Part) → total_of (totals_of v) part ≡ length (part_bytes v part)
  total-is v Record = refl
  total-is v Permanent = refl
  total-is v Volatile = refl
  total-is v Saved = refl

  -- the emulator of a host with these values gives its blobs
  pub gives_here : (v : Snapshot) → HasValues v s.host.device s.link → IsIdle s.progress s.link → Gives s.link v.tpm
  gives_here v has idle = record {
    quiet = idle.quiet;
    tpm = has.emulator.tpm;
    fields = λ k. omega (arith, text_most k v.tpm has.fit.tpm);
    least = omega (arith, consistent.matches_side.least, here.piece_is, here.pieces);
    most = omega (arith, consistent.matches_side.most, here.piece_is, here.pieces);
  }

  pub fetch_row : (k : Kind) (part : Part) (e total offset : ℕ) (totals : List ℕ) → part_bytes (t.offered e) part ≡ encode_blob k (t.offered e).tpm → talk.is_blob part ≡ true → h.side.stage ≡ stage.Offering e totals → offset < total → total ≡ length (part_bytes (t.offered e) part)
      → Good (body.Need part offset) (Row.Fetches k offset (table.passes_on s.host e total part offset)) (λ fails. talk.gives (x fails) h.side e part offset)
  fetch_row k part e total offset totals text blob at within total_is answer host link calls_to_fault fa fb (r, fetch, made) =
      calls_row (body.Need part offset) by 3 answer host link calls_to_fault (omega arith) (rw blob refl) got.wired.schedule (λ met is. go met is)
    where
      by : Bool → Outcome
      by fails = talk.gives (x fails) h.side e part offset

      stands_so : AtStage b p t.offered (stage.Offering e totals) s
      stands_so = stands_at (stage.Offering e totals) at

      v : Snapshot
      v = t.offered e

      got : Fetched3 k offset s.link v.tpm s.calls_to_fault (seen_at link calls_to_fault fb) r
      got = fetches_exact k offset (seen_at s.link s.calls_to_fault fa) (seen_at link calls_to_fault fb) s.link v.tpm s.calls_to_fault r (wired fa) (gives_here v stands_so.1 stands_so.0) (omega (arith, within, total_is, ap (λ (xs : List ℕ). length xs) text)) fetch

      link_is : link ≡ s.link
      link_is = the_same _ _ got.wired.link

      stands_now : (host' : HostModel PortState) → host' ≡ s.host → AtStage b p t.offered h.side.stage (record s { host = host'; link = link; calls_to_fault = calls_to_fault })
      stands_now host' same = subst (λ (l : Link). AtStage b p t.offered h.side.stage (record s { host = host'; link = l; calls_to_fault = calls_to_fault })) (sym link_is)
          (subst (λ (q : HostModel PortState). AtStage b p t.offered h.side.stage (record s { host = q; calls_to_fault = calls_to_fault })) (sym same) (subst (λ st. AtStage b p t.offered st (record s { calls_to_fault = calls_to_fault })) (sym at) stands_so))

      ends : (met : Bool) → (by met).side ≡ h.side → answer ≡ (by met).answer → is_fault (delivery_reply t.sent (by met).answer) ≡ met → host ≡ s.host → EndsSo by met answer host link calls_to_fault
      ends met seat is fault same = record {
        answer_is = is;
        fault_is = fault;
        name_is = ap (λ (q : HostModel PortState). q.name) same;
        piece_is = ap (λ (q : HostModel PortState). q.piece) same;
        pieces = ap (λ (l : Link). l.emulator.piece) link_is;
        stage_is = ap (λ (q : HostModel PortState). q.stage) same ∙ here.stage_is ∙ sym (ap (λ (z : SideState). z.stage) seat);
        top_is = ap (λ (q : HostModel PortState). q.top) same ∙ here.top_is ∙ sym (ap (λ (z : SideState). z.top) seat);
        stands = subst (λ (z : SideState). AtStage b p t.offered z.stage (record s { host = host; link = link; calls_to_fault = calls_to_fault })) (sym seat) (stands_now host same);
      }

      go : (met : Bool) → fails_within fails_next after_call 3 s.calls_to_fault ≡ met → EndsSo by met answer host link calls_to_fault
      go true is =
          let now : EndsIn plain (table.passes_on s.host e total part offset (Err LinkFault)) answer host = subst (λ (r : Result Fetched ClientFault). EndsIn plain (table.passes_on s.host e total part offset r) answer host) (got.lost is) made in
          ends true refl now.answer_is refl now.host_is
      go false is =
          let piece_of : Fetched = record { total = length (encode_blob k v.tpm); bytes = slice (encode_blob k v.tpm) offset s.link.emulator.piece } in
          let now : EndsIn plain (table.passes_on s.host e total part offset (Ok piece_of)) answer host = subst (λ (r : Result Fetched ClientFault). EndsIn plain (table.passes_on s.host e total part offset r) answer host) (got.done is) made in
          let same_total : (length (encode_blob k v.tpm) == total) ≡ true = eq-eqb (length (encode_blob k v.tpm)) total (sym (total_is ∙ ap (λ (xs : List ℕ). length xs) text)) in
          let sent : EndsIn plain (table.sends s.host e (body.Piece part offset (slice (encode_blob k v.tpm) offset s.link.emulator.piece))) answer host = subst (λ c. EndsIn plain (if c then table.sends s.host e (body.Piece part offset (slice (encode_blob k v.tpm) offset s.link.emulator.piece)) else table.answers s.host (delivers.Wires (BadReply TOTAL_PLACE))) answer host) same_total now in
          ends false refl (sent.answer_is ∙ named e (body.Piece part offset (slice (encode_blob k v.tpm) offset s.link.emulator.piece))
          ∙ ap (λ xs. delivers.Sent (message_from n e (body.Piece part offset (slice xs offset s.link.emulator.piece)))) (sym text)
          ∙ ap (λ m. delivers.Sent (message_from n e (body.Piece part offset (slice (part_bytes v part) offset m)))) here.pieces) refl sent.host_is

  pub gives_row : (part : Part) (e offset : ℕ) (totals : List ℕ) → h.side.stage ≡ stage.Offering e totals → offset < total_of totals part → Good (body.Need part offset) (table.gives s.host e (total_of totals part) part offset) (λ fails. talk.gives (x fails) h.side e part offset)
  gives_row part e offset totals at within = go part within
    where
      totals_are : totals ≡ totals_of (t.offered e)
      totals_are = (subst (λ st. MatchesOffer t.offered st h.side.top) at seated_here).1

      total_here : (part : Part) → total_of totals part ≡ length (part_bytes (t.offered e) part)
      total_here part = ap (λ xs. total_of xs part) totals_are ∙ total-is (t.offered e) part

      stands_so : AtStage b p t.offered (stage.Offering e totals) s
      stands_so = stands_at (stage.Offering e totals) at

      go : (part : Part) → offset < total_of totals part → Good (body.Need part offset) (table.gives s.host e (total_of totals part) part offset) (λ fails. talk.gives (x fails) h.side e part offset)
      go Permanent within = fetch_row kind.Permanent Permanent e (total_of totals Permanent) offset totals refl refl at within (total_here Permanent)
      go Volatile within = fetch_row kind.Volatile Volatile e (total_of totals Volatile) offset totals refl refl at within (total_here Volatile)
      go Saved within = fetch_row kind.Saved Saved e (total_of totals Saved) offset totals refl refl at within (total_here Saved)
      go Record within = λ answer host link calls_to_fault fa fb done.
          let same = done.0 in
          let made = done.1 in
          let said_is = made.answer_is ∙ named e (body.Piece Record offset (slice s.host.record_bytes offset s.host.piece))
          ∙ ap (λ xs. delivers.Sent (message_from n e (body.Piece Record offset (slice xs offset s.host.piece)))) stands_so.2 ∙ ap (λ m. delivers.Sent (message_from n e (body.Piece Record offset (slice (part_bytes (t.offered e) Record) offset m)))) here.piece_is in
          quiet_of (body.Need Record offset) (λ fails. talk.gives (x fails) h.side e Record offset) answer host link calls_to_fault fa fb same refl refl said_is
          (ap (λ (q : HostModel PortState). q.name) made.host_is) (ap (λ (q : HostModel PortState). q.piece) made.host_is) (ap (λ (q : HostModel PortState). q.stage) made.host_is ∙ here.stage_is) (ap (λ (q : HostModel PortState). q.top) made.host_is ∙ here.top_is)
          (subst (λ q. AtStage b p t.offered h.side.stage (record s { host = q })) (sym made.host_is) here.stands)

  pub need_row : (st : MoveStage) (e : ℕ) (part : Part) (offset : ℕ) → h.side.stage ≡ st → Good (body.Need part offset) (table.on_need s.host st e part offset) (λ fails. talk.on_need (x fails) h.side st e part offset)
  need_row (stage.Offering d totals) e part offset at = both_by (body.Need part offset) (d == e && nat_lt offset (total_of totals part)) _ _ (λ fails. talk.gives (x fails) h.side e part offset) (λ fails. talk.ignored h.side)
      (λ met. let tests = and_parts (d == e) (nat_lt offset (total_of totals part)) met in
      gives_row part e offset totals (at ∙ ap (λ k. stage.Offering k totals) (eqb-true d e tests.0)) (ltb-true offset (total_of totals part) tests.1))
      (λ unmet. ignored (body.Need part offset))
  need_row stage.Empty e part offset at = ignored (body.Need part offset)
  need_row stage.Running e part offset at = ignored (body.Need part offset)
  need_row stage.Draining e part offset at = ignored (body.Need part offset)
  need_row (stage.Released d) e part offset at = ignored (body.Need part offset)
  need_row (stage.Filling d totals next place) e part offset at = ignored (body.Need part offset)
  need_row (stage.Prepared d) e part offset at = ignored (body.Need part offset)
