-- A move that nothing disturbs ends with a running target.
use Rattle.std.proofs.Common.{◌≡◌, ℕ, zero, suc, ◌+◌, ◌-◌, ◌*◌, ◌≤◌, ◌<◌, ◌⊎◌, inl, inr, true, false, ◌∷◌, length, Option, Some, None, refl, sym, ◌∙◌, ap, subst, arith}
use Rattle.std.specs.Prelude.{nat_lt, ◌==◌, ◌^◌}
use Rattle.std.proofs.lemmas.Bool.{cond-true, cond-false, eq-eqb, ne_eqb, lt-ltb, cases_lt}
use Rattle.crb_regs.specs.Registers.{is_lost}
use Rattle.crb_history.specs.Snapshot.{Snapshot, IsValidSnapshot}
use Rattle.crb_history.specs.Continued.{snapshot_after}
use Rattle.crb_history.specs.Device.{phase_of}
use Rattle.vt_transcript.specs.Replies.{is_under_way, reaches, Transcript}
use Rattle.vt_base.specs.declared.types.HostName.{HostName}
use Rattle.vt_base.specs.declared.types.HostName.TheVariants.{A, B}
use Rattle.move_codec.specs.declared.names.Part.TheVariants.{Record}
use Rattle.move_codec.specs.declared.message.Body.TheVariants as body
use Rattle.move_core.specs.declared.stage.MoveStage.{MoveStage}
use Rattle.move_core.specs.declared.stage.MoveStage.TheVariants as stage
use Rattle.move_core.specs.declared.side.Side.TheVariants.{Running}
use Rattle.move_core.specs.declared.answers.Delivered.TheVariants.{Sent, Runs}
use Rattle.move_core.specs.Sides.{other, side_of, is_active, is_running, first_bad}
use Rattle.move_core.specs.Messages.{message_from}
use Rattle.vt_script.specs.declared.reply.Reply.TheVariants as reply
use Rattle.two_hosts.specs.Parts.{totals_of}
use Rattle.two_hosts.specs.Deliveries.{SideState, delivered, on_offer, on_prepared, on_commit, takes_offer}
use Rattle.two_hosts.specs.Hosts.{TwoHosts, hosts_after, host_of, stage_at, running_host, next_number, context_for, fails_at, offered_by, after_offer, offer_message}
use Rattle.two_hosts.specs.Replies.{InTurn, offer_reply}
use Rattle.two_hosts.specs.Invariant.{HostsInvariant, IsPassive, side_at}
use Rattle.two_hosts.specs.WholeMove.{pieces, offer_now, deliveries, CanOffer, CanMove, MovesOver}
use Rattle.two_hosts.proofs.InvariantKept.{run_kept, host_where_cases, running_stage}
use Rattle.two_hosts.proofs.RunningSets.{twice_other, alone}
use Rattle.two_hosts.proofs.Shifts.{active_on}
use Rattle.std.proofs.lemmas.List.{length_push}
use Rattle.two_hosts.proofs.RestActs as rest
use Rattle.two_hosts.proofs.Totals.{later_good}
use Rattle.two_hosts.proofs.Counts.{left_at_first, all_good}
use Rattle.two_hosts.proofs.LastTurns.{WorkerStep, Last, Turned, Ran, last_pushed, last_reply, turn_last, often, often_more, turned, ran}
use Rattle.two_hosts.proofs.Moving.{fills, Moving, Ended, carries_on}

-- ---- the offer

unreached : (injected : Option ℕ) (count : ℕ) → injected ≡ None → reaches injected count ≡ false
unreached injected count none = ap (λ order. reaches order count) none

pub offer_replied : (b : Snapshot) (w : TwoHosts) (n : HostName) → CanOffer b w n → offer_reply b w (running_host w) ≡ reply.Offered ((host_of w n).side.top + 1) (next_number w.sent)
offer_replied b w n can =
    ap (offer_reply b w) can.runs
    ∙ cond-false (is_lost (phase_of b w.history)) _ _ can.working
    ∙ cond-false ((host_of w n).side.top == 2 ^ 64 - 1) _ _ (ne_eqb (host_of w n).side.top (2 ^ 64 - 1) can.epoch)
    ∙ cond-false (is_under_way b w.history) _ _ can.unclaimed
    ∙ cond-false (fails_at (host_of w n) 9) _ _ (unreached (host_of w n).injected_fault ((host_of w n).calls + 9) can.works)

-- a host that is found runs
runs_there : (w : TwoHosts) (n : HostName) → running_host w ≡ Some n → (side_at w n).stage ≡ stage.Running
runs_there w n is = host_where_cases is_running w (λ found. found ≡ Some n → (side_at w n).stage ≡ stage.Running)
    (λ k at same. let here : k ≡ n = cc in subst (λ j. (side_at w j).stage ≡ stage.Running) here (running_stage (stage_at w k) at)) (λ wrong. absurd cc) is

-- the other host neither runs nor offers, and has seen no later epoch
record Beside (w : TwoHosts) (n : HostName) : Type 0 where
  passive : is_active (stage_at w (other n)) ≡ false
  order : (side_at w (other n)).top ≤ (side_at w n).top

passive_off : (g : MoveStage) → IsPassive (side_of g) → is_active g ≡ false
passive_off stage.Empty is = refl
passive_off (stage.Released d) is = refl
passive_off (stage.Filling d totals part place) is = refl
passive_off (stage.Prepared d) is = refl
passive_off stage.Running is = absurd is
passive_off stage.Draining is = absurd is
passive_off (stage.Offering d totals) is = absurd is

beside : (b : Snapshot) (w : TwoHosts) (n : HostName) → HostsInvariant b w → (side_at w n).stage ≡ stage.Running → Beside w n
beside b w n kept is = record { passive = passive_off (stage_at w (other n)) (alone b w kept n (ap (λ g. active_on (side_of g)) is)); order = low n is kept }
  where
    low : (n : HostName) → (side_at w n).stage ≡ stage.Running → HostsInvariant b w → (side_at w (other n)).top ≤ (side_at w n).top
    low A at (A, k) = k.sides.order
    low B at (B, k) = k.sides.order
    low A at (B, k) = absurd (rest.rests B A w.b.side w.a.side w.offered _ w.sent k Running (ap side_of at))
    low B at (A, k) = absurd (rest.rests A B w.a.side w.b.side w.offered _ w.sent k Running (ap side_of at))

works_both : (w : TwoHosts) (n : HostName) → (host_of w n).injected_fault ≡ None → (host_of w (other n)).injected_fault ≡ None → WorkerStep w
works_both w A here there A = here
works_both w A here there B = there
works_both w B here there A = there
works_both w B here there B = here

offer_works : (v : Snapshot) (w : TwoHosts) (n : HostName) → WorkerStep w → WorkerStep (offered_by v w n)
offer_works v w A works A = works A
offer_works v w A works B = works B
offer_works v w B works A = works A
offer_works v w B works B = works B

offer_acted : (v : Snapshot) (w : TwoHosts) (n : HostName) → (side_at (offered_by v w n) n).stage ≡ stage.Offering ((host_of w n).side.top + 1) (totals_of v)
offer_acted v w A = refl
offer_acted v w B = refl

offer_still : (v : Snapshot) (w : TwoHosts) (n : HostName) → side_at (offered_by v w n) (other n) ≡ side_at w (other n)
offer_still v w A = refl
offer_still v w B = refl

-- ---- from the offer to the running target

module _ (b : Snapshot) (piece : ℕ) (w : TwoHosts) (n : HostName) (fit : IsValidSnapshot b) (kept : HostsInvariant b w) (can : CanMove b piece w n) where
  abbrev v : Snapshot
  v = snapshot_after b w.history

  abbrev e : ℕ
  e = (host_of w n).side.top + 1

  abbrev size : ℕ
  size = length w.sent

  abbrev count : ℕ
  count = pieces piece v

  abbrev one : TwoHosts
  one = offered_by v w n

  abbrev two : TwoHosts
  two = turn_last piece one

  next : Beside w n
  next = beside b w n kept (runs_there w n can.offers.runs)

  good : first_bad (totals_of v) ≡ None
  good = later_good b w.history fit

  offer_last : Last one (size + 1) (offer_message n v (host_of w n))
  offer_last = last_pushed one w.sent size (offer_message n v (host_of w n)) refl refl

  takes : delivered (context_for piece one (other n) false) (side_at one (other n)) e (body.Offer (totals_of v)) ≡ record { side = fills e e v Record 0; answer = Sent (record { to = n; epoch = e; body = body.Need Record 0 }) }
  takes = ap (λ (s : SideState). on_offer (context_for piece one (other n) false) s e (totals_of v)) (offer_still v w n)
      ∙ cond-true (nat_lt (side_at w (other n)).top e) _ _ (lt-ltb (side_at w (other n)).top e (let low = next.order in omega (arith, low)))
      ∙ cond-false (is_active (stage_at w (other n))) _ _ next.passive
      ∙ ap (takes_offer (context_for piece one (other n) false) (record { stage = stage_at w (other n); top = e }) e (totals_of v)) good
      ∙ ap (λ to. record { side = fills e e v Record 0; answer = Sent (record { to = to; epoch = e; body = body.Need Record 0 }) }) (twice_other n)

  begun : Turned piece one (other n) (fills e e v Record 0) (size + 1) (record { to = n; epoch = e; body = body.Need Record 0 })
  begun = let room = can.room in turned piece one (size + 1) (other n) e (body.Offer (totals_of v)) (fills e e v Record 0) (record { to = n; epoch = e; body = body.Need Record 0 }) offer_last (omega (arith, room)) (offer_works v w n (works_both w n can.offers.works can.works)) takes

  moving : Moving two n e v Record 0 (size + 1 + 1) n (body.Need Record 0)
  moving = record {
    source = ap (λ (g : SideState). g.stage) (subst (λ k. side_at two k ≡ side_at one k) (twice_other n) begun.still) ∙ offer_acted v w n;
    values = ap (λ f. f e) begun.offered ∙ cond-true (e == e) v (w.offered e) (eq-eqb e e refl);
    top = e;
    target = begun.acted;
    works = begun.works;
    last = begun.last;
  }

  ended : Ended piece two n e v (size + 1 + 1) (2 * count)
  ended = let room = can.room in carries_on piece n e v can.size (all_good v good) count two Record 0 (size + 1 + 1) moving (all_good v good Record) (left_at_first piece v) (omega (arith, room))

  abbrev three : TwoHosts
  three = often piece (2 * count) two

  releases : delivered (context_for piece three n false) (side_at three n) e body.Prepared ≡ record { side = record (side_at three n) { stage = stage.Released e }; answer = Sent (message_from n e body.Commit) }
  releases = ap (λ g. on_prepared (context_for piece three n false) (side_at three n) g e) ended.finished.source ∙ cond-true (e == e) _ _ (eq-eqb e e refl)

  released : Turned piece three n (record (side_at three n) { stage = stage.Released e }) (size + 1 + 1 + 2 * count) (message_from n e body.Commit)
  released = let room = can.room in turned piece three (size + 1 + 1 + 2 * count) n e body.Prepared (record (side_at three n) { stage = stage.Released e }) (message_from n e body.Commit) ended.finished.last (omega (arith, room)) ended.finished.works releases

  abbrev four : TwoHosts
  four = turn_last piece three

  prepared : (side_at four (other n)).stage ≡ stage.Prepared e
  prepared = ap (λ (g : SideState). g.stage) released.still ∙ ended.finished.target

  commits : delivered (context_for piece four (other n) false) (side_at four (other n)) e body.Commit ≡ record { side = record (side_at four (other n)) { stage = stage.Running }; answer = Runs }
  commits = ap (λ g. on_commit (side_at four (other n)) g e) prepared ∙ cond-true (e == e) _ _ (eq-eqb e e refl)

  committed : Ran piece four (other n) (record (side_at four (other n)) { stage = stage.Running })
  committed = let room = can.room in ran piece four (size + 1 + 1 + 2 * count + 1) (other n) e body.Commit (record (side_at four (other n)) { stage = stage.Running }) released.last (omega (arith, room)) released.works commits

  pub target_runs : is_running (stage_at (turn_last piece four) (other n)) ≡ true
  target_runs = ap (λ (g : SideState). is_running g.stage) committed.acted

  at_four : often piece (2 * count + 2) one ≡ four
  at_four = let more : 2 * count + 2 ≡ suc (suc (2 * count)) = omega arith in ap (λ k. often piece k one) more ∙ ap (turn_last piece) (often_more piece (2 * count) one)

  pub last_is_running : last_reply piece (often piece (2 * count + 2) one) ≡ reply.Running
  last_is_running = ap (last_reply piece) at_four ∙ committed.replies

  pub after_all : often piece (2 * count + 3) one ≡ turn_last piece four
  after_all = let more : 2 * count + 3 ≡ suc (2 * count + 2) = omega arith in ap (λ k. often piece k one) more ∙ ap (turn_last piece) at_four

  pub each_sent : (k : ℕ) → k < 2 * count + 2 → last_reply piece (often piece k one) ≡ reply.SentMessage (size + 1 + 1 + k)
  each_sent zero low = let same : size + 1 + 1 ≡ size + 1 + 1 + 0 = omega arith in begun.replies ∙ ap reply.SentMessage same
  each_sent (suc j) low = go (cases_lt j (2 * count))
    where
      go : (j < 2 * count) ⊎ (2 * count ≤ j) → last_reply piece (often piece (suc j) one) ≡ reply.SentMessage (size + 1 + 1 + suc j)
      go (inl below) = let same : size + 1 + 1 + 1 + j ≡ size + 1 + 1 + suc j = omega arith in ap (last_reply piece) (often_more piece j one) ∙ ended.sent j below ∙ ap reply.SentMessage same
      go (inr full) =
          let is : j ≡ 2 * count = omega (arith, low) in
          let same : size + 1 + 1 + 2 * count + 1 ≡ size + 1 + 1 + suc j = omega arith in
          ap (last_reply piece) (often_more piece j one ∙ ap (λ k. often piece k two) is) ∙ released.replies ∙ ap reply.SentMessage same

-- ---- transcripts

hosts_often : (b : Snapshot) (piece : ℕ) (u : Transcript) (k : ℕ) → hosts_after b piece (deliveries b piece k u) ≡ often piece k (hosts_after b piece u)
hosts_often b piece u zero = refl
hosts_often b piece u (suc k) = ap (turn_last piece) (hosts_often b piece u k)

often_in_turn : (b : Snapshot) (piece : ℕ) (u : Transcript) (k : ℕ) → InTurn b piece u → InTurn b piece (deliveries b piece k u)
often_in_turn b piece u zero in_turn = in_turn
often_in_turn b piece u (suc k) in_turn = (often_in_turn b piece u k in_turn, refl)

offered_is : (b : Snapshot) (piece : ℕ) (t : Transcript) (n : HostName) → CanOffer b (hosts_after b piece t) n → hosts_after b piece (offer_now b piece t ∷ t) ≡ offered_by (snapshot_after b (hosts_after b piece t).history) (hosts_after b piece t) n
offered_is b piece t n can =
    let w = hosts_after b piece t in
    ap (after_offer b (hosts_after b piece t) (running_host (hosts_after b piece t))) (offer_replied b (hosts_after b piece t) n can)
    ∙ ap (λ found. after_offer b (hosts_after b piece t) found (reply.Offered ((host_of (hosts_after b piece t) n).side.top + 1) (next_number (hosts_after b piece t).sent))) can.runs

one_more : (b : Snapshot) (piece : ℕ) (t : Transcript) (n : HostName) → CanOffer b (hosts_after b piece t) n → length (hosts_after b piece (offer_now b piece t ∷ t)).sent ≡ length (hosts_after b piece t).sent + 1
one_more b piece t n can = ap (λ (w : TwoHosts). length w.sent) (offered_is b piece t n can) ∙ length_push (hosts_after b piece t).sent (offer_message n (snapshot_after b (hosts_after b piece t).history) (host_of (hosts_after b piece t) n))

pub moves_over : (b : Snapshot) (piece : ℕ) (t : Transcript) (n : HostName) → IsValidSnapshot b → InTurn b piece t → CanMove b piece (hosts_after b piece t) n
    → MovesOver b piece (offer_now b piece t ∷ t) n (pieces piece (snapshot_after b (hosts_after b piece t).history))
moves_over b piece t n fit in_turn can = record {
  sends = λ k low. ap (last_reply piece) (reached k) ∙ each_sent b piece (hosts_after b piece t) n fit kept can k low ∙ ap (λ size. reply.SentMessage (size + 1 + k)) (sym (one_more b piece t n can.offers));
  runs = ap (last_reply piece) (reached (2 * count + 2)) ∙ last_is_running b piece (hosts_after b piece t) n fit kept can;
  target = ap (λ (w : TwoHosts). is_running (stage_at w (other n))) (reached (2 * count + 3) ∙ after_all b piece (hosts_after b piece t) n fit kept can) ∙ target_runs b piece (hosts_after b piece t) n fit kept can;
  in_turn = often_in_turn b piece (offer_now b piece t ∷ t) (2 * count + 3) (in_turn, refl);
}
  where
    count : ℕ
    count = pieces piece (snapshot_after b (hosts_after b piece t).history)

    kept : HostsInvariant b (hosts_after b piece t)
    kept = run_kept b piece t in_turn

    reached : (k : ℕ) → hosts_after b piece (deliveries b piece k (offer_now b piece t ∷ t)) ≡ often piece k (offered_by (snapshot_after b (hosts_after b piece t).history) (hosts_after b piece t) n)
    reached k = hosts_often b piece (offer_now b piece t ∷ t) k ∙ ap (often piece k) (offered_is b piece t n can.offers)
