-- No host has seen more epochs than lines.
use Rattle.std.proofs.Common.{◌≡◌, ◌≢◌, ℕ, suc, ◌+◌, ◌≤◌, ◌<◌, ◌&&◌, List, [], ◌∷◌, length, Option, Some, None, refl, arith}
use Rattle.std.specs.Prelude.{nat_lt, ◌==◌, ◌-◌, ◌^◌}
use Rattle.std.proofs.lemmas.Bool.{cond_both, eqb-true}
use Rattle.crb_regs.specs.Registers.{is_lost}
use Rattle.crb_history.specs.Snapshot.{Snapshot}
use Rattle.crb_history.specs.Continued.{snapshot_after}
use Rattle.crb_history.specs.Device.{phase_of}
use Rattle.vt_transcript.specs.Replies.{is_under_way, Transcript, is_fault}
use Rattle.vt_script.specs.declared.event.Event.{Event}
use Rattle.vt_script.specs.declared.event.Event.TheVariants as line
use Rattle.vt_script.specs.declared.reply.Reply.{Reply}
use Rattle.vt_base.specs.declared.types.HostName.{HostName}
use Rattle.vt_base.specs.declared.types.HostName.TheVariants.{A, B}
use Rattle.move_codec.specs.declared.names.Part.{Part}
use Rattle.move_codec.specs.declared.message.Message.{Message}
use Rattle.move_codec.specs.declared.message.Body.{Body}
use Rattle.move_codec.specs.declared.message.Body.TheVariants as body
use Rattle.move_core.specs.declared.stage.MoveStage.{MoveStage}
use Rattle.move_core.specs.declared.stage.MoveStage.TheVariants as stage
use Rattle.move_core.specs.Sides.{is_active, is_running, total_of, part_after, first_bad}
use Rattle.move_core.specs.Messages.{is_next}
use Rattle.vt_script.specs.declared.event.Event.TheVariants.{Offer, Deliver, GiveUp, Again, Show}
use Rattle.vt_script.specs.declared.reply.Reply.TheVariants as reply
use Rattle.two_hosts.specs.Deliveries.{SideState, Outcome, DeliveryContext, delivered, on_offer, on_need, on_piece, on_prepared, on_commit, on_abort, on_refuse, takes_offer, goes_to, calls_of_delivery}
use Rattle.two_hosts.specs.Hosts.{TwoHosts, HostState, hosts_after, host_of, stage_at, with_host, with_outcome, host_where, running_host, working_host, is_leaving, is_prepared, worker_part, after_drained, after_work_at, after_work, message_at, fails_at, context_for, counted, after_delivery, after_offer, offered_by, after_give_up, after_again, guest_line_on, guest_line_on_any, after_line, after_exchange}
use Rattle.two_hosts.specs.Replies.{InTurn, offer_reply}
use Rattle.two_hosts.specs.Invariant.{HostsInvariant, IsSent, side_at}
use Rattle.two_hosts.proofs.InvariantKept.{run_kept, in_bag_sent, host_where_cases}

module _ (s : SideState) (e k : ℕ) (low : s.top ≤ k) where
  abbrev Below : Outcome → Type 0
  Below after = after.side.top ≤ k

  offer_below : (x : DeliveryContext) (totals : List ℕ) → e ≤ k → Below (on_offer x s e totals)
  offer_below x totals le = cond_both (nat_lt s.top e) _ _ Below (λ newer. cond_both (is_active s.stage) _ _ Below (λ active. low) (λ passive. taken (first_bad totals))) (λ old. low)
    where
      taken : (bad : Option ℕ) → Below (takes_offer x (record s { top = e }) e totals bad)
      taken (Some bad) = le
      taken None = cond_both x.fails _ _ Below (λ yes. le) (λ no. le)

  need_below : (x : DeliveryContext) (g : MoveStage) (part : Part) (offset : ℕ) → Below (on_need x s g e part offset)
  need_below x (stage.Offering d totals) part offset = cond_both (d == e && nat_lt offset (total_of totals part)) _ _ Below (λ yes. cond_both x.fails _ _ Below (λ fails. low) (λ works. low)) (λ no. low)
  need_below x stage.Empty part offset = low
  need_below x stage.Running part offset = low
  need_below x stage.Draining part offset = low
  need_below x (stage.Released d) part offset = low
  need_below x (stage.Filling d totals next place) part offset = low
  need_below x (stage.Prepared d) part offset = low

  piece_below : (x : DeliveryContext) (g : MoveStage) (part : Part) (offset : ℕ) (bytes : List ℕ) → Below (on_piece x s g e part offset bytes)
  piece_below x (stage.Filling d totals next place) part offset bytes = cond_both (d == e && is_next totals next place part offset (length bytes)) _ _ Below
      (λ yes. cond_both x.fails _ _ Below (λ fails. low) (λ works. cond_both (nat_lt (place + length bytes) (total_of totals next)) _ _ Below (λ more. low) (λ full. full_end (part_after next)))) (λ no. low)
    where
      full_end : (next : Option Part) → Below (goes_to x s e totals next)
      full_end (Some q) = low
      full_end None = low
  piece_below x stage.Empty part offset bytes = low
  piece_below x stage.Running part offset bytes = low
  piece_below x stage.Draining part offset bytes = low
  piece_below x (stage.Offering d totals) part offset bytes = low
  piece_below x (stage.Released d) part offset bytes = low
  piece_below x (stage.Prepared d) part offset bytes = low

  prepared_below : (x : DeliveryContext) (g : MoveStage) → Below (on_prepared x s g e)
  prepared_below x (stage.Offering d totals) = cond_both (d == e) _ _ Below (λ yes. low) (λ no. low)
  prepared_below x (stage.Released d) = cond_both (d == e) _ _ Below (λ yes. low) (λ no. low)
  prepared_below x stage.Empty = low
  prepared_below x stage.Running = low
  prepared_below x stage.Draining = low
  prepared_below x (stage.Filling d totals part place) = low
  prepared_below x (stage.Prepared d) = low

  commit_below : (g : MoveStage) → Below (on_commit s g e)
  commit_below (stage.Prepared d) = cond_both (d == e) _ _ Below (λ yes. low) (λ no. low)
  commit_below stage.Empty = low
  commit_below stage.Running = low
  commit_below stage.Draining = low
  commit_below (stage.Offering d totals) = low
  commit_below (stage.Released d) = low
  commit_below (stage.Filling d totals part place) = low

  abort_below : (g : MoveStage) → Below (on_abort s g e)
  abort_below (stage.Filling d totals part place) = cond_both (d == e) _ _ Below (λ yes. low) (λ no. low)
  abort_below (stage.Prepared d) = cond_both (d == e) _ _ Below (λ yes. low) (λ no. low)
  abort_below stage.Empty = low
  abort_below stage.Running = low
  abort_below stage.Draining = low
  abort_below (stage.Offering d totals) = low
  abort_below (stage.Released d) = low

  refuse_below : (g : MoveStage) → Below (on_refuse s g e)
  refuse_below (stage.Offering d totals) = cond_both (d == e) _ _ Below (λ yes. low) (λ no. low)
  refuse_below stage.Empty = low
  refuse_below stage.Running = low
  refuse_below stage.Draining = low
  refuse_below (stage.Released d) = low
  refuse_below (stage.Filling d totals part place) = low
  refuse_below (stage.Prepared d) = low

  delivered_below : (x : DeliveryContext) (b : Body) → e ≤ k → Below (delivered x s e b)
  delivered_below x (body.Offer totals) le = offer_below x totals le
  delivered_below x (body.Need part offset) le = need_below x s.stage part offset
  delivered_below x (body.Piece part offset bytes) le = piece_below x s.stage part offset bytes
  delivered_below x body.Prepared le = prepared_below x s.stage
  delivered_below x body.Commit le = commit_below s.stage
  delivered_below x body.Abort le = abort_below s.stage
  delivered_below x (body.Refuse why value) le = refuse_below s.stage

-- ---- both hosts

pub record AreBelow (t : TwoHosts) (k : ℕ) : Type 0 where
  pub a : t.a.side.top ≤ k
  pub b : t.b.side.top ≤ k

low_at : (t : TwoHosts) (k : ℕ) (n : HostName) → AreBelow t k → (side_at t n).top ≤ k
low_at t k A low = low.a
low_at t k B low = low.b

later : (t : TwoHosts) (k : ℕ) → AreBelow t k → AreBelow t (suc k)
later t k low = record { a = omega (arith, low.a); b = omega (arith, low.b) }

replaced : (t : TwoHosts) (k : ℕ) (n : HostName) (h : HostState) → h.side.top ≤ suc k → AreBelow t k → AreBelow (with_host t n h) (suc k)
replaced t k A h le low = record { a = le; b = omega (arith, low.b) }
replaced t k B h le low = record { a = omega (arith, low.a); b = le }

epoch_low : (b : Snapshot) (t : TwoHosts) (k : ℕ) (m : Message) → HostsInvariant b t → AreBelow t k → IsSent t.sent m → m.epoch ≤ k
epoch_low b t k m (A, kept) low is = let le = (kept.each m is).epoch in omega (arith, le, low.a)
epoch_low b t k m (B, kept) low is = let le = (kept.each m is).epoch in omega (arith, le, low.b)

outcome_low : (t : TwoHosts) (k : ℕ) (n : HostName) (h : HostState) (after : Outcome) → after.side.top ≤ k → AreBelow t k → AreBelow (with_outcome t n h after) (suc k)
outcome_low t k A h after le low = record { a = omega (arith, le); b = omega (arith, low.b) }
outcome_low t k B h after le low = record { a = omega (arith, low.a); b = omega (arith, le) }

deliver_low : (b : Snapshot) (piece : ℕ) (t : TwoHosts) (k : ℕ) (found : Option Message) (q : Reply) → HostsInvariant b t → AreBelow t k → ((m : Message) → found ≡ Some m → IsSent t.sent m) → AreBelow (after_delivery piece t found q) (suc k)
deliver_low b piece t k None q kept low is = later t k low
deliver_low b piece t k (Some m) q kept low is = outcome_low t k m.to (counted q (calls_of_delivery (context_for piece t m.to (is_fault q)) (side_at t m.to) m.epoch m.body) (host_of t m.to)) (delivered (context_for piece t m.to (is_fault q)) (side_at t m.to) m.epoch m.body)
    (delivered_below (side_at t m.to) m.epoch k (low_at t k m.to low) (context_for piece t m.to (is_fault q)) m.body (epoch_low b t k m kept low (is m refl))) low

offered_low : (v : Snapshot) (t : TwoHosts) (k : ℕ) (n : HostName) → AreBelow t k → AreBelow (offered_by v t n) (suc k)
offered_low v t k A low = record { a = omega (arith, low.a); b = omega (arith, low.b) }
offered_low v t k B low = record { a = omega (arith, low.a); b = omega (arith, low.b) }

offer_low : (b : Snapshot) (t : TwoHosts) (k : ℕ) (found : Option HostName) (q : Reply) → AreBelow t k → AreBelow (after_offer b t found q) (suc k)
offer_low b t k None q low = later t k low
offer_low b t k (Some n) (reply.Offered e m) low = offered_low (snapshot_after b t.history) t k n low
offer_low b t k (Some A) (reply.Draining number) low = record { a = omega (arith, low.a); b = omega (arith, low.b) }
offer_low b t k (Some B) (reply.Draining number) low = record { a = omega (arith, low.a); b = omega (arith, low.b) }
offer_low b t k (Some n) q low = replaced t k n (counted q 0 (host_of t n)) (let le = low_at t k n low in omega (arith, le)) low

give_up_low : (t : TwoHosts) (k : ℕ) (found : Option HostName) → AreBelow t k → AreBelow (after_give_up t found) (suc k)
give_up_low t k None low = later t k low
give_up_low t k (Some A) low = record { a = omega (arith, low.a); b = omega (arith, low.b) }
give_up_low t k (Some B) low = record { a = omega (arith, low.a); b = omega (arith, low.b) }

again_low : (t : TwoHosts) (k : ℕ) (found : Option HostName) → AreBelow t k → AreBelow (after_again t found) (suc k)
again_low t k None low = later t k low
again_low t k (Some n) low = record { a = omega (arith, low.a); b = omega (arith, low.b) }

guest_low : (b : Snapshot) (t : TwoHosts) (k : ℕ) (n : HostName) (e : Event) (g : Reply) → AreBelow t k → AreBelow (guest_line_on b t n e g) (suc k)
guest_low b t k A e g low = record { a = omega (arith, low.a); b = omega (arith, low.b) }
guest_low b t k B e g low = record { a = omega (arith, low.a); b = omega (arith, low.b) }

any_low : (b : Snapshot) (t : TwoHosts) (k : ℕ) (found : Option HostName) (e : Event) (g : Reply) → AreBelow t k → AreBelow (guest_line_on_any b t found e g) (suc k)
any_low b t k None e g low = later t k low
any_low b t k (Some n) e g low = guest_low b t k n e g low

same_low : (b : Snapshot) (t : TwoHosts) (k : ℕ) (n : HostName) (e : Event) (g : Reply) → AreBelow t k → AreBelow (guest_line_on b t n e g) k
same_low b t k A e g low = record { a = low.a; b = low.b }
same_low b t k B e g low = record { a = low.a; b = low.b }

turned_low : (t : TwoHosts) (k : ℕ) (n : HostName) (g : MoveStage) (order : Option ℕ) (calls : ℕ) → AreBelow t k → AreBelow (with_host t n (record { side = record (side_at t n) { stage = g }; injected_fault = order; calls = calls })) (suc k)
turned_low t k A g order calls low = record { a = omega (arith, low.a); b = omega (arith, low.b) }
turned_low t k B g order calls low = record { a = omega (arith, low.a); b = omega (arith, low.b) }

drained_low : (b : Snapshot) (t : TwoHosts) (k : ℕ) (n : HostName) (q : Reply) → AreBelow t k → AreBelow (after_drained b t n q) (suc k)
drained_low b t k n (reply.DoneOffered number e m) low = offered_low (snapshot_after b t.history) t k n low
drained_low b t k n (reply.CancelledOffered number e m) low = offered_low (snapshot_after b t.history) t k n low
drained_low b t k n (reply.DoneLink number) low = turned_low t k n stage.Running None ((host_of t n).calls + 0) low
drained_low b t k n (reply.CancelledLink number) low = turned_low t k n stage.Running None ((host_of t n).calls + 0) low
drained_low b t k n (reply.Lost number) low = turned_low t k n stage.Running (host_of t n).injected_fault (host_of t n).calls low
drained_low b t k n q low = later t k low

work_low_at : (b : Snapshot) (t : TwoHosts) (k : ℕ) (n : HostName) (g : MoveStage) (q : Reply) → AreBelow t k → AreBelow (after_work_at b t n g q) (suc k)
work_low_at b t k n stage.Draining q low = drained_low b (guest_line_on b t n line.Work (worker_part q)) k n q (same_low b t k n line.Work (worker_part q) low)
work_low_at b t k n _ q low = guest_low b t k n line.Work q low

work_low : (b : Snapshot) (t : TwoHosts) (k : ℕ) (found : Option HostName) (q : Reply) → AreBelow t k → AreBelow (after_work b t found q) (suc k)
work_low b t k None q low = later t k low
work_low b t k (Some n) q low = work_low_at b t k n (stage_at t n) q low

line_low : (b : Snapshot) (piece : ℕ) (t : TwoHosts) (k : ℕ) (l : Event) (q : Reply) → HostsInvariant b t → AreBelow t k → AreBelow (after_line b piece t l q) (suc k)
line_low b piece t k (line.Access a) q kept low = any_low b t k (running_host t) (line.Access a) q low
line_low b piece t k line.Work q kept low = work_low b t k (working_host t) q low
line_low b piece t k line.Ask q kept low = any_low b t k (running_host t) line.Ask q low
line_low b piece t k line.Reset q kept low = any_low b t k (running_host t) line.Reset q low
line_low b piece t k (line.Fail host call) q kept low = guest_low b t k host (line.Fail host call) q low
line_low b piece t k Offer q kept low = offer_low b t k (running_host t) q low
line_low b piece t k (Deliver j) q kept low = deliver_low b piece t k (message_at t.sent j) q kept low (in_bag_sent t.sent j)
line_low b piece t k GiveUp q kept low = give_up_low t k (host_where is_leaving t) low
line_low b piece t k Again q kept low = again_low t k (host_where is_prepared t) low
line_low b piece t k (Show j) q kept low = later t k low

exchange_low : (b : Snapshot) (piece : ℕ) (t : TwoHosts) (k : ℕ) (l : Option Event) (q : Reply) → HostsInvariant b t → AreBelow t k → AreBelow (after_exchange b piece t l q) (suc k)
exchange_low b piece t k None q kept low = later t k low
exchange_low b piece t k (Some l) q kept low = line_low b piece t k l q kept low

pub run_low : (b : Snapshot) (piece : ℕ) (t : Transcript) → InTurn b piece t → AreBelow (hosts_after b piece t) (length t)
run_low b piece [] in_turn = record { a = omega arith; b = omega arith }
run_low b piece (x ∷ t) in_turn = exchange_low b piece (hosts_after b piece t) (length t) x.line x.reply (run_kept b piece t in_turn.0) (run_low b piece t in_turn.0)

-- ---- no epoch is the last

abbrev HasEpoch : Reply → Type 0
HasEpoch q = q ≢ reply.EpochEnd

some_epoch : (b : Snapshot) (t : TwoHosts) (n : HostName) → (side_at t n).top < 2 ^ 64 - 1 → HasEpoch (offer_reply b t (Some n))
some_epoch b t n low = cond_both (is_lost (phase_of b t.history)) _ _ HasEpoch (λ yes wrong. cc) (λ no.
    cond_both ((host_of t n).side.top == 2 ^ 64 - 1) _ _ HasEpoch (λ yes. absurd (let same : (side_at t n).top ≡ 2 ^ 64 - 1 = eqb-true (side_at t n).top (2 ^ 64 - 1) yes in omega (arith, same, low))) (λ no.
    cond_both (is_under_way b t.history) _ _ HasEpoch (λ yes wrong. cc) (λ no.
    cond_both (fails_at (host_of t n) 9) _ _ HasEpoch (λ yes wrong. cc) (λ no wrong. cc))))

pub epochs_last : (b : Snapshot) (piece : ℕ) (t : Transcript) → InTurn b piece t → length t < 2 ^ 64 - 1 → offer_reply b (hosts_after b piece t) (running_host (hosts_after b piece t)) ≢ reply.EpochEnd
epochs_last b piece t in_turn short =
    host_where_cases is_running (hosts_after b piece t) (λ found. HasEpoch (offer_reply b (hosts_after b piece t) found))
    (λ n is. some_epoch b (hosts_after b piece t) n (let le = low_at (hosts_after b piece t) (length t) n (run_low b piece t in_turn) in omega (arith, le, short))) (λ wrong. cc)
