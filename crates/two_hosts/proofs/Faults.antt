-- A delivery is answered by a fault exactly where the injected fault occurs in it.
use Rattle.std.proofs.Common.{◌≡◌, ℕ, ◌+◌, ◌≤◌, Bool, true, false, ◌&&◌, List, length, Option, Some, None, refl, sym, ◌∙◌, ap, ◌⊎◌, inl, inr}
use Rattle.std.specs.Prelude.{nat_lt, ◌==◌, if◌then◌else◌}
use Rattle.std.proofs.lemmas.Bool.{cond_both, le-ltb}
use Rattle.crb_history.specs.Snapshot.{Snapshot}
use Rattle.vt_base.specs.declared.types.HostName.{HostName}
use Rattle.vt_base.specs.declared.types.Reason.TheVariants.{Busy}
use Rattle.move_codec.specs.declared.names.Part.{Part}
use Rattle.move_codec.specs.declared.message.Message.{Message}
use Rattle.move_codec.specs.declared.message.Body.{Body}
use Rattle.move_codec.specs.declared.message.Body.TheVariants as body
use Rattle.move_core.specs.declared.stage.MoveStage.{MoveStage}
use Rattle.move_core.specs.declared.stage.MoveStage.TheVariants as stage
use Rattle.move_core.specs.declared.answers.Delivered.{Delivered}
use Rattle.move_core.specs.declared.answers.Delivered.TheVariants as delivers
use Rattle.move_core.specs.Sides.{is_active, total_of, part_after, first_bad}
use Rattle.move_core.specs.Messages.{is_next}
use Rattle.two_hosts.specs.Deliveries.{SideState, Outcome, DeliveryContext, delivered, on_offer, on_need, on_piece, on_prepared, on_commit, on_abort, on_refuse, takes_offer, gives, breaks_off, reaches, refuses, goes_to, ignored, calls_of_delivery, calls_at, calls_by}
use Rattle.two_hosts.specs.Hosts.{TwoHosts, host_of, context_for, fails_at}
use Rattle.vt_transcript.specs.Replies.{is_fault}
use Rattle.two_hosts.specs.Replies.{deliver_reply, delivery_reply, meets_fault}
use Rattle.two_hosts.specs.Invariant.{HostsInvariant, IsSent, side_at}
use Rattle.two_hosts.proofs.Refusals.{GoodTotals, MayBeTaken, sent_may}

module _ (me : HostName) (piece : ℕ) (offered : ℕ → Snapshot) (sent : List Message) (s : SideState) (e : ℕ) where
  abbrev x : Bool → DeliveryContext
  x fails = record { me = me; piece = piece; offered = offered; fails = fails }

  abbrev fault : Outcome → Bool
  fault after = is_fault (delivery_reply sent after.answer)

  -- ---- where no call fails

  abbrev WorkerStep : Outcome → Type 0
  WorkerStep after = fault after ≡ false

  offer_works : (totals : List ℕ) → WorkerStep (on_offer (x false) s e totals)
  offer_works totals = cond_both (nat_lt s.top e) _ _ WorkerStep (λ newer. cond_both (is_active s.stage) _ _ WorkerStep (λ active. refl) (λ passive. taken (first_bad totals))) (λ old. refl)
    where
      taken : (bad : Option ℕ) → WorkerStep (takes_offer (x false) (record s { top = e }) e totals bad)
      taken (Some bad) = refl
      taken None = refl

  need_works : (g : MoveStage) (part : Part) (offset : ℕ) → WorkerStep (on_need (x false) s g e part offset)
  need_works (stage.Offering d totals) part offset = cond_both (d == e && nat_lt offset (total_of totals part)) _ _ WorkerStep (λ yes. refl) (λ no. refl)
  need_works stage.Empty part offset = refl
  need_works stage.Running part offset = refl
  need_works stage.Draining part offset = refl
  need_works (stage.Released d) part offset = refl
  need_works (stage.Filling d totals next place) part offset = refl
  need_works (stage.Prepared d) part offset = refl

  piece_works : (g : MoveStage) (part : Part) (offset : ℕ) (bytes : List ℕ) → WorkerStep (on_piece (x false) s g e part offset bytes)
  piece_works (stage.Filling d totals next place) part offset bytes = cond_both (d == e && is_next totals next place part offset (length bytes)) _ _ WorkerStep
      (λ yes. cond_both (nat_lt (place + length bytes) (total_of totals next)) _ _ WorkerStep (λ more. refl) (λ full. full_end (part_after next))) (λ no. refl)
    where
      full_end : (next : Option Part) → WorkerStep (goes_to (x false) s e totals next)
      full_end (Some q) = refl
      full_end None = refl
  piece_works stage.Empty part offset bytes = refl
  piece_works stage.Running part offset bytes = refl
  piece_works stage.Draining part offset bytes = refl
  piece_works (stage.Offering d totals) part offset bytes = refl
  piece_works (stage.Released d) part offset bytes = refl
  piece_works (stage.Prepared d) part offset bytes = refl

  prepared_works : (g : MoveStage) → WorkerStep (on_prepared (x false) s g e)
  prepared_works (stage.Offering d totals) = cond_both (d == e) _ _ WorkerStep (λ yes. refl) (λ no. refl)
  prepared_works (stage.Released d) = cond_both (d == e) _ _ WorkerStep (λ yes. refl) (λ no. refl)
  prepared_works stage.Empty = refl
  prepared_works stage.Running = refl
  prepared_works stage.Draining = refl
  prepared_works (stage.Filling d totals part place) = refl
  prepared_works (stage.Prepared d) = refl

  commit_works : (g : MoveStage) → WorkerStep (on_commit s g e)
  commit_works (stage.Prepared d) = cond_both (d == e) _ _ WorkerStep (λ yes. refl) (λ no. refl)
  commit_works stage.Empty = refl
  commit_works stage.Running = refl
  commit_works stage.Draining = refl
  commit_works (stage.Offering d totals) = refl
  commit_works (stage.Released d) = refl
  commit_works (stage.Filling d totals part place) = refl

  abort_works : (g : MoveStage) → WorkerStep (on_abort s g e)
  abort_works (stage.Filling d totals part place) = cond_both (d == e) _ _ WorkerStep (λ yes. refl) (λ no. refl)
  abort_works (stage.Prepared d) = cond_both (d == e) _ _ WorkerStep (λ yes. refl) (λ no. refl)
  abort_works stage.Empty = refl
  abort_works stage.Running = refl
  abort_works stage.Draining = refl
  abort_works (stage.Offering d totals) = refl
  abort_works (stage.Released d) = refl

  refuse_works : (g : MoveStage) → WorkerStep (on_refuse s g e)
  refuse_works (stage.Offering d totals) = cond_both (d == e) _ _ WorkerStep (λ yes. refl) (λ no. refl)
  refuse_works stage.Empty = refl
  refuse_works stage.Running = refl
  refuse_works stage.Draining = refl
  refuse_works (stage.Released d) = refl
  refuse_works (stage.Filling d totals part place) = refl
  refuse_works (stage.Prepared d) = refl

  works : (b : Body) → WorkerStep (delivered (x false) s e b)
  works (body.Offer totals) = offer_works totals
  works (body.Need part offset) = need_works s.stage part offset
  works (body.Piece part offset bytes) = piece_works s.stage part offset bytes
  works body.Prepared = prepared_works s.stage
  works body.Commit = commit_works s.stage
  works body.Abort = abort_works s.stage
  works (body.Refuse why value) = refuse_works s.stage

  -- ---- where a call fails

  -- the first delivery makes calls, and the second, in which one of them fails, is answered by a fault
  abbrev Fails : Body → Outcome → Outcome → Type 0
  Fails b one two = nat_lt 0 (calls_at b one.side.stage one.answer) ≡ true → fault two ≡ true

  offer_by : (totals : List ℕ) (newer active : Bool) (bad : Option ℕ) → (newer ≡ false) ⊎ ((active ≡ false) × (bad ≡ None))
      → Fails (body.Offer totals) (if newer then (if active then refuses (x false) s e Busy 0 else takes_offer (x false) (record s { top = e }) e totals bad) else ignored s)
      (if newer then (if active then refuses (x true) s e Busy 0 else takes_offer (x true) (record s { top = e }) e totals bad) else ignored s)
  offer_by totals false active bad may some = absurd cc
  offer_by totals true false None may some = refl
  offer_by totals true false (Some k) (inl wrong) some = absurd cc
  offer_by totals true false (Some k) (inr wrong) some = absurd (let no : Some k ≡ None = wrong.1 in cc)
  offer_by totals true true bad (inl wrong) some = absurd cc
  offer_by totals true true bad (inr wrong) some = absurd (let no : true ≡ false = wrong.0 in cc)

  offer_fails : (totals : List ℕ) → (e ≤ s.top) ⊎ ((is_active s.stage ≡ false) × (first_bad totals ≡ None)) → Fails (body.Offer totals) (on_offer (x false) s e totals) (on_offer (x true) s e totals)
  offer_fails totals (inl late) = offer_by totals (nat_lt s.top e) (is_active s.stage) (first_bad totals) (inl (le-ltb s.top e late))
  offer_fails totals (inr may) = offer_by totals (nat_lt s.top e) (is_active s.stage) (first_bad totals) (inr may)

  need_by : (part : Part) (offset : ℕ) (c : Bool) → Fails (body.Need part offset) (if c then gives (x false) s e part offset else ignored s) (if c then gives (x true) s e part offset else ignored s)
  need_by part offset true some = refl
  need_by part offset false some = absurd cc

  need_fails : (g : MoveStage) (part : Part) (offset : ℕ) → Fails (body.Need part offset) (on_need (x false) s g e part offset) (on_need (x true) s g e part offset)
  need_fails (stage.Offering d totals) part offset some = need_by part offset (d == e && nat_lt offset (total_of totals part)) some
  need_fails stage.Empty part offset some = absurd cc
  need_fails stage.Running part offset some = absurd cc
  need_fails stage.Draining part offset some = absurd cc
  need_fails (stage.Released d) part offset some = absurd cc
  need_fails (stage.Filling d totals next place) part offset some = absurd cc
  need_fails (stage.Prepared d) part offset some = absurd cc

  piece_by : (part : Part) (offset : ℕ) (bytes totals : List ℕ) (next : Part) (place : ℕ) (c : Bool) → Fails (body.Piece part offset bytes) (if c then reaches (x false) s e totals next place else ignored s) (if c then breaks_off (x true) s e else ignored s)
  piece_by part offset bytes totals next place true some = refl
  piece_by part offset bytes totals next place false some = absurd cc

  piece_fails : (g : MoveStage) (part : Part) (offset : ℕ) (bytes : List ℕ) → Fails (body.Piece part offset bytes) (on_piece (x false) s g e part offset bytes) (on_piece (x true) s g e part offset bytes)
  piece_fails (stage.Filling d totals next place) part offset bytes some = piece_by part offset bytes totals next (place + length bytes) (d == e && is_next totals next place part offset (length bytes)) some
  piece_fails stage.Empty part offset bytes some = absurd cc
  piece_fails stage.Running part offset bytes some = absurd cc
  piece_fails stage.Draining part offset bytes some = absurd cc
  piece_fails (stage.Offering d totals) part offset bytes some = absurd cc
  piece_fails (stage.Released d) part offset bytes some = absurd cc
  piece_fails (stage.Prepared d) part offset bytes some = absurd cc

  no_calls : (b : Body) (g : MoveStage) (a : Delivered) → calls_by b g ≡ 0 → calls_at b g a ≡ 0
  no_calls b g delivers.Ignored is = refl
  no_calls b g delivers.Took is = is
  no_calls b g (delivers.Sent m) is = is
  no_calls b g delivers.Runs is = is
  no_calls b g delivers.Resumed is = is
  no_calls b g (delivers.Refused m) is = is
  no_calls b g (delivers.Wires f) is = is

  without_calls : (b : Body) (one two : Outcome) → calls_by b one.side.stage ≡ 0 → Fails b one two
  without_calls b one two is some = absurd (let wrong : nat_lt 0 0 ≡ true = sym (ap (nat_lt 0) (no_calls b one.side.stage one.answer is)) ∙ some in cc)

  fails : (b : Body) → MayBeTaken s e b → Fails b (delivered (x false) s e b) (delivered (x true) s e b)
  fails (body.Offer totals) may = offer_fails totals may
  fails (body.Need part offset) may = need_fails s.stage part offset
  fails (body.Piece part offset bytes) may = piece_fails s.stage part offset bytes
  fails body.Prepared may = without_calls body.Prepared (delivered (x false) s e body.Prepared) (delivered (x true) s e body.Prepared) refl
  fails body.Commit may = without_calls body.Commit (delivered (x false) s e body.Commit) (delivered (x true) s e body.Commit) refl
  fails body.Abort may = without_calls body.Abort (delivered (x false) s e body.Abort) (delivered (x true) s e body.Abort) refl
  fails (body.Refuse why value) may = without_calls (body.Refuse why value) (delivered (x false) s e (body.Refuse why value)) (delivered (x true) s e (body.Refuse why value)) refl

  -- whether the call of a delivery fails, by whether the injected fault is reached
  pub fault_is : (b : Body) (reached : Bool) → MayBeTaken s e b
      → fault (delivered (x (nat_lt 0 (calls_of_delivery (x false) s e b) && reached)) s e b) ≡ (nat_lt 0 (calls_of_delivery (x false) s e b) && reached)
  fault_is b reached may = go (nat_lt 0 (calls_of_delivery (x false) s e b)) refl reached
    where
      go : (some : Bool) → nat_lt 0 (calls_of_delivery (x false) s e b) ≡ some → (reached : Bool) → fault (delivered (x (some && reached)) s e b) ≡ (some && reached)
      go false is reached = works b
      go true is true = fails b may is
      go true is false = works b

pub faults_are_met : (b : Snapshot) (piece : ℕ) (t : TwoHosts) (m : Message) → HostsInvariant b t → GoodTotals t.offered → IsSent t.sent m → is_fault (deliver_reply piece t (Some m)) ≡ meets_fault piece t m
faults_are_met b piece t m kept good is =
    fault_is m.to piece t.offered t.sent (side_at t m.to) m.epoch m.body (fails_at (host_of t m.to) (calls_of_delivery (context_for piece t m.to false) (side_at t m.to) m.epoch m.body)) (sent_may b t m kept good is)
