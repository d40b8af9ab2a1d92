-- What a delivery may do to the receiver's side, and what it then answers.
use Rattle.std.proofs.Common.{◌≡◌, ℕ, ◌+◌, ◌⊎◌, inl, inr, Bool, true, false, ◌&&◌, List, length, Option, Some, None, refl, ◌∙◌, ap}
use Rattle.std.specs.Prelude.{nat_lt, ◌==◌}
use Rattle.std.proofs.lemmas.Bool.{cond_both, eqb-true}
use Rattle.move_codec.specs.declared.names.Part.{Part}
use Rattle.move_codec.specs.declared.message.Body.{Body}
use Rattle.move_codec.specs.declared.message.Body.TheVariants as body
use Rattle.move_core.specs.declared.stage.MoveStage.{MoveStage}
use Rattle.move_core.specs.declared.stage.MoveStage.TheVariants as stage
use Rattle.move_core.specs.declared.side.Side.{Side}
use Rattle.move_core.specs.declared.side.Side.TheVariants.{Empty, Running, Draining, Offering, Released, Filling, Prepared}
use Rattle.move_core.specs.declared.answers.Delivered.{Delivered}
use Rattle.move_core.specs.declared.answers.Delivered.TheVariants as delivers
use Rattle.move_core.specs.Sides.{side_of, is_draining, is_active, total_of, part_after, first_bad}
use Rattle.move_core.specs.Messages.{is_next}
use Rattle.crb_history.specs.Snapshot.{Snapshot}
use Rattle.vt_base.specs.declared.types.HostName.{HostName}
use Rattle.two_hosts.specs.Deliveries.{on_offer, SideState, Outcome, DeliveryContext, ignored, delivered, takes_offer, gives, on_need, goes_to, reaches, on_piece, on_prepared, on_commit, on_abort, on_refuse}
use Rattle.two_hosts.specs.Hosts.{is_working}
use Rattle.two_hosts.specs.Invariant.{shown_side}

-- the guest runs on this side, or its worker goes on
abbrev pub runs_on : Side → Bool
runs_on Running = true
runs_on Draining = true
runs_on _ = false

abbrev pub active_on : Side → Bool
active_on Running = true
active_on Draining = true
active_on (Offering e) = true
active_on _ = false

abbrev pub drains_on : Side → Bool
drains_on Draining = true
drains_on _ = false

pub working_on : (s : MoveStage) → is_working s ≡ runs_on (side_of s)
working_on stage.Empty = refl
working_on stage.Running = refl
working_on stage.Draining = refl
working_on (stage.Offering e totals) = refl
working_on (stage.Released e) = refl
working_on (stage.Filling e totals part place) = refl
working_on (stage.Prepared e) = refl

pub draining_on : (s : MoveStage) → is_draining s ≡ drains_on (side_of s)
draining_on stage.Empty = refl
draining_on stage.Running = refl
draining_on stage.Draining = refl
draining_on (stage.Offering e totals) = refl
draining_on (stage.Released e) = refl
draining_on (stage.Filling e totals part place) = refl
draining_on (stage.Prepared e) = refl

pub is_active_on : (s : MoveStage) → is_active s ≡ active_on (side_of s)
is_active_on stage.Empty = refl
is_active_on stage.Running = refl
is_active_on stage.Draining = refl
is_active_on (stage.Offering e totals) = refl
is_active_on (stage.Released e) = refl
is_active_on (stage.Filling e totals part place) = refl
is_active_on (stage.Prepared e) = refl

-- neither Runs nor Resumed
abbrev pub IsQuiet : Delivered → Type 0
IsQuiet delivers.Runs = ⊥
IsQuiet delivers.Resumed = ⊥
IsQuiet _ = Unit {0}

abbrev pub IsWaiting : Side → Type 0
IsWaiting Empty = Unit {0}
IsWaiting (Filling e) = Unit {0}
IsWaiting (Prepared e) = Unit {0}
IsWaiting _ = ⊥

pub data Shift (s : SideState) (after : Outcome) : Type 0 where
  same : shown_side after.side ≡ shown_side s → IsQuiet after.answer → Shift s after
  waits : active_on (shown_side s) ≡ false → IsWaiting (shown_side after.side) → IsQuiet after.answer → Shift s after
  releases : (e : ℕ) → shown_side s ≡ Offering e → shown_side after.side ≡ Released e → IsQuiet after.answer → Shift s after
  runs : (e : ℕ) → shown_side s ≡ Prepared e → shown_side after.side ≡ Running → after.answer ≡ delivers.Runs → Shift s after
  resumes : (e : ℕ) → shown_side s ≡ Offering e → shown_side after.side ≡ Running → after.answer ≡ delivers.Resumed → Shift s after

stays : (s : SideState) → Shift s (ignored s)
stays s = same refl tt

offer_taken : (x : DeliveryContext) (s : SideState) (e : ℕ) (totals : List ℕ) (bad : Option ℕ) → active_on (shown_side s) ≡ false → Shift s (takes_offer x (record s { top = e }) e totals bad)
offer_taken x s e totals (Some bad) passive = waits passive tt tt
offer_taken x s e totals None passive = cond_both x.fails _ _ (Shift s) (λ yes. waits passive tt tt) (λ no. waits passive tt tt)

piece_given : (x : DeliveryContext) (s : SideState) (e : ℕ) (part : Part) (offset : ℕ) → Shift s (gives x s e part offset)
piece_given x s e part offset = cond_both x.fails _ _ (Shift s) (λ yes. same refl tt) (λ no. same refl tt)

need_shift : (x : DeliveryContext) (g : MoveStage) (s : SideState) (e : ℕ) (part : Part) (offset : ℕ) → Shift s (on_need x s g e part offset)
need_shift x (stage.Offering d totals) s e part offset = cond_both (d == e && nat_lt offset (total_of totals part)) _ _ (Shift s) (λ yes. piece_given x s e part offset) (λ no. stays s)
need_shift x stage.Empty s e part offset = stays s
need_shift x stage.Running s e part offset = stays s
need_shift x stage.Draining s e part offset = stays s
need_shift x (stage.Released d) s e part offset = stays s
need_shift x (stage.Filling d totals next place) s e part offset = stays s
need_shift x (stage.Prepared d) s e part offset = stays s

filled_on : (x : DeliveryContext) (s : SideState) (e : ℕ) (totals : List ℕ) (next : Option Part) → active_on (shown_side s) ≡ false → Shift s (goes_to x s e totals next)
filled_on x s e totals (Some q) passive = waits passive tt tt
filled_on x s e totals None passive = waits passive tt tt

piece_taken : (x : DeliveryContext) (s : SideState) (e : ℕ) (totals : List ℕ) (next : Part) (place : ℕ) → active_on (shown_side s) ≡ false → Shift s (reaches x s e totals next place)
piece_taken x s e totals next place passive = cond_both (nat_lt place (total_of totals next)) _ _ (Shift s) (λ more. waits passive tt tt) (λ full. filled_on x s e totals (part_after next) passive)

piece_shift : (x : DeliveryContext) (g : MoveStage) (s : SideState) (e : ℕ) (part : Part) (offset : ℕ) (bytes : List ℕ) → s.stage ≡ g → Shift s (on_piece x s g e part offset bytes)
piece_shift x (stage.Filling d totals next place) s e part offset bytes is =
    let passive : active_on (shown_side s) ≡ false = ap (λ g. active_on (side_of g)) is in
    cond_both (d == e && is_next totals next place part offset (length bytes)) _ _ (Shift s)
    (λ yes. cond_both x.fails _ _ (Shift s) (λ fails. waits passive tt tt) (λ works. piece_taken x s e totals next (place + length bytes) passive)) (λ no. stays s)
piece_shift x stage.Empty s e part offset bytes is = stays s
piece_shift x stage.Running s e part offset bytes is = stays s
piece_shift x stage.Draining s e part offset bytes is = stays s
piece_shift x (stage.Offering d totals) s e part offset bytes is = stays s
piece_shift x (stage.Released d) s e part offset bytes is = stays s
piece_shift x (stage.Prepared d) s e part offset bytes is = stays s

prepared_shift : (x : DeliveryContext) (g : MoveStage) (s : SideState) (e : ℕ) → s.stage ≡ g → Shift s (on_prepared x s g e)
prepared_shift x (stage.Offering d totals) s e is = cond_both (d == e) _ _ (Shift s) (λ yes. releases e (ap side_of is ∙ ap Offering (eqb-true d e yes)) refl tt) (λ no. stays s)
prepared_shift x (stage.Released d) s e is = cond_both (d == e) _ _ (Shift s) (λ yes. same refl tt) (λ no. stays s)
prepared_shift x stage.Empty s e is = stays s
prepared_shift x stage.Running s e is = stays s
prepared_shift x stage.Draining s e is = stays s
prepared_shift x (stage.Filling d totals next place) s e is = stays s
prepared_shift x (stage.Prepared d) s e is = stays s

commit_shift : (g : MoveStage) (s : SideState) (e : ℕ) → s.stage ≡ g → Shift s (on_commit s g e)
commit_shift (stage.Prepared d) s e is = cond_both (d == e) _ _ (Shift s) (λ yes. runs d (ap side_of is) refl refl) (λ no. stays s)
commit_shift stage.Empty s e is = stays s
commit_shift stage.Running s e is = stays s
commit_shift stage.Draining s e is = stays s
commit_shift (stage.Offering d totals) s e is = stays s
commit_shift (stage.Released d) s e is = stays s
commit_shift (stage.Filling d totals next place) s e is = stays s

abort_shift : (g : MoveStage) (s : SideState) (e : ℕ) → s.stage ≡ g → Shift s (on_abort s g e)
abort_shift (stage.Filling d totals next place) s e is = cond_both (d == e) _ _ (Shift s) (λ yes. waits (ap (λ g. active_on (side_of g)) is) tt tt) (λ no. stays s)
abort_shift (stage.Prepared d) s e is = cond_both (d == e) _ _ (Shift s) (λ yes. waits (ap (λ g. active_on (side_of g)) is) tt tt) (λ no. stays s)
abort_shift stage.Empty s e is = stays s
abort_shift stage.Running s e is = stays s
abort_shift stage.Draining s e is = stays s
abort_shift (stage.Offering d totals) s e is = stays s
abort_shift (stage.Released d) s e is = stays s

refuse_shift : (g : MoveStage) (s : SideState) (e : ℕ) → s.stage ≡ g → Shift s (on_refuse s g e)
refuse_shift (stage.Offering d totals) s e is = cond_both (d == e) _ _ (Shift s) (λ yes. resumes d (ap side_of is) refl refl) (λ no. stays s)
refuse_shift stage.Empty s e is = stays s
refuse_shift stage.Running s e is = stays s
refuse_shift stage.Draining s e is = stays s
refuse_shift (stage.Released d) s e is = stays s
refuse_shift (stage.Filling d totals next place) s e is = stays s
refuse_shift (stage.Prepared d) s e is = stays s

-- a delivery leaves the side, or goes one of these ways
pub shift : (x : DeliveryContext) (s : SideState) (e : ℕ) (b : Body) → Shift s (delivered x s e b)
shift x s e (body.Offer totals) = cond_both (nat_lt s.top e) _ _ (Shift s)
    (λ newer. cond_both (is_active s.stage) _ _ (Shift s) (λ active. same refl tt) (λ passive. offer_taken x s e totals (first_bad totals) (is_active_off s.stage passive))) (λ old. stays s)
  where
    is_active_off : (g : MoveStage) → is_active g ≡ false → active_on (side_of g) ≡ false
    is_active_off stage.Empty off = refl
    is_active_off (stage.Released d) off = refl
    is_active_off (stage.Filling d totals next place) off = refl
    is_active_off (stage.Prepared d) off = refl
    is_active_off stage.Running off = off
    is_active_off stage.Draining off = off
    is_active_off (stage.Offering d totals) off = off
shift x s e (body.Need part offset) = need_shift x s.stage s e part offset
shift x s e (body.Piece part offset bytes) = piece_shift x s.stage s e part offset bytes refl
shift x s e body.Prepared = prepared_shift x s.stage s e refl
shift x s e body.Commit = commit_shift s.stage s e refl
shift x s e body.Abort = abort_shift s.stage s e refl
shift x s e (body.Refuse why value) = refuse_shift s.stage s e refl

-- ---- the answer by whether a call fails

abbrev QuietEnd : Outcome → Type 0
QuietEnd after = IsQuiet after.answer

quiet_offer : (x : DeliveryContext) (s : SideState) (e : ℕ) (totals : List ℕ) → QuietEnd (on_offer x s e totals)
quiet_offer x s e totals = cond_both (nat_lt s.top e) _ _ QuietEnd (λ newer. cond_both (is_active s.stage) _ _ QuietEnd (λ active. tt) (λ passive. taken (first_bad totals))) (λ old. tt)
  where
    taken : (bad : Option ℕ) → QuietEnd (takes_offer x (record s { top = e }) e totals bad)
    taken (Some bad) = tt
    taken None = cond_both x.fails _ _ QuietEnd (λ yes. tt) (λ no. tt)

quiet_need : (x : DeliveryContext) (g : MoveStage) (s : SideState) (e : ℕ) (part : Part) (offset : ℕ) → QuietEnd (on_need x s g e part offset)
quiet_need x (stage.Offering d totals) s e part offset = cond_both (d == e && nat_lt offset (total_of totals part)) _ _ QuietEnd (λ yes. cond_both x.fails _ _ QuietEnd (λ fails. tt) (λ works. tt)) (λ no. tt)
quiet_need x stage.Empty s e part offset = tt
quiet_need x stage.Running s e part offset = tt
quiet_need x stage.Draining s e part offset = tt
quiet_need x (stage.Released d) s e part offset = tt
quiet_need x (stage.Filling d totals next place) s e part offset = tt
quiet_need x (stage.Prepared d) s e part offset = tt

quiet_piece : (x : DeliveryContext) (g : MoveStage) (s : SideState) (e : ℕ) (part : Part) (offset : ℕ) (bytes : List ℕ) → QuietEnd (on_piece x s g e part offset bytes)
quiet_piece x (stage.Filling d totals next place) s e part offset bytes = cond_both (d == e && is_next totals next place part offset (length bytes)) _ _ QuietEnd
    (λ yes. cond_both x.fails _ _ QuietEnd (λ fails. tt) (λ works. cond_both (nat_lt (place + length bytes) (total_of totals next)) _ _ QuietEnd (λ more. tt) (λ full. full_end (part_after next)))) (λ no. tt)
  where
    full_end : (next : Option Part) → QuietEnd (goes_to x s e totals next)
    full_end (Some q) = tt
    full_end None = tt
quiet_piece x stage.Empty s e part offset bytes = tt
quiet_piece x stage.Running s e part offset bytes = tt
quiet_piece x stage.Draining s e part offset bytes = tt
quiet_piece x (stage.Offering d totals) s e part offset bytes = tt
quiet_piece x (stage.Released d) s e part offset bytes = tt
quiet_piece x (stage.Prepared d) s e part offset bytes = tt

module _ (me : HostName) (piece : ℕ) (offered : ℕ → Snapshot) (f g : Bool) where
  abbrev x : Bool → DeliveryContext
  x fails = record { me = me; piece = piece; offered = offered; fails = fails }

  same_prepared : (s : SideState) (k : MoveStage) (e : ℕ) → (on_prepared (x f) s k e).answer ≡ (on_prepared (x g) s k e).answer
  same_prepared s stage.Empty e = refl
  same_prepared s stage.Running e = refl
  same_prepared s stage.Draining e = refl
  same_prepared s (stage.Offering d totals) e = refl
  same_prepared s (stage.Released d) e = refl
  same_prepared s (stage.Filling d totals part place) e = refl
  same_prepared s (stage.Prepared d) e = refl

  -- whether a call fails or not, the answer is the same, or neither says that a host runs
  pub quiet_or_same : (s : SideState) (e : ℕ) (b : Body) → ((delivered (x f) s e b).answer ≡ (delivered (x g) s e b).answer) ⊎ (IsQuiet (delivered (x f) s e b).answer × IsQuiet (delivered (x g) s e b).answer)
  quiet_or_same s e (body.Offer totals) = inr (quiet_offer (x f) s e totals, quiet_offer (x g) s e totals)
  quiet_or_same s e (body.Need part offset) = inr (quiet_need (x f) s.stage s e part offset, quiet_need (x g) s.stage s e part offset)
  quiet_or_same s e (body.Piece part offset bytes) = inr (quiet_piece (x f) s.stage s e part offset bytes, quiet_piece (x g) s.stage s e part offset bytes)
  quiet_or_same s e body.Prepared = inl (same_prepared s s.stage e)
  quiet_or_same s e body.Commit = inl refl
  quiet_or_same s e body.Abort = inl refl
  quiet_or_same s e (body.Refuse why value) = inl refl
