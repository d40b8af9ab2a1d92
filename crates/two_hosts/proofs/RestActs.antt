-- What is kept where the host that doesn't hold gets a message or says again that it is prepared.
use Rattle.std.proofs.Common.{◌≡◌, ◌≢◌, ℕ, ◌+◌, ◌≤◌, ◌<◌, ◌⊎◌, inl, inr, Bool, true, ◌&&◌, List, [], ◌∷◌, ◌++◌, length, Option, Some, None, refl, sym, ◌∙◌, ap, subst, arith, append-nil}
use Rattle.std.specs.Prelude.{nat_lt, ◌==◌}
use Rattle.std.proofs.lemmas.Bool.{cond_both, eqb-true, ltb-true, and_parts}
use Rattle.crb_history.specs.Snapshot.{Snapshot}
use Rattle.vt_base.specs.declared.types.HostName.{HostName}
use Rattle.vt_base.specs.declared.types.Reason.{Reason}
use Rattle.vt_base.specs.declared.types.Reason.TheVariants as reason
use Rattle.move_codec.specs.declared.names.Part.{Part}
use Rattle.move_codec.specs.declared.names.Part.TheVariants.{Record}
use Rattle.move_codec.specs.declared.message.Message.{Message}
use Rattle.move_codec.specs.declared.message.Body.{Body}
use Rattle.move_codec.specs.declared.message.Body.TheVariants as body
use Rattle.move_core.specs.declared.stage.MoveStage.{MoveStage}
use Rattle.move_core.specs.declared.stage.MoveStage.TheVariants as stage
use Rattle.move_core.specs.declared.side.Side.{Side}
use Rattle.move_core.specs.declared.side.Side.TheVariants.{Empty, Running, Draining, Offering, Released, Filling, Prepared}
use Rattle.move_core.specs.Sides.{is_active, total_of, side_of, part_after, first_bad}
use Rattle.move_core.specs.Messages.{message_from, is_next}
use Rattle.two_hosts.specs.Parts.{totals_of}
use Rattle.two_hosts.specs.Deliveries.{SideState, Outcome, DeliveryContext, ignored as ignores, delivered, on_offer, on_need, on_piece, on_prepared, on_commit, on_abort, on_refuse, takes_offer, reaches, goes_to, at_stage}
use Rattle.two_hosts.specs.Hosts.{message_in}
use Rattle.two_hosts.specs.Invariant.{shown_side, IsPassive, IsAwaiting, IsHolder, MatchesOffer, Sides, Says, Clash, PairInvariant}
use Rattle.two_hosts.proofs.Frames.{Carries, kept_quiet, kept_sent}

-- what is kept after an answer of the host that doesn't hold
pub record RestLed (n k : HostName) (x : SideState) (offered : ℕ → Snapshot) (Present : Snapshot → Type 0) (sent : List Message) (after : Outcome) : Type 0 where
  pub led : PairInvariant n k x after.side offered Present (sent ++ message_in after.answer)

-- the top of a host on such a side
pub released_top : (offered : ℕ → Snapshot) (s : MoveStage) (top e : ℕ) → side_of s ≡ Released e → MatchesOffer offered s top → top ≡ e
released_top offered (stage.Released d) top e at seated = let same : d ≡ e = cc in seated ∙ same
released_top offered stage.Empty top e at seated = absurd cc
released_top offered stage.Running top e at seated = absurd cc
released_top offered stage.Draining top e at seated = absurd cc
released_top offered (stage.Offering d totals) top e at seated = absurd cc
released_top offered (stage.Filling d totals part place) top e at seated = absurd cc
released_top offered (stage.Prepared d) top e at seated = absurd cc

pub prepared_top : (offered : ℕ → Snapshot) (s : MoveStage) (top e : ℕ) → side_of s ≡ Prepared e → MatchesOffer offered s top → top ≡ e
prepared_top offered (stage.Prepared d) top e at seated = let same : d ≡ e = cc in seated ∙ same
prepared_top offered stage.Empty top e at seated = absurd cc
prepared_top offered stage.Running top e at seated = absurd cc
prepared_top offered stage.Draining top e at seated = absurd cc
prepared_top offered (stage.Offering d totals) top e at seated = absurd cc
prepared_top offered (stage.Filling d totals part place) top e at seated = absurd cc
prepared_top offered (stage.Released d) top e at seated = absurd cc

pub offering_top : (offered : ℕ → Snapshot) (s : MoveStage) (top e : ℕ) → side_of s ≡ Offering e → MatchesOffer offered s top → top ≡ e
offering_top offered (stage.Offering d totals) top e at seated = let same : d ≡ e = cc in seated.0 ∙ same
offering_top offered stage.Empty top e at seated = absurd cc
offering_top offered stage.Running top e at seated = absurd cc
offering_top offered stage.Draining top e at seated = absurd cc
offering_top offered (stage.Prepared d) top e at seated = absurd cc
offering_top offered (stage.Filling d totals part place) top e at seated = absurd cc
offering_top offered (stage.Released d) top e at seated = absurd cc

module _ (n k : HostName) (x y : SideState) (offered : ℕ → Snapshot) (Present : Snapshot → Type 0) (sent : List Message) (old : PairInvariant n k x y offered Present sent) where
  -- the holder runs, drains or offers, where the other host isn't Released
  pub holds_on : (s t : Side) → shown_side x ≡ s → shown_side y ≢ Released x.top → IsPassive t → ((e : ℕ) → t ≢ Released e) → IsHolder s t
  holds_on Running t is left passive new = passive
  holds_on Draining t is left passive new = passive
  holds_on (Offering e) t is left passive new = (passive, new e)
  holds_on (Prepared e) t is left passive new =
      let holds : shown_side y ≡ Released e = rw is at old.sides.holds in
      absurd (left (holds ∙ ap Released (sym (prepared_top offered x.stage x.top e is old.sides.holder))))
  holds_on Empty t is left passive new = absurd (let wrong : ⊥ = rw is at old.sides.holds in wrong)
  holds_on (Released e) t is left passive new = absurd (let wrong : ⊥ = rw is at old.sides.holds in wrong)
  holds_on (Filling e) t is left passive new = absurd (let wrong : ⊥ = rw is at old.sides.holds in wrong)

  pub never_active : (s : Side) → shown_side x ≡ s → shown_side y ≡ Running ⊎ ((shown_side y ≡ Draining) ⊎ ((e : ℕ) × (shown_side y ≡ Offering e))) → ⊥
  never_active Running is (inl at) = let wrong : ⊥ = rw (is, at) at old.sides.holds in wrong
  never_active Running is (inr (inl at)) = let wrong : ⊥ = rw (is, at) at old.sides.holds in wrong
  never_active Running is (inr (inr at)) = let wrong : ⊥ = rw (is, at.1) at old.sides.holds in wrong
  never_active Draining is (inl at) = let wrong : ⊥ = rw (is, at) at old.sides.holds in wrong
  never_active Draining is (inr (inl at)) = let wrong : ⊥ = rw (is, at) at old.sides.holds in wrong
  never_active Draining is (inr (inr at)) = let wrong : ⊥ = rw (is, at.1) at old.sides.holds in wrong
  never_active (Offering e) is (inl at) = let wrong : ⊥ × (Running ≢ Released e) = rw (is, at) at old.sides.holds in wrong.0
  never_active (Offering e) is (inr (inl at)) = let wrong : ⊥ × (Draining ≢ Released e) = rw (is, at) at old.sides.holds in wrong.0
  never_active (Offering e) is (inr (inr at)) = let wrong : ⊥ × (Offering at.0 ≢ Released e) = rw (is, at.1) at old.sides.holds in wrong.0
  never_active (Prepared e) is (inl at) = let holds : shown_side y ≡ Released e = rw is at old.sides.holds in cc
  never_active (Prepared e) is (inr (inl at)) = let holds : shown_side y ≡ Released e = rw is at old.sides.holds in cc
  never_active (Prepared e) is (inr (inr at)) = let holds : shown_side y ≡ Released e = rw is at old.sides.holds in cc
  never_active Empty is at = let wrong : ⊥ = rw is at old.sides.holds in wrong
  never_active (Released e) is at = let wrong : ⊥ = rw is at old.sides.holds in wrong
  never_active (Filling e) is at = let wrong : ⊥ = rw is at old.sides.holds in wrong

  -- a prepared host says so again
  pub said_again : (e : ℕ) → y.stage ≡ stage.Prepared e → PairInvariant n k x y offered Present (sent ++ message_from k e body.Prepared ∷ [])
  said_again e is =
      let at : shown_side y ≡ Prepared e = ap side_of is in
      kept_sent old old.sides (record { top = omega arith; parts = λ e le. refl; prepared = λ to e le h. h; commit = λ to e le h. h; abort = λ to e le h. h }) _
      (record { epoch = omega (arith, old.sides.order, prepared_top offered y.stage y.top e at old.sides.rest); says = λ own offers. at }) (λ d f clash. absurd clash)

  -- the host that doesn't hold never runs, drains or offers
  pub rests : (s : Side) → shown_side y ≡ s → IsPassive s
  rests Empty is = tt
  rests (Released e) is = tt
  rests (Filling e) is = tt
  rests (Prepared e) is = tt
  rests Running is = absurd (never_active (shown_side x) refl (inl is))
  rests Draining is = absurd (never_active (shown_side x) refl (inr (inl is)))
  rests (Offering e) is = absurd (never_active (shown_side x) refl (inr (inr (e, is))))

module _ (n k : HostName) (x y : SideState) (offered : ℕ → Snapshot) (Present : Snapshot → Type 0) (sent : List Message) (old : PairInvariant n k x y offered Present sent) (piece : ℕ) (fails : Bool) where
  abbrev r : DeliveryContext
  r = record { me = k; piece = piece; offered = offered; fails = fails }

  abbrev Led : Outcome → Type 0
  Led after = RestLed n k x offered Present sent after

  abbrev holds_still : (s t : Side) → shown_side x ≡ s → shown_side y ≢ Released x.top → IsPassive t → ((e : ℕ) → t ≢ Released e) → IsHolder s t
  holds_still = holds_on n k x y offered Present sent old

  abbrev never : shown_side y ≡ Running ⊎ ((shown_side y ≡ Draining) ⊎ ((e : ℕ) × (shown_side y ≡ Offering e))) → ⊥
  never = never_active n k x y offered Present sent old (shown_side x) refl

  ignored : Led (ignores y)
  ignored = record { led = rw append-nil old }

  unchanged : Carries n k n k x y x y offered offered
  unchanged = record { top = omega arith; parts = λ e le. refl; prepared = λ to e le h. h; commit = λ to e le h. h; abort = λ to e le h. h }

  -- an offer that is newer than all that the host has seen
  module _ (e : ℕ) (newer : y.top < e) (le : e ≤ x.top) where
    not_released : shown_side y ≢ Released x.top
    not_released is = let top = released_top offered y.stage y.top x.top is old.sides.rest in absurd (omega (arith, top))

    offer_carries : (z : SideState) → z.top ≡ e → ((d : ℕ) → shown_side z ≢ Released d) → Carries n k n k x y x z offered offered
    offer_carries z same new = record {
      top = omega arith;
      parts = λ d at. refl;
      prepared = λ to d at h own offers.
          let mine = offering_top offered x.stage x.top d offers old.sides.holder in
          let theirs = prepared_top offered y.stage y.top d (h own offers) old.sides.rest in
          absurd (omega (arith, mine, theirs));
      commit = λ to d at h. (h.0, λ own. let stated : (d ≤ y.top) × (IsAwaiting (shown_side y) → d < y.top) = h.1 own in (omega arith, λ waits. omega arith));
      abort = λ to d at h. (h.0, λ wrong. new d wrong);
    }

    refused_led : (why : Reason) (value : ℕ) → PairInvariant n k x (record { stage = stage.Empty; top = e }) offered Present (sent ++ message_from k e (body.Refuse why value) ∷ [])
    refused_led why value = kept_sent old
        (record { holds = holds_still (shown_side x) Empty refl not_released tt (λ d wrong. absurd cc); order = le; holder = old.sides.holder; rest = tt; same = old.sides.same })
        (offer_carries (record { stage = stage.Empty; top = e }) refl (λ d wrong. absurd cc)) _ (record { epoch = le; says = tt }) (λ d f clash. absurd clash)

    fills_led : (totals : List ℕ) → totals ≡ totals_of (offered e) → PairInvariant n k x (record { stage = stage.Filling e totals Record 0; top = e }) offered Present (sent ++ message_from k e (body.Need Record 0) ∷ [])
    fills_led totals stated = kept_sent old
        (record { holds = holds_still (shown_side x) (Filling e) refl not_released tt (λ d wrong. absurd cc); order = le; holder = old.sides.holder; rest = (refl, stated); same = old.sides.same })
        (offer_carries (record { stage = stage.Filling e totals Record 0; top = e }) refl (λ d wrong. absurd cc)) _ (record { epoch = le; says = tt }) (λ d f clash. absurd clash)

    takes_led : (totals : List ℕ) (bad : Option ℕ) → totals ≡ totals_of (offered e) → Led (takes_offer r (record y { top = e }) e totals bad)
    takes_led totals (Some bad) stated = record { led = refused_led reason.Totals bad }
    takes_led totals None stated = cond_both fails _ _ Led (λ yes. record { led = refused_led reason.Link 0 }) (λ no. record { led = fills_led totals stated })

  busy_led : (e : ℕ) (why : Reason) (value : ℕ) → e ≤ x.top → PairInvariant n k x y offered Present (sent ++ message_from k e (body.Refuse why value) ∷ [])
  busy_led e why value le = kept_sent old old.sides unchanged _ (record { epoch = le; says = tt }) (λ d f clash. absurd clash)

  offer_led : (e : ℕ) (totals : List ℕ) → e ≤ x.top → totals ≡ totals_of (offered e) → Led (on_offer r y e totals)
  offer_led e totals le stated = cond_both (nat_lt y.top e) _ _ Led
      (λ yes. cond_both (is_active y.stage) _ _ Led (λ active. record { led = busy_led e reason.Busy 0 le }) (λ passive. takes_led e (ltb-true y.top e yes) le totals (first_bad totals) stated))
      (λ no. ignored)

  need_led : (s : MoveStage) (e : ℕ) (part : Part) (offset : ℕ) → y.stage ≡ s → Led (on_need r y s e part offset)
  need_led (stage.Offering epoch totals) e part offset is = absurd (never (inr (inr (epoch, ap side_of is))))
  need_led stage.Empty e part offset is = ignored
  need_led stage.Running e part offset is = ignored
  need_led stage.Draining e part offset is = ignored
  need_led (stage.Released epoch) e part offset is = ignored
  need_led (stage.Filling epoch totals next place) e part offset is = ignored
  need_led (stage.Prepared epoch) e part offset is = ignored

  -- a host that fills gives up what it has, fills more of it, or has it whole
  module _ (e : ℕ) (totals : List ℕ) (next : Part) (place : ℕ) (at_is : y.stage ≡ stage.Filling e totals next place) where
    fills : shown_side y ≡ Filling e
    fills = ap side_of at_is

    filling : (y.top ≡ e) × (totals ≡ totals_of (offered e))
    filling = subst (λ s. MatchesOffer offered s y.top) at_is old.sides.rest

    unreleased : shown_side y ≢ Released x.top
    unreleased wrong = absurd cc

    piece_carries : (h : SideState) → h.top ≡ y.top → ((d : ℕ) → shown_side h ≢ Released d) → Carries n k n k x y x h offered offered
    piece_carries h same new = record {
      top = omega arith;
      parts = λ d at. refl;
      prepared = λ to d at says own offers. absurd (let stated : shown_side y ≡ Prepared d = says own offers in cc);
      commit = λ to d at says. (says.0, λ own. let stated : (d ≤ y.top) × (IsAwaiting (shown_side y) → d < y.top) = says.1 own in let later : d < y.top = stated.1 (rw fills tt) in (omega arith, λ waits. omega arith));
      abort = λ to d at says. (says.0, λ wrong. new d wrong);
    }

    piece_sides : (h : SideState) → h.top ≡ y.top → IsPassive (shown_side h) → ((d : ℕ) → shown_side h ≢ Released d) → MatchesOffer offered h.stage h.top → Sides x h offered Present
    piece_sides h same passive new seated = record { holds = holds_still (shown_side x) (shown_side h) refl unreleased passive new; order = omega (arith, old.sides.order); holder = old.sides.holder; rest = seated; same = old.sides.same }

    fault_led : (why : Reason) (value : ℕ) → PairInvariant n k x (at_stage y stage.Empty) offered Present (sent ++ message_from k e (body.Refuse why value) ∷ [])
    fault_led why value = kept_sent old (piece_sides (at_stage y stage.Empty) refl tt (λ d wrong. absurd cc) tt) (piece_carries (at_stage y stage.Empty) refl (λ d wrong. absurd cc)) _ (record { epoch = omega (arith, filling.0, old.sides.order); says = tt }) (λ d f clash. absurd clash)

    more_led : (part : Part) (offset : ℕ) → PairInvariant n k x (at_stage y (stage.Filling e totals part offset)) offered Present (sent ++ message_from k e (body.Need part offset) ∷ [])
    more_led part offset = kept_sent old (piece_sides (at_stage y (stage.Filling e totals part offset)) refl tt (λ d wrong. absurd cc) filling) (piece_carries (at_stage y (stage.Filling e totals part offset)) refl (λ d wrong. absurd cc)) _
        (record { epoch = omega (arith, filling.0, old.sides.order); says = tt }) (λ d f clash. absurd clash)

    whole_led : PairInvariant n k x (at_stage y (stage.Prepared e)) offered Present (sent ++ message_from k e body.Prepared ∷ [])
    whole_led = kept_sent old (piece_sides (at_stage y (stage.Prepared e)) refl tt (λ d wrong. absurd cc) filling.0) (piece_carries (at_stage y (stage.Prepared e)) refl (λ d wrong. absurd cc)) _
        (record { epoch = omega (arith, filling.0, old.sides.order); says = λ own offers. refl }) (λ d f clash. absurd clash)

    next_led : (following : Option Part) → Led (goes_to r y e totals following)
    next_led (Some q) = record { led = more_led q 0 }
    next_led None = record { led = whole_led }

    takes_next : (there : ℕ) → Led (reaches r y e totals next there)
    takes_next there = cond_both (nat_lt there (total_of totals next)) _ _ Led (λ more. record { led = more_led next there }) (λ full. next_led (part_after next))

  piece_led : (s : MoveStage) (e : ℕ) (part : Part) (offset : ℕ) (bytes : List ℕ) → y.stage ≡ s → Led (on_piece r y s e part offset bytes)
  piece_led (stage.Filling epoch totals next place) e part offset bytes is = cond_both (epoch == e && is_next totals next place part offset (length bytes)) _ _ Led
      (λ yes. let tests : ((epoch == e) ≡ true) × (is_next totals next place part offset (length bytes) ≡ true) = and_parts (epoch == e) (is_next totals next place part offset (length bytes)) yes in
      let here : y.stage ≡ stage.Filling e totals next place = is ∙ ap (λ d. stage.Filling d totals next place) (eqb-true epoch e tests.0) in
      cond_both fails _ _ Led (λ lost. record { led = fault_led e totals next place here reason.Link 0 }) (λ well. takes_next e totals next place here (place + length bytes)))
      (λ no. ignored)
  piece_led stage.Empty e part offset bytes is = ignored
  piece_led stage.Running e part offset bytes is = ignored
  piece_led stage.Draining e part offset bytes is = ignored
  piece_led (stage.Offering epoch totals) e part offset bytes is = ignored
  piece_led (stage.Released epoch) e part offset bytes is = ignored
  piece_led (stage.Prepared epoch) e part offset bytes is = ignored

  -- the host that released says again that it did
  prepared_led : (s : MoveStage) (e : ℕ) → y.stage ≡ s → e ≤ x.top → Led (on_prepared r y s e)
  prepared_led (stage.Released epoch) e is le = cond_both (epoch == e) _ _ Led (λ yes. record { led = commits (ap side_of is ∙ ap Released (eqb-true epoch e yes)) }) (λ no. ignored)
    where
      apart : (d : Message) (b : Body) → Says n k x y offered d.to d.epoch b → Clash body.Commit b → shown_side y ≡ Released e → e ≢ d.epoch
      apart d body.Abort says clash at = λ same. says.1 (at ∙ ap Released same)
      apart d body.Commit says clash at = absurd clash
      apart d body.Prepared says clash at = absurd clash
      apart d (body.Offer totals) says clash at = absurd clash
      apart d (body.Need part offset) says clash at = absurd clash
      apart d (body.Piece part offset bytes) says clash at = absurd clash
      apart d (body.Refuse why value) says clash at = absurd clash

      unoffered : shown_side x ≡ Offering e → shown_side y ≡ Released e → ⊥
      unoffered offers at = let holds : IsPassive (shown_side y) × (shown_side y ≢ Released e) = rw offers at old.sides.holds in holds.1 at

      commits : shown_side y ≡ Released e → PairInvariant n k x y offered Present (sent ++ message_from k e body.Commit ∷ [])
      commits at =
          let at_top : y.top ≡ e = released_top offered y.stage y.top e at old.sides.rest in
          kept_sent old old.sides unchanged _ (record { epoch = le; says = (λ offers. unoffered offers at, λ own. (omega (arith, at_top), λ waits. absurd (let wrong : ⊥ = rw at at waits in wrong))) }) (λ d f clash. apart d d.body f.says clash at)
  prepared_led (stage.Offering epoch totals) e is le = absurd (never (inr (inr (epoch, ap side_of is))))
  prepared_led stage.Empty e is le = ignored
  prepared_led stage.Running e is le = ignored
  prepared_led stage.Draining e is le = ignored
  prepared_led (stage.Filling epoch totals next place) e is le = ignored
  prepared_led (stage.Prepared epoch) e is le = ignored

  -- a commit comes to a prepared host only where that host holds
  commit_led : (s : MoveStage) (e : ℕ) → y.stage ≡ s → Says n k x y offered k e body.Commit → Led (on_commit y s e)
  commit_led (stage.Prepared epoch) e is says = cond_both (epoch == e) _ _ Led
      (λ yes.
      let at : shown_side y ≡ Prepared epoch = ap side_of is in
      let at_top : y.top ≡ epoch = prepared_top offered y.stage y.top epoch at old.sides.rest in
      let stated : (e ≤ y.top) × (IsAwaiting (shown_side y) → e < y.top) = says.1 refl in
      let later : e < y.top = stated.1 (rw at tt) in
      absurd (omega (arith, eqb-true epoch e yes)))
      (λ no. ignored)
  commit_led stage.Empty e is says = ignored
  commit_led stage.Running e is says = ignored
  commit_led stage.Draining e is says = ignored
  commit_led (stage.Offering epoch totals) e is says = ignored
  commit_led (stage.Released epoch) e is says = ignored
  commit_led (stage.Filling epoch totals next place) e is says = ignored

  -- an abort ends what the host waits for
  aborted : (e : ℕ) → (shown_side y ≡ Filling e) ⊎ (shown_side y ≡ Prepared e) → shown_side x ≢ Offering e → PairInvariant n k x (at_stage y stage.Empty) offered Present (sent ++ [])
  aborted e is unoffered = kept_quiet old
      (record { holds = holds_still (shown_side x) Empty refl (unreleased is) tt (λ d wrong. absurd cc); order = old.sides.order; holder = old.sides.holder; rest = tt; same = old.sides.same })
      (record {
        top = omega arith;
        parts = λ d at. refl;
        prepared = λ to d at says own offers. absurd (no_offer is d (says own offers) offers);
        commit = λ to d at says. (says.0, λ own. ((says.1 own).0, λ waits. absurd waits));
        abort = λ to d at says. (says.0, λ wrong. absurd cc);
      })
    where
      unreleased : (shown_side y ≡ Filling e) ⊎ (shown_side y ≡ Prepared e) → shown_side y ≢ Released x.top
      unreleased (inl at) wrong = absurd cc
      unreleased (inr at) wrong = absurd cc

      no_offer : (shown_side y ≡ Filling e) ⊎ (shown_side y ≡ Prepared e) → (d : ℕ) → shown_side y ≡ Prepared d → shown_side x ≡ Offering d → ⊥
      no_offer (inl at) d prepared offers = cc
      no_offer (inr at) d prepared offers = let same : d ≡ e = cc in unoffered (offers ∙ ap Offering same)

  abort_led : (s : MoveStage) (e : ℕ) → y.stage ≡ s → Says n k x y offered k e body.Abort → Led (on_abort y s e)
  abort_led (stage.Filling epoch totals next place) e is says = cond_both (epoch == e) _ _ Led (λ yes. record { led = aborted e (inl (ap side_of is ∙ ap Filling (eqb-true epoch e yes))) says.0 }) (λ no. ignored)
  abort_led (stage.Prepared epoch) e is says = cond_both (epoch == e) _ _ Led (λ yes. record { led = aborted e (inr (ap side_of is ∙ ap Prepared (eqb-true epoch e yes))) says.0 }) (λ no. ignored)
  abort_led stage.Empty e is says = ignored
  abort_led stage.Running e is says = ignored
  abort_led stage.Draining e is says = ignored
  abort_led (stage.Offering epoch totals) e is says = ignored
  abort_led (stage.Released epoch) e is says = ignored

  refuse_led : (s : MoveStage) (e : ℕ) → y.stage ≡ s → Led (on_refuse y s e)
  refuse_led (stage.Offering epoch totals) e is = absurd (never (inr (inr (epoch, ap side_of is))))
  refuse_led stage.Empty e is = ignored
  refuse_led stage.Running e is = ignored
  refuse_led stage.Draining e is = ignored
  refuse_led (stage.Released epoch) e is = ignored
  refuse_led (stage.Filling epoch totals next place) e is = ignored
  refuse_led (stage.Prepared epoch) e is = ignored

  pub message_led : (e : ℕ) (b : Body) → e ≤ x.top → Says n k x y offered k e b → Led (delivered r y e b)
  message_led e (body.Offer totals) le says = offer_led e totals le says
  message_led e (body.Need part offset) le says = need_led y.stage e part offset refl
  message_led e (body.Piece part offset bytes) le says = piece_led y.stage e part offset bytes refl
  message_led e body.Prepared le says = prepared_led y.stage e refl le
  message_led e body.Commit le says = commit_led y.stage e refl says
  message_led e body.Abort le says = abort_led y.stage e refl says
  message_led e (body.Refuse why value) le says = refuse_led y.stage e refl
