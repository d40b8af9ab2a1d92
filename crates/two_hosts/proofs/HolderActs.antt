-- What is kept where the holder gets a message, offers, gives up or says again that it is prepared.
use Rattle.std.proofs.Common.{◌≡◌, ◌≢◌, ℕ, ◌+◌, ◌≤◌, ◌⊎◌, inl, inr, Bool, true, false, List, [], ◌∷◌, ◌++◌, length, take, drop, refl, sym, ◌∙◌, ap, subst, arith, append-nil}
use Rattle.std.specs.Prelude.{nat_lt, ◌==◌}
use Rattle.std.proofs.lemmas.Bool.{cond_both, eqb-true, ltb-true, eq-eqb, ne_eqb, cond-true, cond-false}
use Rattle.std.proofs.lemmas.List.{take_min, length-take}
use Rattle.state_blobs.specs.Encodings.{slice}
use Rattle.crb_history.specs.Snapshot.{Snapshot}
use Rattle.vt_base.specs.declared.types.HostName.{HostName}
use Rattle.move_codec.specs.declared.names.Part.{Part}
use Rattle.move_codec.specs.declared.message.Message.{Message}
use Rattle.move_codec.specs.declared.message.Body.{Body}
use Rattle.move_codec.specs.declared.message.Body.TheVariants as body
use Rattle.move_core.specs.declared.stage.MoveStage.{MoveStage}
use Rattle.move_core.specs.declared.stage.MoveStage.TheVariants as stage
use Rattle.move_core.specs.declared.side.Side.TheVariants.{Offering, Released, Prepared}
use Rattle.move_core.specs.Sides.{holds_device, side_of}
use Rattle.move_core.specs.Messages.{message_from}
use Rattle.two_hosts.specs.Parts.{part_bytes, totals_of}
use Rattle.two_hosts.specs.Deliveries.{SideState, Outcome, DeliveryContext, ignored as ignores, delivered, on_offer, on_need, on_piece, on_prepared, on_commit, on_abort, on_refuse, gives, at_stage}
use Rattle.two_hosts.specs.Hosts.{message_in, with_offer}
use Rattle.two_hosts.specs.Invariant.{shown_side, IsPassive, IsHolder, MatchesOffer, Sides, Says, Clash, PairInvariant}
use Rattle.two_hosts.proofs.Frames.{Carries, kept_as, kept_quiet, kept_sent}

-- what is kept after an answer of the holder: it still holds, or the other host does
pub record HolderLed (n k : HostName) (y : SideState) (offered : ℕ → Snapshot) (Present : Snapshot → Type 0) (sent : List Message) (after : Outcome) : Type 0 where
  pub led : PairInvariant n k after.side y offered Present (sent ++ message_in after.answer) ⊎ PairInvariant k n y after.side offered Present (sent ++ message_in after.answer)

-- a slice as long as it is
pub slice_again : (xs : List ℕ) (offset size : ℕ) → slice xs offset size ≡ slice xs offset (length (slice xs offset size))
slice_again xs offset size = sym (ap (λ n. take n (drop offset xs)) (length-take size (drop offset xs)) ∙ take_min size (drop offset xs))

module _ (n k : HostName) (x y : SideState) (offered : ℕ → Snapshot) (Present : Snapshot → Type 0) (sent : List Message) (old : PairInvariant n k x y offered Present sent) (piece : ℕ) (fails : Bool) where
  abbrev r : DeliveryContext
  r = record { me = n; piece = piece; offered = offered; fails = fails }

  abbrev Led : Outcome → Type 0
  Led after = HolderLed n k y offered Present sent after

  ignored : Led (ignores x)
  ignored = record { led = inl (rw append-nil old) }

  unchanged : Carries n k n k x y x y offered offered
  unchanged = record { top = omega arith; parts = λ e le. refl; prepared = λ to e le h. h; commit = λ to e le h. h; abort = λ to e le h. h }

  -- a holder that offered runs again
  runs_again : (e : ℕ) → shown_side x ≡ Offering e → Sides (at_stage x stage.Running) y offered Present
  runs_again e is =
      let holds : IsPassive (shown_side y) × (shown_side y ≢ Released e) = rw is at old.sides.holds in
      record { holds = holds.0; order = old.sides.order; holder = tt; rest = old.sides.rest; same = λ not. absurd cc }

  runs_carries : Carries n k n k x y (at_stage x stage.Running) y offered offered
  runs_carries = record { top = omega arith; parts = λ e le. refl; prepared = λ to e le h own wrong. absurd cc; commit = λ to e le h. (λ wrong. absurd cc, h.1); abort = λ to e le h. (λ wrong. absurd cc, h.1) }

  offer_led : (e : ℕ) (totals : List ℕ) → e ≤ x.top → Led (on_offer r x e totals)
  offer_led e totals le = cond_both (nat_lt x.top e) _ _ Led (λ yes. absurd (omega (arith, ltb-true x.top e yes))) (λ no. ignored)

  gives_led : (e : ℕ) (part : Part) (offset : ℕ) → e ≤ x.top → Led (gives r x e part offset)
  gives_led e part offset le = cond_both fails _ _ Led
      (λ yes. record { led = inl (rw append-nil old) })
      (λ no. record { led = inl (kept_sent old old.sides unchanged _ (record { epoch = le; says = slice_again (part_bytes (offered e) part) offset piece }) (λ d f clash. absurd clash)) })

  need_led : (s : MoveStage) (e : ℕ) (part : Part) (offset : ℕ) → x.stage ≡ s → e ≤ x.top → Led (on_need r x s e part offset)
  need_led (stage.Offering epoch totals) e part offset is le = cond_both _ _ _ Led (λ yes. gives_led e part offset le) (λ no. ignored)
  need_led stage.Empty e part offset is le = ignored
  need_led stage.Running e part offset is le = ignored
  need_led stage.Draining e part offset is le = ignored
  need_led (stage.Released epoch) e part offset is le = ignored
  need_led (stage.Filling epoch totals next place) e part offset is le = ignored
  need_led (stage.Prepared epoch) e part offset is le = ignored

  piece_led : (s : MoveStage) (e : ℕ) (part : Part) (offset : ℕ) (bytes : List ℕ) → x.stage ≡ s → Led (on_piece r x s e part offset bytes)
  piece_led (stage.Filling epoch totals next place) e part offset bytes is = absurd (let wrong : ⊥ = rw is at old.sides.holds in wrong)
  piece_led stage.Empty e part offset bytes is = ignored
  piece_led stage.Running e part offset bytes is = ignored
  piece_led stage.Draining e part offset bytes is = ignored
  piece_led (stage.Offering epoch totals) e part offset bytes is = ignored
  piece_led (stage.Released epoch) e part offset bytes is = ignored
  piece_led (stage.Prepared epoch) e part offset bytes is = ignored

  -- the host that is prepared holds from now on
  releases : (e : ℕ) (totals : List ℕ) → x.stage ≡ stage.Offering e totals → shown_side y ≡ Prepared e → PairInvariant k n y (at_stage x (stage.Released e)) offered Present (sent ++ message_from n e body.Commit ∷ [])
  releases e totals is prepared =
      let offers : shown_side x ≡ Offering e = ap side_of is in
      let mine : (x.top ≡ e) × (totals ≡ totals_of (offered e)) = subst (λ s. MatchesOffer offered s x.top) is old.sides.holder in
      let theirs : y.top ≡ e = prepared_top y.stage prepared old.sides.rest in
      kept_sent old
      (record { holds = rw prepared refl; order = omega arith; holder = old.sides.rest; rest = mine.0; same = λ not. subst (λ top. Present (offered top)) (mine.0 ∙ sym theirs) (old.sides.same (ap holds_device is)) })
      (record {
        top = omega arith;
        parts = λ d le. refl;
        prepared = λ to d le h own wrong. absurd (cc);
        commit = λ to d le h. (λ wrong. absurd (cc), λ own. (le, λ waits. absurd waits));
        abort = λ to d le h. (λ wrong. absurd (cc), λ same. h.0 (cc));
      })
      _
      (record { epoch = omega arith; says = (λ wrong. absurd (cc), λ own. (omega arith, λ waits. absurd waits)) })
      (λ d f clash. apart d d.body f.says clash offers)
    where
      prepared_top : (s : MoveStage) → side_of s ≡ Prepared e → MatchesOffer offered s y.top → y.top ≡ e
      prepared_top (stage.Prepared d) at seated = let same : d ≡ e = cc in seated ∙ same
      prepared_top stage.Empty at seated = absurd cc
      prepared_top stage.Running at seated = absurd cc
      prepared_top stage.Draining at seated = absurd cc
      prepared_top (stage.Offering d totals) at seated = absurd cc
      prepared_top (stage.Released d) at seated = absurd cc
      prepared_top (stage.Filling d totals part place) at seated = absurd cc

      apart : (d : Message) (b : Body) → Says n k x y offered d.to d.epoch b → Clash body.Commit b → shown_side x ≡ Offering e → e ≢ d.epoch
      apart d body.Abort says clash is = λ same. says.0 (is ∙ ap Offering same)
      apart d body.Commit says clash is = absurd clash
      apart d body.Prepared says clash is = absurd clash
      apart d (body.Offer totals) says clash is = absurd clash
      apart d (body.Need part offset) says clash is = absurd clash
      apart d (body.Piece part offset bytes) says clash is = absurd clash
      apart d (body.Refuse why value) says clash is = absurd clash

  prepared_led : (s : MoveStage) (e : ℕ) → x.stage ≡ s → Says n k x y offered n e body.Prepared → Led (on_prepared r x s e)
  prepared_led (stage.Offering epoch totals) e is says = cond_both (epoch == e) _ _ Led
      (λ yes. let offers : x.stage ≡ stage.Offering e totals = is ∙ ap (λ d. stage.Offering d totals) (eqb-true epoch e yes) in record { led = inr (releases e totals offers (says refl (ap side_of offers))) })
      (λ no. ignored)
  prepared_led (stage.Released epoch) e is says = absurd (let wrong : ⊥ = rw is at old.sides.holds in wrong)
  prepared_led stage.Empty e is says = ignored
  prepared_led stage.Running e is says = ignored
  prepared_led stage.Draining e is says = ignored
  prepared_led (stage.Filling epoch totals next place) e is says = ignored
  prepared_led (stage.Prepared epoch) e is says = ignored

  commit_led : (s : MoveStage) (e : ℕ) → x.stage ≡ s → Led (on_commit x s e)
  commit_led (stage.Prepared epoch) e is = cond_both (epoch == e) _ _ Led
      (λ yes. let holds : shown_side y ≡ Released epoch = rw is at old.sides.holds in
      record { led = inl (kept_quiet old (record { holds = rw holds tt; order = old.sides.order; holder = tt; rest = old.sides.rest; same = λ not. absurd cc }) runs_carries) })
      (λ no. ignored)
  commit_led stage.Empty e is = ignored
  commit_led stage.Running e is = ignored
  commit_led stage.Draining e is = ignored
  commit_led (stage.Offering epoch totals) e is = ignored
  commit_led (stage.Released epoch) e is = ignored
  commit_led (stage.Filling epoch totals next place) e is = ignored

  abort_led : (s : MoveStage) (e : ℕ) → x.stage ≡ s → Says n k x y offered n e body.Abort → Led (on_abort x s e)
  abort_led (stage.Prepared epoch) e is says = cond_both (epoch == e) _ _ Led
      (λ yes. let holds : shown_side y ≡ Released epoch = rw is at old.sides.holds in absurd (says.1 (holds ∙ ap Released (eqb-true epoch e yes))))
      (λ no. ignored)
  abort_led (stage.Filling epoch totals next place) e is says = absurd (let wrong : ⊥ = rw is at old.sides.holds in wrong)
  abort_led stage.Empty e is says = ignored
  abort_led stage.Running e is says = ignored
  abort_led stage.Draining e is says = ignored
  abort_led (stage.Offering epoch totals) e is says = ignored
  abort_led (stage.Released epoch) e is says = ignored

  refuse_led : (s : MoveStage) (e : ℕ) → x.stage ≡ s → Led (on_refuse x s e)
  refuse_led (stage.Offering epoch totals) e is = cond_both (epoch == e) _ _ Led
      (λ yes. record { led = inl (kept_quiet old (runs_again epoch (ap side_of is)) runs_carries) })
      (λ no. ignored)
  refuse_led stage.Empty e is = ignored
  refuse_led stage.Running e is = ignored
  refuse_led stage.Draining e is = ignored
  refuse_led (stage.Released epoch) e is = ignored
  refuse_led (stage.Filling epoch totals next place) e is = ignored
  refuse_led (stage.Prepared epoch) e is = ignored

  pub message_led : (e : ℕ) (b : Body) → e ≤ x.top → Says n k x y offered n e b → Led (delivered r x e b)
  message_led e (body.Offer totals) le says = offer_led e totals le
  message_led e (body.Need part offset) le says = need_led x.stage e part offset refl le
  message_led e (body.Piece part offset bytes) le says = piece_led x.stage e part offset bytes refl
  message_led e body.Prepared le says = prepared_led x.stage e refl says
  message_led e body.Commit le says = commit_led x.stage e refl
  message_led e body.Abort le says = abort_led x.stage e refl says
  message_led e (body.Refuse why value) le says = refuse_led x.stage e refl

module _ (n k : HostName) (x y : SideState) (offered : ℕ → Snapshot) (Present : Snapshot → Type 0) (sent : List Message) (old : PairInvariant n k x y offered Present sent) where
  -- the host that offers gives up
  pub given_up : (e : ℕ) (totals : List ℕ) → x.stage ≡ stage.Offering e totals → PairInvariant n k (at_stage x stage.Running) y offered Present (sent ++ message_from n e body.Abort ∷ [])
  given_up e totals is =
      let offers : shown_side x ≡ Offering e = ap side_of is in
      let mine : (x.top ≡ e) × (totals ≡ totals_of (offered e)) = subst (λ s. MatchesOffer offered s x.top) is old.sides.holder in
      let holds : IsPassive (shown_side y) × (shown_side y ≢ Released e) = rw offers at old.sides.holds in
      kept_sent old (runs_again n k x y offered Present sent old 0 false e offers) (runs_carries n k x y offered Present sent old 0 false) _
      (record { epoch = omega arith; says = (λ wrong. absurd cc, holds.1) })
      (λ d f clash. apart d d.body f.says clash offers)
    where
      apart : (d : Message) (b : Body) → Says n k x y offered d.to d.epoch b → Clash body.Abort b → shown_side x ≡ Offering e → e ≢ d.epoch
      apart d body.Commit says clash is = λ same. says.0 (is ∙ ap Offering same)
      apart d body.Abort says clash is = absurd clash
      apart d body.Prepared says clash is = absurd clash
      apart d (body.Offer totals) says clash is = absurd clash
      apart d (body.Need part offset) says clash is = absurd clash
      apart d (body.Piece part offset bytes) says clash is = absurd clash
      apart d (body.Refuse why value) says clash is = absurd clash

  -- a prepared holder says so again
  pub said_again : (e : ℕ) → x.stage ≡ stage.Prepared e → PairInvariant n k x y offered Present (sent ++ message_from n e body.Prepared ∷ [])
  said_again e is =
      let at_top : x.top ≡ e = subst (λ s. MatchesOffer offered s x.top) is old.sides.holder in
      let at : shown_side x ≡ Prepared e = ap side_of is in
      kept_sent old old.sides (unchanged n k x y offered Present sent old 0 false) _ (record { epoch = omega arith; says = λ own wrong. absurd (let both : Prepared e ≡ Offering e = sym at ∙ wrong in cc) }) (λ d f clash. absurd clash)

  -- beside a holder that runs or drains the other host is passive
  beside : (g : MoveStage) → holds_device g ≡ false → IsHolder (side_of g) (shown_side y) → IsPassive (shown_side y)
  beside stage.Running is holds = holds
  beside stage.Draining is holds = holds
  beside stage.Empty is holds = absurd cc
  beside (stage.Offering e totals) is holds = absurd cc
  beside (stage.Released e) is holds = absurd cc
  beside (stage.Filling e totals part place) is holds = absurd cc
  beside (stage.Prepared e) is holds = absurd cc

  -- a running holder drains, or one that drained runs again
  pub turned : (g : MoveStage) → holds_device g ≡ false → holds_device x.stage ≡ false → PairInvariant n k (at_stage x g) y offered Present sent
  turned stage.Running now was = kept_as old
      (record { holds = beside x.stage was old.sides.holds; order = old.sides.order; holder = tt; rest = old.sides.rest; same = λ not. absurd cc })
      (record { top = omega arith; parts = λ e le. refl; prepared = λ to e le h own wrong. absurd cc; commit = λ to e le h. (λ wrong. absurd cc, h.1); abort = λ to e le h. (λ wrong. absurd cc, h.1) })
  turned stage.Draining now was = kept_as old
      (record { holds = beside x.stage was old.sides.holds; order = old.sides.order; holder = tt; rest = old.sides.rest; same = λ not. absurd cc })
      (record { top = omega arith; parts = λ e le. refl; prepared = λ to e le h own wrong. absurd cc; commit = λ to e le h. (λ wrong. absurd cc, h.1); abort = λ to e le h. (λ wrong. absurd cc, h.1) })
  turned stage.Empty now was = absurd cc
  turned (stage.Offering e totals) now was = absurd cc
  turned (stage.Released e) now was = absurd cc
  turned (stage.Filling e totals part place) now was = absurd cc
  turned (stage.Prepared e) now was = absurd cc

  -- a holder that runs or drains goes on in its history: what it has is looked at again once it offers
  pub works_on : (New : Snapshot → Type 0) → holds_device x.stage ≡ false → PairInvariant n k x y offered New sent
  works_on New is = record {
    sides = record { holds = old.sides.holds; order = old.sides.order; holder = old.sides.holder; rest = old.sides.rest; same = λ not. let both : true ≡ false = sym not ∙ is in absurd cc };
    each = old.each;
    apart = old.apart;
  }

  module _ (new : Snapshot) where
    noted_before : (e : ℕ) → e ≤ x.top → with_offer offered (x.top + 1) new e ≡ offered e
    noted_before e le = cond-false (e == x.top + 1) new (offered e) (ne_eqb e (x.top + 1) (λ same. omega arith))

    noted_now : with_offer offered (x.top + 1) new (x.top + 1) ≡ new
    noted_now = cond-true (x.top + 1 == x.top + 1) new (offered (x.top + 1)) (eq-eqb (x.top + 1) (x.top + 1) refl)

    seated_before : (s : MoveStage) → MatchesOffer offered s y.top → MatchesOffer (with_offer offered (x.top + 1) new) s y.top
    seated_before stage.Empty h = h
    seated_before stage.Running h = h
    seated_before stage.Draining h = h
    seated_before (stage.Offering e totals) h = (h.0, h.1 ∙ ap totals_of (sym (noted_before e (omega (arith, old.sides.order, h.0)))))
    seated_before (stage.Released e) h = h
    seated_before (stage.Filling e totals part place) h = (h.0, h.1 ∙ ap totals_of (sym (noted_before e (omega (arith, old.sides.order, h.0)))))
    seated_before (stage.Prepared e) h = h

    -- a holder that runs or drained offers
    pub offered_next : holds_device x.stage ≡ false → Present new
        → PairInvariant n k (record { stage = stage.Offering (x.top + 1) (totals_of new); top = x.top + 1 }) y (with_offer offered (x.top + 1) new) Present (sent ++ message_from n (x.top + 1) (body.Offer (totals_of new)) ∷ [])
    offered_next is present =
        let passive : IsPassive (shown_side y) = beside x.stage is old.sides.holds in
        kept_sent {x' = record { stage = stage.Offering (x.top + 1) (totals_of new); top = x.top + 1 }} old
        (record {
          holds = (passive, λ wrong. absurd (released_top y.stage wrong old.sides.rest));
          order = omega (arith, old.sides.order);
          holder = (refl, ap totals_of (sym noted_now));
          rest = seated_before y.stage old.sides.rest;
          same = λ not. subst Present (sym noted_now) present;
        })
        (record {
          top = omega arith;
          parts = noted_before;
          prepared = λ to e le h own wrong. absurd (let both : x.top + 1 ≡ e = cc in omega arith);
          commit = λ to e le h. (λ wrong. absurd (let both : x.top + 1 ≡ e = cc in omega arith), h.1);
          abort = λ to e le h. (λ wrong. absurd (let both : x.top + 1 ≡ e = cc in omega arith), h.1);
        })
        (message_from n (x.top + 1) (body.Offer (totals_of new)))
        (record { epoch = omega arith; says = ap totals_of (sym noted_now) })
        (λ d f clash. absurd clash)
      where
        released_top : (s : MoveStage) → side_of s ≡ Released (x.top + 1) → MatchesOffer offered s y.top → ⊥
        released_top (stage.Released d) at seated = let same : d ≡ x.top + 1 = cc in omega (arith, old.sides.order, seated)
        released_top stage.Empty at seated = cc
        released_top stage.Running at seated = cc
        released_top stage.Draining at seated = cc
        released_top (stage.Offering d totals) at seated = cc
        released_top (stage.Filling d totals part place) at seated = cc
        released_top (stage.Prepared d) at seated = cc
