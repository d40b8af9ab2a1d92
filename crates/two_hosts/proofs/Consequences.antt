-- The laws, from what every line keeps.
use Rattle.std.proofs.Common.{◌≡◌, ℕ, inl, inr, Bool, true, false, ◌&&◌, ◌||◌, refl, sym, subst}
use Rattle.crb_history.specs.Snapshot.{Snapshot}
use Rattle.vt_base.specs.declared.types.HostName.{HostName}
use Rattle.vt_base.specs.declared.types.HostName.TheVariants.{A, B}
use Rattle.move_codec.specs.declared.message.Body.{Body}
use Rattle.move_codec.specs.declared.message.Body.TheVariants as body
use Rattle.move_core.specs.declared.stage.MoveStage.{MoveStage}
use Rattle.move_core.specs.declared.stage.MoveStage.TheVariants as stage
use Rattle.move_core.specs.declared.side.Side.TheVariants.{Released, Prepared}
use Rattle.move_core.specs.Sides.{is_active, side_of, other}
use Rattle.two_hosts.specs.Deliveries.{SideState}
use Rattle.two_hosts.specs.Hosts.{TwoHosts, hosts_after}
use Rattle.two_hosts.specs.Invariant.{IsHolder, IsPassive, Says, HostsInvariant, Clash, side_at}
use Rattle.two_hosts.specs.Laws.{Always, NeverTwoActive, NoneMeansHandedOver, IsHandedOver, NeverBothSent, IsTrueTo, EachMessageIsTrue}
use Rattle.two_hosts.proofs.InvariantKept.{run_kept}

passive_off : (y : MoveStage) → IsPassive (side_of y) → is_active y ≡ false
passive_off stage.Empty is = refl
passive_off (stage.Released e) is = refl
passive_off (stage.Filling e totals part place) is = refl
passive_off (stage.Prepared e) is = refl
passive_off stage.Running is = absurd is
passive_off stage.Draining is = absurd is
passive_off (stage.Offering e totals) is = absurd is

released_off : (y : MoveStage) (e : ℕ) → side_of y ≡ Released e → is_active y ≡ false
released_off (stage.Released d) e is = refl
released_off stage.Empty e is = refl
released_off (stage.Filling d totals part place) e is = refl
released_off (stage.Prepared d) e is = refl
released_off stage.Running e is = absurd cc
released_off stage.Draining e is = absurd cc
released_off (stage.Offering d totals) e is = absurd cc

-- the other host never runs or offers
rest_off : (x y : MoveStage) → IsHolder (side_of x) (side_of y) → is_active y ≡ false
rest_off stage.Running y h = passive_off y h
rest_off stage.Draining y h = passive_off y h
rest_off (stage.Offering e totals) y h = passive_off y h.0
rest_off (stage.Prepared e) y h = released_off y e h
rest_off stage.Empty y h = absurd h
rest_off (stage.Released e) y h = absurd h
rest_off (stage.Filling e totals part place) y h = absurd h

handed : (x y : MoveStage) → IsHolder (side_of x) (side_of y) → is_active x ≡ false → IsHandedOver (side_of y) (side_of x)
handed (stage.Prepared e) y h off = subst (λ s. IsHandedOver s (Prepared e)) (sym h) refl
handed stage.Running y h off = absurd cc
handed stage.Draining y h off = absurd cc
handed (stage.Offering e totals) y h off = absurd cc
handed stage.Empty y h off = absurd h
handed (stage.Released e) y h off = absurd h
handed (stage.Filling e totals part place) y h off = absurd h

either : (a : Bool) → (a && false) ≡ false
either true = refl
either false = refl

left_off : (a b : Bool) → (a || b) ≡ false → a ≡ false
left_off true b is = cc
left_off false b is = refl

right_off : (a b : Bool) → (a || b) ≡ false → b ≡ false
right_off true b is = cc
right_off false b is = is

pub one : Always NeverTwoActive
one b piece t in_turn = go _ (run_kept b piece t in_turn)
  where
    go : (t : TwoHosts) → HostsInvariant b t → NeverTwoActive t
    go t (A, k) = rw (rest_off t.a.side.stage t.b.side.stage k.sides.holds) (either (is_active t.a.side.stage))
    go t (B, k) = rw (rest_off t.b.side.stage t.a.side.stage k.sides.holds) refl

pub none : Always NoneMeansHandedOver
none b piece t in_turn = go _ (run_kept b piece t in_turn)
  where
    go : (t : TwoHosts) → HostsInvariant b t → NoneMeansHandedOver t
    go t (A, k) off = inr (handed t.a.side.stage t.b.side.stage k.sides.holds (left_off (is_active t.a.side.stage) (is_active t.b.side.stage) off))
    go t (B, k) off = inl (handed t.b.side.stage t.a.side.stage k.sides.holds (right_off (is_active t.a.side.stage) (is_active t.b.side.stage) off))

pub both : Always NeverBothSent
both b piece t in_turn c d sent_c sent_d commit abort = (run_kept b piece t in_turn).1.apart c d sent_c sent_d (subst (λ x. Clash x d.body) (sym commit) (subst (λ x. Clash body.Commit x) (sym abort) tt))

says_true : (n k : HostName) (x y : SideState) (offered : ℕ → Snapshot) (to : HostName) (e : ℕ) (q : Body) → Says n k x y offered to e q → IsTrueTo (offered e) q
says_true n k x y offered to e (body.Offer totals) says = says
says_true n k x y offered to e (body.Need part offset) says = tt
says_true n k x y offered to e (body.Piece part offset bytes) says = says
says_true n k x y offered to e body.Prepared says = tt
says_true n k x y offered to e body.Commit says = tt
says_true n k x y offered to e body.Abort says = tt
says_true n k x y offered to e (body.Refuse why value) says = tt

pub true_to : Always EachMessageIsTrue
true_to b piece t in_turn m sent =
    let w : TwoHosts = hosts_after b piece t in
    let kept : HostsInvariant b w = run_kept b piece t in_turn in
    says_true kept.0 (other kept.0) (side_at w kept.0) (side_at w (other kept.0)) w.offered m.to m.epoch m.body (kept.1.each m sent).says
