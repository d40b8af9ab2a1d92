-- Messages that come again.
use Rattle.std.proofs.Common.{◌≡◌, ◌≢◌, ℕ, ◌≤◌, Bool, true, false, cond, List, refl, ap, ◌∙◌, arith}
use Rattle.std.specs.Prelude.{nat_lt, ◌==◌}
use Rattle.std.proofs.lemmas.Bool.{cond-true, cond-false, ne_eqb, eq-eqb, ltb-true}
use Rattle.move_codec.specs.declared.message.Message.{Message}
use Rattle.move_codec.specs.declared.message.Body.TheVariants as body
use Rattle.move_core.specs.Model.{HostModel}
use Rattle.move_core.specs.declared.stage.MoveStage.{MoveStage}
use Rattle.move_core.specs.declared.stage.MoveStage.TheVariants.{Empty, Running, Draining, Offering, Released, Filling, Prepared}
use Rattle.move_core.specs.declared.side.Side.TheVariants as side
use Rattle.move_core.specs.Sides.{side_of, is_same}
use Rattle.move_core.specs.Table.{sends, ignored, on_message, on_commit, on_prepared, delivered}
use Rattle.move_core.specs.Table.Row.{Ends}

either : {A : Type 0} (b : Bool) (x y : A) → x ≡ y → cond b x y ≡ y
either true x y is = is
either false x y is = refl

not_so : {A : Type 0} (b : Bool) (x y : A) → (b ≡ true → ⊥) → cond b x y ≡ y
not_so true x y wrong = absurd (wrong refl)
not_so false x y wrong = refl

pub old_offer : {P : Type 0} (h : HostModel P) (m : Message) (totals : List ℕ) → m.body ≡ body.Offer totals → m.epoch ≤ h.top → delivered h m ≡ ignored h
unfolding delivered
old_offer h m totals says old =
    either (is_same h.name m.to) (on_message h m.epoch m.body) (ignored h)
    (ap (on_message h m.epoch) says ∙ not_so (nat_lt h.top m.epoch) _ _ (λ newer. omega (arith, ltb-true h.top m.epoch newer)))

commit_at : {P : Type 0} (h : HostModel P) (s : MoveStage) (e : ℕ) → side_of s ≢ side.Prepared e → on_commit h s e ≡ ignored h
commit_at h (Prepared epoch) e other = cond-false (epoch == e) _ _ (ne_eqb epoch e (λ same. other (ap side.Prepared same)))
commit_at h Empty e other = refl
commit_at h Running e other = refl
commit_at h Draining e other = refl
commit_at h (Offering epoch totals) e other = refl
commit_at h (Released epoch) e other = refl
commit_at h (Filling epoch totals part place) e other = refl

pub other_commit : {P : Type 0} (h : HostModel P) (m : Message) → m.body ≡ body.Commit → side_of h.stage ≢ side.Prepared m.epoch → delivered h m ≡ ignored h
unfolding delivered
other_commit h m says other = either (is_same h.name m.to) (on_message h m.epoch m.body) (ignored h) (ap (on_message h m.epoch) says ∙ commit_at h h.stage m.epoch other)

prepared_at : {P : Type 0} (h : HostModel P) (s : MoveStage) (e : ℕ) → side_of s ≢ side.Offering e → side_of s ≢ side.Released e → on_prepared h s e ≡ ignored h
prepared_at h (Offering epoch totals) e not_offering not_released = cond-false (epoch == e) _ _ (ne_eqb epoch e (λ same. not_offering (ap side.Offering same)))
prepared_at h (Released epoch) e not_offering not_released = cond-false (epoch == e) _ _ (ne_eqb epoch e (λ same. not_released (ap side.Released same)))
prepared_at h Empty e not_offering not_released = refl
prepared_at h Running e not_offering not_released = refl
prepared_at h Draining e not_offering not_released = refl
prepared_at h (Filling epoch totals part place) e not_offering not_released = refl
prepared_at h (Prepared epoch) e not_offering not_released = refl

pub other_prepared : {P : Type 0} (h : HostModel P) (m : Message) → m.body ≡ body.Prepared → side_of h.stage ≢ side.Offering m.epoch → side_of h.stage ≢ side.Released m.epoch → delivered h m ≡ ignored h
unfolding delivered
other_prepared h m says not_offering not_released =
    either (is_same h.name m.to) (on_message h m.epoch m.body) (ignored h) (ap (on_message h m.epoch) says ∙ prepared_at h h.stage m.epoch not_offering not_released)

-- a host that has let go in this epoch says Commit again
released_at : {P : Type 0} (h : HostModel P) (s : MoveStage) (e : ℕ) → side_of s ≡ side.Released e → on_prepared h s e ≡ Ends (sends h e body.Commit)
released_at h (Released epoch) e is = cond-true (epoch == e) _ _ (eq-eqb epoch e cc)
released_at h Empty e is = absurd cc
released_at h Running e is = absurd cc
released_at h Draining e is = absurd cc
released_at h (Offering epoch totals) e is = absurd cc
released_at h (Filling epoch totals part place) e is = absurd cc
released_at h (Prepared epoch) e is = absurd cc

pub released_prepared : {P : Type 0} (h : HostModel P) (m : Message) → m.body ≡ body.Prepared → is_same h.name m.to ≡ true → side_of h.stage ≡ side.Released m.epoch → delivered h m ≡ Ends (sends h m.epoch body.Commit)
unfolding delivered
released_prepared h m says mine released =
    cond-true (is_same h.name m.to) _ _ mine ∙ ap (on_message h m.epoch) says ∙ released_at h h.stage m.epoch released
