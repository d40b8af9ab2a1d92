-- A delivery that has nothing to refuse is the model's without a refusal.
use Rattle.std.proofs.Common.{◌≡◌, ℕ, ◌⊎◌, inl, inr, Bool, true, false, List, length, Option, Some, None, refl, ap, subst, ◌∙◌}
use Rattle.std.specs.Prelude.{nat_lt, ◌==◌, ◌&&◌, if◌then◌else◌}
use Rattle.crb_port.specs.Views.{PortView}
use Rattle.ctrl_model.specs.Link.{Link}
use Rattle.vt_base.specs.declared.types.HostName.{HostName}
use Rattle.move_codec.specs.declared.names.Part.{Part}
use Rattle.move_codec.specs.declared.message.Message.{Message}
use Rattle.move_codec.specs.declared.message.Body.{Body}
use Rattle.move_codec.specs.declared.message.Body.TheVariants as body
use Rattle.move_core.specs.declared.answers.Delivered.{Delivered}
use Rattle.move_core.specs.declared.side.Side.{Side}
use Rattle.move_core.specs.declared.side.Side.TheVariants.{Empty, Running, Draining, Offering, Released, Filling, Prepared}
use Rattle.move_core.specs.Model.{HostModel}
use Rattle.move_core.specs.Hosts.{MatchesSide}
use Rattle.move_core.specs.Requests.{WiresView}
use Rattle.move_core.specs.Table as table
use Rattle.move_core.specs.Calls.{Follows, HasBytes}
use Rattle.hand_over.specs.Parts.{PieceSizes, first_bad, total_of}
use Rattle.hand_over.specs.Host.{HostState, After, Refusal}
use Rattle.hand_over.specs.Host as model
use Rattle.hand_over.specs.Bridge.{StandsFor, IsStep}
use Rattle.hand_over.specs.Fine.{PieceLaws, IsFineFor, IsNotRefused, IsSureStep}
use Rattle.hand_over.specs.Fine.{IsUndisturbed}
use Rattle.hand_over.proofs.Bridging.{delivery}
use Rattle.hand_over.proofs.Sureness.{not_refused}

-- a refusal changes nothing, or is the answer
abbrev Shows : After → After → Type 0
Shows with_it without = (with_it ≡ without) ⊎ (IsNotRefused with_it.answer → ⊥)

by_test : (b : Bool) (x y z : After) → Shows x y → Shows (if b then x else z) (if b then y else z)
by_test true x y z shows = shows
by_test false x y z shows = inl refl

offer_shows : (me : HostName) (g : HostState) (e : ℕ) (totals : List ℕ) (bad : Option ℕ) (r : Refusal) → Shows (model.takes_offer me g e totals bad (Some r)) (model.takes_offer me g e totals bad None)
offer_shows me g e totals (Some bad) r = inl refl
offer_shows me g e totals None r = inr (λ fine. fine)

active_shows : (active : Bool) (x y z : After) → Shows x y → Shows (if active then z else x) (if active then z else y)
active_shows true x y z shows = inl refl
active_shows false x y z shows = shows

need_shows : (me : HostName) (size : PieceSizes) (s : Side) (g : HostState) (e : ℕ) (part : Part) (offset : ℕ) (r : Refusal) → Shows (model.on_need me size s g e part offset (Some r)) (model.on_need me size s g e part offset None)
need_shows me size (Offering epoch) g e part offset r = by_test (epoch == e && nat_lt offset (total_of g.totals part)) _ _ (model.ignores g) (inr (λ fine. fine))
need_shows me size Empty g e part offset r = inl refl
need_shows me size Running g e part offset r = inl refl
need_shows me size Draining g e part offset r = inl refl
need_shows me size (Released epoch) g e part offset r = inl refl
need_shows me size (Filling epoch) g e part offset r = inl refl
need_shows me size (Prepared epoch) g e part offset r = inl refl

piece_shows : (me : HostName) (s : Side) (g : HostState) (e : ℕ) (part : Part) (offset : ℕ) (bytes : List ℕ) (r : Refusal) → Shows (model.on_piece me s g e part offset bytes (Some r)) (model.on_piece me s g e part offset bytes None)
piece_shows me (Filling epoch) g e part offset bytes r = by_test (epoch == e && model.is_next g part offset (length bytes)) _ _ (model.ignores g) (inr (λ fine. fine))
piece_shows me Empty g e part offset bytes r = inl refl
piece_shows me Running g e part offset bytes r = inl refl
piece_shows me Draining g e part offset bytes r = inl refl
piece_shows me (Offering epoch) g e part offset bytes r = inl refl
piece_shows me (Released epoch) g e part offset bytes r = inl refl
piece_shows me (Prepared epoch) g e part offset bytes r = inl refl

message_shows : (me : HostName) (size : PieceSizes) (g : HostState) (e : ℕ) (says : Body) (r : Refusal) → Shows (model.on_message me size g e says (Some r)) (model.on_message me size g e says None)
message_shows me size g e (body.Offer totals) r =
    by_test (nat_lt g.top e) _ _ (model.ignores g) (active_shows (model.is_active g.side) _ _ _ (offer_shows me g e totals (first_bad totals) r))
message_shows me size g e (body.Need part offset) r = need_shows me size g.side g e part offset r
message_shows me size g e (body.Piece part offset bytes) r = piece_shows me g.side g e part offset bytes r
message_shows me size g e body.Prepared r = inl refl
message_shows me size g e body.Commit r = inl refl
message_shows me size g e body.Abort r = inl refl
message_shows me size g e (body.Refuse why value) r = inl refl

shows : (me : HostName) (size : PieceSizes) (g : HostState) (m : Message) (r : Refusal) → Shows (model.delivered me size g m (Some r)) (model.delivered me size g m None)
shows me size g m r = by_test (model.is_same me m.to) _ _ (model.ignores g) (message_shows me size g m.epoch m.body r)

-- without a refusal
sure_of : {P Schedule : Type 0} (size : PieceSizes) (row : Option Refusal → After) (v : WiresView Schedule) (answer : Delivered) (new : HostModel P) → ((r : Refusal) → Shows (row (Some r)) (row None)) → IsNotRefused answer → IsStep size row v answer new → IsSureStep size (row None) v answer new
sure_of {P} size row v answer new shows fine step = by step.refusal step.stands step.answer_is
  where
    by : (refusal : Option Refusal) → StandsFor size new step.link (row refusal).host → answer ≡ (row refusal).answer → IsSureStep size (row None) v answer new
    by None stands said = record { link = step.link; is_link = step.is_link; stands = stands; answer_is = said }
    by (Some r) stands said = exact (shows r)
      where
        exact : Shows (row (Some r)) (row None) → IsSureStep size (row None) v answer new
        exact (inl same) = record { link = step.link; is_link = step.is_link; stands = subst (λ (a : After). StandsFor size new step.link a.host) same stands; answer_is = said ∙ ap (λ (a : After). a.answer) same }
        exact (inr refuses) = absurd (refuses (subst IsNotRefused said fine))

pub certain : {P Schedule : Type 0} (port_view : P → PortView) (laws : PieceLaws) (size : PieceSizes) (h : HostModel P) (m : Message) (w v : WiresView Schedule) (l : Link) (g : HostState) (answer : Delivered) (new : HostModel P)
    → w.link ≡ Some l → IsUndisturbed w → StandsFor size h l g → MatchesSide h → HasBytes m.body → IsFineFor m.body h.stage h l.emulator → Follows port_view (table.delivered h m) w v answer new
    → IsSureStep size (model.delivered h.name size g m None) v answer new
certain port_view laws size h m w v l g answer new is fine stands placed some fine_for f =
    sure_of size (λ r. model.delivered h.name size g m r) v answer new (shows h.name size g m)
    (not_refused port_view laws h m w v l answer new is stands.quiet fine stands.ready some fine_for f)
    (delivery port_view size h m w v l g answer new is stands placed some f)
