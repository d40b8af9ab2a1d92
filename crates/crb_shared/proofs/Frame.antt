-- What a step of one seat leaves of the others.
use Rattle.std.proofs.Common.{◌≡◌, ◌≢◌, ◌⊎◌, ℕ, List, [], ◌∷◌, ◌++◌, length, set, Option, Bool, true, false, true≢false, refl, sym, ap, ◌∙◌, subst, ⊎_elim, inl, inr, arith, length-set, get_or-set_same}
use Rattle.std.specs.Prelude.{slice_index}
use mathlib.Core.Option.{some, none}
use mathlib.Core.Option as maybe
use lib.ListN.{get_elem?}
use Rattle.atomic_table.specs.Table.{State, Me, Act, stepped, carried_after, Valid, Allows}
use Rattle.atomic_table.proofs.Lists.{at_set}
use Rattle.crb_shared.specs.declared.rule.SlotContent.{SlotContent}
use Rattle.crb_shared.specs.declared.rule.SeatRole.{SeatRole}
use Rattle.crb_shared.specs.declared.rule.SeatRole.TheVariants.{Opening, Unsplit, Guest, Worker, Note, Closed, Spent}
use Rattle.crb_shared.specs.declared.rule.SeatPhase.{SeatPhase}
use Rattle.crb_shared.specs.declared.rule.SeatPhase.TheVariants.{Away}
use Rattle.crb_shared.specs.declared.rule.TableName.{TableName}
use Rattle.crb_shared.specs.declared.rule.SeatView.{SeatView}
use Rattle.crb_shared.specs.Rule.{TableStage, opening, free, queued, cancelled, claimed, answered, word_of, SlotState, WhileFree, WhileClaimed, RuleAt, MatchesRole, PortInvariant}
use Rattle.crb_shared.specs.Plays.{is_away}
use Rattle.crb_shared.proofs.Appending.{at_end}

abbrev pub TableState : Type 0
TableState = State (Option SlotContent) SeatView

abbrev pub PortMe : Type 0
PortMe = Me (Option SlotContent) SeatView

abbrev pub Homes : Type 0
Homes = List (maybe.Option (Option SlotContent))

-- what a step of the seat id owes at the word n
abbrev pub Owes : TableState → ℕ → PortMe → (ℕ → ℕ) → (ℕ → PortMe → Type 0) → ℕ → Type 0
Owes s id m f then n = (w : SeatView) × (a : Act (Option SlotContent)) × Valid s.homes m.1 a × PortInvariant (stepped s 0 (f n) id m.1 w a) × then n (w, carried_after m.1 a)

-- it is enough to look at each stage
pub allowed : (slots id : ℕ) (m : PortMe) (f : ℕ → ℕ) (then : ℕ → PortMe → Type 0) → slots ≡ 1 → ((s : TableState) (r : PortInvariant s) → length s.homes ≡ 1 → get_elem? s.views id ≡ some m.0 → Owes s id m f then (word_of r.stage)) → Allows PortInvariant slots id m 0 f then
allowed slots id m f then one go s r long at small = subst (Owes s id m f then) (sym r.word) (go s r (long ∙ one) at)

pub off : false ≡ true → ⊥
off e = true≢false (sym e)

abbrev pub is_guest : SeatRole → Bool
is_guest Guest = true
is_guest _ = false

abbrev is_worker : SeatRole → Bool
is_worker Worker = true
is_worker _ = false

pub guest_knows : (s : TableState) (r : PortInvariant s) (id : ℕ) (v : SeatView) → get_elem? s.views id ≡ some v → v.role ≡ Guest → (v ≡ r.guest) × (id ≡ r.guest_at)
guest_knows s r id v at is = subst (MatchesRole r.stage r.guest_at r.worker_at r.note_at r.table_name r.note_is_out r.guest r.worker r.note id v) is (r.views_match id v at)

pub worker_knows : (s : TableState) (r : PortInvariant s) (id : ℕ) (v : SeatView) → get_elem? s.views id ≡ some v → v.role ≡ Worker → (v ≡ r.worker) × (id ≡ r.worker_at) × (r.guest.role ≡ Guest)
worker_knows s r id v at is = subst (MatchesRole r.stage r.guest_at r.worker_at r.note_at r.table_name r.note_is_out r.guest r.worker r.note id v) is (r.views_match id v at)

pub note_knows : (s : TableState) (r : PortInvariant s) (id : ℕ) (v : SeatView) → get_elem? s.views id ≡ some v → v.role ≡ Note → (v ≡ r.note) × (id ≡ r.note_at) × (r.note_is_out ≡ true)
note_knows s r id v at is = subst (MatchesRole r.stage r.guest_at r.worker_at r.note_at r.table_name r.note_is_out r.guest r.worker r.note id v) is (r.views_match id v at)

-- the note that is out
abbrev pub IsNote : ℕ → Bool → SeatView → ℕ → SeatView → Type 0
IsNote note live n j v = (v ≡ n) × (j ≡ note) × (live ≡ true)

-- the other seats, after a step of the guest's
others_guest : (p p' : TableStage) (guest worker note note' : ℕ) (z : TableName) (live live' : Bool) (g g' w n n' : SeatView) → g'.role ≡ Guest → (j : ℕ) (v : SeatView) → j ≢ guest → (IsNote note live n j v → IsNote note' live' n' j v)
    → (role : SeatRole) → MatchesRole p guest worker note z live g w n j v role → MatchesRole p' guest worker note' z live' g' w n' j v role
others_guest p p' guest worker note note' z live live' g g' w n n' is j v other keep Opening k = absurd (other k.1)
others_guest p p' guest worker note note' z live live' g g' w n n' is j v other keep Unsplit k = absurd (other k.1)
others_guest p p' guest worker note note' z live live' g g' w n n' is j v other keep Guest k = absurd (other k.1)
others_guest p p' guest worker note note' z live live' g g' w n n' is j v other keep Worker k = (k.0, k.1, is)
others_guest p p' guest worker note note' z live live' g g' w n n' is j v other keep Note k = keep k
others_guest p p' guest worker note note' z live live' g g' w n n' is j v other keep Closed k = absurd (other k.1)
others_guest p p' guest worker note note' z live live' g g' w n n' is j v other keep Spent k = tt

-- and after a step of the worker's
others_worker : (p p' : TableStage) (guest worker note note' : ℕ) (z : TableName) (live live' : Bool) (g w w' n n' : SeatView) → g.role ≡ Guest → (j : ℕ) (v : SeatView) → j ≢ worker → (IsNote note live n j v → IsNote note' live' n' j v)
    → (role : SeatRole) → v.role ≡ role → MatchesRole p guest worker note z live g w n j v role → MatchesRole p' guest worker note' z live' g w' n' j v role
others_worker p p' guest worker note note' z live live' g w w' n n' is j v other keep Opening at k = absurd (off (ap is_guest (sym at ∙ (ap (λ (u : SeatView). u.role) k.0 ∙ is))))
others_worker p p' guest worker note note' z live live' g w w' n n' is j v other keep Unsplit at k = absurd (off (ap is_guest (sym at ∙ (ap (λ (u : SeatView). u.role) k.0 ∙ is))))
others_worker p p' guest worker note note' z live live' g w w' n n' is j v other keep Guest at k = k
others_worker p p' guest worker note note' z live live' g w w' n n' is j v other keep Worker at k = absurd (other k.1)
others_worker p p' guest worker note note' z live live' g w w' n n' is j v other keep Note at k = keep k
others_worker p p' guest worker note note' z live live' g w w' n n' is j v other keep Closed at k = absurd (off (ap is_guest (sym at ∙ (ap (λ (u : SeatView). u.role) k.0 ∙ is))))
others_worker p p' guest worker note note' z live live' g w w' n n' is j v other keep Spent at k = tt

-- The rule again, after a step of the guest's seat: each view is the seat's, or another's as it was, or new and known
pub guest_rebuild : (s : TableState) (r : PortInvariant s) (id : ℕ) (v v' : SeatView) (words : List ℕ) (homes : Homes) (views : List SeatView) (p : TableStage) (note : ℕ) (live : Bool) (n : SeatView)
    → get_elem? s.views id ≡ some v → v.role ≡ Guest → v'.role ≡ Guest → v'.table_name ≡ v.table_name → length words ≡ 1 → slice_index words 0 ≡ word_of p → RuleAt r.table_name n live v' r.worker p (get_elem? homes 0)
    → ((j : ℕ) (u : SeatView) → get_elem? views j ≡ some u
    → ((j ≡ id) × (v' ≡ u)) ⊎ (((j ≢ id) × (get_elem? s.views j ≡ some u) × (IsNote r.note_at r.note_is_out r.note j u → IsNote note live n j u)) ⊎ MatchesRole p r.guest_at r.worker_at note r.table_name live v' r.worker n j u u.role))
    → PortInvariant record { words = words; homes = homes; views = views }
guest_rebuild s r id v v' words homes views p note live n at is is' same_name one_word word rule_at cases =
    let known = guest_knows s r id v at is in record {
      guest_at = r.guest_at;
      worker_at = r.worker_at;
      note_at = note;
      table_name = r.table_name;
      note_is_out = live;
      guest = v';
      worker = r.worker;
      note = n;
      stage = p;
      one_word = one_word;
      word = word;
      guest_table_name = same_name ∙ (ap (λ (x : SeatView). x.table_name) known.0 ∙ r.guest_table_name);
      worker_table_name = r.worker_table_name;
      rule_at = rule_at;
      views_match = λ j u e. ⊎_elim
          (λ (t : (j ≡ id) × (v' ≡ u)). subst (λ (x : ℕ × SeatView). MatchesRole p r.guest_at r.worker_at note r.table_name live v' r.worker n x.0 x.1 x.1.role) (λ i. (sym t.0 i, t.1 i)) (subst (MatchesRole p r.guest_at r.worker_at note r.table_name live v' r.worker n id v') (sym is') (refl, known.1)))
          (λ (o : ((j ≢ id) × (get_elem? s.views j ≡ some u) × (IsNote r.note_at r.note_is_out r.note j u → IsNote note live n j u)) ⊎ MatchesRole p r.guest_at r.worker_at note r.table_name live v' r.worker n j u u.role). ⊎_elim
          (λ (t : (j ≢ id) × (get_elem? s.views j ≡ some u) × (IsNote r.note_at r.note_is_out r.note j u → IsNote note live n j u)).
          others_guest r.stage p r.guest_at r.worker_at r.note_at note r.table_name r.note_is_out live r.guest v' r.worker r.note n is' j u (λ e'. t.0 (e' ∙ sym known.1)) t.2 u.role (r.views_match j u t.1))
          (λ k. k)
          o)
          (cases j u e);
    }

pub worker_rebuild : (s : TableState) (r : PortInvariant s) (id : ℕ) (v v' : SeatView) (words : List ℕ) (homes : Homes) (views : List SeatView) (p : TableStage) (note : ℕ) (live : Bool) (n : SeatView)
    → get_elem? s.views id ≡ some v → v.role ≡ Worker → v'.role ≡ Worker → v'.table_name ≡ v.table_name → length words ≡ 1 → slice_index words 0 ≡ word_of p → RuleAt r.table_name n live r.guest v' p (get_elem? homes 0)
    → ((j : ℕ) (u : SeatView) → get_elem? views j ≡ some u
    → ((j ≡ id) × (v' ≡ u)) ⊎ (((j ≢ id) × (get_elem? s.views j ≡ some u) × (IsNote r.note_at r.note_is_out r.note j u → IsNote note live n j u)) ⊎ MatchesRole p r.guest_at r.worker_at note r.table_name live r.guest v' n j u u.role))
    → PortInvariant record { words = words; homes = homes; views = views }
worker_rebuild s r id v v' words homes views p note live n at is is' same_name one_word word rule_at cases =
    let known = worker_knows s r id v at is in record {
      guest_at = r.guest_at;
      worker_at = r.worker_at;
      note_at = note;
      table_name = r.table_name;
      note_is_out = live;
      guest = r.guest;
      worker = v';
      note = n;
      stage = p;
      one_word = one_word;
      word = word;
      guest_table_name = r.guest_table_name;
      worker_table_name = same_name ∙ (ap (λ (x : SeatView). x.table_name) known.0 ∙ r.worker_table_name);
      rule_at = rule_at;
      views_match = λ j u e. ⊎_elim
          (λ (t : (j ≡ id) × (v' ≡ u)). subst (λ (x : ℕ × SeatView). MatchesRole p r.guest_at r.worker_at note r.table_name live r.guest v' n x.0 x.1 x.1.role) (λ i. (sym t.0 i, t.1 i)) (subst (MatchesRole p r.guest_at r.worker_at note r.table_name live r.guest v' n id v') (sym is') (refl, known.1, known.2)))
          (λ (o : ((j ≢ id) × (get_elem? s.views j ≡ some u) × (IsNote r.note_at r.note_is_out r.note j u → IsNote note live n j u)) ⊎ MatchesRole p r.guest_at r.worker_at note r.table_name live r.guest v' n j u u.role). ⊎_elim
          (λ (t : (j ≢ id) × (get_elem? s.views j ≡ some u) × (IsNote r.note_at r.note_is_out r.note j u → IsNote note live n j u)).
          others_worker r.stage p r.guest_at r.worker_at r.note_at note r.table_name r.note_is_out live r.guest r.worker v' r.note n known.2 j u (λ e'. t.0 (e' ∙ sym known.1)) t.2 u.role refl (r.views_match j u t.1))
          (λ k. k)
          o)
          (cases j u e);
    }

-- a step on the word
pub guest_steps : (s : TableState) (r : PortInvariant s) (id : ℕ) (v v' : SeatView) (x : ℕ) (homes : Homes) (p : TableStage) → get_elem? s.views id ≡ some v → v.role ≡ Guest → v'.role ≡ Guest → v'.table_name ≡ v.table_name
    → x ≡ word_of p → RuleAt r.table_name r.note r.note_is_out v' r.worker p (get_elem? homes 0) → PortInvariant record { words = set s.words 0 x; homes = homes; views = set s.views id v' }
guest_steps s r id v v' x homes p at is is' same_name word rule_at =
    guest_rebuild s r id v v' (set s.words 0 x) homes (set s.views id v') p r.note_at r.note_is_out r.note at is is' same_name (length-set s.words 0 x ∙ r.one_word) (get_or-set_same s.words 0 x 0 (let one_word = r.one_word in omega arith) ∙ word) rule_at
    (λ j u e. ⊎_elim (λ (t : (j ≡ id) × (v' ≡ u)). inl t) (λ (t : (j ≢ id) × (get_elem? s.views j ≡ some u)). inr (inl (t.0, t.1, λ k. k))) (at_set s.views id j v' u e))

pub worker_steps : (s : TableState) (r : PortInvariant s) (id : ℕ) (v v' : SeatView) (x : ℕ) (homes : Homes) (p : TableStage) → get_elem? s.views id ≡ some v → v.role ≡ Worker → v'.role ≡ Worker → v'.table_name ≡ v.table_name
    → x ≡ word_of p → RuleAt r.table_name r.note r.note_is_out r.guest v' p (get_elem? homes 0) → PortInvariant record { words = set s.words 0 x; homes = homes; views = set s.views id v' }
worker_steps s r id v v' x homes p at is is' same_name word rule_at =
    worker_rebuild s r id v v' (set s.words 0 x) homes (set s.views id v') p r.note_at r.note_is_out r.note at is is' same_name (length-set s.words 0 x ∙ r.one_word) (get_or-set_same s.words 0 x 0 (let one_word = r.one_word in omega arith) ∙ word) rule_at
    (λ j u e. ⊎_elim (λ (t : (j ≡ id) × (v' ≡ u)). inl t) (λ (t : (j ≢ id) × (get_elem? s.views j ≡ some u)). inr (inl (t.0, t.1, λ k. k))) (at_set s.views id j v' u e))

-- a note is split off, if none is out
pub guest_splits : (s : TableState) (r : PortInvariant s) (id : ℕ) (v v' n : SeatView) (p : TableStage) → get_elem? s.views id ≡ some v → v.role ≡ Guest → v'.role ≡ Guest → v'.table_name ≡ v.table_name → r.note_is_out ≡ false → n.role ≡ Note
    → slice_index s.words 0 ≡ word_of p → RuleAt r.table_name n true v' r.worker p (get_elem? s.homes 0) → PortInvariant record { words = s.words; homes = s.homes; views = set s.views id v' ++ n ∷ [] }
guest_splits s r id v v' n p at is is' same_name none_yet is_note word rule_at =
    guest_rebuild s r id v v' s.words s.homes (set s.views id v' ++ n ∷ []) p (length (set s.views id v')) true n at is is' same_name r.one_word word rule_at
    (λ j u e. ⊎_elim
    (λ (was : get_elem? (set s.views id v') j ≡ some u). ⊎_elim (λ (t : (j ≡ id) × (v' ≡ u)). inl t) (λ (t : (j ≢ id) × (get_elem? s.views j ≡ some u)). inr (inl (t.0, t.1, λ k. absurd (off (sym none_yet ∙ k.2))))) (at_set s.views id j v' u was))
    (λ (t : (n ≡ u) × (j ≡ length (set s.views id v'))). inr (inr (subst (λ (x : SeatView). MatchesRole p r.guest_at r.worker_at (length (set s.views id v')) r.table_name true v' r.worker n j x x.role) t.0
    (subst (MatchesRole p r.guest_at r.worker_at (length (set s.views id v')) r.table_name true v' r.worker n j n) (sym is_note) (refl, t.1, refl)))))
    (at_end (set s.views id v') n u j e))

pub worker_splits : (s : TableState) (r : PortInvariant s) (id : ℕ) (v v' n : SeatView) (p : TableStage) → get_elem? s.views id ≡ some v → v.role ≡ Worker → v'.role ≡ Worker → v'.table_name ≡ v.table_name → r.note_is_out ≡ false → n.role ≡ Note
    → slice_index s.words 0 ≡ word_of p → RuleAt r.table_name n true r.guest v' p (get_elem? s.homes 0) → PortInvariant record { words = s.words; homes = s.homes; views = set s.views id v' ++ n ∷ [] }
worker_splits s r id v v' n p at is is' same_name none_yet is_note word rule_at =
    worker_rebuild s r id v v' s.words s.homes (set s.views id v' ++ n ∷ []) p (length (set s.views id v')) true n at is is' same_name r.one_word word rule_at
    (λ j u e. ⊎_elim
    (λ (was : get_elem? (set s.views id v') j ≡ some u). ⊎_elim (λ (t : (j ≡ id) × (v' ≡ u)). inl t) (λ (t : (j ≢ id) × (get_elem? s.views j ≡ some u)). inr (inl (t.0, t.1, λ k. absurd (off (sym none_yet ∙ k.2))))) (at_set s.views id j v' u was))
    (λ (t : (n ≡ u) × (j ≡ length (set s.views id v'))). inr (inr (subst (λ (x : SeatView). MatchesRole p r.guest_at r.worker_at (length (set s.views id v')) r.table_name true r.guest v' n j x x.role) t.0
    (subst (MatchesRole p r.guest_at r.worker_at (length (set s.views id v')) r.table_name true r.guest v' n j n) (sym is_note) (refl, t.1, refl)))))
    (at_end (set s.views id v') n u j e))

-- a note is joined
pub guest_joins : (s : TableState) (r : PortInvariant s) (id : ℕ) (v v' : SeatView) (other : ℕ) (u' spent_view : SeatView) (p : TableStage) → get_elem? s.views id ≡ some v → v.role ≡ Guest → v'.role ≡ Guest → v'.table_name ≡ v.table_name
    → other ≢ id → get_elem? s.views other ≡ some u' → u'.role ≡ Note → spent_view.role ≡ Spent
    → slice_index s.words 0 ≡ word_of p → RuleAt r.table_name r.note false v' r.worker p (get_elem? s.homes 0) → PortInvariant record { words = s.words; homes = s.homes; views = set (set s.views id v') other spent_view }
guest_joins s r id v v' other u' spent_view p at is is' same_name apart there is_note is_spent word rule_at =
    guest_rebuild s r id v v' s.words s.homes (set (set s.views id v') other spent_view) p r.note_at false r.note at is is' same_name r.one_word word rule_at
    (λ j u e. ⊎_elim
    (λ (t : (j ≡ other) × (spent_view ≡ u)). inr (inr (subst (λ (x : SeatView). MatchesRole p r.guest_at r.worker_at r.note_at r.table_name false v' r.worker r.note j x x.role) t.1 (subst (MatchesRole p r.guest_at r.worker_at r.note_at r.table_name false v' r.worker r.note j spent_view) (sym is_spent) tt))))
    (λ (o : (j ≢ other) × (get_elem? (set s.views id v') j ≡ some u)). ⊎_elim (λ (t : (j ≡ id) × (v' ≡ u)). inl t)
    (λ (t : (j ≢ id) × (get_elem? s.views j ≡ some u)). inr (inl (t.0, t.1, λ k. absurd (o.0 (k.1 ∙ sym (note_knows s r other u' there is_note).1))))) (at_set s.views id j v' u o.1))
    (at_set (set s.views id v') other j spent_view u e))

pub worker_joins : (s : TableState) (r : PortInvariant s) (id : ℕ) (v v' : SeatView) (other : ℕ) (u' spent_view : SeatView) (p : TableStage) → get_elem? s.views id ≡ some v → v.role ≡ Worker → v'.role ≡ Worker → v'.table_name ≡ v.table_name
    → other ≢ id → get_elem? s.views other ≡ some u' → u'.role ≡ Note → spent_view.role ≡ Spent
    → slice_index s.words 0 ≡ word_of p → RuleAt r.table_name r.note false r.guest v' p (get_elem? s.homes 0) → PortInvariant record { words = s.words; homes = s.homes; views = set (set s.views id v') other spent_view }
worker_joins s r id v v' other u' spent_view p at is is' same_name apart there is_note is_spent word rule_at =
    worker_rebuild s r id v v' s.words s.homes (set (set s.views id v') other spent_view) p r.note_at false r.note at is is' same_name r.one_word word rule_at
    (λ j u e. ⊎_elim
    (λ (t : (j ≡ other) × (spent_view ≡ u)). inr (inr (subst (λ (x : SeatView). MatchesRole p r.guest_at r.worker_at r.note_at r.table_name false r.guest v' r.note j x x.role) t.1 (subst (MatchesRole p r.guest_at r.worker_at r.note_at r.table_name false r.guest v' r.note j spent_view) (sym is_spent) tt))))
    (λ (o : (j ≢ other) × (get_elem? (set s.views id v') j ≡ some u)). ⊎_elim (λ (t : (j ≡ id) × (v' ≡ u)). inl t)
    (λ (t : (j ≢ id) × (get_elem? s.views j ≡ some u)). inr (inl (t.0, t.1, λ k. absurd (o.0 (k.1 ∙ sym (note_knows s r other u' there is_note).1))))) (at_set s.views id j v' u o.1))
    (at_set (set s.views id v') other j spent_view u e))

-- the rule at the seat's own view
pub at_guest : (s : TableState) (r : PortInvariant s) (id : ℕ) (v : SeatView) → get_elem? s.views id ≡ some v → v.role ≡ Guest → RuleAt r.table_name r.note r.note_is_out v r.worker r.stage (get_elem? s.homes 0)
at_guest s r id v at is = subst (λ (x : SeatView). RuleAt r.table_name r.note r.note_is_out x r.worker r.stage (get_elem? s.homes 0)) (sym (guest_knows s r id v at is).0) r.rule_at

pub at_worker : (s : TableState) (r : PortInvariant s) (id : ℕ) (v : SeatView) → get_elem? s.views id ≡ some v → v.role ≡ Worker → RuleAt r.table_name r.note r.note_is_out r.guest v r.stage (get_elem? s.homes 0)
at_worker s r id v at is = subst (λ (x : SeatView). RuleAt r.table_name r.note r.note_is_out r.guest x r.stage (get_elem? s.homes 0)) (sym (worker_knows s r id v at is).0) r.rule_at

-- a guest that holds the slot is in FREE, a worker in CLAIMED
pub guest_free : (z : TableName) (n : SeatView) (live : Bool) (v w : SeatView) (p : TableStage) (h : SlotState) (f : SeatPhase) → v.role ≡ Guest → v.phase ≡ f → is_away f ≡ false → RuleAt z n live v w p h
    → (p ≡ free) × (w.phase ≡ Away) × (v.found_answer ≡ false) × WhileFree z n live v w f
guest_free z n live v w opening h f is at holds k = absurd (off (ap is_guest (sym (ap (λ (x : SeatView). x.role) k.0) ∙ is)))
guest_free z n live v w free h f is at holds k = (refl, k.0, k.1, subst (WhileFree z n live v w) at k.2)
guest_free z n live v w queued h f is at holds k = absurd (off (sym holds ∙ ap is_away (sym at ∙ k.0)))
guest_free z n live v w cancelled h f is at holds k = absurd (off (sym holds ∙ ap is_away (sym at ∙ k.0)))
guest_free z n live v w claimed h f is at holds k = absurd (off (sym holds ∙ ap is_away (sym at ∙ k.0)))
guest_free z n live v w answered h f is at holds k = absurd (off (sym holds ∙ ap is_away (sym at ∙ k.0)))

pub worker_claimed : (z : TableName) (n : SeatView) (live : Bool) (g v : SeatView) (p : TableStage) (h : SlotState) (f : SeatPhase) → g.role ≡ Guest → v.phase ≡ f → is_away f ≡ false → RuleAt z n live g v p h
    → (p ≡ claimed) × (g.phase ≡ Away) × (g.found_answer ≡ false) × WhileClaimed z n live g v f
worker_claimed z n live g v opening h f is at holds k = absurd (off (ap is_guest (sym (ap (λ (x : SeatView). x.role) k.0) ∙ is)))
worker_claimed z n live g v free h f is at holds k = absurd (off (sym holds ∙ ap is_away (sym at ∙ k.0)))
worker_claimed z n live g v queued h f is at holds k = absurd (off (sym holds ∙ ap is_away (sym at ∙ k.1)))
worker_claimed z n live g v cancelled h f is at holds k = absurd (off (sym holds ∙ ap is_away (sym at ∙ k.1)))
worker_claimed z n live g v claimed h f is at holds k = (refl, k.0, k.1, subst (WhileClaimed z n live g v) at k.2)
worker_claimed z n live g v answered h f is at holds k = absurd (off (sym holds ∙ ap is_away (sym at ∙ k.1)))
