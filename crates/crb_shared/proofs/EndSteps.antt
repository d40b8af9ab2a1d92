-- The start and the end keep the rule.
use Rattle.std.proofs.Common.{◌≡◌, ◌≢◌, ℕ, zero, suc, List, [], ◌∷◌, ◌++◌, map, length, set, None, Bool, true, false, refl, sym, ap, ◌∙◌, subst, ⊎_elim, inl, inr, arith, length-set, get_or-set_same}
use Rattle.std.proofs.lemmas.List.{map-append}
use mathlib.Core.Option.{some, none, some-ne-none, some-injective}
use lib.ListN.{get_elem?}
use lib.Seq.{set-get_or}
use Rattle.atomic_table.specs.Seated.{TableId}
use Rattle.atomic_table.specs.Table.{opening as opening_state}
use Rattle.atomic_table.specs.Table.{keeps, takes, step, Allows, Splits, Joins}
use Rattle.atomic_table.proofs.Lists.{at_set, set_again}
use Rattle.crb_port.specs.declared.job.Job.{Job}
use Rattle.crb_port.specs.declared.job.Answer.{Answer}
use Rattle.crb_shared.specs.declared.rule.SeatRole.{SeatRole}
use Rattle.crb_shared.specs.declared.rule.SeatRole.TheVariants.{Opening, Unsplit, Guest, Worker, Note, Closed, Spent}
use Rattle.crb_shared.specs.declared.rule.SeatPhase.{SeatPhase}
use Rattle.crb_shared.specs.declared.rule.SeatPhase.TheVariants.{Away, Holding, NoteBack, Due, NoteJoined, Ready, NoteSplit}
use Rattle.crb_shared.specs.declared.rule.TableName.{TableName}
use Rattle.crb_shared.specs.declared.rule.SeatView.{SeatView}
use Rattle.crb_shared.specs.Agreement.{IsSubsequence, sub_end, ListsAgree, job_number}
use Rattle.crb_shared.specs.Rule.{TableStage, opening, free, queued, cancelled, claimed, answered, word_of, SlotState, name_of_table, no_table_name, start_view, empty_view, is_between, WhileFree, WhileClaimed, WhileWaiting, RuleAt, MatchesRole, PortInvariant}
use Rattle.crb_shared.specs.Plays.{is_away}
use Rattle.crb_shared.specs.Plays as plays
use Rattle.crb_shared.proofs.Appending.{at_end, sub_later}
use Rattle.crb_shared.proofs.Frame.{PortMe, allowed, off, guest_knows, worker_knows, is_guest}
use Rattle.crb_shared.proofs.GuestSteps.{elsewhere}

pub begins : PortInvariant (opening_state (0 ∷ []) (None ∷ []) start_view)
begins = record {
  guest_at = 0;
  worker_at = 0;
  note_at = 0;
  table_name = no_table_name;
  note_is_out = false;
  guest = start_view;
  worker = empty_view Worker no_table_name;
  note = start_view;
  stage = opening;
  one_word = refl;
  word = refl;
  guest_table_name = refl;
  worker_table_name = refl;
  rule_at = (refl, refl, refl, refl, refl);
  views_match = one;
}
  where
    one : (j : ℕ) (v : SeatView) → get_elem? (start_view ∷ []) j ≡ some v → MatchesRole opening 0 0 0 no_table_name false start_view (empty_view Worker no_table_name) start_view j v v.role
    one zero v e = subst (λ (u : SeatView). MatchesRole opening 0 0 0 no_table_name false start_view (empty_view Worker no_table_name) start_view 0 u u.role) (some-injective _ _ e) (refl, refl, refl)
    one (suc j) v e = absurd (some-ne-none v (sym e))

-- the other seats, before there is a worker's
others_first : (p p' : TableStage) (guest worker worker' note : ℕ) (z z' : TableName) (live : Bool) (g g' w w' n : SeatView) → (is_guest g.role ≡ false) → live ≡ false → (j : ℕ) (v : SeatView) → j ≢ guest → (role : SeatRole)
    → MatchesRole p guest worker note z live g w n j v role → MatchesRole p' guest worker' note z' live g' w' n j v role
others_first p p' guest worker worker' note z z' live g g' w w' n is none_yet j v other Opening k = absurd (other k.1)
others_first p p' guest worker worker' note z z' live g g' w w' n is none_yet j v other Unsplit k = absurd (other k.1)
others_first p p' guest worker worker' note z z' live g g' w w' n is none_yet j v other Guest k = absurd (other k.1)
others_first p p' guest worker worker' note z z' live g g' w w' n is none_yet j v other Worker k = absurd (off (sym is ∙ ap is_guest k.2))
others_first p p' guest worker worker' note z z' live g g' w w' n is none_yet j v other Note k = k
others_first p p' guest worker worker' note z z' live g g' w w' n is none_yet j v other Closed k = absurd (other k.1)
others_first p p' guest worker worker' note z z' live g g' w w' n is none_yet j v other Spent k = tt

at_opening : (z : TableName) (n : SeatView) (live : Bool) (g w : SeatView) (p : TableStage) (h : SlotState) → p ≡ opening → RuleAt z n live g w p h → (g ≡ start_view) × (live ≡ false) × (h ≡ some (some None))
at_opening z n live g w p h e k = let k' = subst (λ (q : TableStage). RuleAt z n live g w q h) e k in (k'.0, k'.3, k'.4)

-- the first store
pub opens : (t : TableId) (slots id : ℕ) → slots ≡ 1 → Allows PortInvariant slots id (start_view, []) 0 (λ _. 0) (λ _. plays.opened t (step slots 0 0 0 none) (start_view, []) 0)
opens t slots id one = allowed slots id (start_view, []) (λ _. 0) (λ _. plays.opened t (step slots 0 0 0 none) (start_view, []) 0) one
    (λ s r long at. let known = r.views_match id start_view at in let k = at_opening r.table_name r.note r.note_is_out r.guest r.worker r.stage (get_elem? s.homes 0) known.2 r.rule_at in let v' = plays.opened_view t in let w' = empty_view Worker (name_of_table t) in (
      v',
      takes 0 None,
      k.2,
      record {
        guest_at = r.guest_at;
        worker_at = r.worker_at;
        note_at = r.note_at;
        table_name = name_of_table t;
        note_is_out = r.note_is_out;
        guest = v';
        worker = w';
        note = r.note;
        stage = free;
        one_word = length-set s.words 0 0 ∙ r.one_word;
        word = get_or-set_same s.words 0 0 0 (let one_word = r.one_word in omega arith);
        guest_table_name = refl;
        worker_table_name = refl;
        rule_at = (refl, refl, (refl, refl, sub_end, k.1));
        views_match = λ j u e. ⊎_elim
            (λ (t' : (j ≡ id) × (v' ≡ u)). subst (λ (x : ℕ × SeatView). MatchesRole free r.guest_at r.worker_at r.note_at (name_of_table t) r.note_is_out v' w' r.note x.0 x.1 x.1.role) (λ i. (sym t'.0 i, t'.1 i)) (refl, known.1, refl))
            (λ (t' : (j ≢ id) × (get_elem? s.views j ≡ some u)). others_first r.stage free r.guest_at r.worker_at r.worker_at r.note_at r.table_name (name_of_table t) r.note_is_out r.guest v' r.worker w' r.note (ap (λ (x : SeatView). is_guest x.role) k.0) k.1 j u (λ e'. t'.0 (e' ∙ sym known.1)) u.role (r.views_match j u t'.1))
            (at_set s.views id j v' u e);
      },
      (refl, refl),
    ))

abbrev is_unsplit : SeatRole → Bool
is_unsplit Unsplit = true
is_unsplit _ = false

unsplit_free : (z : TableName) (n : SeatView) (live : Bool) (v w : SeatView) (p : TableStage) (h : SlotState) → v.role ≡ Unsplit → v.phase ≡ Holding → RuleAt z n live v w p h → (p ≡ free) × (w.phase ≡ Away) × (v.found_answer ≡ false) × WhileFree z n live v w Holding
unsplit_free z n live v w opening h is at k = absurd (off (ap is_unsplit (sym (ap (λ (x : SeatView). x.role) k.0) ∙ is)))
unsplit_free z n live v w free h is at k = (refl, k.0, k.1, subst (WhileFree z n live v w) at k.2)
unsplit_free z n live v w queued h is at k = absurd (off (ap is_away (sym at ∙ k.0)))
unsplit_free z n live v w cancelled h is at k = absurd (off (ap is_away (sym at ∙ k.0)))
unsplit_free z n live v w claimed h is at k = absurd (off (ap is_away (sym at ∙ k.0)))
unsplit_free z n live v w answered h is at k = absurd (off (ap is_away (sym at ∙ k.0)))

-- the split into two seats
pub parts : (id : ℕ) (v : SeatView) → v.role ≡ Unsplit → v.phase ≡ Holding → Splits PortInvariant id v (plays.guest_part v) (plays.worker_part v)
parts id v is calm s r at = let known = subst (MatchesRole r.stage r.guest_at r.worker_at r.note_at r.table_name r.note_is_out r.guest r.worker r.note id v) is (r.views_match id v at) in let g' = plays.guest_part v in let w' = plays.worker_part v in
    let table_name : v.table_name ≡ r.table_name = ap (λ (x : SeatView). x.table_name) known.0 ∙ r.guest_table_name in
    let k = unsplit_free r.table_name r.note r.note_is_out v r.worker r.stage (get_elem? s.homes 0) is calm (subst (λ (x : SeatView). RuleAt r.table_name r.note r.note_is_out x r.worker r.stage (get_elem? s.homes 0)) (sym known.0) r.rule_at) in
    let idle : r.worker ≡ w' = known.2 ∙ ap (empty_view Worker) (sym table_name) in record {
      guest_at = r.guest_at;
      worker_at = length (set s.views id g');
      note_at = r.note_at;
      table_name = r.table_name;
      note_is_out = r.note_is_out;
      guest = g';
      worker = w';
      note = r.note;
      stage = free;
      one_word = r.one_word;
      word = r.word ∙ ap word_of k.0;
      guest_table_name = table_name;
      worker_table_name = table_name;
      rule_at = (refl, k.2, subst (WhileFree r.table_name r.note r.note_is_out g' w') (sym calm) (subst (λ (x : SeatView). WhileFree r.table_name r.note r.note_is_out g' x Holding) idle k.3));
      views_match = λ j u e. ⊎_elim
          (λ (was : get_elem? (set s.views id g') j ≡ some u). ⊎_elim
          (λ (t : (j ≡ id) × (g' ≡ u)). subst (λ (x : ℕ × SeatView). MatchesRole free r.guest_at (length (set s.views id g')) r.note_at r.table_name r.note_is_out g' w' r.note x.0 x.1 x.1.role) (λ i. (sym t.0 i, t.1 i)) (refl, known.1))
          (λ (t : (j ≢ id) × (get_elem? s.views j ≡ some u)). others_first r.stage free r.guest_at r.worker_at (length (set s.views id g')) r.note_at r.table_name r.table_name r.note_is_out r.guest g' r.worker w' r.note (ap (λ (x : SeatView). is_guest x.role) (sym known.0) ∙ ap is_guest is) (k.3.3) j u (λ e'. t.0 (e' ∙ sym known.1)) u.role (r.views_match j u t.1))
          (at_set s.views id j g' u was))
          (λ (t : (w' ≡ u) × (j ≡ length (set s.views id g'))). subst (λ (x : ℕ × SeatView). MatchesRole free r.guest_at (length (set s.views id g')) r.note_at r.table_name r.note_is_out g' w' r.note x.0 x.1 x.1.role) (λ i. (sym t.1 i, t.0 i)) (refl, refl, refl))
          (at_end (set s.views id g') w' u j e);
    }

-- the join of the two seats
closed_free : (z : TableName) (n : SeatView) (live : Bool) (v u w : SeatView) (f : SeatPhase) → is_between f ≡ true → WhileFree z n live v w f → WhileFree z n live (plays.closed v u) w f
closed_free z n live v u w Away b k = k
closed_free z n live v u w Holding b k = k
closed_free z n live v u w NoteBack b k = k
closed_free z n live v u w Due b k = k
closed_free z n live v u w NoteJoined b k = absurd (off b)
closed_free z n live v u w Ready b k = k
closed_free z n live v u w NoteSplit b k = k

closed_claimed : (z : TableName) (n : SeatView) (live : Bool) (v u w : SeatView) (f : SeatPhase) → WhileClaimed z n live v w f → WhileClaimed z n live (plays.closed v u) w f
closed_claimed z n live v u w Away k = k
closed_claimed z n live v u w Holding k = k
closed_claimed z n live v u w NoteBack k = k
closed_claimed z n live v u w Due k = k
closed_claimed z n live v u w NoteJoined k = k
closed_claimed z n live v u w Ready k = k
closed_claimed z n live v u w NoteSplit k = k

closed_rule : (z : TableName) (n : SeatView) (live : Bool) (v u w : SeatView) (p : TableStage) (h : SlotState) → v.role ≡ Guest → is_between v.phase ≡ true → RuleAt z n live v w p h → RuleAt z n live (plays.closed v u) w p h
closed_rule z n live v u w opening h is b k = absurd (off (ap is_guest (sym (ap (λ (x : SeatView). x.role) k.0) ∙ is)))
closed_rule z n live v u w free h is b k = (k.0, k.1, closed_free z n live v u w v.phase b k.2)
closed_rule z n live v u w queued h is b k = k
closed_rule z n live v u w cancelled h is b k = k
closed_rule z n live v u w claimed h is b k = (k.0, k.1, closed_claimed z n live v u w w.phase k.2)
closed_rule z n live v u w answered h is b k = k

others_closed : (p : TableStage) (guest worker note : ℕ) (z : TableName) (live : Bool) (g g' w n : SeatView) (j : ℕ) (v : SeatView) → j ≢ guest → j ≢ worker → (role : SeatRole) → MatchesRole p guest worker note z live g w n j v role → MatchesRole p guest worker note z live g' w n j v role
others_closed p guest worker note z live g g' w n j v other other' Opening k = absurd (other k.1)
others_closed p guest worker note z live g g' w n j v other other' Unsplit k = absurd (other k.1)
others_closed p guest worker note z live g g' w n j v other other' Guest k = absurd (other k.1)
others_closed p guest worker note z live g g' w n j v other other' Worker k = absurd (other' k.1)
others_closed p guest worker note z live g g' w n j v other other' Note k = k
others_closed p guest worker note z live g g' w n j v other other' Closed k = absurd (other k.1)
others_closed p guest worker note z live g g' w n j v other other' Spent k = tt

pub closes : (id : ℕ) (v : SeatView) (other : ℕ) (u : SeatView) → v.role ≡ Guest → u.role ≡ Worker → is_between v.phase ≡ true → is_between u.phase ≡ true → Joins PortInvariant id v other u (plays.closed v u) plays.spent_view
closes id v other u is is' b b' s r at apart there = let g' = plays.closed v u in let known = guest_knows s r id v at is in let there' = elsewhere s id other g' u apart there in let knows = worker_knows s r other u there' is' in record {
  guest_at = r.guest_at;
  worker_at = r.worker_at;
  note_at = r.note_at;
  table_name = r.table_name;
  note_is_out = r.note_is_out;
  guest = g';
  worker = r.worker;
  note = r.note;
  stage = r.stage;
  one_word = r.one_word;
  word = r.word;
  guest_table_name = ap (λ (x : SeatView). x.table_name) known.0 ∙ r.guest_table_name;
  worker_table_name = r.worker_table_name;
  rule_at = closed_rule r.table_name r.note r.note_is_out v u r.worker r.stage (get_elem? s.homes 0) is b (subst (λ (x : SeatView). RuleAt r.table_name r.note r.note_is_out x r.worker r.stage (get_elem? s.homes 0)) (sym known.0) r.rule_at);
  views_match = λ j x e. ⊎_elim
      (λ (t : (j ≡ other) × (plays.spent_view ≡ x)). subst (λ (y : SeatView). MatchesRole r.stage r.guest_at r.worker_at r.note_at r.table_name r.note_is_out g' r.worker r.note j y y.role) t.1 tt)
      (λ (o : (j ≢ other) × (get_elem? (set s.views id g') j ≡ some x)). ⊎_elim
      (λ (t : (j ≡ id) × (g' ≡ x)). subst (λ (y : ℕ × SeatView). MatchesRole r.stage r.guest_at r.worker_at r.note_at r.table_name r.note_is_out g' r.worker r.note y.0 y.1 y.1.role) (λ i. (sym t.0 i, t.1 i))
      (refl, known.1, ap (λ (y : SeatView). y.jobs) knows.0, ap (λ (y : SeatView). y.answers) knows.0, b, subst (λ (y : SeatView). is_between y.phase ≡ true) knows.0 b'))
      (λ (t : (j ≢ id) × (get_elem? s.views j ≡ some x)). others_closed r.stage r.guest_at r.worker_at r.note_at r.table_name r.note_is_out r.guest g' r.worker r.note j x (λ e'. t.0 (e' ∙ sym known.1)) (λ e'. o.0 (e' ∙ sym knows.1)) x.role (r.views_match j x t.1))
      (at_set s.views id j g' x o.1))
      (at_set (set s.views id g') other j plays.spent_view x e);
}

-- what the rule says of the lists, if both seats are between two calls
waiting_lists_agree : (z : TableName) (n : SeatView) (live : Bool) (v w : SeatView) (b : Bool) (h : SlotState) → WhileWaiting z n live v w b h → ListsAgree v.jobs w.jobs w.answers v.answers
waiting_lists_agree z n live v w b h k = let e = k.4 in (subst (λ (q : List Job). IsSubsequence w.jobs q) (sym e.3) (sub_later w.jobs e.0 _ e.4), inl k.0, inl k.1)

free_lists_agree : (z : TableName) (n : SeatView) (live : Bool) (v w : SeatView) (f : SeatPhase) → is_between f ≡ true → WhileFree z n live v w f → ListsAgree v.jobs w.jobs w.answers v.answers
free_lists_agree z n live v w Away b k = absurd k
free_lists_agree z n live v w Holding b k = (k.2, inl k.0, inl k.1)
free_lists_agree z n live v w NoteBack b k = absurd (off b)
free_lists_agree z n live v w Due b k = absurd (off b)
free_lists_agree z n live v w NoteJoined b k = absurd (off b)
free_lists_agree z n live v w Ready b k = absurd (off b)
free_lists_agree z n live v w NoteSplit b k = absurd (off b)

claimed_lists_agree : (z : TableName) (n : SeatView) (live : Bool) (v w : SeatView) (f : SeatPhase) → is_between f ≡ true → WhileClaimed z n live v w f → ListsAgree v.jobs w.jobs w.answers v.answers
claimed_lists_agree z n live v w Away b k = let e = k.1 in (k.2, inr (e.1.number, ap (map job_number) e.2 ∙ (map-append job_number e.0 (e.1 ∷ []) ∙ ap (λ l. l ++ e.1.number ∷ []) (sym e.3))), inl k.0)
claimed_lists_agree z n live v w Holding b k = let e = k.1 in (k.2, inr (e.1.number, ap (map job_number) e.2 ∙ (map-append job_number e.0 (e.1 ∷ []) ∙ ap (λ l. l ++ e.1.number ∷ []) (sym e.3))), inl k.0)
claimed_lists_agree z n live v w NoteBack b k = absurd (off b)
claimed_lists_agree z n live v w Due b k = absurd (off b)
claimed_lists_agree z n live v w NoteJoined b k = absurd (off b)
claimed_lists_agree z n live v w Ready b k = absurd (off b)
claimed_lists_agree z n live v w NoteSplit b k = absurd (off b)

abbrev is_closed : SeatRole → Bool
is_closed Closed = true
is_closed _ = false

lists_agree : (z : TableName) (n : SeatView) (live : Bool) (v w : SeatView) (p : TableStage) (h : SlotState) → v.role ≡ Closed → is_between v.phase ≡ true → is_between w.phase ≡ true → RuleAt z n live v w p h → ListsAgree v.jobs w.jobs w.answers v.answers
lists_agree z n live v w opening h is b b' k = absurd (off (ap is_closed (sym (ap (λ (x : SeatView). x.role) k.0) ∙ is)))
lists_agree z n live v w free h is b b' k = free_lists_agree z n live v w v.phase b k.2
lists_agree z n live v w queued h is b b' k = waiting_lists_agree z n live v w false h k.3
lists_agree z n live v w cancelled h is b b' k = waiting_lists_agree z n live v w true h k.3
lists_agree z n live v w claimed h is b b' k = claimed_lists_agree z n live v w w.phase b' k.2
lists_agree z n live v w answered h is b b' k = let i = k.2 in (i.1, inl i.0, inr (i.4.0, i.4.2))

pub compares : (slots id : ℕ) (m : PortMe) → slots ≡ 1 → m.0.role ≡ Closed → Allows PortInvariant slots id m 0 (λ n. n) (plays.compared (step slots 0 0 0 none) m)
compares slots id m one is = allowed slots id m (λ n. n) (plays.compared (step slots 0 0 0 none) m) one
    (λ s r long at. let known = subst (MatchesRole r.stage r.guest_at r.worker_at r.note_at r.table_name r.note_is_out r.guest r.worker r.note id m.0) is (r.views_match id m.0 at) in
    let all = lists_agree r.table_name r.note r.note_is_out m.0 r.worker r.stage (get_elem? s.homes 0) is known.4 known.5 (subst (λ (x : SeatView). RuleAt r.table_name r.note r.note_is_out x r.worker r.stage (get_elem? s.homes 0)) (sym known.0) r.rule_at) in (
      m.0,
      keeps,
      tt,
      subst (λ (x : List ℕ × List SeatView). PortInvariant record { words = x.0; homes = s.homes; views = x.1 }) (λ i. (sym (ap (set s.words 0) (sym r.word) ∙ set-get_or s.words 0 0) i, sym (set_again s.views id m.0 at) i)) r,
      (refl, subst (λ (x : List Job × List Answer). ListsAgree m.0.jobs x.0 x.1 m.0.answers) (λ i. (sym known.2 i, sym known.3 i)) all),
    ))

pub opens_as : (t : TableId) (slots id : ℕ) (m : PortMe) → slots ≡ 1 → m ≡ (start_view, []) → Allows PortInvariant slots id m 0 (λ _. 0) (λ _. plays.opened t (step slots 0 0 0 none) m 0)
opens_as t slots id m one is = subst (λ (x : PortMe). Allows PortInvariant slots id x 0 (λ _. 0) (λ _. plays.opened t (step slots 0 0 0 none) x 0)) (sym is) (opens t slots id one)
