-- Each step of the guest keeps the rule.
use Rattle.std.proofs.Common.{◌≡◌, ◌≢◌, ◌⊎◌, ℕ, eqb, List, [], ◌∷◌, ◌++◌, length, set, Option, Some, Bool, true, false, refl, sym, ap, ◌∙◌, subst, ⊎_elim, inl, inr, arith}
use mathlib.Core.Option.{some, none}
use lib.ListN.{get_elem?}
use prog.Atomic.{either}
use Rattle.atomic_table.specs.Table.{keeps, takes, gives, step, Allows, Splits, Joins, rest}
use Rattle.atomic_table.specs.Seated.{TableId}
use Rattle.atomic_table.specs.declared.badge.Badge.{Badge}
use Rattle.atomic_table.proofs.Lists.{set_here, at_set, exchanged}
use Rattle.crb_port.specs.Calls.{cancel_last, last_of}
use Rattle.crb_port.specs.Views.{is_waiting}
use Rattle.crb_port.specs.declared.job.PortStage.{PortStage}
use Rattle.crb_port.specs.declared.job.PortStage.TheVariants as stages
use Rattle.crb_port.specs.declared.job.Job.{Job}
use Rattle.crb_shared.specs.declared.rule.SlotContent.{SlotContent}
use Rattle.crb_shared.specs.declared.rule.SlotContent.TheVariants.{Waiting, Answered}
use Rattle.crb_shared.specs.declared.rule.SeatRole.{SeatRole}
use Rattle.crb_shared.specs.declared.rule.SeatRole.TheVariants.{Opening, Guest, Note}
use Rattle.crb_shared.specs.declared.rule.SeatPhase.{SeatPhase}
use Rattle.crb_shared.specs.declared.rule.SeatPhase.TheVariants.{Away, Holding, NoteBack, Due, NoteJoined, Ready, NoteSplit}
use Rattle.crb_shared.specs.declared.rule.TableName.{TableName}
use Rattle.crb_shared.specs.declared.rule.SeatView.{SeatView}
use Rattle.crb_shared.specs.Agreement.{IsSubsequence, with_cancelled}
use Rattle.crb_shared.specs.Rule.{TableStage, opening, free, queued, cancelled, claimed, answered, word_of, SlotState, name_of_table, queued_note, posted_note, WhileFree, WhileWaiting, WhileClaimed, RuleAt, PortInvariant}
use Rattle.crb_shared.specs.Plays.{slot_with, guest_look, is_away}
use Rattle.crb_shared.specs.Plays as plays
use Rattle.crb_shared.proofs.Appending.{last_of-snoc, cancel_last-snoc, sub_later}
use Rattle.crb_shared.proofs.Frame.{TableState, PortMe, Homes, Owes, allowed, off, guest_knows, note_knows, guest_steps, guest_splits, guest_joins, at_guest, guest_free}

-- the entry of a job that is to be queued
pub adds_queued : (slots id : ℕ) (m : PortMe) (job : Job) → slots ≡ 1 → m.0.role ≡ Guest → m.0.phase ≡ Holding → Allows PortInvariant slots id m 0 (λ n. n) (plays.added_queued job (step slots 0 0 0 none) m)
adds_queued slots id m job one is calm = allowed slots id m (λ n. n) (plays.added_queued job (step slots 0 0 0 none) m) one
    (λ s r long at. let k = guest_free r.table_name r.note r.note_is_out m.0 r.worker r.stage (get_elem? s.homes 0) Holding is calm refl (at_guest s r id m.0 at is) in let i = k.3 in let v' = plays.with_queued job m.0 in
    (v', keeps, tt, guest_steps s r id m.0 v' (word_of r.stage) s.homes free at is is refl (ap word_of k.0) (k.1, k.2, (i.0, i.1, (m.0.jobs, job, refl, i.2, refl), i.3)), (refl, refl)))

-- the note of the queued jobs
pub splits_queued_note : (id : ℕ) (v : SeatView) → v.role ≡ Guest → v.phase ≡ Ready → Splits PortInvariant id v (plays.with_note_split v) (plays.note_of_queued v)
splits_queued_note id v is ready s r at = let k = guest_free r.table_name r.note r.note_is_out v r.worker r.stage (get_elem? s.homes 0) Ready is ready refl (at_guest s r id v at is) in let i = k.3 in
    let table_name : v.table_name ≡ r.table_name = ap (λ (x : SeatView). x.table_name) (guest_knows s r id v at is).0 ∙ r.guest_table_name in
    guest_splits s r id v (plays.with_note_split v) (plays.note_of_queued v) free at is is refl i.3 refl (r.word ∙ ap word_of k.0) (k.1, k.2, (i.0, i.1, i.2, refl, ap (λ z. queued_note z v.jobs) table_name))

-- the store of QUEUED or CANCELLED
abbrev pub waiting_at : Bool → TableStage
waiting_at true = cancelled
waiting_at false = queued

last_as_list : {A : Type 0} (xs before : List A) (x y : A) → xs ≡ before ++ y ∷ [] → last_of xs ≡ x ∷ [] → y ∷ [] ≡ x ∷ []
last_as_list xs before x y e l = sym (last_of-snoc before y) ∙ (ap last_of (sym e) ∙ l)

abbrev pub heads : {A : Type 0} (d : A) → List A → A
heads d [] = d
heads d (x ∷ xs) = x

pub last_is : {A : Type 0} (xs before : List A) (x y : A) → xs ≡ before ++ y ∷ [] → last_of xs ≡ x ∷ [] → y ≡ x
last_is xs before x y e l = ap (heads x) (last_as_list xs before x y e l)

pub slot_filled : (hs : Homes) (x : _) → length hs ≡ 1 → get_elem? (set hs 0 x) 0 ≡ some x
slot_filled hs x long = set_here hs 0 x (omega arith)

queue_at : (z : TableName) (n : SeatView) (v w : SeatView) (b : Bool) (h : SlotState) → WhileWaiting z n true (plays.away v) w b h → w.phase ≡ Away → v.found_answer ≡ false → RuleAt z n true (plays.away v) w (waiting_at b) h
queue_at z n v w true h k away calm = (refl, away, calm, k)
queue_at z n v w false h k away calm = (refl, away, calm, k)

pub queues : (slots id : ℕ) (v : SeatView) (job : Job) (note : Badge SeatView) → slots ≡ 1 → v.role ≡ Guest → v.phase ≡ NoteSplit → last_of v.jobs ≡ job ∷ [] → name_of_table note.table_id ≡ v.table_name → note.views ≡ queued_note v.table_name v.jobs ∷ []
    → Allows PortInvariant slots id (v, slot_with (Some (Waiting job note))) 0 (λ _. word_of (waiting_at job.cancelled)) (λ _. plays.given (step slots 0 (word_of (waiting_at job.cancelled)) 0 none) (v, slot_with (Some (Waiting job note))) (word_of (waiting_at job.cancelled)))
queues slots id v job note one is noted last named views = allowed slots id (v, slot_with (Some (Waiting job note))) (λ _. word_of (waiting_at job.cancelled)) (λ _. plays.given (step slots 0 (word_of (waiting_at job.cancelled)) 0 none) (v, slot_with (Some (Waiting job note))) (word_of (waiting_at job.cancelled))) one
    (λ s r long at. let k = guest_free r.table_name r.note r.note_is_out v r.worker r.stage (get_elem? s.homes 0) NoteSplit is noted refl (at_guest s r id v at is) in let i = k.3 in let hs = set s.homes 0 (some (Some (Waiting job note))) in
    let table_name : v.table_name ≡ r.table_name = ap (λ (x : SeatView). x.table_name) (guest_knows s r id v at is).0 ∙ r.guest_table_name in
    let same : i.2.1 ≡ job = last_is v.jobs i.2.0 job i.2.1 i.2.2 last in
    let q : v.jobs ≡ i.2.0 ++ job ∷ [] = i.2.2 ∙ ap (λ (x : Job). i.2.0 ++ x ∷ []) same in
    let about : r.note ≡ queued_note r.table_name (i.2.0 ++ job ∷ []) = i.4 ∙ ap (queued_note r.table_name) q in
    let seen : note.views ≡ r.note ∷ [] = views ∙ ap (λ (x : SeatView). x ∷ []) (ap (λ z. queued_note z v.jobs) table_name ∙ sym i.4) in (
      plays.away v,
      gives,
      tt,
      guest_steps s r id v (plays.away v) (word_of (waiting_at job.cancelled)) hs (waiting_at job.cancelled) at is is refl refl
          (subst (λ (l : Bool). RuleAt r.table_name r.note l (plays.away v) r.worker (waiting_at job.cancelled) (get_elem? hs 0)) (sym i.3)
          (queue_at r.table_name r.note v r.worker job.cancelled (get_elem? hs 0) (i.0, i.1, refl, (i.2.4 ∙ ap (λ (x : Job). x.cancelled) same), (i.2.0, job, note, q, i.2.3, about, slot_filled s.homes (some (Some (Waiting job note))) long, seen, named ∙ table_name)) k.1 k.2)),
      (refl, refl),
    ))

-- a look leaves what the rule says of the lists
look_free_g : (z : TableName) (n : SeatView) (live : Bool) (v w : SeatView) (x : PortStage) (f : SeatPhase) → WhileFree z n live v w f → WhileFree z n live (guest_look x v) w f
look_free_g z n live v w x Away k = k
look_free_g z n live v w x Holding k = k
look_free_g z n live v w x NoteBack k = k
look_free_g z n live v w x Due k = k
look_free_g z n live v w x NoteJoined k = k
look_free_g z n live v w x Ready k = k
look_free_g z n live v w x NoteSplit k = k

look_claimed_g : (z : TableName) (n : SeatView) (live : Bool) (v w : SeatView) (x : PortStage) (f : SeatPhase) → WhileClaimed z n live v w f → WhileClaimed z n live (guest_look x v) w f
look_claimed_g z n live v w x Away k = k
look_claimed_g z n live v w x Holding k = k
look_claimed_g z n live v w x NoteBack k = k
look_claimed_g z n live v w x Due k = k
look_claimed_g z n live v w x NoteJoined k = k
look_claimed_g z n live v w x Ready k = k
look_claimed_g z n live v w x NoteSplit k = k

abbrev is_opening : SeatRole → Bool
is_opening Opening = true
is_opening _ = false

pub not_opening : (v w : SeatView) → v.role ≡ Guest → v ≡ w → w.role ≡ Opening → ⊥
not_opening v w is e o = off (ap is_opening (sym is ∙ (ap (λ (x : SeatView). x.role) e ∙ o)))

not_away : (v : SeatView) → v.phase ≡ Away → is_away v.phase ≡ true
not_away v e = ap is_away e

look_rule_g : (z : TableName) (n : SeatView) (live : Bool) (v w : SeatView) (p : TableStage) (h : SlotState) → v.role ≡ Guest → RuleAt z n live v w p h → RuleAt z n live (guest_look (plays.stage_of_word (word_of p)) v) w p h
look_rule_g z n live v w opening h is k = absurd (not_opening v _ is k.0 refl)
look_rule_g z n live v w free h is k = (k.0, refl, look_free_g z n live v w stages.Free v.phase k.2)
look_rule_g z n live v w queued h is k = (k.0, k.1, refl, k.3)
look_rule_g z n live v w cancelled h is k = (k.0, k.1, refl, k.3)
look_rule_g z n live v w claimed h is k = (k.0, refl, look_claimed_g z n live v w stages.Claimed w.phase k.2)
look_rule_g z n live v w answered h is k = k

free_held : (z : TableName) (n : SeatView) (live : Bool) (v w : SeatView) (f : SeatPhase) → WhileFree z n live v w f → is_away f ≡ false
free_held z n live v w Away k = absurd k
free_held z n live v w Holding k = refl
free_held z n live v w NoteBack k = refl
free_held z n live v w Due k = refl
free_held z n live v w NoteJoined k = refl
free_held z n live v w Ready k = refl
free_held z n live v w NoteSplit k = refl

-- what the guest sees at each stage
sees : (z : TableName) (n : SeatView) (live : Bool) (v w : SeatView) (p : TableStage) (h : SlotState) → v.role ≡ Guest → RuleAt z n live v w p h → plays.GuestSees v (plays.stage_of_word (word_of p)) × plays.IsWord (word_of p)
sees z n live v w opening h is k = absurd (not_opening v _ is k.0 refl)
sees z n live v w free h is k = ((free_held z n live v w v.phase k.2, k.1), refl)
sees z n live v w queued h is k = ((k.0, k.2, k.3.3), refl)
sees z n live v w cancelled h is k = ((k.0, k.2, k.3.3), refl)
sees z n live v w claimed h is k = ((k.0, k.1), refl)
sees z n live v w answered h is k = (k.0, refl)

pub looks : (slots id : ℕ) (m : PortMe) → slots ≡ 1 → m.0.role ≡ Guest → Allows PortInvariant slots id m 0 (λ n. n) (plays.guest_looked (step slots 0 0 0 none) m)
looks slots id m one is = allowed slots id m (λ n. n) (plays.guest_looked (step slots 0 0 0 none) m) one
    (λ s r long at. let k = at_guest s r id m.0 at is in let saw = sees r.table_name r.note r.note_is_out m.0 r.worker r.stage (get_elem? s.homes 0) is k in let v' = guest_look (plays.stage_of_word (word_of r.stage)) m.0 in
    (v', keeps, tt, guest_steps s r id m.0 v' (word_of r.stage) s.homes r.stage at is is refl refl (look_rule_g r.table_name r.note r.note_is_out m.0 r.worker r.stage (get_elem? s.homes 0) is k), (refl, refl, saw.0, saw.1)))

-- the exchange of QUEUED to CANCELLED
cancel_waiting_job : (z : TableName) (n : SeatView) (live : Bool) (v w : SeatView) (b : Bool) (x : PortStage) (h : SlotState) → WhileWaiting z n live v w b h → WhileWaiting z n live (record v { looks = v.looks ++ x ∷ []; found_answer = false; job_cancelled = true; jobs = cancel_last v.jobs }) w true h
cancel_waiting_job z n live v w b x h k = let e = k.4 in (k.0, k.1, k.2, refl, (e.0, e.1, e.2, ap cancel_last e.3 ∙ cancel_last-snoc e.0 (with_cancelled b e.1), e.4, e.5, e.6, e.7, e.8))

cancel_rule : (z : TableName) (n : SeatView) (live : Bool) (v w : SeatView) (p : TableStage) (h : SlotState) → v.role ≡ Guest → RuleAt z n live v w p h
    → (q : TableStage) × (either (eqb (word_of p) 1) 2 (word_of p) ≡ word_of q) × RuleAt z n live (plays.cancel_view (plays.stage_of_word (word_of p)) v) w q h × (v.table_name ≡ (plays.cancel_view (plays.stage_of_word (word_of p)) v).table_name) × ((plays.cancel_view (plays.stage_of_word (word_of p)) v).role ≡ Guest)
cancel_rule z n live v w opening h is k = absurd (not_opening v _ is k.0 refl)
cancel_rule z n live v w free h is k = (free, refl, look_rule_g z n live v w free h is k, refl, is)
cancel_rule z n live v w queued h is k = (cancelled, refl, (k.0, k.1, refl, cancel_waiting_job z n live v w false stages.Queued h k.3), refl, is)
cancel_rule z n live v w cancelled h is k = (cancelled, refl, (k.0, k.1, refl, cancel_waiting_job z n live v w true stages.Cancelled h k.3), refl, is)
cancel_rule z n live v w claimed h is k = (claimed, refl, look_rule_g z n live v w claimed h is k, refl, is)
cancel_rule z n live v w answered h is k = (answered, refl, look_rule_g z n live v w answered h is k, refl, is)

pub cancels : (slots id : ℕ) (m : PortMe) → slots ≡ 1 → m.0.role ≡ Guest → Allows PortInvariant slots id m 0 (λ n. either (eqb n 1) 2 n) (plays.cancelled (step slots 0 1 2 none) m)
cancels slots id m one is = allowed slots id m (λ n. either (eqb n 1) 2 n) (plays.cancelled (step slots 0 1 2 none) m) one
    (λ s r long at. let k = at_guest s r id m.0 at is in let saw = sees r.table_name r.note r.note_is_out m.0 r.worker r.stage (get_elem? s.homes 0) is k in let v' = plays.cancel_view (plays.stage_of_word (word_of r.stage)) m.0 in
    let went = cancel_rule r.table_name r.note r.note_is_out m.0 r.worker r.stage (get_elem? s.homes 0) is k in
    (v', keeps, tt, guest_steps s r id m.0 v' (either (eqb (word_of r.stage) 1) 2 (word_of r.stage)) s.homes went.0 at is went.4 (sym went.3) went.1 went.2, (refl, refl, saw.0, saw.1)))

-- the exchange to FREE
sub_of : (z : TableName) (n : SeatView) (live : Bool) (v w : SeatView) (b : Bool) (h : SlotState) → WhileWaiting z n live v w b h → IsSubsequence w.jobs v.jobs
sub_of z n live v w b h k = let e = k.4 in subst (λ (q : List Job). IsSubsequence w.jobs q) (sym e.3) (sub_later w.jobs e.0 (with_cancelled b e.1) e.4)

pub job_in_slot : (z : TableName) (n : SeatView) (live : Bool) (v w : SeatView) (b : Bool) (h : SlotState) → WhileWaiting z n live v w b h → z ≡ v.table_name → (job : Job) × (note : Badge SeatView) × (h ≡ some (some (Some (Waiting job note)))) × plays.IsQueuedNote v.table_name note job × plays.own_job v b job
job_in_slot z n live v w b h k same = let e = k.4 in (e.1, e.2, e.6, (e.8 ∙ same, (e.0, e.7 ∙ ap (λ (x : SeatView). x ∷ []) (e.5 ∙ ap (λ y. queued_note y (e.0 ++ e.1 ∷ [])) same))), ap last_of e.3 ∙ last_of-snoc e.0 (with_cancelled b e.1))

free_hit : (z : TableName) (n : SeatView) (live : Bool) (v w : SeatView) (p : TableStage) (s : TableState) → v.role ≡ Guest → v.phase ≡ Away → word_of p ≢ 0 → word_of p ≢ 3 → z ≡ v.table_name → RuleAt z n live v w p (get_elem? s.homes 0)
    → RuleAt z n live (plays.freed_view (plays.stage_of_word (word_of p)) v) w free none × ((y : Option SlotContent) × (get_elem? s.homes 0 ≡ some (some y)) × plays.TakenOut v.table_name (plays.own_job v) (plays.stage_of_word (word_of p)) y)
free_hit z n live v w opening s is away not0 not3 same k = absurd (not0 refl)
free_hit z n live v w free s is away not0 not3 same k = absurd (not0 refl)
free_hit z n live v w queued s is away not0 not3 same k = let i = k.3 in let b = job_in_slot z n live v w false (get_elem? s.homes 0) i same in
    ((k.1, refl, (i.0, i.1, sub_of z n live v w false (get_elem? s.homes 0) i, i.2)), (Some (Waiting b.0 b.1), b.2, (b.0, b.1, refl, b.3, b.4)))
free_hit z n live v w cancelled s is away not0 not3 same k = let i = k.3 in let b = job_in_slot z n live v w true (get_elem? s.homes 0) i same in
    ((k.1, refl, (i.0, i.1, sub_of z n live v w true (get_elem? s.homes 0) i, i.2)), (Some (Waiting b.0 b.1), b.2, (b.0, b.1, refl, b.3, b.4)))
free_hit z n live v w claimed s is away not0 not3 same k = absurd (not3 refl)
free_hit z n live v w answered s is away not0 not3 same k = let i = k.2 in let e = i.4 in (
  (k.1, refl, (i.0, (e.0, e.2), i.1, i.2, i.3)),
  (Some (Answered e.0 e.1), e.3, (e.0, e.1, refl, (e.5 ∙ same, (v.answers, e.4 ∙ ap (λ (x : SeatView). x ∷ []) (i.3 ∙ (ap (posted_note z) e.2 ∙ ap (λ y. posted_note y (v.answers ++ e.0 ∷ [])) same)))))),
)

pub frees : (slots id : ℕ) (v : SeatView) (old : ℕ) → slots ≡ 1 → v.role ≡ Guest → v.phase ≡ Away → old ≢ 0 → old ≢ 3 → Allows PortInvariant slots id (v, []) 0 (λ n. either (eqb n old) 0 n) (plays.freed (step slots 0 old 0 none) (v, []))
frees slots id v old one is away not0 not3 = allowed slots id (v, []) (λ n. either (eqb n old) 0 n) (plays.freed (step slots 0 old 0 none) (v, [])) one
    (λ s r long at. let k = at_guest s r id v at is in let saw = sees r.table_name r.note r.note_is_out v r.worker r.stage (get_elem? s.homes 0) is k in
    let table_name : r.table_name ≡ v.table_name = sym (ap (λ (x : SeatView). x.table_name) (guest_knows s r id v at is).0 ∙ r.guest_table_name) in
    exchanged (word_of r.stage) old 0 (λ x. Owes s id (v, []) (λ _. x) (plays.freed (step slots 0 old 0 none) (v, [])) (word_of r.stage))
    (λ hit. let found = free_hit r.table_name r.note r.note_is_out v r.worker r.stage s is away (λ e. not0 (sym hit ∙ e)) (λ e. not3 (sym hit ∙ e)) table_name k in let v' = plays.freed_view (plays.stage_of_word (word_of r.stage)) v in
    (v', takes 0 found.1.0, found.1.1, guest_steps s r id v v' 0 (set s.homes 0 none) free at is is refl refl found.0, ((λ _. (refl, (found.1.0, refl, found.1.2))), (λ miss. absurd (miss hit)), saw.0, saw.1)))
    (λ miss. let v' = guest_look (plays.stage_of_word (word_of r.stage)) v in
    (v', keeps, tt, guest_steps s r id v v' (word_of r.stage) s.homes r.stage at is is refl refl (look_rule_g r.table_name r.note r.note_is_out v r.worker r.stage (get_elem? s.homes 0) is k), ((λ hit. absurd (miss hit)), (λ _. (refl, refl)), saw.0, saw.1))))

-- the joins of a note
pub elsewhere : (s : TableState) (id other : ℕ) (both u : SeatView) → other ≢ id → get_elem? (set s.views id both) other ≡ some u → get_elem? s.views other ≡ some u
elsewhere s id other both u apart there = ⊎_elim (λ (t : (other ≡ id) × (both ≡ u)). absurd (apart t.0)) (λ (t : (other ≢ id) × (get_elem? s.views other ≡ some u)). t.1) (at_set s.views id other both u there)

pub joins_own_note : (id : ℕ) (v : SeatView) (other : ℕ) (u : SeatView) → v.role ≡ Guest → v.phase ≡ NoteBack → u.role ≡ Note → Joins PortInvariant id v other u (plays.own_note_joined v u) plays.spent_view
joins_own_note id v other u is back is_note s r at apart there = let k = guest_free r.table_name r.note r.note_is_out v r.worker r.stage (get_elem? s.homes 0) NoteBack is back refl (at_guest s r id v at is) in let i = k.3 in
    guest_joins s r id v (plays.own_note_joined v u) other u plays.spent_view free at is is refl apart (elsewhere s id other (plays.own_note_joined v u) u apart there) is_note refl (r.word ∙ ap word_of k.0) (k.1, k.2, (i.0, i.1, i.2, refl))

pub joins_posted_note : (id : ℕ) (v : SeatView) (other : ℕ) (u : SeatView) → v.role ≡ Guest → v.phase ≡ Due → u.role ≡ Note → Joins PortInvariant id v other u (plays.note_joined v u) plays.spent_view
joins_posted_note id v other u is due is_note s r at apart there = let k = guest_free r.table_name r.note r.note_is_out v r.worker r.stage (get_elem? s.homes 0) Due is due refl (at_guest s r id v at is) in let i = k.3 in
    let there' = elsewhere s id other (plays.note_joined v u) u apart there in
    guest_joins s r id v (plays.note_joined v u) other u plays.spent_view free at is is refl apart there' is_note refl (r.word ∙ ap word_of k.0)
    (k.1, k.2, (i.0, i.1, i.2, refl, ap (λ (x : SeatView). x.answers) ((note_knows s r other u there' is_note).0 ∙ i.4)))

-- the entry of an answer that was collected
pub adds_collected : (slots id : ℕ) (m : PortMe) → slots ≡ 1 → m.0.role ≡ Guest → m.0.phase ≡ NoteJoined → Allows PortInvariant slots id m 0 (λ n. n) (plays.added_collected (step slots 0 0 0 none) m)
adds_collected slots id m one is note_joined = allowed slots id m (λ n. n) (plays.added_collected (step slots 0 0 0 none) m) one
    (λ s r long at. let k = guest_free r.table_name r.note r.note_is_out m.0 r.worker r.stage (get_elem? s.homes 0) NoteJoined is note_joined refl (at_guest s r id m.0 at is) in let i = k.3 in let v' = plays.with_collected m.0 in
    let last : last_of m.0.noted_answers ≡ i.1.0 ∷ [] = ap last_of (i.4 ∙ i.1.1) ∙ last_of-snoc m.0.answers i.1.0 in
    let all : v'.answers ≡ r.worker.answers = ap (λ l. m.0.answers ++ l) last ∙ sym i.1.1 in
    (v', keeps, tt, guest_steps s r id m.0 v' (word_of r.stage) s.homes free at is is refl (ap word_of k.0) (k.1, k.2, (i.0, all, i.2, i.3)), (refl, refl)))

-- the steps of a seat whose slots are known by an equation
pub queues_as : (slots id : ℕ) (m : PortMe) (job : Job) (note : Badge SeatView) (n : ℕ) → n ≡ word_of (waiting_at job.cancelled) → slots ≡ 1 → m.0.role ≡ Guest → m.0.phase ≡ NoteSplit → last_of m.0.jobs ≡ job ∷ [] → name_of_table note.table_id ≡ m.0.table_name → note.views ≡ queued_note m.0.table_name m.0.jobs ∷ [] → m.1 ≡ slot_with (Some (Waiting job note))
    → Allows PortInvariant slots id m 0 (λ _. n) (λ _. plays.given (step slots 0 n 0 none) m n)
queues_as slots id m job note n word one is noted last named views has = subst (λ (x : ℕ × List (ℕ × Option SlotContent)). Allows PortInvariant slots id (m.0, x.1) 0 (λ _. x.0) (λ _. plays.given (step slots 0 x.0 0 none) (m.0, x.1) x.0)) (λ i. (sym word i, sym has i)) (queues slots id m.0 job note one is noted last named views)

pub frees_as : (slots id : ℕ) (m : PortMe) (old : ℕ) → slots ≡ 1 → m.0.role ≡ Guest → m.0.phase ≡ Away → m.1 ≡ [] → old ≢ 0 → old ≢ 3 → Allows PortInvariant slots id m 0 (λ n. either (eqb n old) 0 n) (plays.freed (step slots 0 old 0 none) m)
frees_as slots id m old one is away has not0 not3 = subst (λ (x : List (ℕ × Option SlotContent)). Allows PortInvariant slots id (m.0, x) 0 (λ n. either (eqb n old) 0 n) (plays.freed (step slots 0 old 0 none) (m.0, x))) (sym has) (frees slots id m.0 old one is away not0 not3)

pub holds_slot : (c : List (ℕ × Option SlotContent)) (y : Option SlotContent) → c ≡ slot_with y → c ≡ (0, y) ∷ rest c
holds_slot c y e = e ∙ ap (λ (l : List (ℕ × Option SlotContent)). (0, y) ∷ rest l) (sym e)

pub stage_number : (x : PortStage) → plays.stage_of_word (plays.word_of_stage x) ≡ x
stage_number stages.Free = refl
stage_number stages.Queued = refl
stage_number stages.Cancelled = refl
stage_number stages.Claimed = refl
stage_number stages.Answered = refl

pub not_word : (x y : PortStage) → plays.word_of_stage x ≡ plays.word_of_stage y → x ≡ y
not_word x y e = sym (stage_number x) ∙ (ap plays.stage_of_word e ∙ stage_number y)

pub waiting_word : (x : PortStage) → is_waiting x ≡ true → (plays.word_of_stage x ≡ 1) ⊎ (plays.word_of_stage x ≡ 2)
waiting_word stages.Free e = absurd (off e)
waiting_word stages.Queued e = inl refl
waiting_word stages.Cancelled e = inr refl
waiting_word stages.Claimed e = absurd (off e)
waiting_word stages.Answered e = absurd (off e)

-- a note that is known by its list of views
pub first_view : (d : SeatView) (vs : List SeatView) (x y : SeatView) → vs ≡ x ∷ [] → vs ≡ y ∷ [] → x ≡ y
first_view d vs x y e f = ap (heads d) (sym e ∙ f)

pub same_table : (t u : TableId) → name_of_table t ≡ name_of_table u → t ≡ u
same_table t u e i = record { words = (e i).words; slots = (e i).slots; views_name = (e i).views_name; atom = (e i).atom; block = (e i).block; offset = (e i).offset; slot_names = (e i).slot_names }

pub queue_store : (slots id : ℕ) (m : PortMe) (v : SeatView) (job : Job) (note : Badge SeatView) (n : ℕ) → n ≡ word_of (waiting_at job.cancelled) → slots ≡ 1 → v.role ≡ Guest → name_of_table note.table_id ≡ v.table_name → note.views ≡ plays.note_of_queued (plays.with_queued job v) ∷ []
    → m ≡ (plays.with_note_split (plays.with_queued job v), slot_with (Some (Waiting job note))) → Allows PortInvariant slots id m 0 (λ _. n) (λ _. plays.given (step slots 0 n 0 none) m n)
queue_store slots id m v job note n word one is named views e = subst (λ (x : PortMe). Allows PortInvariant slots id x 0 (λ _. n) (λ _. plays.given (step slots 0 n 0 none) x n)) (sym e)
    (queues_as slots id (plays.with_note_split (plays.with_queued job v), slot_with (Some (Waiting job note))) job note n word one is refl (last_of-snoc v.jobs job) named views refl)

pub cancelled_word : (job : Job) (b : Bool) → job.cancelled ≡ b → word_of (waiting_at b) ≡ word_of (waiting_at job.cancelled)
cancelled_word job b e = ap (λ x. word_of (waiting_at x)) (sym e)
