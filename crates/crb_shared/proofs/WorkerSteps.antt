-- Each step of the worker keeps the rule.
use Rattle.std.proofs.Common.{◌≡◌, ◌⊎◌, ℕ, eqb, List, [], ◌∷◌, ◌++◌, map, set, Option, Some, None, Bool, true, refl, sym, ap, ◌∙◌, subst, ⊎_elim, inl, inr, arith}
use mathlib.Core.Option.{some, none}
use lib.ListN.{get_elem?}
use prog.Atomic.{either}
use Rattle.atomic_table.specs.Table.{keeps, takes, gives, step, Allows, Splits, Joins}
use Rattle.atomic_table.specs.declared.badge.Badge.{Badge}
use Rattle.atomic_table.proofs.Lists.{exchanged}
use Rattle.crb_port.specs.Views.{is_waiting}
use Rattle.crb_port.specs.declared.job.PortStage.{PortStage}
use Rattle.crb_port.specs.declared.job.PortStage.TheVariants as stages
use Rattle.crb_port.specs.declared.job.Job.{Job}
use Rattle.crb_port.specs.declared.job.Answer.{Answer}
use Rattle.crb_shared.specs.declared.rule.SlotContent.{SlotContent}
use Rattle.crb_shared.specs.declared.rule.SlotContent.TheVariants.{Waiting, Answered}
use Rattle.crb_shared.specs.declared.rule.SeatRole.TheVariants.{Guest, Worker, Note}
use Rattle.crb_shared.specs.declared.rule.SeatPhase.{SeatPhase}
use Rattle.crb_shared.specs.declared.rule.SeatPhase.TheVariants.{Away, Holding, NoteBack, Due, NoteJoined, Ready, NoteSplit}
use Rattle.crb_shared.specs.declared.rule.TableName.{TableName}
use Rattle.crb_shared.specs.declared.rule.SeatView.{SeatView}
use Rattle.crb_shared.specs.Agreement.{IsSubsequence, SameNumbers, last_number, with_cancelled}
use Rattle.crb_port.specs.Calls.{last_of}
use Rattle.crb_shared.specs.Rule.{is_between, TableStage, opening, free, queued, cancelled, claimed, answered, word_of, SlotState, name_of_table, queued_note, posted_note, WhileFree, WhileClaimed, RuleAt, PortInvariant}
use Rattle.crb_shared.specs.Plays.{slot_with, is_away}
use Rattle.crb_shared.specs.Plays as plays
use Rattle.crb_shared.proofs.Appending.{last_of-snoc, last_number-snoc, sub_both, same_numbers_both}
use Rattle.crb_shared.proofs.Frame.{TableState, PortMe, Owes, allowed, off, worker_knows, note_knows, worker_steps, worker_splits, worker_joins, at_worker, worker_claimed}
use Rattle.crb_shared.proofs.GuestSteps.{not_opening, elsewhere, last_is, slot_filled}

-- a look leaves what the rule says of the lists
look_free_w : (z : TableName) (n : SeatView) (live : Bool) (g w : SeatView) (x : PortStage) (f : SeatPhase) → WhileFree z n live g w f → WhileFree z n live g (plays.worker_look x w) f
look_free_w z n live g w x Away k = k
look_free_w z n live g w x Holding k = k
look_free_w z n live g w x NoteBack k = k
look_free_w z n live g w x Due k = k
look_free_w z n live g w x NoteJoined k = k
look_free_w z n live g w x Ready k = k
look_free_w z n live g w x NoteSplit k = k

look_claimed_w : (z : TableName) (n : SeatView) (live : Bool) (g w : SeatView) (x : PortStage) (f : SeatPhase) → WhileClaimed z n live g w f → WhileClaimed z n live g (plays.worker_look x w) f
look_claimed_w z n live g w x Away k = k
look_claimed_w z n live g w x Holding k = k
look_claimed_w z n live g w x NoteBack k = k
look_claimed_w z n live g w x Due k = k
look_claimed_w z n live g w x NoteJoined k = k
look_claimed_w z n live g w x Ready k = k
look_claimed_w z n live g w x NoteSplit k = k

look_rule_w : (z : TableName) (n : SeatView) (live : Bool) (g w : SeatView) (x : PortStage) (p : TableStage) (h : SlotState) → g.role ≡ Guest → RuleAt z n live g w p h → RuleAt z n live g (plays.worker_look x w) p h
look_rule_w z n live g w x opening h is k = absurd (not_opening g _ is k.0 refl)
look_rule_w z n live g w x free h is k = (k.0, k.1, look_free_w z n live g w x g.phase k.2)
look_rule_w z n live g w x queued h is k = k
look_rule_w z n live g w x cancelled h is k = k
look_rule_w z n live g w x claimed h is k = (k.0, k.1, look_claimed_w z n live g w x w.phase k.2)
look_rule_w z n live g w x answered h is k = k

is_word : (p : TableStage) → plays.IsWord (word_of p)
is_word opening = refl
is_word free = refl
is_word queued = refl
is_word cancelled = refl
is_word claimed = refl
is_word answered = refl

-- what the worker sees at each stage
worker_sees : (z : TableName) (n : SeatView) (live : Bool) (g w : SeatView) (p : TableStage) (h : SlotState) → g.role ≡ Guest → RuleAt z n live g w p h → plays.WorkerSees w (plays.stage_of_word (word_of p))
worker_sees z n live g w opening h is k = absurd (not_opening g _ is k.0 refl)
worker_sees z n live g w free h is k = k.0
worker_sees z n live g w queued h is k = k.1
worker_sees z n live g w cancelled h is k = k.1
worker_sees z n live g w claimed h is k = tt
worker_sees z n live g w answered h is k = k.1

-- a worker that finds a job that waits holds no slot
pub waits_away : (w : SeatView) (x : PortStage) → is_waiting x ≡ true → plays.WorkerSees w x → is_away w.phase ≡ true
waits_away w stages.Free is k = absurd (off is)
waits_away w stages.Queued is k = ap is_away k
waits_away w stages.Cancelled is k = ap is_away k
waits_away w stages.Claimed is k = absurd (off is)
waits_away w stages.Answered is k = absurd (off is)

pub sees_word : (slots id : ℕ) (m : PortMe) → slots ≡ 1 → m.0.role ≡ Worker → Allows PortInvariant slots id m 0 (λ n. n) (plays.worker_looked (step slots 0 0 0 none) m)
sees_word slots id m one is = allowed slots id m (λ n. n) (plays.worker_looked (step slots 0 0 0 none) m) one
    (λ s r long at. let known = worker_knows s r id m.0 at is in let v' = plays.worker_look (plays.stage_of_word (word_of r.stage)) m.0 in
    (v', keeps, tt, worker_steps s r id m.0 v' (word_of r.stage) s.homes r.stage at is is refl refl (look_rule_w r.table_name r.note r.note_is_out r.guest m.0 (plays.stage_of_word (word_of r.stage)) r.stage (get_elem? s.homes 0) known.2 (at_worker s r id m.0 at is)), (refl, refl, worker_sees r.table_name r.note r.note_is_out r.guest m.0 r.stage (get_elem? s.homes 0) known.2 (at_worker s r id m.0 at is), is_word r.stage)))

-- the exchange to CLAIMED
claim_hit : (z : TableName) (n : SeatView) (live : Bool) (g w : SeatView) (p : TableStage) (s : TableState) → g.role ≡ Guest → (word_of p ≡ 1) ⊎ (word_of p ≡ 2) → z ≡ w.table_name → RuleAt z n live g w p (get_elem? s.homes 0)
    → RuleAt z n live g (plays.claim_view (plays.stage_of_word (word_of p)) w) claimed none × ((y : Option SlotContent) × (get_elem? s.homes 0 ≡ some (some y)) × plays.TakenOut w.table_name plays.any_job (plays.stage_of_word (word_of p)) y)
claim_hit z n live g w opening s is at same k = absurd (not_opening g _ is k.0 refl)
claim_hit z n live g w free s is at same k = absurd (⊎_elim (λ e. omega arith) (λ e. omega arith) at)
claim_hit z n live g w queued s is at same k = let i = k.3 in let e = i.4 in
    ((k.0, k.2, (i.0, i.1, (e.0, e.1, e.3, e.4, e.5), i.2)), (Some (Waiting e.1 e.2), e.6, (e.1, e.2, refl, (e.8 ∙ same, (e.0, e.7 ∙ ap (λ (x : SeatView). x ∷ []) (e.5 ∙ ap (λ y. queued_note y (e.0 ++ e.1 ∷ [])) same))), tt)))
claim_hit z n live g w cancelled s is at same k = let i = k.3 in let e = i.4 in
    ((k.0, k.2, (i.0, i.1, (e.0, e.1, e.3, e.4, e.5), i.2)), (Some (Waiting e.1 e.2), e.6, (e.1, e.2, refl, (e.8 ∙ same, (e.0, e.7 ∙ ap (λ (x : SeatView). x ∷ []) (e.5 ∙ ap (λ y. queued_note y (e.0 ++ e.1 ∷ [])) same))), tt)))
claim_hit z n live g w claimed s is at same k = absurd (⊎_elim (λ e. omega arith) (λ e. omega arith) at)
claim_hit z n live g w answered s is at same k = absurd (⊎_elim (λ e. omega arith) (λ e. omega arith) at)

pub claims : (slots id : ℕ) (v : SeatView) (old : ℕ) → slots ≡ 1 → v.role ≡ Worker → (old ≡ 1) ⊎ (old ≡ 2) → Allows PortInvariant slots id (v, []) 0 (λ n. either (eqb n old) 3 n) (plays.claimed (step slots 0 old 3 none) (v, []))
claims slots id v old one is waits = allowed slots id (v, []) (λ n. either (eqb n old) 3 n) (plays.claimed (step slots 0 old 3 none) (v, [])) one
    (λ s r long at. let known = worker_knows s r id v at is in let k = at_worker s r id v at is in let table_name : r.table_name ≡ v.table_name = sym (ap (λ (x : SeatView). x.table_name) known.0 ∙ r.worker_table_name) in
    exchanged (word_of r.stage) old 3 (λ x. Owes s id (v, []) (λ _. x) (plays.claimed (step slots 0 old 3 none) (v, [])) (word_of r.stage))
    (λ hit. let found = claim_hit r.table_name r.note r.note_is_out r.guest v r.stage s known.2 (⊎_elim (λ e. inl (hit ∙ e)) (λ e. inr (hit ∙ e)) waits) table_name k in let v' = plays.claim_view (plays.stage_of_word (word_of r.stage)) v in
    (v', takes 0 found.1.0, found.1.1, worker_steps s r id v v' 3 (set s.homes 0 none) claimed at is is refl refl found.0, ((λ _. (refl, (found.1.0, refl, found.1.2))), (λ miss. absurd (miss hit)), is_word r.stage)))
    (λ miss. let v' = plays.worker_look (plays.stage_of_word (word_of r.stage)) v in
    (v', keeps, tt, worker_steps s r id v v' (word_of r.stage) s.homes r.stage at is is refl refl (look_rule_w r.table_name r.note r.note_is_out r.guest v (plays.stage_of_word (word_of r.stage)) r.stage (get_elem? s.homes 0) known.2 k), ((λ hit. absurd (miss hit)), (λ _. (refl, refl)), is_word r.stage))))

-- the join of the guest's note
pub joins_queued_note : (id : ℕ) (v : SeatView) (other : ℕ) (u : SeatView) → v.role ≡ Worker → v.phase ≡ Due → u.role ≡ Note → Joins PortInvariant id v other u (plays.note_joined v u) plays.spent_view
joins_queued_note id v other u is due is_note s r at apart there = let known = worker_knows s r id v at is in let k = worker_claimed r.table_name r.note r.note_is_out r.guest v r.stage (get_elem? s.homes 0) Due known.2 due refl (at_worker s r id v at is) in let i = k.3 in let e = i.2 in
    let there' = elsewhere s id other (plays.note_joined v u) u apart there in
    worker_joins s r id v (plays.note_joined v u) other u plays.spent_view claimed at is is refl apart there' is_note refl (r.word ∙ ap word_of k.0)
    (k.1, k.2, (i.0, i.1, (e.0, e.1, e.2, e.3, ap (λ (x : SeatView). x.jobs) ((note_knows s r other u there' is_note).0 ∙ e.4)), refl))

-- the entry of a job that was claimed
pub adds_claimed : (slots id : ℕ) (m : PortMe) → slots ≡ 1 → m.0.role ≡ Worker → m.0.phase ≡ NoteJoined → Allows PortInvariant slots id m 0 (λ n. n) (plays.added_claimed (step slots 0 0 0 none) m)
adds_claimed slots id m one is note_joined = allowed slots id m (λ n. n) (plays.added_claimed (step slots 0 0 0 none) m) one
    (λ s r long at. let known = worker_knows s r id m.0 at is in let k = worker_claimed r.table_name r.note r.note_is_out r.guest m.0 r.stage (get_elem? s.homes 0) NoteJoined known.2 note_joined refl (at_worker s r id m.0 at is) in let i = k.3 in let e = i.2 in let v' = plays.with_claimed m.0 in
    let last : map (with_cancelled m.0.job_cancelled) (last_of m.0.noted_jobs) ≡ with_cancelled m.0.job_cancelled e.1 ∷ [] = ap (λ l. map (with_cancelled m.0.job_cancelled) (last_of l)) e.4 ∙ ap (map (with_cancelled m.0.job_cancelled)) (last_of-snoc e.0 e.1) in
    let all : v'.jobs ≡ m.0.jobs ++ with_cancelled m.0.job_cancelled e.1 ∷ [] = ap (λ l. m.0.jobs ++ l) last in (
      v',
      keeps,
      tt,
      worker_steps s r id m.0 v' (word_of r.stage) s.homes claimed at is is refl (ap word_of k.0)
          (k.1, k.2, (i.1, (m.0.jobs, with_cancelled m.0.job_cancelled e.1, all, i.0), subst (λ (x : List Job × List Job). IsSubsequence x.0 x.1) (λ j. (sym all j, sym e.2 j)) (sub_both m.0.jobs e.0 (with_cancelled m.0.job_cancelled e.1) e.3), i.3)),
      (refl, refl),
    ))

-- the entry of an answer that is to be posted
pub adds_posted : (slots id : ℕ) (m : PortMe) (answer : Answer) → slots ≡ 1 → m.0.role ≡ Worker → m.0.phase ≡ Holding → last_number m.0.jobs ≡ answer.number → Allows PortInvariant slots id m 0 (λ n. n) (plays.added_posted answer (step slots 0 0 0 none) m)
adds_posted slots id m answer one is calm numbered = allowed slots id m (λ n. n) (plays.added_posted answer (step slots 0 0 0 none) m) one
    (λ s r long at. let known = worker_knows s r id m.0 at is in let k = worker_claimed r.table_name r.note r.note_is_out r.guest m.0 r.stage (get_elem? s.homes 0) Holding known.2 calm refl (at_worker s r id m.0 at is) in let i = k.3 in let e = i.1 in let v' = plays.with_posted answer m.0 in
    let same : answer.number ≡ e.1.number = sym numbered ∙ (ap last_number e.2 ∙ last_number-snoc e.0 e.1) in (
      v',
      keeps,
      tt,
      worker_steps s r id m.0 v' (word_of r.stage) s.homes claimed at is is refl (ap word_of k.0)
          (k.1, k.2, (subst (λ (l : List Job). SameNumbers v'.answers l) (sym e.2) (same_numbers_both m.0.answers e.0 answer e.1 same e.3), (answer, ap (λ l. l ++ answer ∷ []) (sym i.0)), i.2, i.3)),
      (refl, refl),
    ))

-- the note of the posted answers
pub splits_posted_note : (id : ℕ) (v : SeatView) → v.role ≡ Worker → v.phase ≡ Ready → Splits PortInvariant id v (plays.with_note_split v) (plays.note_of_posted v)
splits_posted_note id v is ready s r at = let known = worker_knows s r id v at is in let k = worker_claimed r.table_name r.note r.note_is_out r.guest v r.stage (get_elem? s.homes 0) Ready known.2 ready refl (at_worker s r id v at is) in let i = k.3 in
    let table_name : v.table_name ≡ r.table_name = ap (λ (x : SeatView). x.table_name) known.0 ∙ r.worker_table_name in
    worker_splits s r id v (plays.with_note_split v) (plays.note_of_posted v) claimed at is is refl i.3 refl (r.word ∙ ap word_of k.0) (k.1, k.2, (i.0, i.1, i.2, refl, ap (λ z. posted_note z v.answers) table_name))

-- the store of ANSWERED
pub posts : (slots id : ℕ) (v : SeatView) (answer : Answer) (note : Badge SeatView) → slots ≡ 1 → v.role ≡ Worker → v.phase ≡ NoteSplit → last_of v.answers ≡ answer ∷ [] → name_of_table note.table_id ≡ v.table_name → note.views ≡ posted_note v.table_name v.answers ∷ []
    → Allows PortInvariant slots id (v, slot_with (Some (Answered answer note))) 0 (λ _. 4) (λ _. plays.given (step slots 0 4 0 none) (v, slot_with (Some (Answered answer note))) 4)
posts slots id v answer note one is noted last named views = allowed slots id (v, slot_with (Some (Answered answer note))) (λ _. 4) (λ _. plays.given (step slots 0 4 0 none) (v, slot_with (Some (Answered answer note))) 4) one
    (λ s r long at. let known = worker_knows s r id v at is in let k = worker_claimed r.table_name r.note r.note_is_out r.guest v r.stage (get_elem? s.homes 0) NoteSplit known.2 noted refl (at_worker s r id v at is) in let i = k.3 in let hs = set s.homes 0 (some (Some (Answered answer note))) in
    let table_name : v.table_name ≡ r.table_name = ap (λ (x : SeatView). x.table_name) known.0 ∙ r.worker_table_name in
    let same : i.1.0 ≡ answer = last_is v.answers r.guest.answers answer i.1.0 i.1.1 last in
    let all : v.answers ≡ r.guest.answers ++ answer ∷ [] = i.1.1 ∙ ap (λ (x : Answer). r.guest.answers ++ x ∷ []) same in
    let seen : note.views ≡ r.note ∷ [] = views ∙ ap (λ (x : SeatView). x ∷ []) (ap (λ z. posted_note z v.answers) table_name ∙ sym i.4) in (
      plays.away v,
      gives,
      tt,
      worker_steps s r id v (plays.away v) 4 hs answered at is is refl refl
          (k.1, refl, (i.0, i.2, i.3, i.4, (answer, note, all, slot_filled s.homes (some (Some (Answered answer note))) long, seen, named ∙ table_name))),
      (refl, refl),
    ))

pub claims_as : (slots id : ℕ) (m : PortMe) (old : ℕ) → slots ≡ 1 → m.0.role ≡ Worker → m.1 ≡ [] → (old ≡ 1) ⊎ (old ≡ 2) → Allows PortInvariant slots id m 0 (λ n. either (eqb n old) 3 n) (plays.claimed (step slots 0 old 3 none) m)
claims_as slots id m old one is has waits = subst (λ (x : List (ℕ × Option SlotContent)). Allows PortInvariant slots id (m.0, x) 0 (λ n. either (eqb n old) 3 n) (plays.claimed (step slots 0 old 3 none) (m.0, x))) (sym has) (claims slots id m.0 old one is waits)

pub post_store : (slots id : ℕ) (m : PortMe) (v : SeatView) (answer : Answer) (note : Badge SeatView) → slots ≡ 1 → v.role ≡ Worker → name_of_table note.table_id ≡ v.table_name → note.views ≡ plays.note_of_posted (plays.with_posted answer v) ∷ []
    → m ≡ (plays.with_note_split (plays.with_posted answer v), slot_with (Some (Answered answer note))) → Allows PortInvariant slots id m 0 (λ _. 4) (λ _. plays.given (step slots 0 4 0 none) m 4)
post_store slots id m v answer note one is named views e = subst (λ (x : PortMe). Allows PortInvariant slots id x 0 (λ _. 4) (λ _. plays.given (step slots 0 4 0 none) x 4)) (sym e)
    (posts slots id (plays.with_note_split (plays.with_posted answer v)) answer note one is refl (last_of-snoc v.answers answer) named views)

pub claimed_jobs : (z : TableName) (v u w : SeatView) (before : List Job) (job : Job) → u ≡ queued_note z (before ++ job ∷ []) → w ≡ plays.with_claimed (plays.note_joined v u) → w.jobs ≡ v.jobs ++ with_cancelled v.job_cancelled job ∷ []
claimed_jobs z v u w before job e f = ap (λ (x : SeatView). x.jobs) f ∙ (ap (λ (x : SeatView). v.jobs ++ map (with_cancelled v.job_cancelled) (last_of x.jobs)) e ∙ ap (λ l. v.jobs ++ map (with_cancelled v.job_cancelled) l) (last_of-snoc before job))

pub collected_answers : (z : TableName) (v u w : SeatView) (before : List Answer) (answer : Answer) → u ≡ posted_note z (before ++ answer ∷ []) → w ≡ plays.with_collected (plays.note_joined v u) → w.answers ≡ v.answers ++ answer ∷ []
collected_answers z v u w before answer e f = ap (λ (x : SeatView). x.answers) f ∙ (ap (λ (x : SeatView). v.answers ++ last_of x.answers) e ∙ ap (λ l. v.answers ++ l) (last_of-snoc before answer))

-- the worker gives an empty slot back, and the word stays
leave_rule : (z : TableName) (n : SeatView) (live : Bool) (g w : SeatView) (h : SlotState) (k : (p : TableStage) × RuleAt z n live g w p h) → g.role ≡ Guest → w.phase ≡ Holding → (h' : SlotState) → RuleAt z n live g (plays.away w) k.0 h'
leave_rule z n live g w h (p, k) is calm h' = let c = worker_claimed z n live g w p h Holding is calm refl k in subst (λ (q : TableStage). RuleAt z n live g (plays.away w) q h') (sym c.0) (c.1, c.2, c.3)

pub leaves_calm : (slots id : ℕ) (v : SeatView) → slots ≡ 1 → v.role ≡ Worker → v.phase ≡ Holding → Allows PortInvariant slots id (v, slot_with None) 0 (λ n. n) (plays.slot_left (step slots 0 0 0 none) (v, slot_with None))
leaves_calm slots id v one is calm = allowed slots id (v, slot_with None) (λ n. n) (plays.slot_left (step slots 0 0 0 none) (v, slot_with None)) one
    (λ s r long at. let known = worker_knows s r id v at is in let hs = set s.homes 0 (some None) in
    (plays.away v, gives, tt, worker_steps s r id v (plays.away v) (word_of r.stage) hs r.stage at is is refl refl (leave_rule r.table_name r.note r.note_is_out r.guest v (get_elem? s.homes 0) (r.stage, at_worker s r id v at is) known.2 calm (get_elem? hs 0)), (refl, refl)))

away_rule : (z : TableName) (n : SeatView) (live : Bool) (g w : SeatView) (p : TableStage) (h : SlotState) → g.role ≡ Guest → w.phase ≡ Away → RuleAt z n live g w p h → RuleAt z n live g (plays.away w) p h
away_rule z n live g w p h is away k = subst (λ (x : SeatView). RuleAt z n live g x p h) (λ i. record w { phase = away i }) k

pub leaves_away : (slots id : ℕ) (v : SeatView) → slots ≡ 1 → v.role ≡ Worker → v.phase ≡ Away → Allows PortInvariant slots id (v, []) 0 (λ n. n) (plays.slot_left (step slots 0 0 0 none) (v, []))
leaves_away slots id v one is away = allowed slots id (v, []) (λ n. n) (plays.slot_left (step slots 0 0 0 none) (v, [])) one
    (λ s r long at. let known = worker_knows s r id v at is in
    (plays.away v, keeps, tt, worker_steps s r id v (plays.away v) (word_of r.stage) s.homes r.stage at is is refl refl (away_rule r.table_name r.note r.note_is_out r.guest v r.stage (get_elem? s.homes 0) known.2 away (at_worker s r id v at is)), (refl, refl)))

pub leaves : (slots id : ℕ) (m : PortMe) (f : SeatPhase) → slots ≡ 1 → m.0.role ≡ Worker → is_between f ≡ true → m.0.phase ≡ f → m.1 ≡ plays.slots_of f → Allows PortInvariant slots id m 0 (λ n. n) (plays.slot_left (step slots 0 0 0 none) m)
leaves slots id m Away one is b at has = subst (λ (x : List (ℕ × Option SlotContent)). Allows PortInvariant slots id (m.0, x) 0 (λ n. n) (plays.slot_left (step slots 0 0 0 none) (m.0, x))) (sym has) (leaves_away slots id m.0 one is at)
leaves slots id m Holding one is b at has = subst (λ (x : List (ℕ × Option SlotContent)). Allows PortInvariant slots id (m.0, x) 0 (λ n. n) (plays.slot_left (step slots 0 0 0 none) (m.0, x))) (sym has) (leaves_calm slots id m.0 one is at)
leaves slots id m NoteBack one is b at has = absurd (off b)
leaves slots id m Due one is b at has = absurd (off b)
leaves slots id m NoteJoined one is b at has = absurd (off b)
leaves slots id m Ready one is b at has = absurd (off b)
leaves slots id m NoteSplit one is b at has = absurd (off b)
