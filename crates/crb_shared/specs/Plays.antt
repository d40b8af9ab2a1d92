-- What each step does to the view of its seat, and what it says to its caller. (Own definitions.)
use Rattle.std.specs.Prelude.{◌≡◌, ◌≢◌, ℕ, List, [], ◌∷◌, ◌++◌, map, Option, Some, None, Bool, true, false, ◌==◌, cond}
use Rattle.atomic_table.specs.Seated.{TableId}
use Rattle.atomic_table.specs.Table.{Me, Step}
use Rattle.atomic_table.specs.declared.badge.Badge.{Badge}
use Rattle.crb_port.specs.Calls.{cancel_last, last_of}
use Rattle.crb_port.specs.declared.job.PortStage.{PortStage}
use Rattle.crb_port.specs.declared.job.PortStage.TheVariants as stages
use Rattle.crb_port.specs.declared.job.Outcome.TheVariants.{Done}
use Rattle.crb_port.specs.declared.job.Job.{Job}
use Rattle.crb_port.specs.declared.job.Answer.{Answer}
use Rattle.crb_shared.specs.declared.rule.SlotContent.{SlotContent}
use Rattle.crb_shared.specs.declared.rule.SlotContent.TheVariants.{Waiting, Answered}
use Rattle.crb_shared.specs.declared.rule.SeatRole.TheVariants.{Unsplit, Guest, Worker, Closed, Spent}
use Rattle.crb_shared.specs.declared.rule.SeatPhase.{SeatPhase}
use Rattle.crb_shared.specs.declared.rule.SeatPhase.TheVariants.{Away, Holding, NoteBack, Due, NoteJoined, Ready, NoteSplit}
use Rattle.crb_shared.specs.declared.rule.SeatView.{SeatView}
use Rattle.crb_shared.specs.declared.rule.TableName.{TableName}
use Rattle.crb_shared.specs.Agreement.{with_cancelled, ListsAgree}
use Rattle.crb_shared.specs.Rule.{empty_view, name_of_table, no_table_name, queued_note, posted_note}

-- A step: its word, the expected and the new number. A seat's view with the slots that it holds.
abbrev PortStep : Type 0
PortStep = Step (Option SlotContent)

abbrev pub PortMe : Type 0
PortMe = Me (Option SlotContent) SeatView

-- what the proof replaces by its own choice
abbrev pub no_table : TableId
no_table = record { words = 0; slots = 0; views_name = 0; atom = 0; block = 0; offset = 0; slot_names = [] }

abbrev pub no_job : Job
no_job = record { number = 0; cancelled = false; buf = [] }

abbrev pub no_answer : Answer
no_answer = record { number = 0; outcome = Done; buf = [] }

-- the one slot, held, with this in it
abbrev pub slot_with : Option SlotContent → List (ℕ × Option SlotContent)
slot_with x = (0, x) ∷ []

-- the stage that a word means
abbrev pub stage_of_word : ℕ → PortStage
stage_of_word n = cond (n == 0) stages.Free (cond (n == 1) stages.Queued (cond (n == 2) stages.Cancelled (cond (n == 3) stages.Claimed stages.Answered)))

-- the word of a stage
abbrev pub word_of_stage : PortStage → ℕ
word_of_stage stages.Free = 0
word_of_stage stages.Queued = 1
word_of_stage stages.Cancelled = 2
word_of_stage stages.Claimed = 3
word_of_stage stages.Answered = 4

abbrev pub is_answered : PortStage → Bool
is_answered stages.Free = false
is_answered stages.Queued = false
is_answered stages.Cancelled = false
is_answered stages.Claimed = false
is_answered stages.Answered = true

abbrev pub is_away : SeatPhase → Bool
is_away Away = true
is_away Holding = false
is_away NoteBack = false
is_away Due = false
is_away NoteJoined = false
is_away Ready = false
is_away NoteSplit = false

-- a number is one of the five words
abbrev pub IsWord : ℕ → Type 0
IsWord r = r ≡ word_of_stage (stage_of_word r)

-- the first store
abbrev pub opened_view : TableId → SeatView
opened_view t = record (empty_view Unsplit (name_of_table t)) { phase = Holding }

abbrev pub opened : TableId → PortStep → PortMe → ℕ → PortMe → Type 0
opened t st m r n = (n.0 ≡ opened_view t) × (n.1 ≡ slot_with None)

abbrev pub guest_part : SeatView → SeatView
guest_part v = record v { role = Guest }

abbrev pub worker_part : SeatView → SeatView
worker_part v = empty_view Worker v.table_name

-- the view after a look
abbrev pub guest_look : PortStage → SeatView → SeatView
guest_look found v = record v { looks = v.looks ++ found ∷ []; found_answer = is_answered found }

-- what a found word says to the guest: it holds the slot in FREE alone, and after it found an answer it finds nothing else
abbrev pub GuestSees : SeatView → PortStage → Type 0
GuestSees v stages.Free = (is_away v.phase ≡ false) × (v.found_answer ≡ false)
GuestSees v stages.Queued = (v.phase ≡ Away) × (v.found_answer ≡ false) × (v.job_cancelled ≡ false)
GuestSees v stages.Cancelled = (v.phase ≡ Away) × (v.found_answer ≡ false) × (v.job_cancelled ≡ true)
GuestSees v stages.Claimed = (v.phase ≡ Away) × (v.found_answer ≡ false)
GuestSees v stages.Answered = v.phase ≡ Away

abbrev pub guest_looked : PortStep → PortMe → ℕ → PortMe → Type 0
guest_looked st m r n = (n.0 ≡ guest_look (stage_of_word r) m.0) × (n.1 ≡ m.1) × GuestSees m.0 (stage_of_word r) × IsWord r

-- the entry of what is to be given
abbrev pub with_queued : Job → SeatView → SeatView
with_queued job v = record v { jobs = v.jobs ++ job ∷ []; job_cancelled = job.cancelled; phase = Ready }

abbrev pub added_queued : Job → PortStep → PortMe → ℕ → PortMe → Type 0
added_queued job st m r n = (n.0 ≡ with_queued job m.0) × (n.1 ≡ m.1)

abbrev pub with_posted : Answer → SeatView → SeatView
with_posted answer v = record v { answers = v.answers ++ answer ∷ []; phase = Ready }

abbrev pub added_posted : Answer → PortStep → PortMe → ℕ → PortMe → Type 0
added_posted answer st m r n = (n.0 ≡ with_posted answer m.0) × (n.1 ≡ m.1)

-- the split of a note
abbrev pub with_note_split : SeatView → SeatView
with_note_split v = record v { phase = NoteSplit }

abbrev pub note_of_queued : SeatView → SeatView
note_of_queued v = queued_note v.table_name v.jobs

abbrev pub note_of_posted : SeatView → SeatView
note_of_posted v = posted_note v.table_name v.answers

abbrev pub spent_view : SeatView
spent_view = empty_view Spent no_table_name

-- the store that gives the slot back
abbrev pub away : SeatView → SeatView
away v = record v { phase = Away }

abbrev pub given : PortStep → PortMe → ℕ → PortMe → Type 0
given st m r n = (n.0 ≡ away m.0) × (n.1 ≡ [])

-- the guest's exchange of QUEUED to CANCELLED
abbrev pub cancel_view : PortStage → SeatView → SeatView
cancel_view stages.Free v = guest_look stages.Free v
cancel_view stages.Queued v = record v { looks = v.looks ++ stages.Queued ∷ []; found_answer = false; job_cancelled = true; jobs = cancel_last v.jobs }
cancel_view stages.Cancelled v = record v { looks = v.looks ++ stages.Cancelled ∷ []; found_answer = false; job_cancelled = true; jobs = cancel_last v.jobs }
cancel_view stages.Claimed v = guest_look stages.Claimed v
cancel_view stages.Answered v = guest_look stages.Answered v

abbrev pub cancelled : PortStep → PortMe → ℕ → PortMe → Type 0
cancelled st m r n = (n.0 ≡ cancel_view (stage_of_word r) m.0) × (n.1 ≡ m.1) × GuestSees m.0 (stage_of_word r) × IsWord r

-- the guest's exchange to FREE
abbrev pub freed_phase : PortStage → SeatPhase
freed_phase stages.Free = Holding
freed_phase stages.Queued = NoteBack
freed_phase stages.Cancelled = NoteBack
freed_phase stages.Claimed = Holding
freed_phase stages.Answered = Due

abbrev pub freed_view : PortStage → SeatView → SeatView
freed_view found v = record v { looks = v.looks ++ found ∷ []; found_answer = false; phase = freed_phase found }

-- a note of jobs of which this is the last, and of answers of which this is the last
abbrev pub IsQueuedNote : TableName → Badge SeatView → Job → Type 0
IsQueuedNote z note job = (name_of_table note.table_id ≡ z) × ((before : List Job) × (note.views ≡ queued_note z (before ++ job ∷ []) ∷ []))

abbrev pub IsPostedNote : TableName → Badge SeatView → Answer → Type 0
IsPostedNote z note answer = (name_of_table note.table_id ≡ z) × ((before : List Answer) × (note.views ≡ posted_note z (before ++ answer ∷ []) ∷ []))

-- What was in the slot at this word, and in which slots it lies now. `own` is what the taker knows of the job.
module _ (z : TableName) (own : Bool → Job → Type 0) where
  abbrev pub TakenOut : PortStage → Option SlotContent → Type 0
  TakenOut stages.Free x = Unit {0}
  TakenOut stages.Queued x = (job : Job) × (note : Badge SeatView) × (x ≡ Some (Waiting job note)) × IsQueuedNote z note job × own false job
  TakenOut stages.Cancelled x = (job : Job) × (note : Badge SeatView) × (x ≡ Some (Waiting job note)) × IsQueuedNote z note job × own true job
  TakenOut stages.Claimed x = Unit {0}
  TakenOut stages.Answered x = (answer : Answer) × (note : Badge SeatView) × (x ≡ Some (Answered answer note)) × IsPostedNote z note answer

  abbrev pub IsInSlot : PortStage → List (ℕ × Option SlotContent) → Type 0
  IsInSlot found c = (y : Option SlotContent) × (c ≡ slot_with y) × TakenOut found y

-- the guest's own job is the last that it queued
abbrev pub own_job : SeatView → Bool → Job → Type 0
own_job v b job = last_of v.jobs ≡ with_cancelled b job ∷ []

abbrev pub any_job : Bool → Job → Type 0
any_job b job = Unit {0}

abbrev pub freed : PortStep → PortMe → ℕ → PortMe → Type 0
freed st m r n = (r ≡ st.first → (n.0 ≡ freed_view (stage_of_word r) m.0) × IsInSlot m.0.table_name (own_job m.0) (stage_of_word r) n.1)
    × (r ≢ st.first → (n.0 ≡ guest_look (stage_of_word r) m.0) × (n.1 ≡ m.1))
    × GuestSees m.0 (stage_of_word r)
    × IsWord r

-- the joins of a note
abbrev pub own_note_joined : SeatView → SeatView → SeatView
own_note_joined v w = record v { phase = Holding }

abbrev pub note_joined : SeatView → SeatView → SeatView
note_joined v w = record v { phase = NoteJoined; noted_jobs = w.jobs; noted_answers = w.answers }

-- the entry of what was taken
abbrev pub with_collected : SeatView → SeatView
with_collected v = record v { answers = v.answers ++ last_of v.noted_answers; phase = Holding }

abbrev pub added_collected : PortStep → PortMe → ℕ → PortMe → Type 0
added_collected st m r n = (n.0 ≡ with_collected m.0) × (n.1 ≡ m.1)

abbrev pub with_claimed : SeatView → SeatView
with_claimed v = record v { jobs = v.jobs ++ map (with_cancelled v.job_cancelled) (last_of v.noted_jobs); phase = Holding }

abbrev pub added_claimed : PortStep → PortMe → ℕ → PortMe → Type 0
added_claimed st m r n = (n.0 ≡ with_claimed m.0) × (n.1 ≡ m.1)

-- the worker's view after it found a word
abbrev pub worker_look : PortStage → SeatView → SeatView
worker_look found v = record v { looks = v.looks ++ found ∷ [] }

-- the worker holds the slot in CLAIMED alone
abbrev pub WorkerSees : SeatView → PortStage → Type 0
WorkerSees v stages.Free = v.phase ≡ Away
WorkerSees v stages.Queued = v.phase ≡ Away
WorkerSees v stages.Cancelled = v.phase ≡ Away
WorkerSees v stages.Claimed = Unit {0}
WorkerSees v stages.Answered = v.phase ≡ Away

abbrev pub worker_looked : PortStep → PortMe → ℕ → PortMe → Type 0
worker_looked st m r n = (n.0 ≡ worker_look (stage_of_word r) m.0) × (n.1 ≡ m.1) × WorkerSees m.0 (stage_of_word r) × IsWord r

abbrev pub is_cancelled : PortStage → Bool
is_cancelled stages.Free = false
is_cancelled stages.Queued = false
is_cancelled stages.Cancelled = true
is_cancelled stages.Claimed = false
is_cancelled stages.Answered = false

abbrev pub claim_view : PortStage → SeatView → SeatView
claim_view found v = record v { looks = v.looks ++ found ∷ []; phase = Due; job_cancelled = is_cancelled found }

abbrev pub claimed : PortStep → PortMe → ℕ → PortMe → Type 0
claimed st m r n = (r ≡ st.first → (n.0 ≡ claim_view (stage_of_word r) m.0) × IsInSlot m.0.table_name any_job (stage_of_word r) n.1)
    × (r ≢ st.first → (n.0 ≡ worker_look (stage_of_word r) m.0) × (n.1 ≡ m.1))
    × IsWord r

-- the end: the worker gives back an empty slot, its seat is joined, and the lists are compared
abbrev pub slot_left : PortStep → PortMe → ℕ → PortMe → Type 0
slot_left st m r n = (n.0 ≡ away m.0) × (n.1 ≡ [])

abbrev pub closed : SeatView → SeatView → SeatView
closed v w = record v { role = Closed; noted_jobs = w.jobs; noted_answers = w.answers }

abbrev pub compared : PortStep → PortMe → ℕ → PortMe → Type 0
compared st m r n = (n ≡ m) × ListsAgree m.0.jobs m.0.noted_jobs m.0.noted_answers m.0.answers

-- the slots of a seat between two calls
abbrev pub slots_of : SeatPhase → List (ℕ × Option SlotContent)
slots_of Away = []
slots_of Holding = slot_with None
slots_of NoteBack = slot_with None
slots_of Due = slot_with None
slots_of NoteJoined = slot_with None
slots_of Ready = slot_with None
slots_of NoteSplit = slot_with None
