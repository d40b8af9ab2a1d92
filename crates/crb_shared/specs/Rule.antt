-- The rule of a port's table: who holds the slot, what lies in it, and how the lists are related. (Own definitions.)
use Rattle.std.specs.Prelude.{◌≡◌, ℕ, List, [], ◌∷◌, ◌++◌, length, slice_index, Option, Some, None, Bool, true, false}
use mathlib.Core.Option.{some}
use mathlib.Core.Option as maybe
use lib.ListN.{get_elem?}
use Rattle.atomic_table.specs.Seated.{TableId}
use Rattle.atomic_table.specs.Table.{State}
use Rattle.atomic_table.specs.declared.badge.Badge.{Badge}
use Rattle.crb_port.specs.declared.job.Job.{Job}
use Rattle.crb_port.specs.declared.job.Answer.{Answer}
use Rattle.crb_shared.specs.Agreement.{IsSubsequence, SameNumbers, with_cancelled}
use Rattle.crb_shared.specs.declared.rule.SlotContent.{SlotContent}
use Rattle.crb_shared.specs.declared.rule.SlotContent.TheVariants.{Waiting, Answered}
use Rattle.crb_shared.specs.declared.rule.SeatRole.{SeatRole}
use Rattle.crb_shared.specs.declared.rule.SeatRole.TheVariants.{Opening, Unsplit, Guest, Worker, Note, Closed, Spent}
use Rattle.crb_shared.specs.declared.rule.SeatPhase.{SeatPhase}
use Rattle.crb_shared.specs.declared.rule.SeatPhase.TheVariants.{Away, Holding, NoteBack, Due, NoteJoined, Ready, NoteSplit}
use Rattle.crb_shared.specs.declared.rule.TableName.{TableName}
use Rattle.crb_shared.specs.declared.rule.SeatView.{SeatView}

-- The five words; and the time before the first store, when the word is that of FREE and nobody holds the slot
pub data TableStage : Type 0 where
  opening : TableStage
  free : TableStage
  queued : TableStage
  cancelled : TableStage
  claimed : TableStage
  answered : TableStage

-- the word at each stage
abbrev pub word_of : TableStage → ℕ
word_of opening = 0
word_of free = 0
word_of queued = 1
word_of cancelled = 2
word_of claimed = 3
word_of answered = 4

-- the slot as the table has it: its content, or nothing while a seat holds it
abbrev pub SlotState : Type 0
SlotState = maybe.Option (maybe.Option (Option SlotContent))

-- a table's identity, as a view can hold it
abbrev pub name_of_table : TableId → TableName
name_of_table t = record {
  words = t.words;
  slots = t.slots;
  views_name = t.views_name;
  atom = t.atom;
  block = t.block;
  offset = t.offset;
  slot_names = t.slot_names;
}

abbrev pub no_table_name : TableName
no_table_name = record { words = 0; slots = 0; views_name = 0; atom = 0; block = 0; offset = 0; slot_names = [] }

-- a view with nothing in it
abbrev pub empty_view : SeatRole → TableName → SeatView
empty_view role name = record {
  role = role;
  phase = Away;
  job_cancelled = false;
  found_answer = false;
  looks = [];
  jobs = [];
  answers = [];
  noted_jobs = [];
  noted_answers = [];
  table_name = name;
}

-- the view of the first seat
abbrev pub start_view : SeatView
start_view = empty_view Opening no_table_name

-- a note of the jobs that the guest queued
abbrev pub queued_note : TableName → List Job → SeatView
queued_note name jobs = record (empty_view Note name) { jobs = jobs }

-- a note of the answers that the worker posted
abbrev pub posted_note : TableName → List Answer → SeatView
posted_note name answers = record (empty_view Note name) { answers = answers }

-- The views of the guest's seat, of the worker's, and of the note, which counts if one is out. Of the lists it says in this order:
-- which jobs have their answers posted, which posted answers are collected, and that the claimed jobs are among the queued ones.
module _ (name : TableName) (note : SeatView) (note_is_out : Bool) (guest worker : SeatView) where
  -- in FREE the guest holds the slot, in each of these phases
  abbrev pub WhileFree : SeatPhase → Type 0
  WhileFree Away = ⊥
  WhileFree Holding = SameNumbers worker.answers worker.jobs
      × (guest.answers ≡ worker.answers)
      × IsSubsequence worker.jobs guest.jobs
      × (note_is_out ≡ false)
  WhileFree NoteBack = SameNumbers worker.answers worker.jobs
      × (guest.answers ≡ worker.answers)
      × IsSubsequence worker.jobs guest.jobs
      × (note_is_out ≡ true)
  WhileFree Due = SameNumbers worker.answers worker.jobs
      × ((a : Answer) × (worker.answers ≡ guest.answers ++ a ∷ []))
      × IsSubsequence worker.jobs guest.jobs
      × (note_is_out ≡ true)
      × (note ≡ posted_note name worker.answers)
  WhileFree NoteJoined = SameNumbers worker.answers worker.jobs
      × ((a : Answer) × (worker.answers ≡ guest.answers ++ a ∷ []))
      × IsSubsequence worker.jobs guest.jobs
      × (note_is_out ≡ false)
      × (guest.noted_answers ≡ worker.answers)
  WhileFree Ready = SameNumbers worker.answers worker.jobs
      × (guest.answers ≡ worker.answers)
      × ((before : List Job) × (job : Job) × (guest.jobs ≡ before ++ job ∷ []) × IsSubsequence worker.jobs before × (guest.job_cancelled ≡ job.cancelled))
      × (note_is_out ≡ false)
  WhileFree NoteSplit = SameNumbers worker.answers worker.jobs
      × (guest.answers ≡ worker.answers)
      × ((before : List Job) × (job : Job) × (guest.jobs ≡ before ++ job ∷ []) × IsSubsequence worker.jobs before × (guest.job_cancelled ≡ job.cancelled))
      × (note_is_out ≡ true)
      × (note ≡ queued_note name guest.jobs)

  -- In QUEUED and CANCELLED the last queued job lies in the slot with the guest's note. Whether it is cancelled is in the word: job and
  -- note have it as it was when the job was queued.
  abbrev pub WhileWaiting : Bool → SlotState → Type 0
  WhileWaiting is_cancelled slot = SameNumbers worker.answers worker.jobs
      × (guest.answers ≡ worker.answers)
      × (note_is_out ≡ true)
      × (guest.job_cancelled ≡ is_cancelled)
      × ((before : List Job) × (job : Job) × (badge : Badge SeatView)
      × (guest.jobs ≡ before ++ with_cancelled is_cancelled job ∷ [])
      × IsSubsequence worker.jobs before
      × (note ≡ queued_note name (before ++ job ∷ []))
      × (slot ≡ some (some (Some (Waiting job badge))))
      × (badge.views ≡ note ∷ [])
      × (name_of_table badge.table_id ≡ name))

  -- in CLAIMED the worker holds the slot, in each of these phases; once the port is closed, nobody does
  abbrev pub WhileClaimed : SeatPhase → Type 0
  WhileClaimed Away = (guest.answers ≡ worker.answers)
      × ((before : List Job) × (job : Job) × (worker.jobs ≡ before ++ job ∷ []) × SameNumbers worker.answers before)
      × IsSubsequence worker.jobs guest.jobs
      × (note_is_out ≡ false)
  WhileClaimed NoteBack = ⊥
  WhileClaimed Due = SameNumbers worker.answers worker.jobs
      × (guest.answers ≡ worker.answers)
      × ((before : List Job) × (job : Job) × (guest.jobs ≡ before ++ with_cancelled worker.job_cancelled job ∷ []) × IsSubsequence worker.jobs before × (note ≡ queued_note name (before ++ job ∷ [])))
      × (note_is_out ≡ true)
  WhileClaimed NoteJoined = SameNumbers worker.answers worker.jobs
      × (guest.answers ≡ worker.answers)
      × ((before : List Job) × (job : Job) × (guest.jobs ≡ before ++ with_cancelled worker.job_cancelled job ∷ []) × IsSubsequence worker.jobs before × (worker.noted_jobs ≡ before ++ job ∷ []))
      × (note_is_out ≡ false)
  WhileClaimed Holding = (guest.answers ≡ worker.answers)
      × ((before : List Job) × (job : Job) × (worker.jobs ≡ before ++ job ∷ []) × SameNumbers worker.answers before)
      × IsSubsequence worker.jobs guest.jobs
      × (note_is_out ≡ false)
  WhileClaimed Ready = SameNumbers worker.answers worker.jobs
      × ((a : Answer) × (worker.answers ≡ guest.answers ++ a ∷ []))
      × IsSubsequence worker.jobs guest.jobs
      × (note_is_out ≡ false)
  WhileClaimed NoteSplit = SameNumbers worker.answers worker.jobs
      × ((a : Answer) × (worker.answers ≡ guest.answers ++ a ∷ []))
      × IsSubsequence worker.jobs guest.jobs
      × (note_is_out ≡ true)
      × (note ≡ posted_note name worker.answers)

  -- in ANSWERED the last posted answer lies in the slot with the worker's note
  abbrev pub WhileAnswered : SlotState → Type 0
  WhileAnswered slot = SameNumbers worker.answers worker.jobs
      × IsSubsequence worker.jobs guest.jobs
      × (note_is_out ≡ true)
      × (note ≡ posted_note name worker.answers)
      × ((answer : Answer) × (badge : Badge SeatView)
      × (worker.answers ≡ guest.answers ++ answer ∷ [])
      × (slot ≡ some (some (Some (Answered answer badge))))
      × (badge.views ≡ note ∷ [])
      × (name_of_table badge.table_id ≡ name))

  -- what holds at each stage
  abbrev pub RuleAt : TableStage → SlotState → Type 0
  RuleAt opening slot = (guest ≡ start_view) × (name ≡ no_table_name) × (worker ≡ empty_view Worker name) × (note_is_out ≡ false) × (slot ≡ some (some None))
  RuleAt free slot = (worker.phase ≡ Away) × (guest.found_answer ≡ false) × WhileFree guest.phase
  RuleAt queued slot = (guest.phase ≡ Away) × (worker.phase ≡ Away) × (guest.found_answer ≡ false) × WhileWaiting false slot
  RuleAt cancelled slot = (guest.phase ≡ Away) × (worker.phase ≡ Away) × (guest.found_answer ≡ false) × WhileWaiting true slot
  RuleAt claimed slot = (guest.phase ≡ Away) × (guest.found_answer ≡ false) × WhileClaimed worker.phase
  RuleAt answered slot = (guest.phase ≡ Away) × (worker.phase ≡ Away) × WhileAnswered slot

-- a phase in which a seat is between two calls
abbrev pub is_between : SeatPhase → Bool
is_between Away = true
is_between Holding = true
is_between NoteBack = false
is_between Due = false
is_between NoteJoined = false
is_between Ready = false
is_between NoteSplit = false

-- a view that is in place j among all views is the one of its role
module _ (stage : TableStage) (guest_at worker_at note_at : ℕ) (name : TableName) (note_is_out : Bool) (guest worker note : SeatView) (j : ℕ) (v : SeatView) where
  abbrev pub MatchesRole : SeatRole → Type 0
  MatchesRole Opening = (v ≡ guest) × (j ≡ guest_at) × (stage ≡ opening)
  MatchesRole Unsplit = (v ≡ guest) × (j ≡ guest_at) × (worker ≡ empty_view Worker name)
  MatchesRole Guest = (v ≡ guest) × (j ≡ guest_at)
  MatchesRole Worker = (v ≡ worker) × (j ≡ worker_at) × (guest.role ≡ Guest)
  MatchesRole Note = (v ≡ note) × (j ≡ note_at) × (note_is_out ≡ true)
  MatchesRole Closed = (v ≡ guest) × (j ≡ guest_at) × (v.noted_jobs ≡ worker.jobs) × (v.noted_answers ≡ worker.answers) × (is_between v.phase ≡ true) × (is_between worker.phase ≡ true)
  MatchesRole Spent = Unit {0}

-- The rule. There are a guest's view, a worker's and a note's, with their places, so that the table's word, its slot and all of
-- its views are as `RuleAt` and `MatchesRole` say.
pub record PortInvariant (s : State (Option SlotContent) SeatView) : Type 0 where
  pub guest_at : ℕ
  pub worker_at : ℕ
  pub note_at : ℕ
  pub table_name : TableName
  pub note_is_out : Bool
  pub guest : SeatView
  pub worker : SeatView
  pub note : SeatView
  pub stage : TableStage
  pub one_word : length s.words ≡ 1
  pub word : slice_index s.words 0 ≡ word_of stage
  pub guest_table_name : guest.table_name ≡ table_name
  pub worker_table_name : worker.table_name ≡ table_name
  pub rule_at : RuleAt table_name note note_is_out guest worker stage (get_elem? s.homes 0)
  pub views_match : (j : ℕ) (v : SeatView) → get_elem? s.views j ≡ some v → MatchesRole stage guest_at worker_at note_at table_name note_is_out guest worker note j v v.role
