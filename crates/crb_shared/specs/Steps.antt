-- What the steps need of a seat, and what they leave. (Own definitions.)
use Rattle.std.specs.Prelude.{◌≡◌, ◌≢◌, List, [], ◌∷◌, ◌++◌, None, Result, MatchResult}
use Rattle.atomic_table.specs.Seated.{TableId}
use Rattle.crb_port.specs.Calls.{last_of}
use Rattle.crb_port.specs.Views.{waiting_stage}
use Rattle.crb_port.specs.declared.job.PortStage.{PortStage}
use Rattle.crb_port.specs.declared.job.Job.{Job}
use Rattle.crb_port.specs.declared.job.Answer.{Answer}
use Rattle.crb_shared.specs.Plays.{PortMe, slot_with, freed_view, guest_look, worker_look, GuestSees}
use Rattle.crb_shared.specs.declared.rule.SeatPhase.{SeatPhase}
use Rattle.crb_shared.specs.declared.rule.SeatPhase.TheVariants.{Holding}
use Rattle.crb_shared.specs.declared.rule.SeatView.{SeatView}

-- a seat of this table, which has one word and one slot
abbrev pub IsSeatOf : TableId → TableId → Type 0
IsSeatOf table seat = (seat ≡ table) × (table.words ≡ 1) × (table.slots ≡ 1)

-- the view w after v: in this phase, with these looks, jobs and answers
abbrev pub BecomesView : SeatView → SeatView → SeatPhase → List PortStage → List Job → List Answer → Type 0
BecomesView v w phase looks jobs answers = (w.role ≡ v.role)
    × (w.table_name ≡ v.table_name)
    × (w.phase ≡ phase)
    × (w.looks ≡ looks)
    × (w.jobs ≡ jobs)
    × (w.answers ≡ answers)

-- The guest's seat after it tried to take its job back: the job is the last that it queued, and is cancelled as `old` says. Or
-- something else was found, and nothing was taken.
abbrev pub TakesOwnJob : PortStage → SeatView → PortMe → Result Job PortStage → Type 0
TakesOwnJob old v n result = MatchResult result
    (λ job. (n ≡ (record (freed_view old v) { phase = Holding }, slot_with None)) × (old ≡ waiting_stage job.cancelled) × (last_of v.jobs ≡ job ∷ []))
    (λ found. (found ≢ old) × (n ≡ (guest_look found v, [])) × GuestSees v found)

-- The worker's seat after it tried to claim a job: the job is cancelled as `old` says, and is in the worker's list. Or something
-- else was found, and nothing was taken.
abbrev pub ClaimsWaiting : PortStage → SeatView → PortMe → Result Job PortStage → Type 0
ClaimsWaiting old v n result = MatchResult result
    (λ job. (old ≡ waiting_stage job.cancelled) × BecomesView v n.0 Holding (v.looks ++ old ∷ []) (v.jobs ++ job ∷ []) v.answers × (n.1 ≡ slot_with None))
    (λ found. (found ≢ old) × (n ≡ (worker_look found v, [])))
