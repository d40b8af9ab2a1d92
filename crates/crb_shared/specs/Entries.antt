-- What a closed port says of its ends. (Own definitions.)
use Rattle.std.specs.Prelude.{ℕ, List, [], map, Option, Some, None, Bool}
use Rattle.crb_port.specs.declared.job.Job.{Job}
use Rattle.crb_port.specs.declared.job.Answer.{Answer}
use Rattle.crb_port.specs.declared.job.Outcome.{Outcome}
use Rattle.crb_shared.specs.declared.rule.SeatView.{SeatView}
use Rattle.crb_shared.specs.declared.lists.ListKind.{ListKind}
use Rattle.crb_shared.specs.declared.lists.ListKind.TheVariants.{Queued, Taken, Posted, Collected}

-- a number with its 3968 bytes: of a job with whether it is cancelled, of an answer with its outcome
pub record Entry : Type 0 where
  pub number : ℕ
  pub bytes : List ℕ
  pub cancelled : Option Bool
  pub outcome : Option Outcome

abbrev pub entry_number : Entry → ℕ
entry_number e = e.number

abbrev pub of_job : Job → Entry
of_job job = record { number = job.number; bytes = job.buf; cancelled = Some job.cancelled; outcome = None }

abbrev pub of_answer : Answer → Entry
of_answer answer = record { number = answer.number; bytes = answer.buf; cancelled = None; outcome = Some answer.outcome }

-- one list of a port's seat that both ends were joined into
abbrev pub entries : ListKind → SeatView → List Entry
entries Queued v = map of_job v.jobs
entries Taken v = map of_job v.noted_jobs
entries Posted v = map of_answer v.noted_answers
entries Collected v = map of_answer v.answers

-- the list, where it is known
abbrev pub known_list : {A : Type 0} → Option (List A) → List A
known_list (Some xs) = xs
known_list None = []
