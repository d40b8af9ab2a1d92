use Rattle.std.proofs.Common.{◌≡◌, List, ℕ, map, subst}
use Rattle.std.specs.Prelude.{IfSome, IsSomeAnd}
use Rattle.std.specs.String.{string_bytes}
use Rattle.vt_base.specs.declared.status.Status.TheVariants.{Ok, WriteFault}
use Rattle.script_run.specs.Actions.{reading_of}
use Rattle.script_run.specs.Bulk.{bulk_summary}
use Rattle.script_run.specs.Ends.{BulkEnd, EndOf, HasEnd}
use Rattle.script_run.specs.Output.{seen, FinishesAlone}
use Rattle.script_run.specs.Run.{IsCramped, IsGood, Writes}
use Rattle.script_run.specs.Words.{IsTask}
use Rattle.script_run.specs.declared.action.Action.{Action}
use Rattle.script_run.specs.declared.action.Task.{Task}
use Rattle.script_run.specs.declared.action.Task.TheVariants.{Read, Bulk}
use Rattle.script_run.proofs.Completing.{completes}
use Rattle.script_run.proofs.Endings.{all-writes, all-cramped}
use Rattle.script_run.proofs.Tasks.{same-action, no-bulk, same-bulk, no-action, has-piece, few-lines}
use Rattle.script_run.proofs.Words.{none-some}
use Rattle.script_run.proofs.top.run.Goals as goal

-- ---- an input is read

pub run_action-requires : goal.run_action-requires
run_action-requires g c = has-piece c.in-Some-Read.action (map string_bytes c.args.words.now) (subst (λ (task : Task). IsTask task c.args.words.now) c.in-Some-Read.field-0-is c.in-Some-Read.ensures.named)

pub returns-in-Some-Read-clause-does : goal.returns-in-Some-Read-clause-does
returns-in-Some-Read-clause-does g c = λ action is.
    subst (λ (x : Action). IfSome (g.S.Source.left c.args.source.now) (λ (input : List ℕ). Writes c.run_action.result.status (reading_of x input) (g.S.Source.left c.run_action.new.source) (g.K.Sink.written c.args.sink.now) (g.K.Sink.written c.run_action.new.sink)))
    (same-action c.in-Some-Read.field-0 c.in-Some-Read.action c.in-Some-Read.field-0-is action (c.in-Some-Read.ensures.only (Read action) is)) (all-writes c.run_action.result.status (reading_of c.in-Some-Read.action) (g.S.Source.left c.args.source.now) (g.S.Source.left c.run_action.new.source) (seen (g.K.Sink.written c.args.sink.now) (g.K.Sink.room c.args.sink.now) (g.K.Sink.faults c.args.sink.now)) (seen (g.K.Sink.written c.run_action.new.sink) (g.K.Sink.room c.run_action.new.sink) (g.K.Sink.faults c.run_action.new.sink)) c.run_action.ensures.leaves)

pub returns-in-Some-Read-clause-sums_up : goal.returns-in-Some-Read-clause-sums_up
returns-in-Some-Read-clause-sums_up g c = λ seed count is. absurd (no-bulk c.in-Some-Read.field-0 c.in-Some-Read.action c.in-Some-Read.field-0-is seed count (c.in-Some-Read.ensures.only (Bulk seed count) is))

pub returns-in-Some-Read-clause-needs_no_input : goal.returns-in-Some-Read-clause-needs_no_input
returns-in-Some-Read-clause-needs_no_input g c = λ seed count is. absurd (no-bulk c.in-Some-Read.field-0 c.in-Some-Read.action c.in-Some-Read.field-0-is seed count (c.in-Some-Read.ensures.only (Bulk seed count) is))

pub returns-in-Some-Read-clause-hands_out : goal.returns-in-Some-Read-clause-hands_out
returns-in-Some-Read-clause-hands_out g c = λ action is.
    subst (λ (x : Action). IfSome (g.S.Source.left c.args.source.now) (λ (input : List ℕ). EndOf x input c.run_action.result.status c.run_action.result.end))
    (same-action c.in-Some-Read.field-0 c.in-Some-Read.action c.in-Some-Read.field-0-is action (c.in-Some-Read.ensures.only (Read action) is)) c.run_action.ensures.hands_out

pub returns-in-Some-Read-clause-hands_out_on_ok : goal.returns-in-Some-Read-clause-hands_out_on_ok
returns-in-Some-Read-clause-hands_out_on_ok g c = λ action is.
    subst (λ (x : Action). HasEnd x c.run_action.result.status c.run_action.result.end)
    (same-action c.in-Some-Read.field-0 c.in-Some-Read.action c.in-Some-Read.field-0-is action (c.in-Some-Read.ensures.only (Read action) is)) c.run_action.ensures.hands_out_on_ok

pub returns-in-Some-Read-clause-bulk_hands_out : goal.returns-in-Some-Read-clause-bulk_hands_out
returns-in-Some-Read-clause-bulk_hands_out g c = λ seed count is. absurd (no-bulk c.in-Some-Read.field-0 c.in-Some-Read.action c.in-Some-Read.field-0-is seed count (c.in-Some-Read.ensures.only (Bulk seed count) is))

pub returns-in-Some-Read-clause-writes_if_promised : goal.returns-in-Some-Read-clause-writes_if_promised
returns-in-Some-Read-clause-writes_if_promised g c = λ action is.
    subst (λ (x : Action). IfSome (g.S.Source.left c.args.source.now) (λ (input : List ℕ). c.run_action.result.status ≡ WriteFault → IsCramped (reading_of x input) (g.K.Sink.room c.args.sink.now)))
    (same-action c.in-Some-Read.field-0 c.in-Some-Read.action c.in-Some-Read.field-0-is action (c.in-Some-Read.ensures.only (Read action) is)) (all-cramped c.run_action.result.status (reading_of c.in-Some-Read.action) (g.S.Source.left c.args.source.now) (g.S.Source.left c.run_action.new.source) (seen (g.K.Sink.written c.args.sink.now) (g.K.Sink.room c.args.sink.now) (g.K.Sink.faults c.args.sink.now)) (seen (g.K.Sink.written c.run_action.new.sink) (g.K.Sink.room c.run_action.new.sink) (g.K.Sink.faults c.run_action.new.sink)) c.run_action.ensures.leaves)

pub returns-in-Some-Read-clause-complete : goal.returns-in-Some-Read-clause-complete
returns-in-Some-Read-clause-complete g c = λ action is good read write.
    let same = same-action c.in-Some-Read.field-0 c.in-Some-Read.action c.in-Some-Read.field-0-is action (c.in-Some-Read.ensures.only (Read action) is) in
    let writes = subst (λ (x : Action). IfSome (g.S.Source.left c.args.source.now) (λ (input : List ℕ). Writes c.run_action.result.status (reading_of x input) (g.S.Source.left c.run_action.new.source) (g.K.Sink.written c.args.sink.now) (g.K.Sink.written c.run_action.new.sink))) same (all-writes c.run_action.result.status (reading_of c.in-Some-Read.action) (g.S.Source.left c.args.source.now) (g.S.Source.left c.run_action.new.source) (seen (g.K.Sink.written c.args.sink.now) (g.K.Sink.room c.args.sink.now) (g.K.Sink.faults c.args.sink.now)) (seen (g.K.Sink.written c.run_action.new.sink) (g.K.Sink.room c.run_action.new.sink) (g.K.Sink.faults c.run_action.new.sink)) c.run_action.ensures.leaves) in
    completes (g.S.Source.left c.args.source.now) (reading_of action) c.run_action.result.status (g.S.Source.left c.run_action.new.source) (g.K.Sink.written c.args.sink.now) (g.K.Sink.written c.run_action.new.sink) writes good c.run_action.ensures.causes.not_usage
    (λ fault. read (c.run_action.ensures.causes.read_fault fault)) (λ fault. write (c.run_action.ensures.causes.write_fault fault))

pub returns-in-Some-Read-clause-usage : goal.returns-in-Some-Read-clause-usage
returns-in-Some-Read-clause-usage g c = λ is. absurd (c.run_action.ensures.causes.not_usage is)

pub returns-in-Some-Read-clause-read_to_end : goal.returns-in-Some-Read-clause-read_to_end
returns-in-Some-Read-clause-read_to_end g c = λ action is ok. c.run_action.ensures.causes.read_to_end ok

-- ---- bulk

pub bulk-requires : goal.bulk-requires
bulk-requires g c = few-lines c.in-Some-Bulk.seed c.in-Some-Bulk.count (map string_bytes c.args.words.now) (subst (λ (task : Task). IsTask task c.args.words.now) c.in-Some-Bulk.field-0-is c.in-Some-Bulk.ensures.named)

pub returns-in-Some-Bulk-clause-does : goal.returns-in-Some-Bulk-clause-does
returns-in-Some-Bulk-clause-does g c = λ action is. absurd (no-action c.in-Some-Bulk.field-0 c.in-Some-Bulk.seed c.in-Some-Bulk.count c.in-Some-Bulk.field-0-is action (c.in-Some-Bulk.ensures.only (Read action) is))

pub returns-in-Some-Bulk-clause-sums_up : goal.returns-in-Some-Bulk-clause-sums_up
returns-in-Some-Bulk-clause-sums_up g c = λ seed count is.
    let same = same-bulk c.in-Some-Bulk.field-0 c.in-Some-Bulk.seed c.in-Some-Bulk.count c.in-Some-Bulk.field-0-is seed count (c.in-Some-Bulk.ensures.only (Bulk seed count) is) in
    let first = subst (λ (n : ℕ). FinishesAlone Ok (bulk_summary n c.in-Some-Bulk.count) c.bulk.result.status (seen (g.K.Sink.written c.args.sink.now) (g.K.Sink.room c.args.sink.now) (g.K.Sink.faults c.args.sink.now)) (seen (g.K.Sink.written c.bulk.new.sink) (g.K.Sink.room c.bulk.new.sink) (g.K.Sink.faults c.bulk.new.sink))) same.0 c.bulk.ensures.writes in
    subst (λ (n : ℕ). FinishesAlone Ok (bulk_summary seed n) c.bulk.result.status (seen (g.K.Sink.written c.args.sink.now) (g.K.Sink.room c.args.sink.now) (g.K.Sink.faults c.args.sink.now)) (seen (g.K.Sink.written c.bulk.new.sink) (g.K.Sink.room c.bulk.new.sink) (g.K.Sink.faults c.bulk.new.sink))) same.1 first

pub returns-in-Some-Bulk-clause-hands_out : goal.returns-in-Some-Bulk-clause-hands_out
returns-in-Some-Bulk-clause-hands_out g c = λ action is. absurd (no-action c.in-Some-Bulk.field-0 c.in-Some-Bulk.seed c.in-Some-Bulk.count c.in-Some-Bulk.field-0-is action (c.in-Some-Bulk.ensures.only (Read action) is))

pub returns-in-Some-Bulk-clause-hands_out_on_ok : goal.returns-in-Some-Bulk-clause-hands_out_on_ok
returns-in-Some-Bulk-clause-hands_out_on_ok g c = λ action is. absurd (no-action c.in-Some-Bulk.field-0 c.in-Some-Bulk.seed c.in-Some-Bulk.count c.in-Some-Bulk.field-0-is action (c.in-Some-Bulk.ensures.only (Read action) is))

pub returns-in-Some-Bulk-clause-bulk_hands_out : goal.returns-in-Some-Bulk-clause-bulk_hands_out
returns-in-Some-Bulk-clause-bulk_hands_out g c = λ seed count is.
    let same = same-bulk c.in-Some-Bulk.field-0 c.in-Some-Bulk.seed c.in-Some-Bulk.count c.in-Some-Bulk.field-0-is seed count (c.in-Some-Bulk.ensures.only (Bulk seed count) is) in
    let first = subst (λ (n : ℕ). BulkEnd n c.in-Some-Bulk.count c.bulk.result.status c.bulk.result.end) same.0 c.bulk.ensures.hands_out in
    subst (λ (n : ℕ). BulkEnd seed n c.bulk.result.status c.bulk.result.end) same.1 first

pub returns-in-Some-Bulk-clause-writes_if_promised : goal.returns-in-Some-Bulk-clause-writes_if_promised
returns-in-Some-Bulk-clause-writes_if_promised g c = λ action is. absurd (no-action c.in-Some-Bulk.field-0 c.in-Some-Bulk.seed c.in-Some-Bulk.count c.in-Some-Bulk.field-0-is action (c.in-Some-Bulk.ensures.only (Read action) is))

pub returns-in-Some-Bulk-clause-read_to_end : goal.returns-in-Some-Bulk-clause-read_to_end
returns-in-Some-Bulk-clause-read_to_end g c = λ action is. absurd (no-action c.in-Some-Bulk.field-0 c.in-Some-Bulk.seed c.in-Some-Bulk.count c.in-Some-Bulk.field-0-is action (c.in-Some-Bulk.ensures.only (Read action) is))

pub returns-in-Some-Bulk-clause-complete : goal.returns-in-Some-Bulk-clause-complete
returns-in-Some-Bulk-clause-complete g c = λ action is. absurd (no-action c.in-Some-Bulk.field-0 c.in-Some-Bulk.seed c.in-Some-Bulk.count c.in-Some-Bulk.field-0-is action (c.in-Some-Bulk.ensures.only (Read action) is))

-- ---- other words

pub returns-in-None-clause-does : goal.returns-in-None-clause-does
returns-in-None-clause-does g c = λ action is. absurd (none-some (Read action) (c.in-None.ensures.only (Read action) is))

pub returns-in-None-clause-sums_up : goal.returns-in-None-clause-sums_up
returns-in-None-clause-sums_up g c = λ seed count is. absurd (none-some (Bulk seed count) (c.in-None.ensures.only (Bulk seed count) is))

pub returns-in-None-clause-hands_out : goal.returns-in-None-clause-hands_out
returns-in-None-clause-hands_out g c = λ action is. absurd (none-some (Read action) (c.in-None.ensures.only (Read action) is))

pub returns-in-None-clause-hands_out_on_ok : goal.returns-in-None-clause-hands_out_on_ok
returns-in-None-clause-hands_out_on_ok g c = λ action is. absurd (none-some (Read action) (c.in-None.ensures.only (Read action) is))

pub returns-in-None-clause-bulk_hands_out : goal.returns-in-None-clause-bulk_hands_out
returns-in-None-clause-bulk_hands_out g c = λ seed count is. absurd (none-some (Bulk seed count) (c.in-None.ensures.only (Bulk seed count) is))

pub returns-in-None-clause-usage : goal.returns-in-None-clause-usage
returns-in-None-clause-usage g c = λ status task is. absurd (none-some task (c.in-None.ensures.only task is))

pub returns-in-None-clause-writes_if_promised : goal.returns-in-None-clause-writes_if_promised
returns-in-None-clause-writes_if_promised g c = λ action is. absurd (none-some (Read action) (c.in-None.ensures.only (Read action) is))

pub returns-in-None-clause-read_to_end : goal.returns-in-None-clause-read_to_end
returns-in-None-clause-read_to_end g c = λ action is. absurd (none-some (Read action) (c.in-None.ensures.only (Read action) is))

pub returns-in-None-clause-complete : goal.returns-in-None-clause-complete
returns-in-None-clause-complete g c = λ action is good read write. absurd (none-some (Read action) (c.in-None.ensures.only (Read action) is))
