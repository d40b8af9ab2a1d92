use Rattle.std.proofs.Common.{map, ap, sym, ◌∙◌, arith, refl, Some, None}
use Rattle.std.specs.String.{string_bytes}
use Rattle.script_run.proofs.Words.{cut-words, no-words}
use Rattle.script_run.proofs.Tasks.{only-replay, only-drive, only-suspend, only-resume, only-check, only-bulk, unnamed, none-asked, some-rest, bulk-named}
use Rattle.script_run.proofs.action.task_of.Goals as goal

pub returns-in_err-command-clause-only : goal.returns-in_err-command-clause-only
returns-in_err-command-clause-only c = λ task is. absurd (none-asked task (map string_bytes c.args.words.now) (no-words c.args.words.now c.in_err-command.ensures.cases) is)

pub returns-in_err-start_of-in-replay-clause-only : goal.returns-in_err-start_of-in-replay-clause-only
returns-in_err-start_of-in-replay-clause-only c = λ task is.
    only-replay task (map string_bytes c.args.words.now) c.as_str.result.now (map string_bytes c.in_ok-command.rest.now) (cut-words c.args.words.now c.in_ok-command.rest.now c.in_ok-command.command.now c.as_str.result.now c.in_ok-command.ensures.cases.0 c.as_str.ensures.value) is None c.from_residual-in_err-start_of-in-replay.result c.in-replay.is c.in_err-start_of-in-replay.ensures.only c.from_residual-in_err-start_of-in-replay.ensures

pub returns-in_ok-start_of-in-replay-clause-only : goal.returns-in_ok-start_of-in-replay-clause-only
returns-in_ok-start_of-in-replay-clause-only c = λ task is.
    only-replay task (map string_bytes c.args.words.now) c.as_str.result.now (map string_bytes c.in_ok-command.rest.now) (cut-words c.args.words.now c.in_ok-command.rest.now c.in_ok-command.command.now c.as_str.result.now c.in_ok-command.ensures.cases.0 c.as_str.ensures.value) is (Some c.in_ok-start_of-in-replay.field-0) _ c.in-replay.is c.in_ok-start_of-in-replay.ensures.only refl

pub returns-in_err-start_of-in-drive-clause-only : goal.returns-in_err-start_of-in-drive-clause-only
returns-in_err-start_of-in-drive-clause-only c = λ task is.
    only-drive task (map string_bytes c.args.words.now) c.as_str.result.now (map string_bytes c.in_ok-command.rest.now) (cut-words c.args.words.now c.in_ok-command.rest.now c.in_ok-command.command.now c.as_str.result.now c.in_ok-command.ensures.cases.0 c.as_str.ensures.value) is None c.from_residual-in_err-start_of-in-drive.result c.in-drive.is c.in_err-start_of-in-drive.ensures.only c.from_residual-in_err-start_of-in-drive.ensures

pub returns-in_ok-start_of-in-drive-clause-only : goal.returns-in_ok-start_of-in-drive-clause-only
returns-in_ok-start_of-in-drive-clause-only c = λ task is.
    only-drive task (map string_bytes c.args.words.now) c.as_str.result.now (map string_bytes c.in_ok-command.rest.now) (cut-words c.args.words.now c.in_ok-command.rest.now c.in_ok-command.command.now c.as_str.result.now c.in_ok-command.ensures.cases.0 c.as_str.ensures.value) is (Some c.in_ok-start_of-in-drive.field-0) _ c.in-drive.is c.in_ok-start_of-in-drive.ensures.only refl

pub returns-in_err-start_of-in-suspend-clause-only : goal.returns-in_err-start_of-in-suspend-clause-only
returns-in_err-start_of-in-suspend-clause-only c = λ task is.
    only-suspend task (map string_bytes c.args.words.now) c.as_str.result.now (map string_bytes c.in_ok-command.rest.now) (cut-words c.args.words.now c.in_ok-command.rest.now c.in_ok-command.command.now c.as_str.result.now c.in_ok-command.ensures.cases.0 c.as_str.ensures.value) is None c.from_residual-in_err-start_of-in-suspend.result c.in-suspend.is c.in_err-start_of-in-suspend.ensures.only c.from_residual-in_err-start_of-in-suspend.ensures

pub returns-in_ok-start_of-in-suspend-clause-only : goal.returns-in_ok-start_of-in-suspend-clause-only
returns-in_ok-start_of-in-suspend-clause-only c = λ task is.
    only-suspend task (map string_bytes c.args.words.now) c.as_str.result.now (map string_bytes c.in_ok-command.rest.now) (cut-words c.args.words.now c.in_ok-command.rest.now c.in_ok-command.command.now c.as_str.result.now c.in_ok-command.ensures.cases.0 c.as_str.ensures.value) is (Some c.in_ok-start_of-in-suspend.field-0) _ c.in-suspend.is c.in_ok-start_of-in-suspend.ensures.only refl

pub returns-in_err-piece_alone-in-resume-clause-only : goal.returns-in_err-piece_alone-in-resume-clause-only
returns-in_err-piece_alone-in-resume-clause-only c = λ task is.
    only-resume task (map string_bytes c.args.words.now) c.as_str.result.now (map string_bytes c.in_ok-command.rest.now) (cut-words c.args.words.now c.in_ok-command.rest.now c.in_ok-command.command.now c.as_str.result.now c.in_ok-command.ensures.cases.0 c.as_str.ensures.value) is None c.from_residual-in_err-piece_alone-in-resume.result c.in-resume.is c.in_err-piece_alone-in-resume.ensures.only c.from_residual-in_err-piece_alone-in-resume.ensures

pub returns-in_ok-piece_alone-in-resume-clause-only : goal.returns-in_ok-piece_alone-in-resume-clause-only
returns-in_ok-piece_alone-in-resume-clause-only c = λ task is.
    only-resume task (map string_bytes c.args.words.now) c.as_str.result.now (map string_bytes c.in_ok-command.rest.now) (cut-words c.args.words.now c.in_ok-command.rest.now c.in_ok-command.command.now c.as_str.result.now c.in_ok-command.ensures.cases.0 c.as_str.ensures.value) is (Some c.in_ok-piece_alone-in-resume.field-0) _ c.in-resume.is c.in_ok-piece_alone-in-resume.ensures.only refl

pub returns-in-empty-clause-only : goal.returns-in-empty-clause-only
returns-in-empty-clause-only c = λ task is.
    let asked = only-check task (map string_bytes c.args.words.now) c.as_str.result.now (map string_bytes c.in_ok-command.rest.now) (cut-words c.args.words.now c.in_ok-command.rest.now c.in_ok-command.command.now c.as_str.result.now c.in_ok-command.ensures.cases.0 c.as_str.ensures.value) is c.in-check.is in
    ap Some (sym asked.0)

pub returns-in_default-rest-clause-only : goal.returns-in_default-rest-clause-only
returns-in_default-rest-clause-only c = λ task is.
    let asked = only-check task (map string_bytes c.args.words.now) c.as_str.result.now (map string_bytes c.in_ok-command.rest.now) (cut-words c.args.words.now c.in_ok-command.rest.now c.in_ok-command.command.now c.as_str.result.now c.in_ok-command.ensures.cases.0 c.as_str.ensures.value) is c.in-check.is in
    absurd (some-rest c.in_ok-command.rest.now c.in_default-rest.len_at_least asked.1)

pub returns-in-bulk-clause-named : goal.returns-in-bulk-clause-named
returns-in-bulk-clause-named c = bulk-named c.bulk_of.result (map string_bytes c.args.words.now) c.as_str.result.now (map string_bytes c.in_ok-command.rest.now) (cut-words c.args.words.now c.in_ok-command.rest.now c.in_ok-command.command.now c.as_str.result.now c.in_ok-command.ensures.cases.0 c.as_str.ensures.value) c.in-bulk.is c.bulk_of.ensures.named

pub returns-in-bulk-clause-only : goal.returns-in-bulk-clause-only
returns-in-bulk-clause-only c = λ task is.
    only-bulk task (map string_bytes c.args.words.now) c.as_str.result.now (map string_bytes c.in_ok-command.rest.now) (cut-words c.args.words.now c.in_ok-command.rest.now c.in_ok-command.command.now c.as_str.result.now c.in_ok-command.ensures.cases.0 c.as_str.ensures.value) is c.bulk_of.result c.in-bulk.is c.bulk_of.ensures.only

pub returns-in_default-clause-only : goal.returns-in_default-clause-only
returns-in_default-clause-only c = λ task is.
    absurd (unnamed task (map string_bytes c.args.words.now) c.as_str.result.now (map string_bytes c.in_ok-command.rest.now) (cut-words c.args.words.now c.in_ok-command.rest.now c.in_ok-command.command.now c.as_str.result.now c.in_ok-command.ensures.cases.0 c.as_str.ensures.value) is c.in_default.not-replay c.in_default.not-drive c.in_default.not-suspend c.in_default.not-resume c.in_default.not-check c.in_default.not-bulk)
