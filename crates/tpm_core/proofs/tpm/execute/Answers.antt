use Rattle.std.proofs.Common.{◌≡◌, ap, ◌∙◌, Ok, Err, length, refl, [], ◌∷◌}
use Rattle.tpm_frame.specs.Frame.{short}
use Rattle.vt_base.specs.Buffer.{followed_by_zeros}
use Rattle.tpm_core.specs.Answers.{Executed, read_by, reply_to, core_answer, values_after}
use Rattle.tpm_core.proofs.Run.{read_is, in_reach, executed_is, stays_fit, core_answer_is}
use Rattle.tpm_core.proofs.Law.{values_after-more, core_answer-more}
use Rattle.tpm_core.proofs.Replies.{core_answer_is_response}
use Rattle.tpm_core.proofs.tpm.execute.Goals as goal

pub execute_command-requires : goal.execute_command-requires
execute_command-requires c = in_reach c.args.parts.now.banks c.args.parts.now.started c.is_some.result c.args.command.now c.in-Ok.command c.in-Ok.ensures

values-ok : goal.returns-in-Ok-clause-values
values-ok c =
    let e = read_is c.args.parts.now c.args.command.now c.is_some.result (Ok c.in-Ok.command) c.is_some.ensures c.in-Ok.ensures in
    executed_is c.args.parts.now c.execute_command.new.parts c.args.command.now (Ok c.in-Ok.command) c.requires e c.execute_command.ensures.values

pub returns-in-Ok-clause-values : goal.returns-in-Ok-clause-values
returns-in-Ok-clause-values c = values-ok c

pub returns-in-Ok-clause-fit : goal.returns-in-Ok-clause-fit
returns-in-Ok-clause-fit c = stays_fit c.args.parts.now c.execute_command.new.parts c.args.command.now c.requires (values-ok c)

answer-ok : (c : goal.After-execute_command) → reply_to c.args.parts.now (Ok c.in-Ok.command) ≡ core_answer c.args.parts.now [] c.args.command.now
answer-ok c = core_answer_is c.args.parts.now c.args.command.now (Ok c.in-Ok.command) c.requires (read_is c.args.parts.now c.args.command.now c.is_some.result (Ok c.in-Ok.command) c.is_some.ensures c.in-Ok.ensures)

pub returns-in-Ok-clause-size : goal.returns-in-Ok-clause-size
returns-in-Ok-clause-size c = c.execute_command.ensures.size ∙ ap length (answer-ok c)

pub returns-in-Ok-clause-response : goal.returns-in-Ok-clause-response
returns-in-Ok-clause-response c = c.execute_command.ensures.bytes ∙ ap followed_by_zeros (answer-ok c)

read-err : (c : goal.After-write_short) → Err c.in-Err.refusal ≡ read_by c.args.parts.now c.args.command.now
read-err c = read_is c.args.parts.now c.args.command.now c.is_some.result (Err c.in-Err.refusal) c.is_some.ensures c.in-Err.ensures

answer-err : (c : goal.After-write_short) → short c.code.result ≡ core_answer c.args.parts.now [] c.args.command.now
answer-err c = ap short c.code.ensures ∙ core_answer_is c.args.parts.now c.args.command.now (Err c.in-Err.refusal) c.requires (read-err c)

values-err : (c : goal.After-write_short) → c.args.parts.now ≡ values_after c.args.parts.now (Executed c.args.command.now ∷ [])
values-err c = executed_is c.args.parts.now c.args.parts.now c.args.command.now (Err c.in-Err.refusal) c.requires (read-err c) refl

pub returns-in-Err-clause-values : goal.returns-in-Err-clause-values
returns-in-Err-clause-values c = values-err c

pub returns-in-Err-clause-size : goal.returns-in-Err-clause-size
returns-in-Err-clause-size c = c.write_short.ensures.size ∙ ap length (answer-err c)

pub returns-in-Err-clause-response : goal.returns-in-Err-clause-response
returns-in-Err-clause-response c = c.write_short.ensures.response ∙ ap followed_by_zeros (answer-err c)

pub returns-in-Ok-clause-values_past : goal.returns-in-Ok-clause-values_past
returns-in-Ok-clause-values_past c = λ b past fit here. values_after-more c.args.parts.now c.execute_command.new.parts b past (Executed c.args.command.now) fit here (values-ok c)

pub returns-in-Ok-clause-size_past : goal.returns-in-Ok-clause-size_past
returns-in-Ok-clause-size_past c = λ b past fit here. c.execute_command.ensures.size ∙ ap length (answer-ok c ∙ core_answer-more c.args.parts.now b past c.args.command.now fit here)

pub returns-in-Ok-clause-response_past : goal.returns-in-Ok-clause-response_past
returns-in-Ok-clause-response_past c = λ b past fit here. c.execute_command.ensures.bytes ∙ ap followed_by_zeros (answer-ok c ∙ core_answer-more c.args.parts.now b past c.args.command.now fit here)

pub returns-in-Ok-clause-is_response : goal.returns-in-Ok-clause-is_response
returns-in-Ok-clause-is_response c = core_answer_is_response c.args.parts.now [] c.args.command.now c.requires

pub returns-in-Err-clause-values_past : goal.returns-in-Err-clause-values_past
returns-in-Err-clause-values_past c = λ b past fit here. values_after-more c.args.parts.now c.args.parts.now b past (Executed c.args.command.now) fit here (values-err c)

pub returns-in-Err-clause-size_past : goal.returns-in-Err-clause-size_past
returns-in-Err-clause-size_past c = λ b past fit here. c.write_short.ensures.size ∙ ap length (answer-err c ∙ core_answer-more c.args.parts.now b past c.args.command.now fit here)

pub returns-in-Err-clause-response_past : goal.returns-in-Err-clause-response_past
returns-in-Err-clause-response_past c = λ b past fit here. c.write_short.ensures.response ∙ ap followed_by_zeros (answer-err c ∙ core_answer-more c.args.parts.now b past c.args.command.now fit here)

pub returns-in-Err-clause-is_response : goal.returns-in-Err-clause-is_response
returns-in-Err-clause-is_response c = core_answer_is_response c.args.parts.now [] c.args.command.now c.requires
