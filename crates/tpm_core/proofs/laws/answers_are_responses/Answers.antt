use Rattle.tpm_core.proofs.Replies.{answer_is_response, answer_not_cancelled, answer_succeeded}
use Rattle.tpm_core.specs.Answers.{answer}
use Rattle.tpm_core.proofs.laws.answers_are_responses.Goals as goal

pub returns-clause-response : goal.returns-clause-response
returns-clause-response c = answer_is_response

pub returns-clause-frame : goal.returns-clause-frame
returns-clause-frame c = λ b past command fit.
    let is = answer_is_response b past command fit in
    c.sized_bytes_are_frames.ensures (answer b past command) (record { fits = record { least = is.head; most = is.room }; named = is.size })

pub returns-clause-not_cancelled : goal.returns-clause-not_cancelled
returns-clause-not_cancelled c = answer_not_cancelled

pub returns-clause-succeeded : goal.returns-clause-succeeded
returns-clause-succeeded c = answer_succeeded
