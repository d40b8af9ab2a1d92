use Rattle.move_codec.proofs.Decoding.{same_message, same_refusal, prefix_free}
use Rattle.move_codec.proofs.laws.messages_are_prefix_free.Goals as goal

pub returns-clause-messages : goal.returns-clause-messages
returns-clause-messages c = same_message

pub returns-clause-refusals : goal.returns-clause-refusals
returns-clause-refusals c = same_refusal

pub returns-clause-apart : goal.returns-clause-apart
returns-clause-apart c = prefix_free
