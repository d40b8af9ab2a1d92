use Rattle.ctrl_codec.proofs.ReplyLaws.{same_reply, same_refusal, never_both}
use Rattle.ctrl_codec.proofs.laws.replies_are_prefix_free.Goals as goal

pub returns-clause-replies : goal.returns-clause-replies
returns-clause-replies c = same_reply

pub returns-clause-refusals : goal.returns-clause-refusals
returns-clause-refusals c = same_refusal

pub returns-clause-apart : goal.returns-clause-apart
returns-clause-apart c = never_both
