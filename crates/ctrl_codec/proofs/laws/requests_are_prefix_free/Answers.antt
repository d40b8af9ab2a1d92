use Rattle.ctrl_codec.proofs.RequestLaws.{same_request, same_refusal, never_both}
use Rattle.ctrl_codec.proofs.laws.requests_are_prefix_free.Goals as goal

pub returns-clause-requests : goal.returns-clause-requests
returns-clause-requests c = same_request

pub returns-clause-refusals : goal.returns-clause-refusals
returns-clause-refusals c = same_refusal

pub returns-clause-apart : goal.returns-clause-apart
returns-clause-apart c = never_both
