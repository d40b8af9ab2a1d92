use Rattle.ctrl_codec.proofs.RequestLaws.{asked_more, asked_once}
use Rattle.ctrl_codec.proofs.laws.requests_are_read_once.Goals as goal

pub returns-clause-grows : goal.returns-clause-grows
returns-clause-grows c = asked_more

pub returns-clause-once : goal.returns-clause-once
returns-clause-once c = asked_once
