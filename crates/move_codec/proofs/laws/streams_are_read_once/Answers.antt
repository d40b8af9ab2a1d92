use Rattle.move_codec.proofs.Sent.{sent_more, one_reading}
use Rattle.move_codec.proofs.laws.streams_are_read_once.Goals as goal

pub returns-clause-grows : goal.returns-clause-grows
returns-clause-grows c = sent_more

pub returns-clause-once : goal.returns-clause-once
returns-clause-once c = one_reading
