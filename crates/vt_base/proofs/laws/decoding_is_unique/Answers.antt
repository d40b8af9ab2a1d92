use Rattle.vt_base.proofs.Streams.{streams_more, one_stream}
use Rattle.vt_base.proofs.laws.decoding_is_unique.Goals as goal

pub returns-clause-grows : goal.returns-clause-grows
returns-clause-grows g c = λ layout ends stream rest end piece prefix back p q r. streams_more layout ends stream rest end piece prefix back p q r

pub returns-clause-once : goal.returns-clause-once
returns-clause-once g c = λ layout ends others stream rest left p q r s. one_stream layout ends others stream rest left p q r s
