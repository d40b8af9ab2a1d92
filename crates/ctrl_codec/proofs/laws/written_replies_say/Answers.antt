use Rattle.ctrl_codec.proofs.ReplyLaws.{encoding_says}
use Rattle.ctrl_codec.proofs.laws.written_replies_say.Goals as goal

pub returns : goal.returns
returns c = encoding_says
