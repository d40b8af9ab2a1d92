use Rattle.crb_history.specs.Device.{executed}
use Rattle.vt_transcript.specs.Replies.{history}
use Rattle.vt_transcript.proofs.Rejoining.{one-run}
use Rattle.vt_transcript.proofs.laws.runs_continue.Goals as goal

pub returns : goal.returns
returns c = λ b t more fit run may none. one-run b t (λ later command. c.pasts_join.ensures.answers b.tpm later (executed b (history b t)) command fit) run may none more
