use Rattle.std.proofs.Common.{arith}
use Rattle.tpm_frame.proofs.Parts.{prefix_is_frame}
use Rattle.tpm_frame.proofs.cutter.first_frame.Goals as goal

pub returns-clause-whole : goal.returns-clause-whole
returns-clause-whole c = λ fits. rw c.split_at.ensures.front (prefix_is_frame c.args.bytes.now c.min-size.result (omega arith) (omega arith))
