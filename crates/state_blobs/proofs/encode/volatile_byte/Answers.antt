use Rattle.std.proofs.Common.{sym, ◌∙◌, arith, rules}
use Rattle.state_blobs.proofs.Bodies.{draws_byte, running_byte}
use Rattle.state_blobs.proofs.encode.volatile_byte.Goals as goal

pub returns-else-i-lt-RUNNING_PLACE : goal.returns-else-i-lt-RUNNING_PLACE
returns-else-i-lt-RUNNING_PLACE c = c.counted_byte.ensures ∙ running_byte c.args.parts.now c.args.i (search rules) (omega (arith, c.if-i-lt-RUNNING_PLACE.false)) c.requires

pub returns-then-i-lt-RUNNING_PLACE : goal.returns-then-i-lt-RUNNING_PLACE
returns-then-i-lt-RUNNING_PLACE c = c.long_byte.ensures ∙ sym (draws_byte c.args.parts.now c.args.i (search rules) (omega arith) (omega arith))
