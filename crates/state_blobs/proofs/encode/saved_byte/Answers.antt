use Rattle.std.proofs.Common.{◌∙◌, arith}
use Rattle.state_blobs.proofs.Bodies.{kept_byte}
use Rattle.state_blobs.proofs.encode.saved_byte.Goals as goal

pub returns-in-Some-2 : goal.returns-in-Some-2
returns-in-Some-2 c = c.counted_byte.ensures ∙ kept_byte c.args.parts.now.banks c.args.parts.now.saved _ c.args.i c.in-Some-2.is (omega (arith, c.if-i-lt-KEPT_PLACE.false)) c.requires
