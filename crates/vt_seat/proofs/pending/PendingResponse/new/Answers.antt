use Rattle.std.proofs.Common.{length, ap, ◌∙◌, arith}
use Rattle.vt_base.proofs.Zeros.{length-zeros}
use Rattle.vt_seat.proofs.pending.PendingResponse.new.Goals as goal

pub invariant_of-result : goal.invariant_of-result
invariant_of-result c = (omega arith, omega arith, ap length c.in_ok-new.ensures ∙ length-zeros 3968)
