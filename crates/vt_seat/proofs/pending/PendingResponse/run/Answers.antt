use Rattle.std.proofs.Common.{arith}
use Rattle.vt_seat.proofs.Waits.{whole_after}
use Rattle.vt_seat.proofs.pending.PendingResponse.run.Goals as goal

pub invariant_of-self : goal.invariant_of-self
invariant_of-self c = (omega arith, c.run_held-self-inside.ensures.within_limit, whole_after _ _ c.run_held-self-inside.result c.self.inside.buf c.run_held-self-inside.new.into c.self.invariant.2 c.run_held-self-inside.ensures.within_limit c.run_held-self-inside.ensures.step)
