use Rattle.vt_base.specs.Buffer.{zeros}
use Rattle.own_store.proofs.memory.zeroed.Goals as goal

pub returns : goal.returns
unfolding zeros
returns c = c.in_ok-bytes.ensures.ok
