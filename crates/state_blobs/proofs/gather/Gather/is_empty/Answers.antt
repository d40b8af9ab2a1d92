use Rattle.state_blobs.proofs.Places.{none_if}
use Rattle.state_blobs.proofs.gather.Gather.is_empty.Goals as goal

pub returns : goal.returns
returns c = rw c.deref.ensures (none_if c.self.inside.kind c.self.inside.reading.value c.args.self.now c.self.invariant c.self.view_is)
