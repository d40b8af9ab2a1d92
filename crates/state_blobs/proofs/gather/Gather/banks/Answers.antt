use Rattle.state_blobs.proofs.Places.{version_seen}
use Rattle.state_blobs.proofs.gather.Gather.banks.Goals as goal

pub returns : goal.returns
returns c = rw c.deref.ensures (version_seen c.self.inside.kind c.self.inside.reading.value c.args.self.now c.self.invariant c.self.view_is)
