use Rattle.std.proofs.Common.{rules}
use Rattle.state_blobs.proofs.Places.{blob_seen, cut_seen}
use Rattle.state_blobs.proofs.gather.Gather.check_whole.Goals as goal

pub returns-then-is_whole-clause-blob : goal.returns-then-is_whole-clause-blob
returns-then-is_whole-clause-blob c = blob_seen c.self.inside.kind c.self.inside.reading.value c.args.self.now c.self.invariant c.self.view_is (search rules)

pub returns-clause-cut : goal.returns-clause-cut
returns-clause-cut c = cut_seen c.self.inside.kind c.self.inside.reading.value c.args.self.now c.self.invariant c.self.view_is (search rules)
