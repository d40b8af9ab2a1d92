use Rattle.state_blobs.proofs.Once.{assembled_once}
use Rattle.state_blobs.proofs.laws.tpms_are_assembled_once.Goals as goal

pub returns-clause-once : goal.returns-clause-once
returns-clause-once c = assembled_once
