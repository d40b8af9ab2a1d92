use Rattle.std.proofs.Common.{Ok}
use Rattle.vt_emulator.proofs.Refusing.{taken_is_good}
use Rattle.vt_emulator.proofs.blobs.push_to.Goals as goal

pub returns-clause-good : goal.returns-clause-good
returns-clause-good c = taken_is_good c.blobs_are_prefix_free.ensures.not_refused _ _ (Ok c.in_ok-push.field-0) c.in_ok-push.ensures.whole c.in_ok-push.ensures.cut
