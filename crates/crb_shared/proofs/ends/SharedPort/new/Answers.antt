use Rattle.crb_shared.proofs.EndSteps.{begins}
use Rattle.crb_shared.proofs.ends.SharedPort.new.Goals as goal

pub vacant-requires : goal.vacant-requires
vacant-requires c = begins
