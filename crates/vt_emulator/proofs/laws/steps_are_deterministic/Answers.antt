use Rattle.vt_emulator.proofs.Once.{hears_once}
use Rattle.vt_emulator.proofs.laws.steps_are_deterministic.Goals as goal

pub returns : goal.returns
returns c = hears_once c.tpms_are_assembled_once.ensures.once c.tpms_are_assembled_once.ensures.not_both
