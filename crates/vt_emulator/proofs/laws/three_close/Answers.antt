use Rattle.vt_emulator.proofs.Closing.{hears_closing}
use Rattle.vt_emulator.proofs.laws.three_close.Goals as goal

pub returns : goal.returns
returns c = hears_closing
