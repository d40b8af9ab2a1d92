use Rattle.crb_history.proofs.Numbers.{number-counts}
use Rattle.crb_history.proofs.laws.numbers_count_starts.Goals as goal

pub returns : goal.returns
returns c = number-counts
