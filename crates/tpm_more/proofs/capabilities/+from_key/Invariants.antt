use Rattle.std.proofs.Common.{length}
use Rattle.tpm_more.proofs.capabilities.+from_key.Given as goal

abbrev pub decreases-from_key : goal.decreases-from_key
decreases-from_key l = length l.entries.now
