use Rattle.std.proofs.Common.{length}
use Rattle.saved_stream.proofs.bytes_needed.+parts_walked.Given as goal

abbrev pub decreases-parts_walked : goal.decreases-parts_walked
decreases-parts_walked l = length l.parts.now
