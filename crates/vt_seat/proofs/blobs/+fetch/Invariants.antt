use Rattle.std.proofs.Common.{length}
use Rattle.vt_seat.proofs.blobs.+fetch.Given as goal

abbrev pub decreases-fetch : goal.decreases-fetch
decreases-fetch l = length l.into.now
