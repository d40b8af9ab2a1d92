use Rattle.std.proofs.Common.{◌≡◌, length}
use Rattle.speed.proofs.requests.copy.Given as goal

abbrev pub invariant-loop-i : goal.invariant-loop-i
invariant-loop-i l = length l.data ≡ 4096
