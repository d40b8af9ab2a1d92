use Rattle.std.proofs.Common.{◌≡◌, take}
use Rattle.state_blobs.specs.Partial.{kept_in}
use Rattle.state_blobs.proofs.assembly.first_difference.Given as goal

abbrev pub invariant-loop-i : goal.invariant-loop-i
invariant-loop-i l = take l.i (kept_in l.banks l.saved) ≡ take l.i (kept_in l.banks l.running)
