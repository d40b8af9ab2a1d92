use Rattle.std.proofs.Common.{◌≡◌, ◌<◌}
use Rattle.std.specs.Prelude.{All}
use Rattle.tpm_core.proofs.Chosen.{chosen_below}
use Rattle.tpm_core.proofs.selected.chosen.Given as goal

abbrev pub invariant-loop-i : goal.invariant-loop-i
invariant-loop-i l = record {
  exact : l.indices ≡ chosen_below l.bits l.room l.i;
  there : All (λ k. k < 24) l.indices;
}
