use Rattle.std.proofs.Common.{◌≡◌, ◌<◌, ℕ, [], length, get_or}
use Rattle.tpm_core.specs.Banks.{start_value}
use Rattle.tpm_core.proofs.bank.cleared.Given as goal

abbrev pub invariant-loop-i : goal.invariant-loop-i
invariant-loop-i g l = record {
  size : length l.bank ≡ 24;
  same : (k : ℕ) → k < l.i → get_or l.bank k [] ≡ start_value g.row.N k;
}
