use Rattle.std.proofs.Common.{◌≡◌, length, take}
use Rattle.tpm_core.proofs.bank.kept_values.Given as goal

abbrev pub invariant-loop-i : goal.invariant-loop-i
invariant-loop-i g l = record {
  size : length l.values ≡ 16;
  same : take l.i l.values ≡ take l.i l.bank;
}
