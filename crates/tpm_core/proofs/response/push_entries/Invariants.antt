use Rattle.std.proofs.Common.{◌≡◌, ◌+◌, ◌-◌, ◌*◌, ◌≤◌, ◌++◌, length, drop}
use Rattle.std.specs.List.{flat_map}
use Rattle.tpm_core.specs.Selected.{AreThere, chosen_of, all_registers}
use Rattle.tpm_core.specs.Answers.{entry_read}
use Rattle.tpm_core.proofs.response.push_entries.Given as goal

abbrev pub invariant-loop-selection : goal.invariant-loop-selection
invariant-loop-selection l = record {
  entries : l.body ++ flat_map entry_read (chosen_of (8 - length l.all) (drop l.selection-index l.selections)) ≡ l.fn.body ++ flat_map entry_read (chosen_of 8 l.selections);
  registers : l.all ++ all_registers (chosen_of (8 - length l.all) (drop l.selection-index l.selections)) ≡ all_registers (chosen_of 8 l.selections);
  there : AreThere l.all;
  within_limit : length l.all ≤ 8;
  size : length l.body ≡ length l.fn.body + 6 * l.selection-index;
}
