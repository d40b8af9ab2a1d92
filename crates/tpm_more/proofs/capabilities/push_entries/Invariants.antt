use Rattle.std.proofs.Common.{◌≡◌, ◌≤◌, ◌+◌, ◌*◌, ◌++◌, length, take}
use Rattle.std.specs.List.{flat_map}
use Rattle.tpm_more.specs.Entries.{written}
use Rattle.tpm_more.proofs.capabilities.push_entries.Given as goal

abbrev pub invariant-loop-entry : goal.invariant-loop-entry
invariant-loop-entry l = record {
  exact : l.body ≡ l.fn.body ++ flat_map written (take l.entry-index l.entries);
  size : length l.body ≤ length l.fn.body + 8 * l.entry-index;
}
