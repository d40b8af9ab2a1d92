use Rattle.std.proofs.Common.{◌≡◌, ◌++◌, take}
use Rattle.tpm_core.specs.Selected.{registers_of}
use Rattle.tpm_core.proofs.selected.append.Given as goal

abbrev pub invariant-loop-index : goal.invariant-loop-index
invariant-loop-index l = l.all ≡ l.fn.all ++ registers_of l.algorithm (take l.index-index l.indices)
