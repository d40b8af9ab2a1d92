-- Where a run begins.
use Rattle.std.specs.Prelude.{replicate}
use Rattle.tpm_core.specs.declared.algorithm.Banks.TheVariants.{Two}
use Rattle.crb_history.specs.Snapshot.{Snapshot, fresh}
use Rattle.script_run.specs.declared.start.Start.{Start}

-- without options: a seed of zeros, two banks, and the longest pieces
unfoldable pub default_start : Start
default_start = record { seed = replicate 32 0; banks = Two; piece = 4096 }

-- a reset device over a new TPM that has the seed and the banks
unfoldable pub base_of : Start → Snapshot
base_of start = fresh start.seed start.banks
