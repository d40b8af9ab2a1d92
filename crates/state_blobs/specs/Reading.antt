-- What is read of three blobs, and put together. (Own definitions.)
use Rattle.std.specs.Prelude.{ℕ, true, false, List, Option, Some, None, if◌then◌else◌}
use Rattle.tpm_core.specs.declared.algorithm.Algorithm.TheVariants.{Sha256, Sha384}
use Rattle.tpm_core.specs.declared.algorithm.Banks.{Banks}
use Rattle.tpm_core.specs.declared.parts.SavedParts.{SavedParts}
use Rattle.tpm_core.specs.declared.parts.TpmParts.{TpmParts}
use Rattle.tpm_core.specs.Banks.{blank_bank}
use Rattle.state_blobs.specs.declared.read.Running.{Running}

-- what a TPM has behind the flag of its volatile blob
abbrev pub running_in : TpmParts → Option Running
running_in v = if v.started then Some (record { draws = v.draws; counter = v.counter; pcr = v.pcr; pcr384 = v.pcr384 }) else None

-- the values that these make
abbrev pub parts_with : List ℕ → Banks → ℕ → Option Running → Option SavedParts → TpmParts
parts_with seed banks boots None saved =
    record { seed = seed; banks = banks; boots = boots; draws = 0; started = false; pcr = blank_bank Sha256; pcr384 = blank_bank Sha384; counter = 0; saved = saved }
parts_with seed banks boots (Some r) saved =
    record { seed = seed; banks = banks; boots = boots; draws = r.draws; started = true; pcr = r.pcr; pcr384 = r.pcr384; counter = r.counter; saved = saved }
