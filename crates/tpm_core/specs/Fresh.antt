-- A TPM that power never came to.
use Rattle.std.specs.Prelude.{ℕ, List, false, None}
use Rattle.tpm_core.specs.declared.algorithm.Algorithm.TheVariants.{Sha256, Sha384}
use Rattle.tpm_core.specs.declared.algorithm.Banks.{Banks}
use Rattle.tpm_core.specs.declared.parts.TpmParts.{TpmParts}
use Rattle.tpm_core.specs.Banks.{blank_bank}

-- the values of a new TPM with this seed and so many banks
abbrev pub manufactured : List ℕ → Banks → TpmParts
manufactured seed banks = record { seed = seed; banks = banks; boots = 0; draws = 0; started = false; pcr = blank_bank Sha256; pcr384 = blank_bank Sha384; counter = 0; saved = None }
