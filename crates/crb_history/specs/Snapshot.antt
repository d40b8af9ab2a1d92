-- The values from which a history begins.
use Rattle.std.specs.Prelude.{ℕ, List}
use Rattle.crb_machine.specs.Values.{DeviceValues, AreValid, fresh_device}
use Rattle.tpm_core.specs.declared.algorithm.Banks.{Banks}
use Rattle.tpm_core.specs.declared.parts.TpmParts.{TpmParts}
use Rattle.tpm_core.specs.Steps.{IsValid}
use Rattle.tpm_core.specs.Answers.{powered_on}
use Rattle.tpm_core.specs.Fresh.{manufactured}

pub record Snapshot : Type 0 where
  pub tpm : TpmParts
  pub device : DeviceValues

-- values that a device and a TPM can have
pub record IsValidSnapshot (b : Snapshot) : Type 0 where
  pub device : AreValid b.device
  pub tpm : IsValid b.tpm

-- a device after a reset over a TPM that was manufactured with this seed and these banks and powered on once
abbrev pub fresh : List ℕ → Banks → Snapshot
fresh seed banks = record { tpm = powered_on (manufactured seed banks); device = fresh_device }
