-- Values of registers, and of what is lost with power. (Own definitions.)
use Rattle.std.specs.Prelude.{◌≡◌, ℕ, ◌<◌, List, [], ◌++◌, length, replicate, slice_index_or, if◌then◌else◌}
use Rattle.std.specs.List.{concat}
use Rattle.vt_base.specs.Numbers.{number}
use Rattle.tpm_core.specs.declared.algorithm.Algorithm.{Algorithm}
use Rattle.tpm_core.specs.declared.algorithm.Banks.{Banks}
use Rattle.tpm_core.specs.declared.parts.TpmParts.{TpmParts}
use Rattle.tpm_core.specs.Algorithms.{digest_size, has_bank}
use Rattle.tpm_core.specs.Banks.{zeros, bank_of}

-- each has so many bytes, as many as a digest of their bank
abbrev pub AreRegisters : ℕ → List (List ℕ) → Type 0
AreRegisters size values = (i : ℕ) → i < length values → length (slice_index_or values i []) ≡ size

-- a counter, and the registers of all banks behind it
abbrev pub all_counted : ℕ → List (List ℕ) → List (List ℕ) → List ℕ
all_counted counter pcr pcr384 = number counter ++ (concat pcr ++ concat pcr384)

-- so many registers of a bank, or zeros where there is no such bank
abbrev pub registers_if_there : Banks → Algorithm → ℕ → List (List ℕ) → List (List ℕ)
registers_if_there banks a count registers = if has_bank banks a then registers else replicate count (zeros (digest_size a))

-- what is lost with power is the same in both
pub record SameRunning (v w : TpmParts) : Type 0 where
  pub started : v.started ≡ w.started
  pub draws : v.draws ≡ w.draws
  pub counter : v.counter ≡ w.counter
  pub registers : (a : Algorithm) → bank_of a v ≡ bank_of a w
