-- A bank: the values of 24 registers, each as long as a digest of the bank's algorithm.
use Rattle.std.specs.Prelude.{ℕ, List, [], ◌++◌, replicate, fold, map, Bool, ◌&&◌, false, ◌≡◌, nat_lt, nat_le, if◌then◌else◌, slice_index_or, slice_set}
use Rattle.std.specs.List.{range_with_len}
use Rattle.tpm_core.specs.declared.algorithm.Algorithm.{Algorithm}
use Rattle.tpm_core.specs.declared.algorithm.Algorithm.TheVariants.{Sha256, Sha384}
use Rattle.tpm_core.specs.declared.algorithm.Banks.{Banks}
use Rattle.tpm_core.specs.declared.algorithm.Measurement.{Measurement}
use Rattle.tpm_core.specs.declared.parts.SavedParts.{SavedParts}
use Rattle.tpm_core.specs.declared.parts.TpmParts.{TpmParts}
use Rattle.tpm_core.specs.Algorithms.{digest_size, digest_of, has_bank, digests_by}

-- a value of n zero bytes
abbrev pub zeros : ℕ → List ℕ
zeros n = replicate n 0

-- a value of n bytes with each bit set
abbrev pub ones : ℕ → List ℕ
ones n = replicate n 255

-- the bank of a TPM that isn't started
unfoldable pub blank_bank : Algorithm → List (List ℕ)
blank_bank a = replicate 24 (zeros (digest_size a))

-- what is kept of it
unfoldable pub blank_kept : Algorithm → List (List ℕ)
blank_kept a = replicate 16 (zeros (digest_size a))

-- the bank that has this value for each register
unfoldable pub each_register : (ℕ → List ℕ) → List (List ℕ)
each_register value = map value (range_with_len 0 24)

-- registers 17 to 22 are those that only other localities than the guest's reset and extend
abbrev pub is_dynamic : ℕ → Bool
is_dynamic i = nat_le 17 i && nat_le i 22

-- a register's value after a start that clears: the dynamic ones have each bit set
abbrev pub start_value : ℕ → ℕ → List ℕ
start_value n i = if is_dynamic i then ones n else zeros n

-- a register's value after a start that brings these values back: 16 and on aren't among them
abbrev pub restored_value : ℕ → List (List ℕ) → ℕ → List ℕ
restored_value n saved i = if nat_lt i 16 then slice_index_or saved i [] else start_value n i

-- a value onto which digests are hashed in order
abbrev pub hashed : Algorithm → List ℕ → List (List ℕ) → List ℕ
hashed a old digests = fold (λ value digest. digest_of a (value ++ digest)) old digests

-- a bank whose register i is extended by those of these digests that are of its algorithm
abbrev pub bank_extended : Algorithm → List (List ℕ) → ℕ → List Measurement → List (List ℕ)
bank_extended a bank i measurements = slice_set bank i (hashed a (slice_index_or bank i []) (digests_by a measurements))

-- a bank of a TPM
abbrev pub bank_of : Algorithm → TpmParts → List (List ℕ)
bank_of Sha256 v = v.pcr
bank_of Sha384 v = v.pcr384

-- the values with these banks in place of theirs
abbrev pub with_banks : (Algorithm → List (List ℕ)) → TpmParts → TpmParts
with_banks bank v = record v { pcr = bank Sha256; pcr384 = bank Sha384 }

-- what is kept of a bank
abbrev pub kept_bank_of : Algorithm → SavedParts → List (List ℕ)
kept_bank_of Sha256 state = state.pcr
kept_bank_of Sha384 state = state.pcr384

-- a state that has this counter and these values of each bank
abbrev pub state_of : ℕ → (Algorithm → List (List ℕ)) → SavedParts
state_of counter bank = record { counter = counter; pcr = bank Sha256; pcr384 = bank Sha384 }

-- a bank that the TPM doesn't have is blank
abbrev pub MissingAreBlank : Banks → (Algorithm → List (List ℕ)) → Type 0
MissingAreBlank banks bank = (a : Algorithm) → has_bank banks a ≡ false → bank a ≡ blank_bank a

-- so is what is kept of it
abbrev pub MissingAreBlankInState : Banks → SavedParts → Type 0
MissingAreBlankInState banks state = (a : Algorithm) → has_bank banks a ≡ false → kept_bank_of a state ≡ blank_kept a
