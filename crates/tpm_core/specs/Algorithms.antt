-- Hash algorithms, which of them a TPM has a bank of, and digests that say which algorithm they are of. Each definition
-- that looks at an algorithm or at the number of banks is a table: one more bank is a row more in each.
use Rattle.std.specs.Prelude.{ℕ, Bool, true, false, List, map, filter, Option, Some, None, ◌==◌, if◌then◌else◌}
use Rattle.sha2.specs.Sha256.{sha256}
use Rattle.sha2.specs.Sha512.{sha384}
use Rattle.tpm_core.specs.Numbers.{alg_sha256, alg_sha384}
use Rattle.tpm_core.specs.declared.algorithm.Algorithm.{Algorithm}
use Rattle.tpm_core.specs.declared.algorithm.Algorithm.TheVariants.{Sha256, Sha384}
use Rattle.tpm_core.specs.declared.algorithm.Banks.{Banks}
use Rattle.tpm_core.specs.declared.algorithm.Banks.TheVariants.{One, Two}
use Rattle.tpm_core.specs.declared.algorithm.Measurement.{Measurement}
use Rattle.tpm_core.specs.declared.algorithm.Measurement.TheVariants.{Sha256 as by_sha256, Sha384 as by_sha384}

-- how many bytes a digest has
abbrev pub digest_size : Algorithm → ℕ
digest_size Sha256 = 32
digest_size Sha384 = 48

-- the digest of a message
abbrev pub digest_of : Algorithm → List ℕ → List ℕ
digest_of Sha256 message = sha256 message
digest_of Sha384 message = sha384 message

-- the number that commands and responses name it by
abbrev pub identifier_of : Algorithm → ℕ
identifier_of Sha256 = alg_sha256
identifier_of Sha384 = alg_sha384

-- whether a TPM with so many banks has one of the algorithm
abbrev pub has_bank : Banks → Algorithm → Bool
has_bank banks Sha256 = true
has_bank One Sha384 = false
has_bank Two Sha384 = true

-- the algorithm that a number names
abbrev pub algorithm_named : ℕ → Option Algorithm
algorithm_named identifier = if identifier == alg_sha256 then Some Sha256 else if identifier == alg_sha384 then Some Sha384 else None

-- the algorithm, if there is a bank of it
abbrev pub with_bank : Banks → Option Algorithm → Option Algorithm
with_bank banks None = None
with_bank banks (Some a) = if has_bank banks a then Some a else None

-- the algorithm that a number names, if the TPM has a bank of it
abbrev pub algorithm_of : Banks → ℕ → Option Algorithm
algorithm_of banks identifier = with_bank banks (algorithm_named identifier)

-- a digest of an algorithm
abbrev pub measured : Algorithm → List ℕ → Measurement
measured Sha256 digest = by_sha256 digest
measured Sha384 digest = by_sha384 digest

-- the algorithm that a digest is of
abbrev pub algorithm_by : Measurement → Algorithm
algorithm_by (by_sha256 digest) = Sha256
algorithm_by (by_sha384 digest) = Sha384

-- its bytes
abbrev pub digest_in : Measurement → List ℕ
digest_in (by_sha256 digest) = digest
digest_in (by_sha384 digest) = digest

-- whether a digest is of the algorithm
abbrev pub is_by : Algorithm → Measurement → Bool
is_by a measurement = identifier_of (algorithm_by measurement) == identifier_of a

-- the digests of one algorithm among these
unfoldable pub digests_by : Algorithm → List Measurement → List (List ℕ)
digests_by a measurements = map digest_in (filter (is_by a) measurements)
