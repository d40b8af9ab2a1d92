-- The numbers of the format of blobs. (Own definitions.)
use Rattle.std.specs.Prelude.{ℕ, Option, Some, None, ◌==◌, if◌then◌else◌}
use Rattle.tpm_core.specs.declared.algorithm.Banks.{Banks}
use Rattle.tpm_core.specs.declared.algorithm.Banks.TheVariants.{One, Two}

-- the version of the blobs of a TPM with these banks
abbrev pub version_of : Banks → ℕ
version_of One = 1
version_of Two = 2

-- the banks of a TPM whose blobs have this version
abbrev pub banks_named : ℕ → Option Banks
banks_named version = if version == 1 then Some One else if version == 2 then Some Two else None

-- where the version stands: behind the four bytes of the magic
abbrev pub version_place : ℕ
version_place = 4

-- where the length stands: the number of bytes of the body, in four bytes
abbrev pub length_place : ℕ
length_place = 5

-- where the body begins, and in a volatile or a saved blob its flag
abbrev pub body_place : ℕ
body_place = 9

-- the body of a permanent blob: a seed of 32 bytes and the count of boots in 8
abbrev pub permanent_length : ℕ
permanent_length = 40

-- the body of a volatile or a saved blob with no values behind its flag
abbrev pub flag_alone : ℕ
flag_alone = 1

-- the body of the volatile blob of a started TPM: the flag, the draws in 8 bytes, the counter in 4, 24 registers of 32 and, of
-- two banks, 24 of 48
abbrev pub volatile_length : Banks → ℕ
volatile_length One = 781
volatile_length Two = 1933

-- the body of the blob of a saved state: the flag, the counter in 4 bytes, 16 registers of 32 and, of two banks, 16 of 48
abbrev pub saved_length : Banks → ℕ
saved_length One = 517
saved_length Two = 1285

-- the longest blob: the volatile one of a started TPM with two banks, with its header
abbrev pub largest_blob : ℕ
largest_blob = 1942
