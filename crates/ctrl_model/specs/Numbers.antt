-- The numbers of the emulator's profile. The results and the capabilities are those of swtpm's manual of its control channel;
-- the types of blobs are in the order that it has them in, and the sizes of the buffer are own.
use Rattle.std.specs.Prelude.{ℕ}

-- ---- results

abbrev pub success : ℕ
success = 0

-- TPM_BAD_PARAMETER: a field has a value that the request can't have, or a blob is malformed
abbrev pub bad_parameter : ℕ
bad_parameter = 3

-- TPM_BAD_ORDINAL: the emulator isn't in a state for the request, or its profile doesn't have it
abbrev pub bad_ordinal : ℕ
bad_ordinal = 0x0A

-- ---- fields

-- the capabilities: a bit for each group of requests that the profile has
abbrev pub capabilities : ℕ
capabilities = 0x2FEF

-- the flag of INIT by which the volatile state is deleted
abbrev pub delete_volatile : ℕ
delete_volatile = 1

-- the types of blobs
abbrev pub permanent_blob : ℕ
permanent_blob = 1

abbrev pub volatile_blob : ℕ
volatile_blob = 2

abbrev pub saved_blob : ℕ
saved_blob = 3

-- the sizes of the buffer of commands and responses
abbrev pub least_buffer : ℕ
least_buffer = 1024

abbrev pub greatest_buffer : ℕ
greatest_buffer = 4096

-- ---- the places of the fields of a reply that gives a piece of a blob, behind its result

abbrev pub flags_place : ℕ
flags_place = 4

abbrev pub total_place : ℕ
total_place = 8

abbrev pub length_place : ℕ
length_place = 12
