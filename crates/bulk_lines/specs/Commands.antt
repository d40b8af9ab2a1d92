-- The commands that the generator makes (TPM 2.0 Library, part 3). Numbers are big-endian.
use Rattle.std.specs.Prelude.{ℕ, ◌/◌, ◌%◌, ◌^◌, ◌==◌, if◌then◌else◌, List, [], ◌∷◌, ◌++◌}
use Rattle.vt_base.specs.Numbers.{short, number}
use Rattle.tpm_frame.specs.Numbers.{st_no_sessions, st_sessions, cc_startup, cc_get_random, cc_pcr_read, cc_pcr_extend}
use Rattle.bulk_lines.specs.Numbers.{clear, password_session, continue_session, sha256_algorithm}

-- the header: tag, size of the whole command, and command code
abbrev pub header : ℕ → ℕ → ℕ → List ℕ
header tag size code = short tag ++ number size ++ number code

-- Startup(CLEAR)
abbrev pub startup : List ℕ
startup = header st_no_sessions 12 cc_startup ++ short clear

-- GetRandom of so many bytes
abbrev pub get_random : ℕ → List ℕ
get_random count = header st_no_sessions 12 cc_get_random ++ short count

-- a byte of the three that select one PCR: bit n % 8 of byte n / 8 is that of PCR n
abbrev pub selecting_byte : ℕ → ℕ → ℕ
selecting_byte pcr at = if pcr / 8 == at then 2 ^ (pcr % 8) else 0

-- PCR_Read of one PCR: a list of one selection, of three bytes, in the bank of SHA-256
abbrev pub pcr_read : ℕ → List ℕ
pcr_read pcr =
    header st_no_sessions 20 cc_pcr_read ++ number 1 ++ short sha256_algorithm ++ 3 ∷ selecting_byte pcr 0 ∷ selecting_byte pcr 1 ∷ selecting_byte pcr 2 ∷ []

-- the authorisations of a command: one session of the empty password, with its size before it
abbrev pub empty_password : List ℕ
empty_password = number 9 ++ number password_session ++ short 0 ++ continue_session ∷ [] ++ short 0

-- PCR_Extend of a PCR by one digest by SHA-256
abbrev pub pcr_extend : ℕ → List ℕ → List ℕ
pcr_extend pcr digest =
    header st_sessions 65 cc_pcr_extend ++ number pcr ++ empty_password ++ number 1 ++ short sha256_algorithm ++ digest
