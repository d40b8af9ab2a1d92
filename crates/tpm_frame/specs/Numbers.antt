-- The numbers that headers of commands and responses use: those of the TPM 2.0 Library, Part 2 (Structures), by their names
-- there and its sections, and the lengths of frames.
use Rattle.std.specs.Prelude.{ℕ}

-- ---- tags (6.9, TPM_ST)

-- TPM_ST_NO_SESSIONS: no authorisations follow
abbrev pub st_no_sessions : ℕ
st_no_sessions = 0x8001

-- TPM_ST_SESSIONS: authorisations follow
abbrev pub st_sessions : ℕ
st_sessions = 0x8002

-- TPM_ST_RSP_COMMAND: the response to a command whose tag isn't known
abbrev pub st_rsp_command : ℕ
st_rsp_command = 0x00C4

-- ---- command codes (6.5, TPM_CC)

abbrev pub cc_startup : ℕ
cc_startup = 0x144

abbrev pub cc_shutdown : ℕ
cc_shutdown = 0x145

abbrev pub cc_get_random : ℕ
cc_get_random = 0x17B

abbrev pub cc_pcr_read : ℕ
cc_pcr_read = 0x17E

abbrev pub cc_pcr_extend : ℕ
cc_pcr_extend = 0x182

-- ---- response codes (6.6, TPM_RC)

abbrev pub rc_success : ℕ
rc_success = 0

abbrev pub rc_bad_tag : ℕ
rc_bad_tag = 0x1E

abbrev pub rc_failure : ℕ
rc_failure = 0x101

abbrev pub rc_command_size : ℕ
rc_command_size = 0x142

abbrev pub rc_command_code : ℕ
rc_command_code = 0x143

abbrev pub rc_canceled : ℕ
rc_canceled = 0x909

-- ---- lengths

-- tag, size field and code (Part 1, the structure of commands and of responses)
abbrev pub header_size : ℕ
header_size = 10

-- the data buffer of the command response buffer, which is 0x1000 - 0x80 bytes (PC Client Platform TPM Profile, CRB interface)
abbrev pub largest_frame : ℕ
largest_frame = 3968
