-- The numbers of the TPM 2.0 Library, Part 2 (Structures), that commands and responses of this crate use beside those of
-- headers, by their names there and its sections.
use Rattle.std.specs.Prelude.{ℕ}

-- TPM_ALG_SHA256 (6.3, TPM_ALG_ID)
abbrev pub alg_sha256 : ℕ
alg_sha256 = 0x000B

-- TPM_ALG_SHA384 (6.3, TPM_ALG_ID)
abbrev pub alg_sha384 : ℕ
alg_sha384 = 0x000C

-- TPM_SU_CLEAR: values begin anew (6.10, TPM_SU)
abbrev pub su_clear : ℕ
su_clear = 0

-- TPM_SU_STATE: values are kept, or brought back (6.10, TPM_SU)
abbrev pub su_state : ℕ
su_state = 1

-- TPM_RH_NULL: the handle that names nothing (7.4, TPM_RH)
abbrev pub rh_null : ℕ
rh_null = 0x40000007

-- TPM_RS_PW: the session whose authorisation is a password (7.4, TPM_RH)
abbrev pub rs_pw : ℕ
rs_pw = 0x40000009

-- ---- command codes that are answered beside those of headers (6.5, TPM_CC)

abbrev pub cc_self_test : ℕ
cc_self_test = 0x143

abbrev pub cc_get_capability : ℕ
cc_get_capability = 0x17A

abbrev pub cc_get_test_result : ℕ
cc_get_test_result = 0x17C

abbrev pub cc_hash : ℕ
cc_hash = 0x17D

-- TPM_ST_HASHCHECK: the tag of a ticket for a hash (6.9, TPM_ST)
abbrev pub st_hashcheck : ℕ
st_hashcheck = 0x8024

-- ---- capabilities (6.12, TPM_CAP)

abbrev pub cap_algs : ℕ
cap_algs = 0

abbrev pub cap_commands : ℕ
cap_commands = 2

abbrev pub cap_pcrs : ℕ
cap_pcrs = 5

abbrev pub cap_tpm_properties : ℕ
cap_tpm_properties = 6

-- ---- properties (6.13, TPM_PT)

-- TPM_PT_FAMILY_INDICATOR
abbrev pub pt_family_indicator : ℕ
pt_family_indicator = 0x100

-- TPM_PT_MANUFACTURER
abbrev pub pt_manufacturer : ℕ
pt_manufacturer = 0x105

-- TPM_PT_PCR_COUNT
abbrev pub pt_pcr_count : ℕ
pt_pcr_count = 0x112

-- TPM_PT_MAX_COMMAND_SIZE
abbrev pub pt_max_command_size : ℕ
pt_max_command_size = 0x11E

-- TPM_PT_MAX_RESPONSE_SIZE
abbrev pub pt_max_response_size : ℕ
pt_max_response_size = 0x11F

-- TPM_PT_TOTAL_COMMANDS
abbrev pub pt_total_commands : ℕ
pt_total_commands = 0x129
