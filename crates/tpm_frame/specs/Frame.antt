-- The header of a command, and responses without a body.
use Rattle.std.specs.Prelude.{ℕ, Bool, not, ◌||◌, List, ◌++◌, length, Result, Ok, Err, nat_lt, ◌==◌, if◌then◌else◌}
use Rattle.std.specs.Int.{w16, w32, to_be_bytes}
use Rattle.vt_base.specs.Numbers.{big_endian_at}
use Rattle.tpm_frame.specs.declared.Head.{Head}
use Rattle.tpm_frame.specs.Numbers.{st_no_sessions, st_sessions, st_rsp_command, cc_startup, cc_shutdown, cc_get_random, cc_pcr_read, cc_pcr_extend, rc_bad_tag, rc_command_size, rc_command_code, header_size}

-- the tag of a command
abbrev pub is_tag : ℕ → Bool
is_tag tag = tag == st_no_sessions || tag == st_sessions

-- the tag of a response
abbrev pub is_response_tag : ℕ → Bool
is_response_tag tag = tag == st_no_sessions || tag == st_sessions || tag == st_rsp_command

-- the code of a command that is known
abbrev pub is_known : ℕ → Bool
is_known code = code == cc_startup || code == cc_shutdown || code == cc_get_random || code == cc_pcr_read || code == cc_pcr_extend

-- the header, or the response code of the first check that fails
unfoldable pub head_of : List ℕ → Result Head ℕ
head_of bytes =
    if nat_lt (length bytes) header_size then Err rc_command_size
    else if not (is_tag (big_endian_at w16 0 bytes)) then Err rc_bad_tag
    else if not (big_endian_at w32 2 bytes == length bytes) then Err rc_command_size
    else if not (is_known (big_endian_at w32 6 bytes)) then Err rc_command_code
    else Ok (record { sessions = big_endian_at w16 0 bytes == st_sessions; code = big_endian_at w32 6 bytes })

-- the tag of a response that has a code alone: a bad tag is answered under an old tag
abbrev pub short_tag : ℕ → ℕ
short_tag code = if code == rc_bad_tag then st_rsp_command else st_no_sessions

-- a response that has a code alone
abbrev pub short : ℕ → List ℕ
short code = to_be_bytes w16 (short_tag code) ++ to_be_bytes w32 header_size ++ to_be_bytes w32 code
