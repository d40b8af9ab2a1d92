-- The headers of responses, and the response to a command that was cancelled (TPM 2.0 Library, part 1, the header of
-- commands and responses; the bounds of the size are our own).
use Rattle.std.specs.Prelude.{Bool, ◌&&◌, nat_le, ℕ, List}
use Rattle.std.specs.Str.{bytes_eq}
use Rattle.std.specs.Int.{w16}
use Rattle.tpm_frame.specs.Frame.{short, is_response_tag}
use Rattle.vt_base.specs.Numbers.{big_endian_at}
use Rattle.tpm_frame.specs.Sizes.{named_size}
use Rattle.tpm_frame.specs.Numbers.{header_size, largest_frame, rc_canceled}

-- a response can have so many bytes
abbrev pub is_response_size : ℕ → Bool
is_response_size size = nat_le header_size size && nat_le size largest_frame

-- these bytes are the header of a response
abbrev pub is_head : List ℕ → Bool
is_head head = is_response_tag (big_endian_at w16 0 head) && is_response_size (named_size head)

-- the response is that to a command that was cancelled
abbrev pub is_cancelled : List ℕ → Bool
is_cancelled response = bytes_eq response (short rc_canceled)
