-- What every response is.
use Rattle.std.specs.Prelude.{◌≡◌, ℕ, ◌≤◌, List, length, IsTrue}
use Rattle.std.specs.Int.{w16, w32}
use Rattle.tpm_frame.specs.Numbers.{rc_canceled, header_size, largest_frame}
use Rattle.tpm_frame.specs.Frame.{short, is_response_tag}
use Rattle.vt_base.specs.Numbers.{big_endian_at}

-- bytes with the tag of a response and their length in the size field
pub record IsResponse (bytes : List ℕ) : Type 0 where
  pub head : header_size ≤ length bytes
  pub room : length bytes ≤ largest_frame
  pub tag : IsTrue (is_response_tag (big_endian_at w16 0 bytes))
  pub size : big_endian_at w32 2 bytes ≡ length bytes

-- the response to a command that was cancelled
abbrev pub cancelled : List ℕ
cancelled = short rc_canceled
