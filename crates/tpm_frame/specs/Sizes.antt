-- Lengths of frames and the size field (TPM 2.0 Library, part 1, the header of commands and responses).
use Rattle.std.specs.Prelude.{◌≡◌, ◌≤◌, ◌&&◌, ◌==◌, nat_le, ℕ, Bool, List, length}
use Rattle.std.specs.Int.{w32}
use Rattle.tpm_frame.specs.Numbers.{header_size, largest_frame}
use Rattle.vt_base.specs.Numbers.{big_endian_at}

-- a command or a response of this length has a header and fits the buffer
pub record IsLength (count : ℕ) : Type 0 where
  pub least : header_size ≤ count
  pub most : count ≤ largest_frame

-- the number in the size field
abbrev pub named_size : List ℕ → ℕ
named_size bytes = big_endian_at w32 2 bytes

-- the bytes have a length of commands and responses, and their size field names it
pub record IsWellSized (bytes : List ℕ) : Type 0 where
  pub fits : IsLength (length bytes)
  pub named : named_size bytes ≡ length bytes

-- the same as a test
abbrev pub is_well_sized : List ℕ → Bool
is_well_sized bytes = nat_le header_size (length bytes) && nat_le (length bytes) largest_frame && named_size bytes == length bytes
