-- Bytes and the numbers that they encode. (Own definitions.)
use Rattle.std.specs.Prelude.{ℕ, ◌<◌, List, slice_index, take, drop}
use Rattle.std.specs.Int.{Width, w16, w32, w64, byte_len, from_be_bytes, to_be_bytes}

-- each number of the list fits a byte
abbrev pub IsBytes : List ℕ → Type 0
IsBytes bytes = (i : ℕ) → slice_index bytes i < 256

-- a number in two bytes, the highest first
abbrev pub short : ℕ → List ℕ
short n = to_be_bytes w16 n

-- in four
abbrev pub number : ℕ → List ℕ
number n = to_be_bytes w32 n

-- and in eight
abbrev pub long : ℕ → List ℕ
long n = to_be_bytes w64 n

-- the number at a place, its highest byte first
abbrev pub big_endian_at : Width → ℕ → List ℕ → ℕ
big_endian_at w at bytes = from_be_bytes w (take (byte_len w) (drop at bytes))
