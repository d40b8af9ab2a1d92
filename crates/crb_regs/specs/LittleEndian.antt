-- Numbers as bytes, the lowest byte first.
use Rattle.std.specs.Prelude.{ℕ, zero, suc, ◌+◌, ◌*◌, ◌/◌, ◌%◌, ◌^◌}

-- byte k of a number
abbrev pub byte_of : ℕ → ℕ → ℕ
byte_of n k = n / 256 ^ k % 256

-- the number of so many bytes from a place on
abbrev pub little_endian_at : (ℕ → ℕ) → ℕ → ℕ → ℕ
little_endian_at byte at zero = 0
little_endian_at byte at (suc size) = byte at + 256 * little_endian_at byte (at + 1) size
