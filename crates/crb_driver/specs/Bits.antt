-- Tests of bits of a register. (Own definitions.)
use Rattle.std.specs.Prelude.{◌≡◌, ◌≢◌, ℕ}
use Rattle.std.specs.Int.Bits.{bit_and}

-- the register has a bit of the mask
abbrev pub IsSet : ℕ → ℕ → Type 0
IsSet mask register = bit_and register mask ≢ 0

-- the register has no bit of the mask
abbrev pub IsClear : ℕ → ℕ → Type 0
IsClear mask register = bit_and register mask ≡ 0
