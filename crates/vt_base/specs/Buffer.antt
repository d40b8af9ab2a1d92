-- What the buffer holds. (Own definitions.)
use Rattle.std.specs.Prelude.{ℕ, ◌-◌, List, ◌++◌, length, replicate}

-- so many zeros
unfoldable pub zeros : ℕ → List ℕ
zeros n = replicate n 0

-- the bytes, and zeros up to the end of the buffer
abbrev pub followed_by_zeros : List ℕ → List ℕ
followed_by_zeros bytes = bytes ++ zeros (3968 - length bytes)
