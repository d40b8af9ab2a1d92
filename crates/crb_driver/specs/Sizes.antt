-- Lengths that the driver refuses, and the length as a fault carries it. (Own definitions.)
use Rattle.std.specs.Prelude.{◌<◌, ◌⊎◌, ◌-◌, ◌^◌, ℕ, List, min}
use Rattle.tpm_frame.specs.Sizes.{IsWellSized}

-- a length that no response for this room can have: a response has 10 to 3968 bytes
abbrev pub IsBadLength : ℕ → ℕ → Type 0
IsBadLength room count = (count < 10) ⊎ (3968 < count) ⊎ (room < count)

-- the command's length is none of a command's, or not the one that its size field names
abbrev pub IsIllSized : List ℕ → Type 0
IsIllSized command = IsWellSized command → ⊥

-- the length as a fault carries it, which ends at the last number of four bytes
abbrev pub reported : ℕ → ℕ
reported count = min count (2 ^ 32 - 1)
