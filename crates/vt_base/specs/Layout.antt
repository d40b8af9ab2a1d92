-- Formats whose messages are parsed from left to right. (Own definitions.)
use Rattle.std.specs.Prelude.{◌≡◌, ℕ, ◌-◌, ◌≤◌, ◌<◌, List, [], length, take, drop, slice_index}
use Rattle.std.specs.Int.{w16, w32, w64, from_be_bytes}

-- A message ends here, or goes on with a field of so many bytes, whose content decides what follows.
pub data Layout (E : Type 0) : Type 0 where
  Ends : E → Layout E
  Field : ℕ → (List ℕ → Layout E) → Layout E

-- a byte, and what its value makes of the rest
abbrev pub byte_then : {E : Type 0} → (ℕ → Layout E) → Layout E
byte_then next = Field 1 (λ field. next (slice_index field 0))

-- a big-endian number of two bytes, likewise
abbrev pub short_then : {E : Type 0} → (ℕ → Layout E) → Layout E
short_then next = Field 2 (λ field. next (from_be_bytes w16 field))

-- one of four
abbrev pub number_then : {E : Type 0} → (ℕ → Layout E) → Layout E
number_then next = Field 4 (λ field. next (from_be_bytes w32 field))

-- and one of eight
abbrev pub long_then : {E : Type 0} → (ℕ → Layout E) → Layout E
long_then next = Field 8 (λ field. next (from_be_bytes w64 field))

-- These bytes, and no fewer, make the message end so.
abbrev pub Encodes : {E : Type 0} → Layout E → E → List ℕ → Type 0
Encodes (Ends e) end bytes = (e ≡ end) × (bytes ≡ [])
Encodes (Field n next) end bytes = (n ≤ length bytes) × Encodes (next (take n bytes)) end (drop n bytes)

-- No prefix of these bytes makes the message end.
abbrev pub IsOpen : {E : Type 0} → Layout E → List ℕ → Type 0
IsOpen {E} layout bytes = (end : E) (n : ℕ) → Encodes layout end (take n bytes) → ⊥

-- No message has more bytes than these.
abbrev pub IsWithin : {E : Type 0} → Layout E → ℕ → Type 0
IsWithin (Ends e) room = Unit {0}
IsWithin (Field n next) room = (n ≤ room) × ((field : List ℕ) → IsWithin (next field) (room - n))

-- A message has at least a byte.
abbrev pub HasFirst : {E : Type 0} → Layout E → Type 0
HasFirst (Ends e) = ⊥
HasFirst (Field n next) = 0 < n
