-- The refusals of a record's fields as a table over places in the bytes: the first row that holds counts. (Own
-- definitions. Numbers are big-endian.)
use Rattle.std.specs.Prelude.{ℕ, ◌+◌, ◌==◌, ◌&&◌, ◌||◌, not, nat_lt, if◌then◌else◌, Bool, List, [], ◌∷◌, length, take, drop, slice_index, Option, Some, None}
use Rattle.std.specs.Int.{w16, w32, from_be_bytes}
use Rattle.vt_base.specs.Refusing.{malformed}
use Rattle.vt_base.specs.declared.types.Why.{Why}
use Rattle.vt_base.specs.declared.types.Why.TheVariants.{Magic, Version, Length, Value}
use Rattle.vt_base.specs.declared.types.Malformed.{Malformed}

-- a row: how many bytes make its field whole, whether that field is bad, and why and where it is refused
pub record Row : Type 0 where
  pub whole : ℕ
  pub bad : Bool
  pub fault : Malformed

-- after so many bytes, where this holds, a refusal for this reason at this place
abbrev pub after : ℕ → Bool → Why → ℕ → Row
after whole bad why place = record { whole = whole; bad = bad; fault = malformed why place }

-- the rows in their order: the magic CRBD, the version, the length, access, CANCEL, the phase, whether the job that waits is
-- cancelled, the number n of content bytes, and the last of these
abbrev pub rows : List ℕ → List Row
rows bytes =
    let byte : ℕ → ℕ = slice_index bytes in
    let size = from_be_bytes w32 (take 4 (drop 5 bytes)) in
    let n = from_be_bytes w16 (take 2 (drop 21 bytes)) in
    after 1 (not (byte 0 == 67)) Magic 0
    ∷ after 2 (not (byte 1 == 82)) Magic 1
    ∷ after 3 (not (byte 2 == 66)) Magic 2
    ∷ after 4 (not (byte 3 == 68)) Magic 3
    ∷ after 5 (not (byte 4 == 1)) Version 4
    ∷ after 9 (nat_lt size 14 || nat_lt 3982 size) Length 5
    ∷ after 10 (nat_lt 1 (byte 9)) Value 9
    ∷ after 11 (nat_lt 1 (byte 10)) Value 10
    ∷ after 12 (nat_lt 4 (byte 11)) Value 11
    ∷ after 13 (nat_lt 1 (byte 12) || (byte 12 == 1 && not (byte 11 == 3))) Value 12
    ∷ after 23 (not (14 + n == size)) Length 21
    ∷ after 23 (nat_lt 0 n && byte 11 == 0) Value 21
    ∷ after (23 + n) (nat_lt 0 n && byte (22 + n) == 0) Value (22 + n)
    ∷ []

-- the fault of the first bad row, if so many bytes make its field and those before it whole
abbrev pub first_bad : ℕ → List Row → Option Malformed
first_bad count [] = None
first_bad count (first ∷ rest) = if nat_lt count first.whole then None else if first.bad then Some first.fault else first_bad count rest

-- why and where the first bad field of the bytes is refused
unfoldable pub first_refused : List ℕ → Option Malformed
first_refused bytes = first_bad (length bytes) (rows bytes)
