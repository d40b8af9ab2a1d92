-- What reading a whole input found, where the bytes that the source has left are known. (Own definitions.)
use Rattle.std.specs.Prelude.{◌≡◌, ◌≤◌, ◌<◌, ℕ, List, length, ⊤, Option, Some, None}
use Rattle.std.specs.Io.KnownBytes.{Consumes, IsAtEnd}
use Rattle.vt_base.specs.Faults.{IsCounted}
use Rattle.vt_base.specs.declared.source.Input.{Input}
use Rattle.vt_base.specs.declared.source.Input.TheVariants.{Whole, TooLong, Fault, Memory}

-- a whole input is all the bytes that were left, and one that is too long has more than the limit
abbrev pub ReadsExactly : Option (List ℕ) → ℕ → Input → Type 0
ReadsExactly None limit (Whole bytes) = length bytes.items ≤ limit
ReadsExactly (Some input) limit (Whole bytes) = (bytes.items ≡ input) × (length input ≤ limit)
ReadsExactly (Some input) limit TooLong = limit < length input
ReadsExactly None limit TooLong = ⊤
ReadsExactly left limit Fault = ⊤
ReadsExactly left limit Memory = ⊤

-- after a whole input no byte is left
abbrev pub ReadsToEnd : Option (List ℕ) → Input → Type 0
ReadsToEnd left (Whole bytes) = IsAtEnd left
ReadsToEnd left TooLong = ⊤
ReadsToEnd left Fault = ⊤
ReadsToEnd left Memory = ⊤

-- the source lost at most so many of the bytes that were left
abbrev pub LosesAtMost : Option (List ℕ) → Option (List ℕ) → ℕ → Type 0
LosesAtMost old new count = (prefix : List ℕ) × Consumes old new prefix × (length prefix ≤ count)

-- a read that failed is reported as a fault, and was counted once; with any other answer none failed
abbrev pub CountsInput : ℕ → ℕ → Input → Type 0
CountsInput before now Fault = IsCounted before now
CountsInput before now (Whole bytes) = now ≡ before
CountsInput before now TooLong = now ≡ before
CountsInput before now Memory = now ≡ before
