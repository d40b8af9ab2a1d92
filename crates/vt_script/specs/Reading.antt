-- The lines of an input that is read piece by piece. (Own definitions.)
use Rattle.std.specs.Prelude.{◌≡◌, ◌≤◌, ◌<◌, ◌+◌, ◌==◌, ⊤, ℕ, nat_lt, Bool, List, [], ◌∷◌, length, take, drop, Option, Some, None}
use Rattle.std.specs.List.{position_or_len}
use Rattle.vt_base.specs.Faults.{IsCounted}
use Rattle.vt_script.specs.Numbers.{line_feed}
use Rattle.vt_script.specs.Script.{lines_of}
use Rattle.vt_script.specs.declared.line_reader.Next.{Next}
use Rattle.vt_script.specs.declared.line_reader.Next.TheVariants.{Line, End, TooLong, TooMany, ReadFault}

-- a reader of lines: the bytes that were read and aren't given yet, the latest line, and how many lines were given
pub record LineReader : Type 0 where
  pub pending : List ℕ
  pub line : List ℕ
  pub number : ℕ

-- how many bytes stand before the first LF; all of them where there is none
abbrev pub line_length : List ℕ → ℕ
line_length bytes = position_or_len (λ b. b == line_feed) bytes

-- the first line, without the LF that ends it
abbrev pub first_line : List ℕ → List ℕ
first_line bytes = take (line_length bytes) bytes

-- what stands behind the first line and its LF
abbrev pub after_line : List ℕ → List ℕ
after_line bytes = drop (line_length bytes + 1) bytes

-- the first line is there with its LF
abbrev pub has_line : List ℕ → Bool
has_line bytes = nat_lt (line_length bytes) (length bytes)

-- What an answer says of an input, of which so many lines were given and these bytes are left: the line, where it is one, and
-- the bytes that are left then. A line has at most 8256 bytes, and an input at most 1,000,000 lines.
abbrev pub Says : Next → ℕ → List ℕ → List ℕ → List ℕ → Type 0
Says Line given rest line after =
    (given < 1000000) × (lines_of rest ≡ line ∷ lines_of after) × (length line ≤ 8256) × (line ≡ first_line rest) × (after ≡ after_line rest)
Says End given rest line after = (rest ≡ []) × (after ≡ [])
Says (TooLong number) given rest line after =
    (given < 1000000) × (lines_of rest ≡ first_line rest ∷ lines_of (after_line rest)) × (8256 < length (first_line rest)) × (number ≡ given + 1) × (after ≡ rest)
Says TooMany given rest line after = (1000000 ≤ given) × (0 < length (lines_of rest)) × (after ≡ rest)
Says ReadFault given rest line after = after ≡ rest

-- the same where the bytes that are left are known
abbrev pub SaysOf : Next → ℕ → Option (List ℕ) → List ℕ → Option (List ℕ) → Type 0
SaysOf next given None line after = ⊤
SaysOf next given (Some rest) line None = ⊥
SaysOf next given (Some rest) line (Some after) = Says next given rest line after

-- only a line raises the count of lines
abbrev pub CountsLine : Next → ℕ → ℕ → Type 0
CountsLine Line before now = now ≡ before + 1
CountsLine End before now = now ≡ before
CountsLine (TooLong number) before now = now ≡ before
CountsLine TooMany before now = now ≡ before
CountsLine ReadFault before now = now ≡ before

-- a read that failed is reported, and was counted once; with any other answer none failed
abbrev pub CountsFault : Next → ℕ → ℕ → Type 0
CountsFault ReadFault before now = IsCounted before now
CountsFault Line before now = now ≡ before
CountsFault End before now = now ≡ before
CountsFault (TooLong number) before now = now ≡ before
CountsFault TooMany before now = now ≡ before
