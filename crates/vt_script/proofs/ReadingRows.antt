-- Small inputs, line by line.
use Rattle.std.proofs.Common.{◌≡◌, [], ◌∷◌, refl}
use Rattle.vt_script.specs.Script.{lines_of}
use Rattle.vt_script.specs.Reading.{first_line, after_line}

-- an empty input has no line, and a LF alone is an empty one
none : lines_of [] ≡ []
none = refl

empty : lines_of (10 ∷ []) ≡ [] ∷ []
empty = refl

-- a last line counts with and without LF, and nothing behind the last LF is one
unended : lines_of (65 ∷ 10 ∷ 66 ∷ []) ≡ (65 ∷ []) ∷ (66 ∷ []) ∷ []
unended = refl

ended : lines_of (65 ∷ 10 ∷ 66 ∷ 10 ∷ []) ≡ (65 ∷ []) ∷ (66 ∷ []) ∷ []
ended = refl

-- the first line and what stands behind it
first : first_line (65 ∷ 10 ∷ 66 ∷ []) ≡ 65 ∷ []
first = refl

behind : after_line (65 ∷ 10 ∷ 66 ∷ []) ≡ 66 ∷ []
behind = refl

alone : first_line (65 ∷ 66 ∷ []) ≡ 65 ∷ 66 ∷ []
alone = refl

nothing_behind : after_line (65 ∷ 66 ∷ []) ≡ []
nothing_behind = refl
