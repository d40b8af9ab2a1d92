-- What a call that writes all its bytes leaves in a sink, where they are known. (Own definitions.)
use Rattle.std.specs.Prelude.{◌≡◌, ℕ, List, ◌++◌, MatchResult, Option, Result}
use Rattle.std.specs.Io.KnownBytes.{Appends}

-- the output grows by a prefix of these bytes
abbrev pub AppendsPrefix : Option (List ℕ) → Option (List ℕ) → List ℕ → Type 0
AppendsPrefix old new bytes = (prefix : List ℕ) × (rest : List ℕ) × (prefix ++ rest ≡ bytes) × Appends old new prefix

-- all bytes are written, or after a failure a prefix of them
abbrev pub WritesAll : {T E : Type 0} → Option (List ℕ) → Option (List ℕ) → Result T E → List ℕ → Type 0
WritesAll old new result bytes = MatchResult result (λ _. Appends old new bytes) (λ _. AppendsPrefix old new bytes)
