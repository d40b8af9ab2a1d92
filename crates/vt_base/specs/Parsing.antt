-- What the bytes so far say, as it is computed. (Own definitions.)
use Rattle.std.specs.Prelude.{◌≡◌, ℕ, ◌-◌, List, length, take, drop, nat_lt, if◌then◌else◌, Result, Ok, Err}
use Rattle.vt_base.specs.declared.grammar.Missing.{Missing}
use Rattle.vt_base.specs.Layout.{Layout, Ends, Field, Encodes}

-- so many bytes are missing
abbrev pub missing : ℕ → Missing
missing n = record { 0 = n }

-- goes on with what was read, where nothing is missing
infixl 10 ◌>>=◌
abbrev pub ◌>>=◌ : {A B : Type 0} → Result A Missing → (A → Result B Missing) → Result B Missing
(Ok x) >>= f = f x
(Err e) >>= f = Err e

-- a field of so many bytes, and the bytes after it
unfoldable pub field_at : ℕ → List ℕ → Result (List ℕ × List ℕ) Missing
field_at n bytes = if nat_lt (length bytes) n then Err (missing (n - length bytes)) else Ok (take n bytes, drop n bytes)

-- how the message at the start of the bytes ends, or how many bytes its next field lacks
abbrev pub parsed : {E : Type 0} → Layout E → List ℕ → Result E Missing
parsed (Ends e) bytes = Ok e
parsed (Field n next) bytes = field_at n bytes >>= λ f. parsed (next f.0) f.1

-- No byte stands past the end of a message.
abbrev pub IsTight : {E : Type 0} → Layout E → List ℕ → Type 0
IsTight {E} layout bytes = (end : E) → parsed layout bytes ≡ Ok end → Encodes layout end bytes
