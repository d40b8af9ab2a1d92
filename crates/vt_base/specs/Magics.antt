-- A magic, read byte by byte. (Own definitions.)
use Rattle.std.specs.Prelude.{ℕ, ◌+◌, ◌==◌, if◌then◌else◌, List, [], ◌∷◌, slice_index, Result, Ok, Err}
use Rattle.vt_base.specs.declared.grammar.Missing.{Missing}
use Rattle.vt_base.specs.declared.types.Malformed.{Malformed}
use Rattle.vt_base.specs.declared.types.Why.TheVariants.{Magic}
use Rattle.vt_base.specs.Layout.{Layout}
use Rattle.vt_base.specs.Refusing.{malformed, magic_byte_then}
use Rattle.vt_base.specs.Parsing.{◌>>=◌, field_at, parsed}

-- the bytes of a magic, the first of them at this place, and what follows them; or a refusal at the first that differs
abbrev pub magic_then : {V : Type 0} → List ℕ → ℕ → Layout (Result V Malformed) → Layout (Result V Malformed)
magic_then [] place next = next
magic_then (mark ∷ marks) place next = magic_byte_then mark Magic place (magic_then marks (place + 1) next)

-- the bytes behind the magic, or the refusal, or how many bytes are missing
abbrev pub magic_at : List ℕ → ℕ → List ℕ → Result (Result (List ℕ) Malformed) Missing
magic_at [] place bytes = Ok (Ok bytes)
magic_at (mark ∷ marks) place bytes = field_at 1 bytes >>= λ f. if slice_index f.0 0 == mark then magic_at marks (place + 1) f.1 else Ok (Err (malformed Magic place))

-- what those bytes come to
abbrev pub parsed_behind : {V : Type 0} → Result (Result (List ℕ) Malformed) Missing → Layout (Result V Malformed) → Result (Result V Malformed) Missing
parsed_behind (Ok (Ok rest)) next = parsed next rest
parsed_behind (Ok (Err fault)) next = Ok (Err fault)
parsed_behind (Err lack) next = Err lack
