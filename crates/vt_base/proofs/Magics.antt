-- A magic at the start of what is decoded.
use Rattle.std.proofs.Common.{◌≡◌, ℕ, ◌+◌, Bool, true, false, cond, eqb, List, [], ◌∷◌, ◌++◌, Result, Ok, Err, refl, sym, subst, arith}
use Rattle.std.specs.Prelude.{slice_index}
use Rattle.std.proofs.lemmas.Bool.{eq-eqb}
use Rattle.vt_base.specs.declared.grammar.Missing.{Missing}
use Rattle.vt_base.specs.declared.types.Why.{Why}
use Rattle.vt_base.specs.declared.types.Why.TheVariants.{Magic}
use Rattle.vt_base.specs.declared.types.Malformed.{Malformed}
use Rattle.vt_base.specs.Layout.{Layout, Encodes}
use Rattle.vt_base.specs.Refusing.{malformed, refuse, magic_byte_then}
use Rattle.vt_base.specs.Parsing.{◌>>=◌, field_at, parsed}
use Rattle.vt_base.specs.Magics.{magic_then, magic_at, parsed_behind}

-- what bytes come to is what those behind the magic come to
pub parsed_magic : {V : Type 0} (marks : List ℕ) (place : ℕ) (next : Layout (Result V Malformed)) (bytes : List ℕ) → parsed (magic_then marks place next) bytes ≡ parsed_behind (magic_at marks place bytes) next
parsed_magic [] place next bytes = refl
parsed_magic {V} (mark ∷ marks) place next bytes = first (parsed_magic marks (place + 1) next) (field_at 1 bytes)
  where
    chosen : (is : Bool) (rest : List ℕ) → parsed (magic_then marks (place + 1) next) rest ≡ parsed_behind (magic_at marks (place + 1) rest) next
        → parsed (cond is (magic_then marks (place + 1) next) (refuse Magic place)) rest ≡ parsed_behind (cond is (magic_at marks (place + 1) rest) (Ok (Err (malformed Magic place)))) next
    chosen true rest later = later
    chosen false rest later = refl

    first : ((rest : List ℕ) → parsed (magic_then marks (place + 1) next) rest ≡ parsed_behind (magic_at marks (place + 1) rest) next) → (r : Result (List ℕ × List ℕ) Missing)
        → (r >>= λ f. parsed (cond (eqb (slice_index f.0 0) mark) (magic_then marks (place + 1) next) (refuse Magic place)) f.1)
        ≡ parsed_behind (r >>= λ f. cond (eqb (slice_index f.0 0) mark) (magic_at marks (place + 1) f.1) (Ok (Err (malformed Magic place)))) next
    first later (Ok f) = chosen (eqb (slice_index f.0 0) mark) f.1 (later f.1)
    first later (Err lack) = refl

-- a magic byte, and what is encoded behind it
pub magic_byte_encodes : {V : Type 0} (mark : ℕ) (why : Why) (place : ℕ) (next : Layout (Result V Malformed)) (end : Result V Malformed) (rest : List ℕ) → Encodes next end rest → Encodes (magic_byte_then mark why place next) end (mark ∷ rest)
magic_byte_encodes mark why place next end rest spelled =
    (omega arith, subst (λ (b : Bool). Encodes (cond b next (refuse why place)) end rest) (sym (eq-eqb mark mark refl)) spelled)

pub magic_encode : {V : Type 0} (marks : List ℕ) (place : ℕ) (next : Layout (Result V Malformed)) (end : Result V Malformed) (rest : List ℕ) → Encodes next end rest → Encodes (magic_then marks place next) end (marks ++ rest)
magic_encode [] place next end rest spelled = spelled
magic_encode (mark ∷ marks) place next end rest spelled =
    magic_byte_encodes mark Magic place (magic_then marks (place + 1) next) end (marks ++ rest) (magic_encode marks (place + 1) next end rest spelled)
