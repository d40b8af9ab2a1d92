-- Steps through the fields of a format whose bytes may be refused: what one field leaves to be shown, and back.
use Rattle.std.proofs.Common.{◌≡◌, ◌≢◌, ℕ, zero, suc, ◌+◌, ◌^◌, ◌<◌, cond, eqb, List, [], ◌∷◌, ◌++◌, length, take, Option, Some, None, Result, Err, refl, sym, subst, arith, inl, inr}
use Rattle.std.specs.Prelude.{slice_index}
use Rattle.std.specs.Int.{w16, w64, from_be_bytes}
use Rattle.std.proofs.lemmas.Bool.{eqb-true, eqb-false}
use Rattle.std.proofs.lemmas.Nat.{from_be_bytes-to_be_bytes_2, from_be_bytes-to_be_bytes_8}
use Rattle.vt_base.specs.Numbers.{IsBytes, short, long}
use Rattle.vt_base.specs.Layout.{Layout, Encodes, byte_then, short_then, long_then}
use Rattle.vt_base.specs.declared.types.Why.{Why}
use Rattle.vt_base.specs.declared.types.Why.TheVariants.{Magic, Value}
use Rattle.vt_base.specs.declared.types.Malformed.{Malformed}
use Rattle.vt_base.specs.Refusing.{malformed, refuse, magic_byte_then}
use Rattle.vt_base.proofs.Prefixes.{Front, chosen}
use Rattle.vt_base.proofs.Numbers.{encodes_field}
use Rattle.move_codec.specs.Names.{named}
use Rattle.vt_base.specs.Magics.{magic_then}
use Rattle.vt_base.proofs.Magics.{magic_byte_encodes}
use Rattle.move_codec.specs.Messages.{name_next, name_then}
use Rattle.move_codec.proofs.Named.{name_is, differs}

-- ---- from a layout to what its bytes are

pub prefix_case : {E : Type 0} (P : List ℕ → Type 0) (next : ℕ → Layout E) (end : E) (limit : ℕ) (text : ℕ → List ℕ) (bytes : List ℕ) → Front next end limit text bytes
    → ((n : ℕ) (rest : List ℕ) → n < limit → IsBytes rest → Encodes (next n) end rest → P (text n ++ rest)) → P bytes
prefix_case P next end limit text bytes prefix more = subst P (sym prefix.parts) (more prefix.value prefix.rest prefix.below prefix.fits prefix.spelled)

pub magic_byte_case : {V : Type 0} (P : List ℕ → Type 0) (byte : ℕ) (why : Why) (place : ℕ) (next : Layout (Result V Malformed)) (end : Result V Malformed) (bytes : List ℕ) → IsBytes bytes → Encodes (magic_byte_then byte why place next) end bytes
    → ((b : ℕ) → b ≢ byte → Err (malformed why place) ≡ end → P (b ∷ []))
    → ((rest : List ℕ) → IsBytes rest → Encodes next end rest → P (byte ∷ rest)) → P bytes
magic_byte_case P byte why place next end [] fits spelled other same = absurd (omega (arith, spelled.0))
magic_byte_case P byte why place next end (b ∷ rest) fits spelled other same =
    elim (chosen (eqb b byte) next (refuse why place) end rest spelled.1) [
      | inl (is, then) ↦ subst (λ (x : ℕ). P (x ∷ rest)) (sym (eqb-true _ _ is)) (same rest (λ i. fits (suc i)) then)
      | inr (differs, ends) ↦ subst (λ (r : List ℕ). P (b ∷ r)) (sym ends.1) (other b (eqb-false _ _ differs) ends.0)
    ]

-- the first byte that isn't the magic's, or what follows it
pub magic_case : {V : Type 0} (P : List ℕ → Type 0) (magic : List ℕ) (start : ℕ) (next : Layout (Result V Malformed)) (end : Result V Malformed) (bytes : List ℕ) → IsBytes bytes → Encodes (magic_then magic start next) end bytes
    → ((n place b : ℕ) → n < length magic → place ≡ start + n → b ≢ slice_index magic n → Err (malformed Magic place) ≡ end → P (take n magic ++ b ∷ []))
    → ((rest : List ℕ) → IsBytes rest → Encodes next end rest → P (magic ++ rest)) → P bytes
magic_case P [] start next end bytes fits spelled other same = same bytes fits spelled
magic_case P (m ∷ ms) start next end bytes fits spelled other same =
    magic_byte_case P m Magic start (magic_then ms (start + 1) next) end bytes fits spelled (λ b ne is. other 0 start b (omega arith) (omega arith) ne is) (λ rest f s.
    magic_case (λ t. P (m ∷ t)) ms (start + 1) next end rest f s (λ n place b lt at ne is. other (suc n) place b (omega (arith, lt)) (omega (arith, at)) ne is) same)

name_found : {X V : Type 0} (P : List ℕ → Type 0) (byte : X → ℕ) (names : List X) (place : ℕ) (next : X → Layout (Result V Malformed)) (end : Result V Malformed) (b : ℕ) (rest : List ℕ) (name : Option X)
    → named byte names b ≡ name → IsBytes rest → Encodes (name_next place next name) end rest
    → ((b : ℕ) → named byte names b ≡ None → Err (malformed Value place) ≡ end → P (b ∷ []))
    → ((x : X) (rest : List ℕ) → IsBytes rest → Encodes (next x) end rest → P (byte x ∷ rest)) → P (b ∷ rest)
name_found P byte names place next end b rest None is fits spelled none some = subst (λ (r : List ℕ). P (b ∷ r)) (sym spelled.1) (none b is spelled.0)
name_found P byte names place next end b rest (Some x) is fits spelled none some = subst (λ (k : ℕ). P (k ∷ rest)) (name_is byte names b x is) (some x rest fits spelled)

pub name_case : {X V : Type 0} (P : List ℕ → Type 0) (byte : X → ℕ) (names : List X) (place : ℕ) (next : X → Layout (Result V Malformed)) (end : Result V Malformed) (bytes : List ℕ) → IsBytes bytes → Encodes (name_then byte names place next) end bytes
    → ((b : ℕ) → named byte names b ≡ None → Err (malformed Value place) ≡ end → P (b ∷ []))
    → ((x : X) (rest : List ℕ) → IsBytes rest → Encodes (next x) end rest → P (byte x ∷ rest)) → P bytes
name_case P byte names place next end [] fits spelled none some = absurd (omega (arith, spelled.0))
name_case P byte names place next end (b ∷ rest) fits spelled none some = name_found P byte names place next end b rest (named byte names b) refl (λ i. fits (suc i)) spelled.1 none some

-- ---- and back

pub encodes_byte : {E : Type 0} (next : ℕ → Layout E) (end : E) (b : ℕ) (rest : List ℕ) → Encodes (next b) end rest → Encodes (byte_then next) end (b ∷ rest)
encodes_byte next end b rest spelled = (omega arith, spelled)

pub encodes_short : {E : Type 0} (next : ℕ → Layout E) (end : E) (n : ℕ) (rest : List ℕ) → n < 2 ^ 16 → Encodes (next n) end rest → Encodes (short_then next) end (short n ++ rest)
encodes_short next end n rest lt spelled = encodes_field (λ field. next (from_be_bytes w16 field)) end 2 (short n) rest refl (subst (λ (k : ℕ). Encodes (next k) end rest) (sym (from_be_bytes-to_be_bytes_2 n lt)) spelled)

pub encodes_long : {E : Type 0} (next : ℕ → Layout E) (end : E) (n : ℕ) (rest : List ℕ) → n < 2 ^ 64 → Encodes (next n) end rest → Encodes (long_then next) end (long n ++ rest)
encodes_long next end n rest lt spelled = encodes_field (λ field. next (from_be_bytes w64 field)) end 8 (long n) rest refl (subst (λ (k : ℕ). Encodes (next k) end rest) (sym (from_be_bytes-to_be_bytes_8 n lt)) spelled)

pub encodes_other : {V : Type 0} (byte : ℕ) (why : Why) (place : ℕ) (next : Layout (Result V Malformed)) (b : ℕ) → b ≢ byte → Encodes (magic_byte_then byte why place next) (Err (malformed why place)) (b ∷ [])
encodes_other {V} byte why place next b ne = let end : Result V Malformed = Err (malformed why place) in encodes_byte (λ b. cond (eqb b byte) next (refuse why place)) end b [] (rw (differs b byte ne) (refl, refl))

pub encodes_other_magic : {V : Type 0} (magic : List ℕ) (start : ℕ) (next : Layout (Result V Malformed)) (n place b : ℕ) → n < length magic → place ≡ start + n → b ≢ slice_index magic n → Encodes (magic_then magic start next) (Err (malformed Magic place)) (take n magic ++ b ∷ [])
encodes_other_magic [] start next n place b lt at ne = absurd (omega (arith, lt))
encodes_other_magic {V} (m ∷ ms) start next zero place b lt at ne =
    let is : start ≡ place = omega (arith, at) in
    subst (λ (p : ℕ). Encodes (magic_then (m ∷ ms) start next) (Err (malformed Magic p)) (b ∷ [])) is (encodes_other m Magic start (magic_then ms (start + 1) next) b ne)
encodes_other_magic {V} (m ∷ ms) start next (suc n) place b lt at ne =
    magic_byte_encodes m Magic start (magic_then ms (start + 1) next) (Err (malformed Magic place)) (take n ms ++ b ∷ []) (encodes_other_magic ms (start + 1) next n place b (omega (arith, lt)) (omega (arith, at)) ne)

pub encodes_name : {X V : Type 0} (byte : X → ℕ) (names : List X) (place : ℕ) (next : X → Layout (Result V Malformed)) (end : Result V Malformed) (x : X) (rest : List ℕ) → named byte names (byte x) ≡ Some x → Encodes (next x) end rest → Encodes (name_then byte names place next) end (byte x ∷ rest)
encodes_name byte names place next end x rest back spelled = encodes_byte (λ b. name_next place next (named byte names b)) end (byte x) rest (rw back spelled)

pub encodes_nameless : {X V : Type 0} (byte : X → ℕ) (names : List X) (place : ℕ) (next : X → Layout (Result V Malformed)) (b : ℕ) → named byte names b ≡ None → Encodes (name_then byte names place next) (Err (malformed Value place)) (b ∷ [])
encodes_nameless {X} {V} byte names place next b none = let end : Result V Malformed = Err (malformed Value place) in encodes_byte (λ b. name_next place next (named byte names b)) end b [] (rw none (refl, refl))
