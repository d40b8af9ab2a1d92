-- The bytes of a magic at the start of what is decoded, and the version behind it.
use Rattle.std.proofs.Common.{◌≡◌, ◌≢◌, ℕ, ◌+◌, suc, Bool, true, false, cond, eqb, List, [], ◌∷◌, ◌++◌, take, Option, Some, None, Err, refl, sym, ap, subst, ◌∙◌, arith, inl, inr, ◌⊎◌}
use Rattle.std.proofs.lemmas.Bool.{eqb-true, eqb-false, ne_eqb}
use Rattle.vt_base.specs.Layout.{Layout, Encodes, number_then}
use Rattle.vt_base.specs.Refusing.{malformed, refuse, magic_byte_then}
use Rattle.vt_base.specs.declared.types.Why.{Why}
use Rattle.vt_base.specs.declared.types.Kind.{Kind}
use Rattle.vt_base.specs.declared.types.Why.TheVariants.{Magic, Version}
use Rattle.vt_base.proofs.Prefixes.{chosen}
use Rattle.vt_base.specs.Magics.{magic_then}
use Rattle.vt_base.proofs.Magics.{magic_byte_encodes}
use Rattle.tpm_core.specs.declared.algorithm.Banks.{Banks}
use Rattle.tpm_core.specs.declared.algorithm.Banks.TheVariants.{One, Two}
use Rattle.state_blobs.specs.Numbers.{version_of, banks_named}
use Rattle.state_blobs.specs.Blobs.{Ending, sized_then, after_version, after_magic}
use Rattle.state_blobs.specs.Refusals.{FirstDiffersAt}

-- one magic byte: another byte stands there
pub magic_byte_refuses : (mark : ℕ) (why : Why) (place : ℕ) (next : Layout Ending) (other : ℕ) → other ≢ mark → Encodes (magic_byte_then mark why place next) (Err (malformed why place)) (other ∷ [])
magic_byte_refuses mark why place next other differs =
    (omega arith, subst (λ (b : Bool). Encodes (cond b next (refuse why place)) (Err (malformed why place)) []) (sym (ne_eqb other mark differs)) (refl, refl))

-- what stands there, and what it makes of the rest
pub magic_byte_cases : (mark : ℕ) (why : Why) (place : ℕ) (next : Layout Ending) (end : Ending) (bytes : List ℕ) → Encodes (magic_byte_then mark why place next) end bytes
    → ((rest : List ℕ) × (bytes ≡ mark ∷ rest) × Encodes next end rest) ⊎ ((other : ℕ) × (other ≢ mark) × (bytes ≡ other ∷ []) × (end ≡ Err (malformed why place)))
magic_byte_cases mark why place next end [] spelled = absurd (omega (arith, spelled.0))
magic_byte_cases mark why place next end (b ∷ rest) spelled =
    elim (chosen (eqb b mark) next (refuse why place) end rest spelled.1) [
      | inl (is, then) ↦ inl (rest, ap (λ (x : ℕ). x ∷ rest) (eqb-true _ _ is), then)
      | inr (differs, ends) ↦ inr (b, eqb-false _ _ differs, ap (λ (r : List ℕ). b ∷ r) ends.1, sym ends.0)
    ]

-- the first byte that differs is refused
pub magic_refuse : (marks : List ℕ) (place : ℕ) (next : Layout Ending) (i : ℕ) (bytes : List ℕ) → FirstDiffersAt i bytes marks
    → Encodes (magic_then marks place next) (Err (malformed Magic (place + i))) (take (suc i) bytes)
magic_refuse [] place next i bytes first = absurd (omega (arith, first.named))
magic_refuse (mark ∷ marks) place next i [] first = absurd (omega (arith, first.there))
magic_refuse (mark ∷ marks) place next Prim.Native.Nat.zero (b ∷ bytes) first =
    subst (λ (p : ℕ). Encodes (magic_byte_then mark Magic place (magic_then marks (place + 1) next)) (Err (malformed Magic p)) (b ∷ [])) (omega arith)
    (magic_byte_refuses mark Magic place (magic_then marks (place + 1) next) b first.differs)
magic_refuse (mark ∷ marks) place next (suc i) (b ∷ bytes) first =
    let same : b ≡ mark = cc in
    let tail : take i bytes ≡ take i marks = cc in
    let rest : FirstDiffersAt i bytes marks = record { there = omega (arith, first.there); named = omega (arith, first.named); same = tail; differs = first.differs } in
    let later : Encodes (magic_then marks (place + 1) next) (Err (malformed Magic (place + suc i))) (take (suc i) bytes) =
    subst (λ (p : ℕ). Encodes (magic_then marks (place + 1) next) (Err (malformed Magic p)) (take (suc i) bytes)) (omega arith) (magic_refuse marks (place + 1) next i bytes rest) in
    rw same (magic_byte_encodes mark Magic place (magic_then marks (place + 1) next) (Err (malformed Magic (place + suc i))) (take (suc i) bytes) later)

-- all magic bytes stand there, or the first that doesn't is refused
pub magic_cases : (marks : List ℕ) (place : ℕ) (next : Layout Ending) (end : Ending) (bytes : List ℕ) → Encodes (magic_then marks place next) end bytes
    → ((rest : List ℕ) × (bytes ≡ marks ++ rest) × Encodes next end rest) ⊎ ((i : ℕ) × FirstDiffersAt i bytes marks × (end ≡ Err (malformed Magic (place + i))))
magic_cases [] place next end bytes spelled = inl (bytes, refl, spelled)
magic_cases (mark ∷ marks) place next end bytes spelled =
    elim (magic_byte_cases mark Magic place (magic_then marks (place + 1) next) end bytes spelled) [
      | inr (other, differs, is, ends) ↦ inr (0, rw is (record { there = omega arith; named = omega arith; same = refl; differs = differs }), ends ∙ ap (λ (p : ℕ). Err (malformed Magic p)) (omega arith))
      | inl (rest, is, then) ↦
          elim (magic_cases marks (place + 1) next end rest then) [
            | inl (more, are, last) ↦ inl (more, is ∙ ap (λ (r : List ℕ). mark ∷ r) are, last)
            | inr (i, first, ends) ↦ inr (suc i, rw is (record { there = omega (arith, first.there); named = omega (arith, first.named); same = ap (λ (r : List ℕ). mark ∷ r) first.same; differs = first.differs }), ends ∙ ap (λ (p : ℕ). Err (malformed Magic p)) (omega arith))
          ]
    ]

-- ---- the version

pub version_named : (banks : Banks) → banks_named (version_of banks) ≡ Some banks
version_named One = refl
version_named Two = refl

named_if : (version : ℕ) (first second : Bool) (banks : Banks) → (first ≡ true → version ≡ 1) → (second ≡ true → version ≡ 2) → cond first (Some One) (cond second (Some Two) None) ≡ Some banks → version ≡ version_of banks
named_if version true second One p q is = p refl
named_if version true second Two p q is = absurd cc
named_if version false true One p q is = absurd cc
named_if version false true Two p q is = q refl
named_if version false false banks p q is = absurd cc

-- a version that stands for banks is theirs
pub version_is : (version : ℕ) (banks : Banks) → banks_named version ≡ Some banks → version ≡ version_of banks
version_is version banks is = named_if version (eqb version 1) (eqb version 2) banks (eqb-true version 1) (eqb-true version 2) is

pub same_version : (a b : Banks) → version_of a ≡ version_of b → a ≡ b
same_version One One same = refl
same_version Two Two same = refl
same_version One Two same = absurd cc
same_version Two One same = absurd cc

pub version_encodes : (kind : Kind) (banks : Banks) (end : Ending) (rest : List ℕ) → Encodes (number_then (sized_then kind banks)) end rest → Encodes (after_magic kind) end (version_of banks ∷ rest)
version_encodes kind banks end rest spelled = (omega arith, subst (λ (named : Option Banks). Encodes (after_version kind named) end rest) (sym (version_named banks)) spelled)

-- another version
pub version_refuses : (kind : Kind) (version : ℕ) → banks_named version ≡ None → Encodes (after_magic kind) (Err (malformed Version 4)) (version ∷ [])
version_refuses kind version other = (omega arith, subst (λ (named : Option Banks). Encodes (after_version kind named) (Err (malformed Version 4)) []) (sym other) (refl, refl))

-- what stands behind the magic
abbrev pub IsBehindMagic : Kind → Ending → List ℕ → Type 0
IsBehindMagic kind end bytes =
    ((banks : Banks) × (rest : List ℕ) × (bytes ≡ version_of banks ∷ rest) × Encodes (number_then (sized_then kind banks)) end rest)
    ⊎ ((other : ℕ) × (banks_named other ≡ None) × (bytes ≡ other ∷ []) × (end ≡ Err (malformed Version 4)))

named_cases : (kind : Kind) (end : Ending) (version : ℕ) (rest : List ℕ) (named : Option Banks) → banks_named version ≡ named → Encodes (after_version kind named) end rest → IsBehindMagic kind end (version ∷ rest)
named_cases kind end version rest None is spelled = inr (version, is, ap (λ (r : List ℕ). version ∷ r) spelled.1, sym spelled.0)
named_cases kind end version rest (Some banks) is spelled = inl (banks, rest, ap (λ (v : ℕ). v ∷ rest) (version_is version banks is), spelled)

pub version_cases : (kind : Kind) (end : Ending) (bytes : List ℕ) → Encodes (after_magic kind) end bytes → IsBehindMagic kind end bytes
version_cases kind end [] spelled = absurd (omega (arith, spelled.0))
version_cases kind end (version ∷ rest) spelled = named_cases kind end version rest (banks_named version) refl spelled.1
