-- Names by their bytes.
use Rattle.std.proofs.Common.{◌≡◌, ◌≢◌, ℕ, suc, ◌+◌, ◌<◌, ◌≤◌, ◌==◌, Bool, true, false, cond, eqb, List, [], ◌∷◌, length, Option, Some, None, refl, arith, inl, inr, ◌⊎◌, find}
use Rattle.std.specs.Prelude.{⊤}
use Rattle.std.proofs.lemmas.Bool.{cases_lt, eqb-true, eqb-false}
use Rattle.vt_base.proofs.Prefixes.{found}
use Rattle.vt_base.specs.declared.types.HostName.{HostName}
use Rattle.vt_base.specs.declared.types.HostName.TheVariants.{A, B}
use Rattle.move_codec.specs.declared.names.Part.{Part}
use Rattle.move_codec.specs.declared.names.Part.TheVariants as part
use Rattle.vt_base.specs.declared.types.Reason.{Reason}
use Rattle.vt_base.specs.declared.types.Reason.TheVariants as reason
use Rattle.move_codec.specs.declared.names.Kind.{Kind}
use Rattle.move_codec.specs.declared.names.Kind.TheVariants as kind
use Rattle.move_codec.specs.Names.{named, host_byte, hosts, part_byte, parts, reason_byte, reasons, kind_byte, kinds}

-- the name that was found has the byte
pub name_is : {X : Type 0} (byte : X → ℕ) (names : List X) (b : ℕ) (x : X) → named byte names b ≡ Some x → byte x ≡ b
name_is byte names b x is = eqb-true _ _ (found (λ name. byte name == b) names x is)

-- ---- names whose bytes stand one after another, from the lowest

abbrev pub InRow : {X : Type 0} → (X → ℕ) → ℕ → List X → Type 0
InRow byte low [] = ⊤
InRow byte low (x ∷ xs) = (byte x ≡ low) × InRow byte (suc low) xs

skipped : {X : Type 0} (test : Bool) (x : X) (others : Option X) → cond test (Some x) others ≡ None → (test ≡ false) × (others ≡ None)
skipped true x others none = absurd cc
skipped false x others none = (refl, none)

-- a byte that none of them has is outside
pub unnamed : {X : Type 0} (byte : X → ℕ) (names : List X) (low b : ℕ) → InRow byte low names → named byte names b ≡ None → (b < low) ⊎ (low + length names ≤ b)
unnamed byte [] low b row none =
    elim (cases_lt b low) [
      | inl lt ↦ inl lt
      | inr le ↦ inr (omega arith)
    ]
unnamed byte (x ∷ xs) low b row none =
    let skip = skipped (eqb (byte x) b) x (find (λ name. byte name == b) xs) none in
    let other = eqb-false _ _ skip.0 in
    elim (unnamed byte xs (suc low) b row.1 skip.1) [
      | inl lt ↦ inl (omega (arith, lt, other, row.0))
      | inr le ↦ inr (omega (arith, le))
    ]

pub differs : (a b : ℕ) → a ≢ b → eqb a b ≡ false
differs a b ne = search arith

-- and none of them has a byte outside
pub nameless : {X : Type 0} (byte : X → ℕ) (names : List X) (low b : ℕ) → InRow byte low names → (b < low) ⊎ (low + length names ≤ b) → named byte names b ≡ None
nameless byte [] low b row out = refl
nameless byte (x ∷ xs) low b row out =
    let is : byte x ≡ low = row.0 in
    elim out [
      | inl lt ↦ rw (differs (byte x) b (λ same. omega (arith, lt, is, same))) (nameless byte xs (suc low) b row.1 (inl (omega (arith, lt))))
      | inr le ↦ rw (differs (byte x) b (λ same. omega (arith, le, is, same))) (nameless byte xs (suc low) b row.1 (inr (omega (arith, le))))
    ]

-- ---- each name is found by its byte

pub host_back : (x : HostName) → named host_byte hosts (host_byte x) ≡ Some x
host_back A = refl
host_back B = refl

pub part_back : (x : Part) → named part_byte parts (part_byte x) ≡ Some x
part_back part.Record = refl
part_back part.Permanent = refl
part_back part.Volatile = refl
part_back part.Saved = refl

pub reason_back : (x : Reason) → named reason_byte reasons (reason_byte x) ≡ Some x
reason_back reason.Busy = refl
reason_back reason.Totals = refl
reason_back reason.Record = refl
reason_back reason.Blob = refl
reason_back reason.Link = refl
reason_back reason.Reply = refl

pub kind_back : (x : Kind) → named kind_byte kinds (kind_byte x) ≡ Some x
kind_back kind.Offer = refl
kind_back kind.Need = refl
kind_back kind.Piece = refl
kind_back kind.Prepared = refl
kind_back kind.Commit = refl
kind_back kind.Abort = refl
kind_back kind.Refuse = refl

pub hosts_row : InRow host_byte 0 hosts
hosts_row = (refl, (refl, tt))

pub parts_row : InRow part_byte 0 parts
parts_row = (refl, (refl, (refl, (refl, tt))))

pub reasons_row : InRow reason_byte 1 reasons
reasons_row = (refl, (refl, (refl, (refl, (refl, (refl, tt))))))

pub kinds_row : InRow kind_byte 1 kinds
kinds_row = (refl, (refl, (refl, (refl, (refl, (refl, (refl, tt)))))))
