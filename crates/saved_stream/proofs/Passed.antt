-- Parts that stand one behind the other.
use Rattle.std.proofs.Common.{◌≡◌, ℕ, ◌+◌, ◌-◌, ◌≤◌, List, [], ◌∷◌, ◌++◌, length, drop, sym, ap, subst, ◌∙◌, arith, inl, inr, false, Result, Ok, Err}
use Rattle.std.specs.Prelude.{IfErr, IsErrAnd}
use Rattle.std.proofs.lemmas.List.{length-take, length-drop, take-append-drop, drop-drop}
use Rattle.vt_base.specs.declared.types.Kind.{Kind}
use Rattle.vt_base.specs.declared.types.Kind.TheVariants.{Permanent, Volatile, Saved}
use Rattle.vt_base.specs.declared.types.Malformed.{Malformed}
use Rattle.state_blobs.specs.Gathering.{Gathering}
use Rattle.saved_stream.specs.declared.part.Part.{Part}
use Rattle.saved_stream.specs.declared.part.Part.TheVariants.{Record, Blob}
use Rattle.saved_stream.specs.Parts.{parts}
use Rattle.saved_stream.specs.Refusals.{IsStopped, ArePartsRefused}
use Rattle.saved_stream.specs.Places.{between, IsPartAt}

-- from one place on, up to another and from there on
pub split_at : (bytes : List ℕ) (from end : ℕ) → from ≤ end → drop from bytes ≡ between bytes from end ++ drop end bytes
split_at bytes from end le =
    let same : from + (end - from) ≡ end = omega arith in
    sym (take-append-drop (end - from) (drop from bytes)) ∙ ap (λ (r : List ℕ). between bytes from end ++ r) (drop-drop (end - from) from bytes ∙ ap (λ (n : ℕ). drop n bytes) same)

pub length-between : (bytes : List ℕ) (from end : ℕ) → from ≤ end → end ≤ length bytes → length (between bytes from end) ≡ end - from
length-between bytes from end le within = omega (arith, length-take (end - from) (drop from bytes), length-drop from bytes)

-- A part is whole, and one behind it is refused.
pub part_passed : (part : Part) (ps : List Part) (from end : ℕ) (fault : Malformed) (bytes : List ℕ) → IsPartAt part bytes from end → ArePartsRefused ps end fault (drop end bytes)
    → ArePartsRefused (part ∷ ps) from fault (drop from bytes)
part_passed part ps from end fault bytes at refused =
    let place : end ≡ from + length (between bytes from end) = omega (arith, length-between bytes from end at.order at.within, at.order) in
    inr (between bytes from end, drop end bytes, split_at bytes from end at.order, at.whole, subst (λ (n : ℕ). ArePartsRefused ps n fault (drop end bytes)) place refused)

-- what is so of each error that a call may have is so of the one that it has
pub err_with : {A E : Type 0} (r : Result A E) (Q P : E → Type 0) → ((e : E) → Q e → P e) → IsErrAnd r Q → IfErr r P
err_with (Ok v) Q P each is = tt
err_with (Err e) Q P each is = each e is

-- ---- the first part that is refused, behind the record

-- a gather with nothing yet
abbrev pub nothing : Kind → Gathering
nothing kind = record { kind = kind; begun = []; whole = false }

same_kind : (g : Gathering) (kind : Kind) → g ≡ nothing kind → g.kind ≡ kind
same_kind g kind is = ap (λ (x : Gathering). x.kind) is

part_of : (g : Gathering) (kind : Kind) (bytes : List ℕ) (from end : ℕ) → g ≡ nothing kind → IsPartAt (Blob g.kind) bytes from end → IsPartAt (Blob kind) bytes from end
part_of g kind bytes from end is at = subst (λ (k : Kind). IsPartAt (Blob k) bytes from end) (same_kind g kind is) at

stopped_of : (g : Gathering) (kind : Kind) (place : ℕ) (fault : Malformed) (bytes : List ℕ) → g ≡ nothing kind → IsStopped (Blob g.kind) place fault bytes → IsStopped (Blob kind) place fault bytes
stopped_of g kind place fault bytes is stop = subst (λ (k : Kind). IsStopped (Blob k) place fault bytes) (same_kind g kind is) stop

-- the parts that are left behind one
abbrev behind_volatile : List Part
behind_volatile = Blob Saved ∷ []

abbrev behind_permanent : List Part
behind_permanent = Blob Volatile ∷ behind_volatile

abbrev behind_record : List Part
behind_record = Blob Permanent ∷ behind_permanent

module _ (bytes : List ℕ) (p v z : Gathering) where
  pub permanent_stopped : (a : ℕ) (fault : Malformed) → IsPartAt Record bytes 9 a → p ≡ nothing Permanent → IsStopped (Blob p.kind) a fault (drop a bytes) → ArePartsRefused parts 9 fault (drop 9 bytes)
  permanent_stopped a fault device is stop = part_passed Record behind_record 9 a fault bytes device (inl (stopped_of p Permanent a fault (drop a bytes) is stop))

  pub volatile_stopped : (a b : ℕ) (fault : Malformed) → IsPartAt Record bytes 9 a → p ≡ nothing Permanent → IsPartAt (Blob p.kind) bytes a b → v ≡ nothing Volatile → IsStopped (Blob v.kind) b fault (drop b bytes)
      → ArePartsRefused parts 9 fault (drop 9 bytes)
  volatile_stopped a b fault device is permanent is_too stop =
      part_passed Record behind_record 9 a fault bytes device (part_passed (Blob Permanent) behind_permanent a b fault bytes (part_of p Permanent bytes a b is permanent) (inl (stopped_of v Volatile b fault (drop b bytes) is_too stop)))

  pub saved_stopped : (a b c : ℕ) (fault : Malformed) → IsPartAt Record bytes 9 a → p ≡ nothing Permanent → IsPartAt (Blob p.kind) bytes a b → v ≡ nothing Volatile → IsPartAt (Blob v.kind) bytes b c
      → z ≡ nothing Saved → IsStopped (Blob z.kind) c fault (drop c bytes) → ArePartsRefused parts 9 fault (drop 9 bytes)
  saved_stopped a b c fault device is permanent is_too volatile is_last stop =
      part_passed Record behind_record 9 a fault bytes device (part_passed (Blob Permanent) behind_permanent a b fault bytes (part_of p Permanent bytes a b is permanent)
      (part_passed (Blob Volatile) behind_volatile b c fault bytes (part_of v Volatile bytes b c is_too volatile) (inl (stopped_of z Saved c fault (drop c bytes) is_last stop))))
