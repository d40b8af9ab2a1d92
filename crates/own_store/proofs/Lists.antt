-- Images that are lists of bytes.
use Rattle.std.proofs.Common.{◌≡◌, ◌<◌, ◌≤◌, ◌+◌, ◌-◌, ℕ, zero, suc, List, ◌∷◌, ◌++◌, length, take, drop, get_or, refl, sym, ◌∙◌, ap, arith, length-take, length-append, add-one}
use Rattle.std.proofs.Math.Seq.{drop-cons}
use Rattle.std.proofs.lemmas.List.{get_or_append_left, get_or-append_right, get_or-take, get_or-drop, take_at, drop_at}
use Rattle.own_store.specs.Disk.{bytes_of, Torn, Written}
use Rattle.own_store.specs.Steps.{byte_at, overwritten}

-- a range of a list
pub bytes_of-list : (bytes : List ℕ) (at count : ℕ) → at + count ≤ length bytes → bytes_of (byte_at bytes) at count ≡ take count (drop at bytes)
unfolding bytes_of
bytes_of-list bytes at zero le = refl
bytes_of-list bytes at (suc count) le =
    let inside : at < length bytes = omega arith in
    ap (λ (l : List ℕ). byte_at bytes at ∷ l) (bytes_of-list bytes (at + 1) count (omega arith))
    ∙ (λ i. byte_at bytes at ∷ take count (drop (add-one at i) bytes))
    ∙ ap (λ (l : List ℕ). take (suc count) l) (sym (drop-cons bytes at 0 inside))

module _ (old : List ℕ) (at : ℕ) (bytes : List ℕ) (inside : at + length bytes ≤ length old) where
  front : length (take at old) ≡ at
  front = omega (arith, length-take at old)

  before : (i : ℕ) → i < at → byte_at (overwritten old at bytes) i ≡ byte_at old i
  unfolding overwritten
  before i lt = get_or_append_left (take at old) (bytes ++ drop (at + length bytes) old) 0 i (omega (arith, front)) ∙ get_or-take at old i 0 lt

  behind : (i : ℕ) → at + length bytes ≤ i → byte_at (overwritten old at bytes) i ≡ byte_at old i
  unfolding overwritten
  behind i le =
      let place : (at + length bytes) + (i - at - length bytes) ≡ i = omega arith in
      get_or-append_right (take at old) (bytes ++ drop (at + length bytes) old) at i 0 front (omega arith)
      ∙ get_or-append_right bytes (drop (at + length bytes) old) (length bytes) (i - at) 0 refl (omega arith)
      ∙ get_or-drop (at + length bytes) old (i - at - length bytes) 0
      ∙ ap (λ (k : ℕ). get_or old k 0) place

  size : at + length bytes ≤ length (overwritten old at bytes)
  unfolding overwritten
  size = omega (arith, length-append (take at old) (bytes ++ drop (at + length bytes) old), length-append bytes (drop (at + length bytes) old), front)

  range : bytes_of (byte_at (overwritten old at bytes)) at (length bytes) ≡ bytes
  unfolding overwritten
  range =
      bytes_of-list (overwritten old at bytes) at (length bytes) size
      ∙ ap (λ (l : List ℕ). take (length bytes) l) (drop_at (take at old) (bytes ++ drop (at + length bytes) old) at front)
      ∙ take_at bytes (drop (at + length bytes) old) (length bytes) refl

  pub torn : Torn at (length bytes) (byte_at old) (byte_at (overwritten old at bytes))
  torn = record { before = before; behind = behind }

  pub written : Written at bytes (byte_at old) (byte_at (overwritten old at bytes))
  written = record { range = range; elsewhere = torn }
