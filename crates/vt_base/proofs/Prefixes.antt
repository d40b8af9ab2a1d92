-- What a message begins with, by the first field of its layout.
use Rattle.std.proofs.Common.{◌≡◌, ℕ, suc, ◌^◌, ◌<◌, Bool, true, false, cond, eqb, List, [], ◌∷◌, ◌++◌, take, drop, Some, Result, Ok, Err, refl, sym, ap, ◌∙◌, arith, find, inl, inr, ◌⊎◌}
use Rattle.std.specs.Int.{w16, w32, w64, from_be_bytes}
use Rattle.std.proofs.lemmas.Bool.{eqb-true}
use Rattle.std.proofs.lemmas.List.{length-take, take-append-drop}
use Rattle.std.proofs.lemmas.Nat.{be_bytes_2, be_bytes_8}
use Rattle.vt_base.specs.Numbers.{IsBytes, short, number, long}
use Rattle.vt_base.specs.Layout.{Layout, Ends, Encodes, byte_then, short_then, number_then, long_then}
use Rattle.vt_base.specs.declared.types.Why.{Why}
use Rattle.vt_base.specs.declared.types.Malformed.{Malformed}
use Rattle.vt_base.specs.Refusing.{malformed, refuse, magic_byte_then}
use Rattle.vt_base.proofs.Numbers.{IsBytes-take, IsBytes-drop, number-from, number_below}

-- a value, and what is encoded after it
pub record Front {E : Type 0} (next : ℕ → Layout E) (end : E) (limit : ℕ) (text : ℕ → List ℕ) (bytes : List ℕ) : Type 0 where
  pub value : ℕ
  pub rest : List ℕ
  pub below : value < limit
  pub parts : bytes ≡ text value ++ rest
  pub fits : IsBytes rest
  pub spelled : Encodes (next value) end rest

pub byte_prefix : {E : Type 0} (next : ℕ → Layout E) (end : E) (bytes : List ℕ) → IsBytes bytes → Encodes (byte_then next) end bytes → Front next end (2 ^ 8) (λ b. b ∷ []) bytes
byte_prefix next end [] fits h = absurd (omega (arith, h.0))
byte_prefix next end (b ∷ rest) fits h = record { value = b; rest = rest; below = fits 0; parts = refl; fits = λ i. fits (suc i); spelled = h.1 }

pub number_prefix : {E : Type 0} (next : ℕ → Layout E) (end : E) (bytes : List ℕ) → IsBytes bytes → Encodes (number_then next) end bytes → Front next end (2 ^ 32) number bytes
number_prefix next end bytes fits h = record {
  value = from_be_bytes w32 (take 4 bytes);
  rest = drop 4 bytes;
  below = number_below (take 4 bytes) (IsBytes-take 4 bytes fits);
  parts = sym (take-append-drop 4 bytes) ∙ ap (λ (prefix : List ℕ). prefix ++ drop 4 bytes) (sym (number-from bytes fits h.0));
  fits = IsBytes-drop 4 bytes fits;
  spelled = h.1;
}

pub long_prefix : {E : Type 0} (next : ℕ → Layout E) (end : E) (bytes : List ℕ) → IsBytes bytes → Encodes (long_then next) end bytes → Front next end (2 ^ 64) long bytes
long_prefix next end bytes fits h =
    let f = IsBytes-take 8 bytes fits in
    let same : long (from_be_bytes w64 (take 8 bytes)) ≡ take 8 bytes = be_bytes_8 (take 8 bytes) _ (omega (arith, length-take 8 bytes, h.0)) f refl in
    record {
      value = from_be_bytes w64 (take 8 bytes);
      rest = drop 8 bytes;
      below = omega (arith, f 0, f 1, f 2, f 3, f 4, f 5, f 6, f 7);
      parts = sym (take-append-drop 8 bytes) ∙ ap (λ (prefix : List ℕ). prefix ++ drop 8 bytes) (sym same);
      fits = IsBytes-drop 8 bytes fits;
      spelled = h.1;
    }

pub short_prefix : {E : Type 0} (next : ℕ → Layout E) (end : E) (bytes : List ℕ) → IsBytes bytes → Encodes (short_then next) end bytes → Front next end (2 ^ 16) short bytes
short_prefix next end bytes fits h =
    let f = IsBytes-take 2 bytes fits in
    let same : short (from_be_bytes w16 (take 2 bytes)) ≡ take 2 bytes = be_bytes_2 (take 2 bytes) _ (omega (arith, length-take 2 bytes, h.0)) f refl in
    record {
      value = from_be_bytes w16 (take 2 bytes);
      rest = drop 2 bytes;
      below = omega (arith, f 0, f 1);
      parts = sym (take-append-drop 2 bytes) ∙ ap (λ (prefix : List ℕ). prefix ++ drop 2 bytes) (sym same);
      fits = IsBytes-drop 2 bytes fits;
      spelled = h.1;
    }

-- which side of a test was encoded
pub chosen : {E : Type 0} (b : Bool) (p q : Layout E) (end : E) (bytes : List ℕ) → Encodes (cond b p q) end bytes → ((b ≡ true) × Encodes p end bytes) ⊎ ((b ≡ false) × Encodes q end bytes)
chosen true p q end bytes h = inl (refl, h)
chosen false p q end bytes h = inr (refl, h)

-- a test whose other side is a refusal
pub passed : {V F : Type 0} (b : Bool) (p : Layout (Result V F)) (fault : F) (v : V) (bytes : List ℕ) → Encodes (cond b p (Ends (Err fault))) (Ok v) bytes → (b ≡ true) × Encodes p (Ok v) bytes
passed true p fault v bytes h = (refl, h)
passed false p fault v bytes h = absurd cc

pub not_refused : {V F : Type 0} (b : Bool) (p : Layout (Result V F)) (fault : F) (v : V) (bytes : List ℕ) → Encodes (cond b (Ends (Err fault)) p) (Ok v) bytes → (b ≡ false) × Encodes p (Ok v) bytes
not_refused true p fault v bytes h = absurd cc
not_refused false p fault v bytes h = (refl, h)

found_at : {X : Type 0} (p : X → Bool) (x c : X) (xs : List X) (b : Bool) → p x ≡ b → (find p xs ≡ Some c → p c ≡ true) → cond b (Some x) (find p xs) ≡ Some c → p c ≡ true
found_at p x c xs true is later got = let same : x ≡ c = cc in rw (← same) is
found_at p x c xs false is later got = later got

-- what a search found passes its test
pub found : {X : Type 0} (p : X → Bool) (xs : List X) (c : X) → find p xs ≡ Some c → p c ≡ true
found p [] c e = absurd cc
found p (x ∷ xs) c e = found_at p x c xs (p x) refl (found p xs c) e

-- a magic byte that was passed
pub magic_byte_prefix : {V : Type 0} (byte : ℕ) (why : Why) (place : ℕ) (next : Layout (Result V Malformed)) (v : V) (bytes : List ℕ) → IsBytes bytes → Encodes (magic_byte_then byte why place next) (Ok v) bytes → Front (λ _. next) (Ok v) (2 ^ 8) (λ _. byte ∷ []) bytes
magic_byte_prefix byte why place next v bytes fits spelled =
    let b = byte_prefix (λ b. cond (eqb b byte) next (refuse why place)) (Ok v) bytes fits spelled in
    let same = passed (eqb b.value byte) next (malformed why place) v b.rest b.spelled in
    let is = eqb-true _ _ same.0 in
    record { value = b.value; rest = b.rest; below = b.below; parts = b.parts ∙ ap (λ (x : ℕ). x ∷ b.rest) is; fits = b.fits; spelled = same.1 }
