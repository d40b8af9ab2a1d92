-- Registers of one size, one after the other.
use Rattle.std.proofs.Common.{◌≡◌, ℕ, ◌+◌, ◌*◌, ◌/◌, ◌%◌, ◌<◌, suc, List, [], ◌∷◌, ◌++◌, length, take, drop, get_or, set, refl, sym, ap, ◌∙◌, arith, inl, inr}
use Rattle.std.proofs.lemmas.Bool.{cases_eq}
use Rattle.std.proofs.Math.Seq.{take-set-lt}
use Rattle.std.specs.List.{concat}
use Rattle.state_blobs.specs.Running.{AreRegisters}
use Rattle.std.proofs.Math.Nat.{suc-mul}
use Rattle.std.proofs.Math.Seq.{take-append-add}
use Rattle.std.proofs.lemmas.Nat.{div-add-mod', div_below, mod_below}
use Rattle.std.proofs.lemmas.List.{length-append, length-take, length-drop, take-append-drop, take_at, drop_at, get_or_append_left, get_or-append_right, get_or-take, get_or-set_same, get_or-set_other, length-set, take_all, drop_all, set-append_left, set-append_right}

AreRegisters-tail : (size : ℕ) (value : List ℕ) (values : List (List ℕ)) → AreRegisters size (value ∷ values) → AreRegisters size values
AreRegisters-tail size value values h i lt = h (suc i) (omega (arith, lt))

pub AreRegisters-take : (size n : ℕ) (values : List (List ℕ)) → AreRegisters size values → AreRegisters size (take n values)
AreRegisters-take size n values h i lt =
    ap length (get_or-take n values i [] (omega (arith, lt, length-take n values))) ∙ h i (omega (arith, lt, length-take n values))

pub length-concat : (size : ℕ) (values : List (List ℕ)) → AreRegisters size values → length (concat values) ≡ length values * size
length-concat size [] h = omega arith
length-concat size (value ∷ values) h =
    omega (arith, length-append value (concat values), h 0 (omega arith), length-concat size values (AreRegisters-tail size value values h), suc-mul (length values) size)

-- registers are determined by their bytes
pub same_registers : (size : ℕ) (xs ys : List (List ℕ)) → AreRegisters size xs → AreRegisters size ys → length xs ≡ length ys → concat xs ≡ concat ys → xs ≡ ys
same_registers size [] [] h k count same = refl
same_registers size [] (y ∷ ys) h k count same = absurd (omega (arith, count))
same_registers size (x ∷ xs) [] h k count same = absurd (omega (arith, count))
same_registers size (x ∷ xs) (y ∷ ys) h k count same =
    let first : x ≡ y = sym (take_at x (concat xs) size (h 0 (omega arith))) ∙ ap (take size) same ∙ take_at y (concat ys) size (k 0 (omega arith)) in
    let rest : concat xs ≡ concat ys = sym (drop_at x (concat xs) size (h 0 (omega arith))) ∙ ap (drop size) same ∙ drop_at y (concat ys) size (k 0 (omega arith)) in
    let others = same_registers size xs ys (AreRegisters-tail size x xs h) (AreRegisters-tail size y ys k) (omega (arith, count)) rest in
    ap (λ (v : List ℕ). v ∷ xs) first ∙ ap (λ (vs : List (List ℕ)). y ∷ vs) others

-- byte j of register i
get_or-concat : (size : ℕ) (values : List (List ℕ)) (i j : ℕ) → AreRegisters size values → i < length values → j < size → get_or (concat values) (i * size + j) 0 ≡ get_or (get_or values i []) j 0
get_or-concat size [] i j h lt below = absurd (omega (arith, lt))
get_or-concat size (value ∷ values) i j h lt below =
    let is = h 0 (omega arith) in
    elim i as (λ (i : ℕ). i < length (value ∷ values) → get_or (value ++ concat values) (i * size + j) 0 ≡ get_or (get_or (value ∷ values) i []) j 0) [
      | Prim.Native.Nat.zero ↦ λ _. ap (λ (k : ℕ). get_or (value ++ concat values) k 0) (omega arith) ∙ get_or_append_left value (concat values) 0 j (omega (arith, is, below))
      | suc i ↦ λ lt.
          get_or-append_right value (concat values) size (suc i * size + j) 0 is (omega (arith, suc-mul i size))
          ∙ ap (λ (k : ℕ). get_or (concat values) k 0) (omega (arith, suc-mul i size))
          ∙ get_or-concat size values i j (AreRegisters-tail size value values h) (omega (arith, lt)) below
    ] lt

-- where byte k of them stands
place_of : (size : ℕ) (values : List (List ℕ)) (k : ℕ) → AreRegisters size values → k < length (concat values) → (0 < size) × (k / size < length values) × (k % size < size) × (k / size * size + k % size ≡ k)
place_of size values k h lt =
    let within : k < length values * size = omega (arith, lt, length-concat size values h) in
    let some = some_size size (length values) k within in
    (some, div_below k size (length values) some within, mod_below k size some, div-add-mod' k size)
  where
    some_size : (size count k : ℕ) → k < count * size → 0 < size
    some_size Prim.Native.Nat.zero count k lt = absurd (omega (arith, lt))
    some_size (suc size) count k lt = omega arith

pub size_some : (size : ℕ) (values : List (List ℕ)) (k : ℕ) → AreRegisters size values → k < length (concat values) → 0 < size
size_some size values k h lt = (place_of size values k h lt).0

pub index_below : (size : ℕ) (values : List (List ℕ)) (k : ℕ) → AreRegisters size values → k < length (concat values) → k / size < length values
index_below size values k h lt = (place_of size values k h lt).1

pub byte_below : (size : ℕ) (values : List (List ℕ)) (k : ℕ) → AreRegisters size values → k < length (concat values) → k % size < size
byte_below size values k h lt = (place_of size values k h lt).2

pub get_or-registers : (size : ℕ) (values : List (List ℕ)) (k : ℕ) → AreRegisters size values → k < length (concat values) → get_or (concat values) k 0 ≡ get_or (get_or values (k / size) []) (k % size) 0
get_or-registers size values k h lt =
    let p = place_of size values k h lt in
    ap (λ (n : ℕ). get_or (concat values) n 0) (sym p.3) ∙ get_or-concat size values (k / size) (k % size) h p.1 p.2

-- a byte is changed
set-concat : (size : ℕ) (values : List (List ℕ)) (i j byte : ℕ) → AreRegisters size values → i < length values → j < size
    → concat (set values i (set (get_or values i []) j byte)) ≡ set (concat values) (i * size + j) byte
set-concat size [] i j byte h lt below = absurd (omega (arith, lt))
set-concat size (value ∷ values) i j byte h lt below =
    let is = h 0 (omega arith) in
    elim i as (λ (i : ℕ). i < length (value ∷ values) → concat (set (value ∷ values) i (set (get_or (value ∷ values) i []) j byte)) ≡ set (value ++ concat values) (i * size + j) byte) [
      | Prim.Native.Nat.zero ↦ λ _. sym (ap (λ (k : ℕ). set (value ++ concat values) k byte) (omega arith) ∙ set-append_left value (concat values) j byte (omega (arith, is, below)))
      | suc i ↦ λ lt.
          ap (λ (rest : List ℕ). value ++ rest) (set-concat size values i j byte (AreRegisters-tail size value values h) (omega (arith, lt)) below)
          ∙ sym (set-append_right value (concat values) size (suc i * size + j) byte is (omega (arith, suc-mul i size))
          ∙ ap (λ (k : ℕ). value ++ set (concat values) k byte) (omega (arith, suc-mul i size)))
    ] lt

pub set-registers : (size : ℕ) (values : List (List ℕ)) (k byte : ℕ) → AreRegisters size values → k < length (concat values)
    → concat (set values (k / size) (set (get_or values (k / size) []) (k % size) byte)) ≡ set (concat values) k byte
set-registers size values k byte h lt =
    let p = place_of size values k h lt in
    set-concat size values (k / size) (k % size) byte h p.1 p.2 ∙ ap (λ (n : ℕ). set (concat values) n byte) p.3

-- the registers stay as long as they are
pub AreRegisters-set : (size : ℕ) (values : List (List ℕ)) (k byte : ℕ) → AreRegisters size values → k < length (concat values) → AreRegisters size (set values (k / size) (set (get_or values (k / size) []) (k % size) byte))
AreRegisters-set size values k byte h lt i below =
    let value = set (get_or values (k / size) []) (k % size) byte in
    let within : i < length values = omega (arith, below, length-set values (k / size) value) in
    elim (cases_eq i (k / size)) [
      | inl same ↦ ap (λ (j : ℕ). length (get_or (set values (k / size) value) j [])) same ∙ ap length (get_or-set_same values (k / size) value [] (index_below size values k h lt))
          ∙ length-set (get_or values (k / size) []) (k % size) byte ∙ h (k / size) (index_below size values k h lt)
      | inr other ↦ ap length (get_or-set_other values (k / size) i value [] other) ∙ h i within
    ]

-- the first registers among these bytes
pub registers_in : ℕ → ℕ → List ℕ → List (List ℕ)
registers_in size Prim.Native.Nat.zero bytes = []
registers_in size (suc n) bytes = take size bytes ∷ registers_in size n (drop size bytes)

pub length-registers_in : (size n : ℕ) (bytes : List ℕ) → length (registers_in size n bytes) ≡ n
unfolding registers_in
length-registers_in size Prim.Native.Nat.zero bytes = refl
length-registers_in size (suc n) bytes = ap suc (length-registers_in size n (drop size bytes))

pub AreRegisters-registers_in : (size n : ℕ) (bytes : List ℕ) → length bytes ≡ n * size → AreRegisters size (registers_in size n bytes)
unfolding registers_in
AreRegisters-registers_in size Prim.Native.Nat.zero bytes is i lt = absurd (omega (arith, lt))
AreRegisters-registers_in size (suc n) bytes is Prim.Native.Nat.zero lt = omega (arith, length-take size bytes, is, suc-mul n size)
AreRegisters-registers_in size (suc n) bytes is (suc i) lt = AreRegisters-registers_in size n (drop size bytes) (omega (arith, length-drop size bytes, is, suc-mul n size)) i (omega (arith, lt))

pub concat-registers_in : (size n : ℕ) (bytes : List ℕ) → length bytes ≡ n * size → concat (registers_in size n bytes) ≡ bytes
unfolding registers_in
concat-registers_in size Prim.Native.Nat.zero bytes is = sym (drop_all 0 bytes (omega (arith, is)))
concat-registers_in size (suc n) bytes is =
    ap (λ (rest : List ℕ). take size bytes ++ rest) (concat-registers_in size n (drop size bytes) (omega (arith, length-drop size bytes, is, suc-mul n size))) ∙ take-append-drop size bytes

-- the bytes of the first registers
pub concat-take : (size n : ℕ) (values : List (List ℕ)) → AreRegisters size values → concat (take n values) ≡ take (n * size) (concat values)
concat-take size Prim.Native.Nat.zero values h = let none : 0 * size ≡ 0 = omega arith in sym (ap (λ (k : ℕ). take k (concat values)) none)
concat-take size (suc n) [] h = sym (take_all (suc n * size) [] (omega arith))
concat-take size (suc n) (value ∷ values) h =
    let is = h 0 (omega arith) in
    ap (λ (rest : List ℕ). value ++ rest) (concat-take size n values (AreRegisters-tail size value values h))
    ∙ sym (ap (λ (k : ℕ). take k (value ++ concat values)) (omega (arith, is, suc-mul n size)) ∙ take-append-add value (concat values) (n * size))

-- a byte of the first registers is changed
pub set-taken : (size n k byte : ℕ) (old new : List (List ℕ)) → AreRegisters size old → AreRegisters size new → concat new ≡ set (concat old) k byte → k < n * size → concat (take n new) ≡ set (concat (take n old)) k byte
set-taken size n k byte old new are are_too changed lt =
    concat-take size n new are_too
    ∙ ap (take (n * size)) changed
    ∙ take-set-lt (n * size) (concat old) k byte lt
    ∙ ap (λ (bytes : List ℕ). set bytes k byte) (sym (concat-take size n old are))
