-- Counters with the registers of all banks behind them.
use Rattle.std.proofs.Common.{◌≡◌, ℕ, ◌+◌, ◌-◌, ◌*◌, ◌<◌, ◌≤◌, ◌^◌, Bool, true, false, List, [], ◌++◌, length, take, drop, get_or, set, replicate, refl, sym, ap, ◌∙◌, arith, append_assoc}
use Rattle.std.specs.Int.{w32, from_be_bytes}
use Rattle.std.specs.List.{concat}
use Rattle.std.proofs.lemmas.List.{length-append, length-take, length-drop, length-replicate, take_at, drop_at, take_all, take-append-drop, get_or-replicate, get_or_append_left, set-append_left, set-append_right}
use Rattle.std.proofs.lemmas.Nat.{from_be_bytes-to_be_bytes_4}
use Rattle.vt_base.specs.Numbers.{number}
use Rattle.tpm_core.specs.declared.algorithm.Algorithm.{Algorithm}
use Rattle.tpm_core.specs.declared.algorithm.Algorithm.TheVariants.{Sha256, Sha384}
use Rattle.tpm_core.specs.declared.algorithm.Banks.{Banks}
use Rattle.tpm_core.specs.declared.algorithm.Banks.TheVariants.{One, Two}
use Rattle.tpm_core.specs.declared.parts.SavedParts.{SavedParts}
use Rattle.tpm_core.specs.declared.parts.TpmParts.{TpmParts}
use Rattle.tpm_core.specs.Algorithms.{digest_size, has_bank}
use Rattle.tpm_core.specs.Banks.{zeros, blank_bank, blank_kept, bank_of, kept_bank_of}
use Rattle.tpm_core.specs.Steps.{IsValid, IsKept}
use Rattle.state_blobs.specs.Encodings.{registers_of, counted}
use Rattle.state_blobs.specs.Running.{AreRegisters}
use Rattle.state_blobs.proofs.Registers.{AreRegisters-take, length-concat, same_registers, registers_in, length-registers_in, AreRegisters-registers_in, concat-registers_in}

-- a statement for each algorithm
pub by_algorithm : (P : Algorithm → Type 0) → P Sha256 → P Sha384 → (a : Algorithm) → P a
by_algorithm P p q Sha256 = p
by_algorithm P p q Sha384 = q

-- how many bytes one register has in all banks together
abbrev pub width : Banks → ℕ
width One = 32
width Two = 80

-- n registers in each bank, each as long as a digest
pub record AreBanks (n : ℕ) (bank : Algorithm → List (List ℕ)) : Type 0 where
  pub count : (a : Algorithm) → length (bank a) ≡ n
  pub size : (a : Algorithm) → AreRegisters (digest_size a) (bank a)

pub AreBanks-take : (n m : ℕ) (bank : Algorithm → List (List ℕ)) → n ≤ m → AreBanks m bank → AreBanks n (λ a. take n (bank a))
AreBanks-take n m bank le are = record {
  count = λ a. omega (arith, length-take n (bank a), are.count a, le);
  size = λ a. AreRegisters-take (digest_size a) n (bank a) (are.size a);
}

pub banks_are : (v : TpmParts) → IsValid v → AreBanks 24 (λ a. bank_of a v)
banks_are v fit = record {
  count = fit.registers;
  size = λ a i lt. fit.width a i (omega (arith, lt, fit.registers a));
}

pub kept_are : (state : SavedParts) → IsKept state → AreBanks 16 (λ a. kept_bank_of a state)
kept_are state kept = record {
  count = kept.registers;
  size = λ a i lt. kept.width a i (omega (arith, lt, kept.registers a));
}

-- ---- how long they are

length-registers : (banks : Banks) (n : ℕ) (bank : Algorithm → List (List ℕ)) → AreBanks n bank → length (registers_of banks bank) ≡ n * width banks
length-registers One n bank are = omega (arith, length-concat 32 (bank Sha256) (are.size Sha256), are.count Sha256)
length-registers Two n bank are =
    omega (arith, length-append (concat (bank Sha256)) (concat (bank Sha384)), length-concat 32 (bank Sha256) (are.size Sha256), are.count Sha256, length-concat 48 (bank Sha384) (are.size Sha384), are.count Sha384)

pub length-counted : (banks : Banks) (counter n : ℕ) (bank : Algorithm → List (List ℕ)) → AreBanks n bank → length (counted banks counter bank) ≡ 4 + n * width banks
length-counted banks counter n bank are = omega (arith, length-append (number counter) (registers_of banks bank), length-registers banks n bank are)

-- ---- they are determined by their bytes

registers_alike : (banks : Banks) (x y : Algorithm → List (List ℕ)) → ((a : Algorithm) → has_bank banks a ≡ true → x a ≡ y a) → registers_of banks x ≡ registers_of banks y
registers_alike One x y same = ap concat (same Sha256 refl)
registers_alike Two x y same = ap (λ (first : List (List ℕ)). concat first ++ concat (x Sha384)) (same Sha256 refl) ∙ ap (λ (second : List (List ℕ)). concat (y Sha256) ++ concat second) (same Sha384 refl)

-- the banks that are there decide
pub counted_alike : (banks : Banks) (counter : ℕ) (x y : Algorithm → List (List ℕ)) → ((a : Algorithm) → has_bank banks a ≡ true → x a ≡ y a) → counted banks counter x ≡ counted banks counter y
counted_alike banks counter x y same = ap (λ (bytes : List ℕ). number counter ++ bytes) (registers_alike banks x y same)

registers_same : (banks : Banks) (n : ℕ) (x y : Algorithm → List (List ℕ)) → AreBanks n x → AreBanks n y → registers_of banks x ≡ registers_of banks y → (a : Algorithm) → has_bank banks a ≡ true → x a ≡ y a
registers_same One n x y are are_too same Sha256 there = same_registers 32 (x Sha256) (y Sha256) (are.size Sha256) (are_too.size Sha256) (are.count Sha256 ∙ sym (are_too.count Sha256)) same
registers_same One n x y are are_too same Sha384 there = absurd cc
registers_same Two n x y are are_too same Sha256 there =
    let size : length (concat (x Sha256)) ≡ n * 32 = omega (arith, length-concat 32 (x Sha256) (are.size Sha256), are.count Sha256) in
    let size_too : length (concat (y Sha256)) ≡ n * 32 = omega (arith, length-concat 32 (y Sha256) (are_too.size Sha256), are_too.count Sha256) in
    same_registers 32 (x Sha256) (y Sha256) (are.size Sha256) (are_too.size Sha256) (are.count Sha256 ∙ sym (are_too.count Sha256))
    (sym (take_at (concat (x Sha256)) (concat (x Sha384)) (n * 32) size) ∙ ap (take (n * 32)) same ∙ take_at (concat (y Sha256)) (concat (y Sha384)) (n * 32) size_too)
registers_same Two n x y are are_too same Sha384 there =
    let size : length (concat (x Sha256)) ≡ n * 32 = omega (arith, length-concat 32 (x Sha256) (are.size Sha256), are.count Sha256) in
    let size_too : length (concat (y Sha256)) ≡ n * 32 = omega (arith, length-concat 32 (y Sha256) (are_too.size Sha256), are_too.count Sha256) in
    same_registers 48 (x Sha384) (y Sha384) (are.size Sha384) (are_too.size Sha384) (are.count Sha384 ∙ sym (are_too.count Sha384))
    (sym (drop_at (concat (x Sha256)) (concat (x Sha384)) (n * 32) size) ∙ ap (drop (n * 32)) same ∙ drop_at (concat (y Sha256)) (concat (y Sha384)) (n * 32) size_too)

pub counted_same : (banks : Banks) (c d n : ℕ) (x y : Algorithm → List (List ℕ)) → c < 2 ^ 32 → d < 2 ^ 32 → AreBanks n x → AreBanks n y → counted banks c x ≡ counted banks d y
    → (c ≡ d) × ((a : Algorithm) → has_bank banks a ≡ true → x a ≡ y a)
counted_same banks c d n x y below below_too are are_too same = (
  sym (from_be_bytes-to_be_bytes_4 c below) ∙ ap (λ (bytes : List ℕ). from_be_bytes w32 (take 4 bytes)) same ∙ from_be_bytes-to_be_bytes_4 d below_too,
  registers_same banks n x y are are_too (ap (drop 4) same),
)

-- in all banks, from what is the same in those that are there and in those that aren't
pub in_each : (banks : Banks) (P : Algorithm → Type 0) → ((a : Algorithm) → has_bank banks a ≡ true → P a) → ((a : Algorithm) → has_bank banks a ≡ false → P a) → (a : Algorithm) → P a
in_each banks P there missing a = of_either (has_bank banks a) (there a) (missing a)
  where
    of_either : {Q : Type 0} (b : Bool) → (b ≡ true → Q) → (b ≡ false → Q) → Q
    of_either true p q = p refl
    of_either false p q = q refl

-- ---- fewer banks are a prefix of all

pub counted_prefix : (banks : Banks) (counter n : ℕ) (bank : Algorithm → List (List ℕ)) → AreBanks n bank → take (4 + n * width banks) (counted Two counter bank) ≡ counted banks counter bank
counted_prefix One counter n bank are =
    ap (take (4 + n * 32)) (sym (append_assoc (number counter) (concat (bank Sha256)) (concat (bank Sha384))))
    ∙ take_at (number counter ++ concat (bank Sha256)) (concat (bank Sha384)) (4 + n * 32) (length-counted One counter n bank are)
counted_prefix Two counter n bank are = take_all (4 + n * 80) (counted Two counter bank) (omega (arith, length-counted Two counter n bank are))

-- a byte of fewer banks
pub all_byte : (banks : Banks) (counter : ℕ) (bank : Algorithm → List (List ℕ)) (k : ℕ) → k < length (counted banks counter bank) → get_or (counted Two counter bank) k 0 ≡ get_or (counted banks counter bank) k 0
all_byte One counter bank k lt =
    ap (λ (bytes : List ℕ). get_or bytes k 0) (sym (append_assoc (number counter) (concat (bank Sha256)) (concat (bank Sha384))))
    ∙ get_or_append_left (number counter ++ concat (bank Sha256)) (concat (bank Sha384)) 0 k lt
all_byte Two counter bank k lt = refl

-- ---- a byte is changed

pub set_first : (counter i byte : ℕ) (old new second : List ℕ) → 4 ≤ i → i - 4 < length old → new ≡ set old (i - 4) byte → number counter ++ (new ++ second) ≡ set (number counter ++ (old ++ second)) i byte
set_first counter i byte old new second le lt changed =
    ap (λ (bytes : List ℕ). number counter ++ (bytes ++ second)) changed
    ∙ ap (λ (bytes : List ℕ). number counter ++ bytes) (sym (set-append_left old second (i - 4) byte lt))
    ∙ sym (set-append_right (number counter) (old ++ second) 4 i byte refl le)

pub set_second : (counter n i byte : ℕ) (first old new : List ℕ) → length first ≡ n → 4 + n ≤ i → new ≡ set old (i - (4 + n)) byte → number counter ++ (first ++ new) ≡ set (number counter ++ (first ++ old)) i byte
set_second counter n i byte first old new size le changed =
    let place : i - (4 + n) ≡ i - 4 - n = omega (arith, le) in
    ap (λ (bytes : List ℕ). number counter ++ (first ++ bytes)) (changed ∙ ap (λ (p : ℕ). set old p byte) place)
    ∙ ap (λ (bytes : List ℕ). number counter ++ bytes) (sym (set-append_right first old n (i - 4) byte size (omega (arith, le))))
    ∙ sym (set-append_right (number counter) (first ++ old) 4 i byte refl (omega (arith, le)))

-- ---- banks from bytes

-- the registers that the bytes are, and zeros where there is no bank
pub decoded_bank : Banks → ℕ → List ℕ → Algorithm → List (List ℕ)
decoded_bank One n bytes Sha256 = registers_in 32 n bytes
decoded_bank One n bytes Sha384 = replicate n (zeros 48)
decoded_bank Two n bytes Sha256 = registers_in 32 n (take (n * 32) bytes)
decoded_bank Two n bytes Sha384 = registers_in 48 n (drop (n * 32) bytes)

blank_registers : (n size : ℕ) → AreRegisters size (replicate n (zeros size))
blank_registers n size i lt = ap length (get_or-replicate n i (zeros size) [] (omega (arith, lt, length-replicate n (zeros size)))) ∙ length-replicate size 0

pub AreBanks-decoded : (banks : Banks) (n : ℕ) (bytes : List ℕ) → length bytes ≡ n * width banks → AreBanks n (decoded_bank banks n bytes)
unfolding decoded_bank
AreBanks-decoded One n bytes size = record {
  count = by_algorithm (λ a. length (decoded_bank One n bytes a) ≡ n) (length-registers_in 32 n bytes) (length-replicate n (zeros 48));
  size = by_algorithm (λ a. AreRegisters (digest_size a) (decoded_bank One n bytes a)) (AreRegisters-registers_in 32 n bytes size) (blank_registers n 48);
}
AreBanks-decoded Two n bytes size = record {
  count = by_algorithm (λ a. length (decoded_bank Two n bytes a) ≡ n) (length-registers_in 32 n (take (n * 32) bytes)) (length-registers_in 48 n (drop (n * 32) bytes));
  size = by_algorithm (λ a. AreRegisters (digest_size a) (decoded_bank Two n bytes a))
      (AreRegisters-registers_in 32 n (take (n * 32) bytes) (omega (arith, size, length-take (n * 32) bytes)))
      (AreRegisters-registers_in 48 n (drop (n * 32) bytes) (omega (arith, size, length-drop (n * 32) bytes)));
}

pub registers-decoded : (banks : Banks) (n : ℕ) (bytes : List ℕ) → length bytes ≡ n * width banks → registers_of banks (decoded_bank banks n bytes) ≡ bytes
unfolding decoded_bank
registers-decoded One n bytes size = concat-registers_in 32 n bytes size
registers-decoded Two n bytes size =
    ap (λ (first : List ℕ). first ++ concat (registers_in 48 n (drop (n * 32) bytes))) (concat-registers_in 32 n (take (n * 32) bytes) (omega (arith, size, length-take (n * 32) bytes)))
    ∙ ap (λ (second : List ℕ). take (n * 32) bytes ++ second) (concat-registers_in 48 n (drop (n * 32) bytes) (omega (arith, size, length-drop (n * 32) bytes)))
    ∙ take-append-drop (n * 32) bytes

pub missing_blank : (banks : Banks) (bytes : List ℕ) (a : Algorithm) → has_bank banks a ≡ false → decoded_bank banks 24 bytes a ≡ blank_bank a
unfolding decoded_bank blank_bank
missing_blank banks bytes Sha256 missing = absurd cc
missing_blank One bytes Sha384 missing = refl
missing_blank Two bytes Sha384 missing = absurd cc

pub missing_kept_blank : (banks : Banks) (bytes : List ℕ) (a : Algorithm) → has_bank banks a ≡ false → decoded_bank banks 16 bytes a ≡ blank_kept a
unfolding decoded_bank blank_kept
missing_kept_blank banks bytes Sha256 missing = absurd cc
missing_kept_blank One bytes Sha384 missing = refl
missing_kept_blank Two bytes Sha384 missing = absurd cc

-- what is kept of a blank bank is blank
pub kept_of_blank : (a : Algorithm) → take 16 (blank_bank a) ≡ blank_kept a
unfolding blank_bank blank_kept
kept_of_blank Sha256 = refl
kept_of_blank Sha384 = refl

pub blank_are : AreBanks 24 blank_bank
unfolding blank_bank
blank_are = record { count = by_algorithm (λ a. length (blank_bank a) ≡ 24) refl refl; size = λ a. blank_registers 24 (digest_size a) }
