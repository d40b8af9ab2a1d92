-- Values stay fit.
use Rattle.std.proofs.Common.{◌≡◌, ℕ, ◌^◌, ◌<◌, Bool, true, false, List, [], ◌∷◌, ◌++◌, length, get_or, set, take, cond, ltb, subst, Option, Some, None, refl, sym, ap, ◌∙◌, arith, inl, inr}
use Rattle.std.specs.Prelude.{IfSome}
use Rattle.std.proofs.lemmas.Bool.{cases_eq, ltb-true}
use Rattle.std.proofs.lemmas.List.{length-set, get_or-set_same, get_or-set_other, get_or-take, get_or-replicate, length-replicate, length-take}
use Rattle.std.proofs.lemmas.List.FromFn.{fill_by_all}
use Rattle.tpm_core.specs.declared.algorithm.Algorithm.{Algorithm}
use Rattle.tpm_core.specs.declared.algorithm.Algorithm.TheVariants.{Sha256, Sha384}
use Rattle.tpm_core.specs.declared.algorithm.Banks.{Banks}
use Rattle.tpm_core.specs.declared.algorithm.Measurement.{Measurement}
use Rattle.tpm_core.specs.declared.parts.SavedParts.{SavedParts}
use Rattle.tpm_core.specs.declared.parts.TpmParts.{TpmParts}
use Rattle.tpm_core.specs.Algorithms.{digest_size, digest_of, has_bank, digests_by}
use Rattle.tpm_core.specs.Banks.{zeros, ones, is_dynamic, blank_bank, each_register, start_value, hashed, blank_kept, bank_extended, bank_of, kept_bank_of, with_banks, state_of, MissingAreBlank, MissingAreBlankInState}
use Rattle.tpm_core.specs.Fresh.{manufactured}
use Rattle.sha2.proofs.Facts256.{length-sha256}
use Rattle.sha2.proofs.Facts512.{length-sha384}
use Rattle.tpm_core.specs.Past.{StateChange, booted, started, shut_down, drew, extended, boots_of, is_started, draws_of, saved_state, starting_value, starting_counter, digests_since, count_since, register_value, counter_of, values, value_at_start, counter_at_start}
use Rattle.tpm_core.specs.Answers.{kept}
use Rattle.tpm_core.specs.Steps.{IsValid, IsKept, IsStopped, HaveWidth, bank_at_start, bank_after_extend, after, CanDo}
use Rattle.tpm_core.proofs.Looking.{same_parts, bank_in, bank_missing, if_false, same_bank, get_register, length-each_register, values-booted, values-started, values-shut_down, values-drew, values-extended}

-- one more state change
pub values-cons : (b : TpmParts) (past : List StateChange) (change : StateChange) → CanDo (values b past) change → values b (change ∷ past) ≡ after (values b past) change
values-cons b past booted can = values-booted b past
values-cons b past (started state) can = values-started b past state can
values-cons b past (shut_down state) can = values-shut_down b past state
values-cons b past drew can = values-drew b past
values-cons b past (extended i measurements) can = values-extended b past i measurements can.0 can.1

-- with no state change the values are those of b
value_on : (b : TpmParts) (a : Algorithm) → b.started ≡ true → has_bank b.banks a ≡ true → (i : ℕ) → register_value b [] a i ≡ get_or (bank_of a b) i []
unfolding register_value is_started starting_value digests_since
value_on b a on has i = rw (on, has) refl

value_off : (b : TpmParts) (a : Algorithm) → b.started ≡ false → (i : ℕ) → register_value b [] a i ≡ zeros (digest_size a)
unfolding register_value is_started
value_off b a off i = rw off refl

bank_on : (b : TpmParts) (a : Algorithm) → IsValid b → b.started ≡ true → has_bank b.banks a ≡ true → each_register (register_value b [] a) ≡ bank_of a b
unfolding each_register
bank_on b a fit on has = same_bank (register_value b [] a) (λ i. get_or (bank_of a b) i []) (value_on b a on has) ∙ sym (fill_by_all (λ i. get_or (bank_of a b) i []) (bank_of a b) 24 [] (fit.registers a) (λ k lt. refl))

bank_off : (b : TpmParts) (a : Algorithm) → b.started ≡ false → each_register (register_value b [] a) ≡ blank_bank a
unfolding each_register blank_bank
bank_off b a off = same_bank (register_value b [] a) (λ i. zeros (digest_size a)) (value_off b a off)

bank_of_b : (b : TpmParts) (a : Algorithm) → IsValid b → (on has : Bool) → b.started ≡ on → has_bank b.banks a ≡ has → each_register (register_value b [] a) ≡ bank_of a b
bank_of_b b a fit true true on has = bank_on b a fit on has
bank_of_b b a fit true false on none = bank_missing b [] a none ∙ sym (fit.missing a none)
bank_of_b b a fit false has off e = bank_off b a off ∙ sym ((fit.stopped off).blank a)

counter_of_b : (b : TpmParts) → IsValid b → (on : Bool) → b.started ≡ on → counter_of b [] ≡ b.counter
unfolding counter_of is_started starting_counter count_since
counter_of_b b fit true on = rw on (omega (arith, fit.counter))
counter_of_b b fit false off = rw off (sym (fit.stopped off).counter)

pub values-nil : (b : TpmParts) → IsValid b → values b [] ≡ b
unfolding values boots_of is_started draws_of saved_state
values-nil b fit = same_parts _ _ refl (omega (arith, fit.boots)) (omega (arith, fit.draws)) refl refl (λ a. bank_in a (λ k. each_register (register_value b [] k)) (values b []) ∙ bank_of_b b a fit b.started (has_bank b.banks a) refl refl) (counter_of_b b fit b.started refl) refl

if_width : (n : ℕ) (b : Bool) (x y : List ℕ) → (b ≡ true → length x ≡ n) → length y ≡ n → length (cond b x y) ≡ n
if_width n true x y p q = p refl
if_width n false x y p q = q

-- ---- registers have as many bytes as a digest

pub length-digest_of : (a : Algorithm) (message : List ℕ) → length (digest_of a message) ≡ digest_size a
length-digest_of Sha256 message = length-sha256 message
length-digest_of Sha384 message = length-sha384 message

length-hashed : (a : Algorithm) (old : List ℕ) (digests : List (List ℕ)) → length old ≡ digest_size a → length (hashed a old digests) ≡ digest_size a
length-hashed a old [] h = h
length-hashed a old (digest ∷ digests) h = length-hashed a (digest_of a (old ++ digest)) digests (length-digest_of a (old ++ digest))

length-start_value : (n i : ℕ) → length (start_value n i) ≡ n
length-start_value n i = if_width n (is_dynamic i) (ones n) (zeros n) (λ e. length-replicate n 255) (length-replicate n 0)

length-value_at_start : (a : Algorithm) (state : Option SavedParts) → IfSome state IsKept → (i : ℕ) → length (value_at_start a state i) ≡ digest_size a
length-value_at_start a None h i = length-start_value (digest_size a) i
length-value_at_start a (Some s) h i = if_width (digest_size a) (ltb i 16) (get_or (kept_bank_of a s) i []) (start_value (digest_size a) i) (λ below. h.width a i (ltb-true i 16 below)) (length-start_value (digest_size a) i)

extended_width : (a : Algorithm) (registers : List (List ℕ)) (i : ℕ) (digests : List (List ℕ)) → length registers ≡ 24 → i < 24 → HaveWidth a 24 registers → HaveWidth a 24 (set registers i (hashed a (get_or registers i []) digests))
extended_width a registers i digests size lt h k below =
    elim (cases_eq k i) [
      | inl e ↦ ap (λ (x : ℕ). length (get_or (set registers i (hashed a (get_or registers i []) digests)) x [])) e ∙ ap length (get_or-set_same registers i (hashed a (get_or registers i []) digests) [] (omega arith)) ∙ length-hashed a (get_or registers i []) digests (h i lt)
      | inr ne ↦ ap length (get_or-set_other registers i k (hashed a (get_or registers i []) digests) [] ne) ∙ h k below
    ]

kept_width : (a : Algorithm) (registers : List (List ℕ)) → HaveWidth a 24 registers → HaveWidth a 16 (take 16 registers)
kept_width a registers h i lt = ap length (get_or-take 16 registers i [] lt) ∙ h i (omega arith)

-- what a shutdown keeps of a bank
kept_bank_in : (a : Algorithm) (counter : ℕ) (bank : Algorithm → List (List ℕ)) → kept_bank_of a (state_of counter bank) ≡ bank a
kept_bank_in Sha256 counter bank = refl
kept_bank_in Sha384 counter bank = refl

kept_bank_is : (a : Algorithm) (v : TpmParts) → kept_bank_of a (kept v) ≡ take 16 (bank_of a v)
kept_bank_is a v = kept_bank_in a v.counter (λ k. take 16 (bank_of k v))

kept_bank : (a : Algorithm) (v : TpmParts) → IsValid v → HaveWidth a 16 (kept_bank_of a (kept v))
kept_bank a v fit = subst (HaveWidth a 16) (sym (kept_bank_is a v)) (kept_width a (bank_of a v) (fit.width a))

length-kept_bank : (a : Algorithm) (v : TpmParts) → IsValid v → length (kept_bank_of a (kept v)) ≡ 16
length-kept_bank a v fit = ap length (kept_bank_is a v) ∙ omega (arith, length-take 16 (bank_of a v), fit.registers a)

take_blank : (a : Algorithm) → take 16 (blank_bank a) ≡ blank_kept a
unfolding blank_bank blank_kept
take_blank a = refl

kept_blank : (v : TpmParts) → IsValid v → MissingAreBlankInState v.banks (kept v)
kept_blank v fit a none = kept_bank_is a v ∙ ap (take 16) (fit.missing a none) ∙ take_blank a

kept_is_kept : (v : TpmParts) → IsValid v → IsKept (kept v)
kept_is_kept v fit = record { counter = fit.counter; registers = λ a. length-kept_bank a v fit; width = λ a. kept_bank a v fit }

counter_small : (state : Option SavedParts) → IfSome state IsKept → counter_at_start state < 2 ^ 32
counter_small None h = omega arith
counter_small (Some s) h = h.counter

true_off : (b : Bool) → b ≡ true → b ≡ false → ⊥
true_off b p q = cc

still_stopped : (v : TpmParts) (state : Option SavedParts) → IsStopped v → IsStopped (record v { saved = state })
still_stopped v state h = record { draws = h.draws; counter = h.counter; blank = λ a. bank_in a (λ k. bank_of k v) (record v { saved = state }) ∙ h.blank a }

-- ---- each bank of the values that a state change leaves

-- a bank in order
abbrev IsBank : Algorithm → List (List ℕ) → Type 0
IsBank a bank = (length bank ≡ 24) × HaveWidth a 24 bank

blank_is_bank : (a : Algorithm) → IsBank a (blank_bank a)
unfolding blank_bank
blank_is_bank a = (length-replicate 24 (zeros (digest_size a)), λ i lt. ap length (get_or-replicate 24 i (zeros (digest_size a)) [] lt) ∙ length-replicate (digest_size a) 0)

started_is_bank : (a : Algorithm) (state : Option SavedParts) → IfSome state IsKept → IsBank a (each_register (value_at_start a state))
started_is_bank a state h = (length-each_register (value_at_start a state), λ i lt. ap length (get_register (value_at_start a state) i lt) ∙ length-value_at_start a state h i)

extended_is_bank : (a : Algorithm) (bank : List (List ℕ)) (i : ℕ) (measurements : List Measurement) → IsBank a bank → i < 24 → IsBank a (bank_extended a bank i measurements)
extended_is_bank a bank i measurements h lt =
    let digests = digests_by a measurements in
    (length-set bank i (hashed a (get_or bank i []) digests) ∙ h.0, extended_width a bank i digests h.0 lt h.1)

if_bank : (a : Algorithm) (has : Bool) (x y : List (List ℕ)) → IsBank a x → IsBank a y → IsBank a (cond has x y)
if_bank a true x y p q = p
if_bank a false x y p q = q

-- banks that a TPM can have
abbrev BanksFit : Banks → (Algorithm → List (List ℕ)) → Type 0
BanksFit banks bank = ((a : Algorithm) → IsBank a (bank a)) × MissingAreBlank banks bank

-- so are those of values that were given them
given : (bank : Algorithm → List (List ℕ)) (v : TpmParts) → BanksFit v.banks bank → BanksFit v.banks (λ a. bank_of a (with_banks bank v))
given bank v h = (λ a. subst (λ (x : List (List ℕ)). IsBank a x) (sym (bank_in a bank v)) (h.0 a), λ a none. bank_in a bank v ∙ h.1 a none)

own : (v : TpmParts) → IsValid v → BanksFit v.banks (λ a. bank_of a v)
own v fit = (λ a. (fit.registers a, fit.width a), fit.missing)

blank_fit : (banks : Banks) → BanksFit banks blank_bank
blank_fit banks = (blank_is_bank, λ a none. refl)

started_fit : (banks : Banks) (state : Option SavedParts) → IfSome state IsKept → BanksFit banks (λ a. bank_at_start banks a state)
started_fit banks state h =
    (λ a. if_bank a (has_bank banks a) (each_register (value_at_start a state)) (blank_bank a) (started_is_bank a state h) (blank_is_bank a), λ a none. if_false (has_bank banks a) (each_register (value_at_start a state)) (blank_bank a) none)

extended_fit : (v : TpmParts) (i : ℕ) (measurements : List Measurement) → IsValid v → i < 24 → BanksFit v.banks (λ a. bank_after_extend v.banks a (bank_of a v) i measurements)
extended_fit v i measurements fit lt =
    let old = own v fit in
    (λ a. if_bank a (has_bank v.banks a) (bank_extended a (bank_of a v) i measurements) (bank_of a v) (extended_is_bank a (bank_of a v) i measurements (old.0 a) lt) (old.0 a), λ a none. if_false (has_bank v.banks a) (bank_extended a (bank_of a v) i measurements) (bank_of a v) none ∙ fit.missing a none)

pub fit-manufactured : (seed : List ℕ) (banks : Banks) → length seed ≡ 32 → IsValid (manufactured seed banks)
fit-manufactured seed number size =
    let banks = given blank_bank (manufactured seed number) (blank_fit number) in
    record {
      seed = size;
      boots = omega arith;
      draws = omega arith;
      counter = omega arith;
      registers = λ a. (banks.0 a).0;
      width = λ a. (banks.0 a).1;
      missing = banks.1;
      kept_missing = tt;
      stopped = λ off. record { draws = refl; counter = refl; blank = λ a. bank_in a blank_bank (manufactured seed number) };
      kept_fits = tt;
      kept_agrees = λ on. tt;
    }

pub fit-after : (v : TpmParts) (change : StateChange) → IsValid v → CanDo v change → IsValid (after v change)
fit-after v booted fit can =
    let banks = given (blank_bank) (after v booted) (blank_fit v.banks) in
    record {
      seed = fit.seed;
      boots = omega arith;
      draws = omega arith;
      counter = omega arith;
      registers = λ a. (banks.0 a).0;
      width = λ a. (banks.0 a).1;
      missing = banks.1;
      kept_missing = fit.kept_missing;
      stopped = λ off. record { draws = refl; counter = refl; blank = λ a. bank_in a blank_bank (after v booted) };
      kept_fits = fit.kept_fits;
      kept_agrees = λ on. absurd cc;
    }
fit-after v (started state) fit can =
    let banks = given (λ a. bank_at_start v.banks a state) (after v (started state)) (started_fit v.banks state can) in
    record {
      seed = fit.seed;
      boots = fit.boots;
      draws = fit.draws;
      counter = counter_small state can;
      registers = λ a. (banks.0 a).0;
      width = λ a. (banks.0 a).1;
      missing = banks.1;
      kept_missing = tt;
      stopped = λ off. absurd cc;
      kept_fits = tt;
      kept_agrees = λ on. tt;
    }
fit-after v (shut_down None) fit can =
    let banks = given (λ a. bank_of a v) (after v (shut_down None)) (own v fit) in
    record {
      seed = fit.seed;
      boots = fit.boots;
      draws = fit.draws;
      counter = fit.counter;
      registers = λ a. (banks.0 a).0;
      width = λ a. (banks.0 a).1;
      missing = banks.1;
      kept_missing = tt;
      stopped = λ off. still_stopped v None (fit.stopped off);
      kept_fits = tt;
      kept_agrees = λ on. tt;
    }
fit-after v (shut_down (Some state)) fit can =
    let banks = given (λ a. bank_of a v) (after v (shut_down (Some state))) (own v fit) in
    record {
      seed = fit.seed;
      boots = fit.boots;
      draws = fit.draws;
      counter = fit.counter;
      registers = λ a. (banks.0 a).0;
      width = λ a. (banks.0 a).1;
      missing = banks.1;
      kept_missing = subst (MissingAreBlankInState v.banks) (sym can) (kept_blank v fit);
      stopped = λ off. still_stopped v (Some state) (fit.stopped off);
      kept_fits = subst IsKept (sym can) (kept_is_kept v fit);
      kept_agrees = λ on. can;
    }
fit-after v drew fit can =
    let banks = given (λ a. bank_of a v) (after v drew) (own v fit) in
    record {
      seed = fit.seed;
      boots = fit.boots;
      draws = omega arith;
      counter = fit.counter;
      registers = λ a. (banks.0 a).0;
      width = λ a. (banks.0 a).1;
      missing = banks.1;
      kept_missing = fit.kept_missing;
      stopped = λ off. absurd (true_off v.started can off);
      kept_fits = fit.kept_fits;
      kept_agrees = fit.kept_agrees;
    }
fit-after v (extended i measurements) fit can =
    let banks = given (λ a. bank_after_extend v.banks a (bank_of a v) i measurements) (after v (extended i measurements)) (extended_fit v i measurements fit can.1) in
    record {
      seed = fit.seed;
      boots = fit.boots;
      draws = fit.draws;
      counter = omega arith;
      registers = λ a. (banks.0 a).0;
      width = λ a. (banks.0 a).1;
      missing = banks.1;
      kept_missing = tt;
      stopped = λ off. absurd (true_off v.started can.0 off);
      kept_fits = tt;
      kept_agrees = λ on. tt;
    }
