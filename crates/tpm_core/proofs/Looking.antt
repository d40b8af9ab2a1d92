-- The values looked back at, after one more state change.
use Rattle.std.proofs.Common.{◌≡◌, ℕ, suc, ◌+◌, ◌%◌, ◌^◌, ◌<◌, Bool, true, false, cond, List, [], ◌∷◌, ◌++◌, length, get_or, set, Option, Some, None, refl, sym, ap, ◌∙◌, arith, inl, inr, eqb, eq-eqb, ne_eqb, ◌≢◌}
use Rattle.std.proofs.lemmas.Bool.{cases_eq}
use Rattle.std.proofs.Math.Nat.{mod-add-mod}
use Rattle.std.specs.Prelude.{IfSome}
use Rattle.std.proofs.lemmas.List.{append-nil, get_or-set_same, get_or-set_other, length-set}
use Rattle.std.proofs.lemmas.List.FromFn.{get_or-map-range_with_len, length-map-range_with_len, fill_by_all}
use Rattle.tpm_core.specs.declared.parts.SavedParts.{SavedParts}
use Rattle.tpm_core.specs.declared.parts.TpmParts.{TpmParts}
use Rattle.tpm_core.specs.declared.algorithm.Algorithm.{Algorithm}
use Rattle.tpm_core.specs.declared.algorithm.Algorithm.TheVariants.{Sha256, Sha384}
use Rattle.tpm_core.specs.declared.algorithm.Banks.{Banks}
use Rattle.tpm_core.specs.declared.algorithm.Measurement.{Measurement}
use Rattle.tpm_core.specs.Algorithms.{digest_size, has_bank, digests_by}
use Rattle.tpm_core.specs.Banks.{zeros, blank_bank, each_register, hashed, bank_extended, bank_of, with_banks}
use Rattle.tpm_core.proofs.Measured.{hashed-append}
use Rattle.tpm_core.specs.Past.{StateChange, booted, started, shut_down, drew, extended, is_boot, is_draw, since_boot, has_booted, count_of, boots_of, is_started, draws_of, saved_state, starting_value, starting_counter, digests_since, count_since, value_at_start, counter_at_start, register_value, counter_of, values}
use Rattle.tpm_core.specs.Steps.{IsKept, bank_at_start, bank_after_extend, after}

-- values that agree in each field
pub same_parts : (v w : TpmParts) → v.seed ≡ w.seed → v.boots ≡ w.boots → v.draws ≡ w.draws → v.banks ≡ w.banks → v.started ≡ w.started → ((a : Algorithm) → bank_of a v ≡ bank_of a w) → v.counter ≡ w.counter → v.saved ≡ w.saved → v ≡ w
same_parts v w a b c k d e f g =
    ap (λ (x : List ℕ). record v { seed = x }) a
    ∙ ap (λ (x : ℕ). record v { seed = w.seed; boots = x }) b
    ∙ ap (λ (x : ℕ). record v { seed = w.seed; boots = w.boots; draws = x }) c
    ∙ ap (λ (x : Banks). record v { seed = w.seed; boots = w.boots; draws = w.draws; banks = x }) k
    ∙ ap (λ (x : Bool). record w { started = x; pcr = v.pcr; pcr384 = v.pcr384; counter = v.counter; saved = v.saved }) d
    ∙ ap (λ (x : List (List ℕ)). record w { pcr = x; pcr384 = v.pcr384; counter = v.counter; saved = v.saved }) (e Sha256)
    ∙ ap (λ (x : List (List ℕ)). record w { pcr384 = x; counter = v.counter; saved = v.saved }) (e Sha384)
    ∙ ap (λ (x : ℕ). record w { counter = x; saved = v.saved }) f
    ∙ ap (λ (x : Option SavedParts). record w { saved = x }) g

-- a bank of values that were given these banks
pub bank_in : (a : Algorithm) (bank : Algorithm → List (List ℕ)) (v : TpmParts) → bank_of a (with_banks bank v) ≡ bank a
bank_in Sha256 bank v = refl
bank_in Sha384 bank v = refl

-- values that were given banks agree in each bank where the banks do
same_banks : (bank bank' : Algorithm → List (List ℕ)) (v w : TpmParts) → ((a : Algorithm) → bank a ≡ bank' a) → (a : Algorithm) → bank_of a (with_banks bank v) ≡ bank_of a (with_banks bank' w)
same_banks bank bank' v w h a = bank_in a bank v ∙ h a ∙ sym (bank_in a bank' w)

-- one more, where the rest is taken modulo m
one_more : (a n m : ℕ) → (a + suc n) % m ≡ ((a + n) % m + 1) % m
one_more a n m = ap (λ (x : ℕ). x % m) (omega arith) ∙ sym (mod-add-mod (a + n) m 1)

more : (a n k m : ℕ) → (a + (n + k)) % m ≡ ((a + n) % m + k) % m
more a n k m = ap (λ (x : ℕ). x % m) (omega arith) ∙ sym (mod-add-mod (a + n) m k)

counter_fits : (state : Option SavedParts) → IfSome state IsKept → (counter_at_start state + 0) % 2 ^ 32 ≡ counter_at_start state
counter_fits None h = refl
counter_fits (Some s) h = omega (arith, h.counter)

pub get_register : (f : ℕ → List ℕ) (i : ℕ) → i < 24 → get_or (each_register f) i [] ≡ f i
unfolding each_register
get_register f i lt = get_or-map-range_with_len f 0 24 i i [] lt (omega arith)

pub length-each_register : (f : ℕ → List ℕ) → length (each_register f) ≡ 24
unfolding each_register
length-each_register f = length-map-range_with_len f 0 24

pub same_bank : (f g : ℕ → List ℕ) → ((i : ℕ) → f i ≡ g i) → each_register f ≡ each_register g
unfolding each_register
same_bank f g h = fill_by_all g (each_register f) 24 [] (length-each_register f) (λ k lt. get_register f k lt ∙ h k)

-- one register is set
set_register : (f g : ℕ → List ℕ) (i : ℕ) (y : List ℕ) → i < 24 → g i ≡ y → ((k : ℕ) → k ≢ i → g k ≡ f k) → each_register g ≡ set (each_register f) i y
unfolding each_register
set_register f g i y lt same other =
    let size : i < length (each_register f) = omega (arith, length-each_register f) in
    sym (fill_by_all g (set (each_register f) i y) 24 [] (length-set (each_register f) i y ∙ length-each_register f) (λ k below.
    elim (cases_eq k i) [
      | inl e ↦ ap (λ (x : ℕ). get_or (set (each_register f) i y) x []) e ∙ get_or-set_same (each_register f) i y [] size ∙ sym same ∙ ap g (sym e)
      | inr ne ↦ get_or-set_other (each_register f) i k y [] ne ∙ get_register f k below ∙ sym (other k ne)
    ]))

eqb_same : (k : ℕ) → eqb k k ≡ true
eqb_same k = eq-eqb k k refl

-- the step of a register's digests
digests_here : (past : List StateChange) (a : Algorithm) (i : ℕ) (measurements : List Measurement) → digests_since (extended i measurements ∷ past) a i ≡ digests_since past a i ++ digests_by a measurements
unfolding digests_since
digests_here past a i measurements = rw eqb_same refl

digests_elsewhere : (past : List StateChange) (a : Algorithm) (i k : ℕ) (measurements : List Measurement) → k ≢ i → digests_since (extended i measurements ∷ past) a k ≡ digests_since past a k
unfolding digests_since
digests_elsewhere past a i k measurements ne = let no : eqb k i ≡ false = ne_eqb k i ne in rw no (append-nil (digests_since past a k))

-- extends leave the start as it is
value_when_on : (b : TpmParts) (past : List StateChange) (a : Algorithm) (i : ℕ) → is_started b past ≡ true → has_bank b.banks a ≡ true → register_value b past a i ≡ hashed a (starting_value b past a i) (digests_since past a i)
unfolding register_value
value_when_on b past a i on has = rw (on, has) refl

-- a bank that isn't there stays blank
value_missing : (b : TpmParts) (past : List StateChange) (a : Algorithm) (i : ℕ) (on : Bool) → is_started b past ≡ on → has_bank b.banks a ≡ false → register_value b past a i ≡ zeros (digest_size a)
unfolding register_value
value_missing b past a i true e none = rw (e, none) refl
value_missing b past a i false e none = rw e refl

pub bank_missing : (b : TpmParts) (past : List StateChange) (a : Algorithm) → has_bank b.banks a ≡ false → each_register (register_value b past a) ≡ blank_bank a
unfolding each_register blank_bank
bank_missing b past a none = same_bank (register_value b past a) (λ i. zeros (digest_size a)) (λ i. value_missing b past a i (is_started b past) refl none)

counter_when_on : (b : TpmParts) (past : List StateChange) → is_started b past ≡ true → counter_of b past ≡ (starting_counter b past + count_since past) % 2 ^ 32
unfolding counter_of
counter_when_on b past on = rw on refl

started-extended : (b : TpmParts) (past : List StateChange) (i : ℕ) (measurements : List Measurement) → is_started b (extended i measurements ∷ past) ≡ is_started b past
unfolding is_started
started-extended b past i measurements = refl

value_here : (b : TpmParts) (past : List StateChange) (a : Algorithm) (i : ℕ) (measurements : List Measurement) → is_started b past ≡ true → has_bank b.banks a ≡ true → register_value b (extended i measurements ∷ past) a i ≡ hashed a (register_value b past a i) (digests_by a measurements)
unfolding starting_value
value_here b past a i measurements on has =
    rw (value_when_on b (extended i measurements ∷ past) a i (started-extended b past i measurements ∙ on) has, digests_here past a i measurements, value_when_on b past a i on has)
    (hashed-append a (starting_value b past a i) (digests_since past a i) (digests_by a measurements))

value_elsewhere : (b : TpmParts) (past : List StateChange) (a : Algorithm) (i k : ℕ) (measurements : List Measurement) → is_started b past ≡ true → has_bank b.banks a ≡ true → k ≢ i → register_value b (extended i measurements ∷ past) a k ≡ register_value b past a k
unfolding starting_value
value_elsewhere b past a i k measurements on has ne =
    rw (value_when_on b (extended i measurements ∷ past) a k (started-extended b past i measurements ∙ on) has, digests_elsewhere past a i k measurements ne, value_when_on b past a k on has) refl

-- a bank is set at one place
bank_here : (b : TpmParts) (past : List StateChange) (a : Algorithm) (i : ℕ) (measurements : List Measurement) → is_started b past ≡ true → has_bank b.banks a ≡ true → i < 24
    → each_register (register_value b (extended i measurements ∷ past) a) ≡ set (each_register (register_value b past a)) i (hashed a (get_or (each_register (register_value b past a)) i []) (digests_by a measurements))
bank_here b past a i measurements on has lt =
    let here : register_value b (extended i measurements ∷ past) a i ≡ hashed a (get_or (each_register (register_value b past a)) i []) (digests_by a measurements)
    = rw (get_register (register_value b past a) i lt) (value_here b past a i measurements on has) in
    set_register (register_value b past a) (register_value b (extended i measurements ∷ past) a) i _ lt here (λ k ne. value_elsewhere b past a i k measurements on has ne)

pub if_true : {A : Type 0} (b : Bool) (x y : A) → b ≡ true → cond b x y ≡ x
if_true true x y e = refl
if_true false x y e = absurd cc

pub if_false : {A : Type 0} (b : Bool) (x y : A) → b ≡ false → cond b x y ≡ y
if_false true x y e = absurd cc
if_false false x y e = refl

-- a bank after a start, and after an extend
bank_starts : (b : TpmParts) (past : List StateChange) (a : Algorithm) (state : Option SavedParts) (has : Bool) → has_bank b.banks a ≡ has → each_register (register_value b (started state ∷ past) a) ≡ bank_at_start b.banks a state
unfolding is_started starting_value digests_since
bank_starts b past a state true e =
    same_bank (register_value b (started state ∷ past) a) (value_at_start a state) (λ i. value_when_on b (started state ∷ past) a i refl e)
    ∙ sym (if_true (has_bank b.banks a) (each_register (value_at_start a state)) (blank_bank a) e)
bank_starts b past a state false e = bank_missing b (started state ∷ past) a e ∙ sym (if_false (has_bank b.banks a) (each_register (value_at_start a state)) (blank_bank a) e)

bank_extends : (b : TpmParts) (past : List StateChange) (a : Algorithm) (i : ℕ) (measurements : List Measurement) (has : Bool) → has_bank b.banks a ≡ has → is_started b past ≡ true → i < 24
    → each_register (register_value b (extended i measurements ∷ past) a) ≡ bank_after_extend b.banks a (each_register (register_value b past a)) i measurements
bank_extends b past a i measurements true e on lt =
    let bank = each_register (register_value b past a) in
    bank_here b past a i measurements on e lt ∙ sym (if_true (has_bank b.banks a) (bank_extended a bank i measurements) bank e)
bank_extends b past a i measurements false e on lt =
    let bank = each_register (register_value b past a) in
    bank_missing b (extended i measurements ∷ past) a e ∙ sym (bank_missing b past a e) ∙ sym (if_false (has_bank b.banks a) (bank_extended a bank i measurements) bank e)

counter_here : (b : TpmParts) (past : List StateChange) (i : ℕ) (measurements : List Measurement) → is_started b past ≡ true → counter_of b (extended i measurements ∷ past) ≡ (counter_of b past + length measurements) % 2 ^ 32
unfolding starting_counter count_since
counter_here b past i measurements on =
    rw (counter_when_on b (extended i measurements ∷ past) (started-extended b past i measurements ∙ on), counter_when_on b past on)
    (more (starting_counter b past) (count_since past) (length measurements) (2 ^ 32))

draws_here : (b : TpmParts) (past : List StateChange) → draws_of b (drew ∷ past) ≡ (draws_of b past + 1) % 2 ^ 64
unfolding draws_of
draws_here b past = ap (λ (x : ℕ). x % 2 ^ 64) (omega arith) ∙ sym (mod-add-mod (count_of is_draw (since_boot past) + cond (has_booted past) 0 b.draws) (2 ^ 64) 1)

-- ---- one more state change

pub values-booted : (b : TpmParts) (past : List StateChange) → values b (booted ∷ past) ≡ after (values b past) booted
unfolding values boots_of draws_of is_started register_value counter_of saved_state each_register blank_bank
values-booted b past = same_parts _ _ refl (one_more b.boots (count_of is_boot past) (2 ^ 64)) refl refl refl (same_banks (λ a. each_register (register_value b (booted ∷ past) a)) blank_bank (values b (booted ∷ past)) (after (values b past) booted) (λ a. refl)) refl refl

pub values-started : (b : TpmParts) (past : List StateChange) (state : Option SavedParts) → IfSome state IsKept → values b (started state ∷ past) ≡ after (values b past) (started state)
unfolding values boots_of draws_of is_started register_value counter_of saved_state starting_value starting_counter digests_since count_since
values-started b past state fits =
    same_parts _ _ refl refl refl refl refl
    (same_banks (λ a. each_register (register_value b (started state ∷ past) a)) (λ a. bank_at_start b.banks a state) (values b (started state ∷ past)) (after (values b past) (started state)) (λ a. bank_starts b past a state (has_bank b.banks a) refl))
    (counter_fits state fits) refl

pub values-shut_down : (b : TpmParts) (past : List StateChange) (state : Option SavedParts) → values b (shut_down state ∷ past) ≡ after (values b past) (shut_down state)
unfolding values boots_of draws_of is_started register_value counter_of saved_state starting_value starting_counter digests_since count_since
values-shut_down b past state = refl

pub values-drew : (b : TpmParts) (past : List StateChange) → values b (drew ∷ past) ≡ after (values b past) drew
unfolding values boots_of is_started register_value counter_of saved_state starting_value starting_counter digests_since count_since
values-drew b past = same_parts _ _ refl refl (draws_here b past) refl refl (same_banks (λ a. each_register (register_value b (drew ∷ past) a)) (λ a. each_register (register_value b past a)) (values b (drew ∷ past)) (after (values b past) drew) (λ a. refl)) refl refl

pub values-extended : (b : TpmParts) (past : List StateChange) (i : ℕ) (measurements : List Measurement) → (values b past).started ≡ true → i < 24 → values b (extended i measurements ∷ past) ≡ after (values b past) (extended i measurements)
unfolding values boots_of draws_of is_started saved_state
values-extended b past i measurements on lt =
    same_parts _ _ refl refl refl refl refl
    (same_banks (λ a. each_register (register_value b (extended i measurements ∷ past) a)) (λ a. bank_after_extend b.banks a (each_register (register_value b past a)) i measurements) (values b (extended i measurements ∷ past)) (after (values b past) (extended i measurements)) (λ a. bank_extends b past a i measurements (has_bank b.banks a) refl on lt))
    (counter_here b past i measurements on) refl
