-- Bodies of blobs, and the values that they encode.
use Rattle.std.proofs.Common.{◌≡◌, ℕ, ◌+◌, ◌-◌, ◌*◌, ◌<◌, ◌≤◌, ◌^◌, suc, Bool, true, false, cond, eqb, ◌||◌, List, [], ◌∷◌, ◌++◌, length, take, drop, get_or, replicate, Option, Some, None, Ok, refl, sym, ap, subst, ◌∙◌, arith, inl, inr, ◌⊎◌}
use Rattle.std.specs.Prelude.{IfSome, is_some}
use Rattle.std.specs.Int.{w32, w64, from_be_bytes}
use Rattle.std.proofs.lemmas.Bool.{eqb-true, eq-eqb, ne_eqb, cases_eq}
use Rattle.std.proofs.lemmas.Bool.Decides.{nat_tests}
use Rattle.std.proofs.lemmas.List.{length-append, length-take, length-drop, get_or_append_left, get_or-append_right, take-append-drop, drop_all}
use Rattle.std.proofs.lemmas.Nat.{be_bytes_8}
use Rattle.vt_base.specs.Numbers.{IsBytes, number, long}
use Rattle.vt_base.specs.Layout.{Ends, Field, Encodes}
use Rattle.vt_base.specs.Refusing.{malformed, refuse}
use Rattle.vt_base.proofs.Numbers.{IsBytes-take, IsBytes-drop, number-from, number_below, encodes_number}
use Rattle.vt_base.proofs.Prefixes.{number_prefix, passed}
use Rattle.vt_base.specs.declared.types.Kind.{Kind}
use Rattle.vt_base.specs.declared.types.Kind.TheVariants.{Permanent, Volatile, Saved}
use Rattle.vt_base.specs.declared.types.Why.TheVariants.{Length, Value}
use Rattle.tpm_core.specs.declared.algorithm.Algorithm.{Algorithm}
use Rattle.tpm_core.specs.declared.algorithm.Banks.{Banks}
use Rattle.tpm_core.specs.declared.algorithm.Banks.TheVariants.{One, Two}
use Rattle.tpm_core.specs.declared.parts.SavedParts.{SavedParts}
use Rattle.tpm_core.specs.declared.parts.TpmParts.{TpmParts}
use Rattle.tpm_core.specs.Banks.{blank_bank, bank_of, kept_bank_of, with_banks, state_of, MissingAreBlankInState}
use Rattle.tpm_core.specs.Steps.{HaveWidth, IsValid, IsKept}
use Rattle.state_blobs.specs.Numbers.{version_of, volatile_length, saved_length}
use Rattle.state_blobs.specs.Encodings.{magic_of, with_header, registers_of, counted, volatile_body, saved_body, body_of, encode_blob, IsBlob, is_length, flag_fits}
use Rattle.state_blobs.specs.Running.{all_counted}
use Rattle.state_blobs.specs.Blobs.{body_then, sized_then, after_magic, blob}
use Rattle.vt_base.proofs.Magics.{magic_encode}
use Rattle.state_blobs.proofs.Magics.{magic_cases, version_encodes, version_cases}
use Rattle.state_blobs.proofs.Widths.{by_algorithm, width, AreBanks, banks_are, kept_are, length-counted, counted_alike, decoded_bank, AreBanks-decoded, registers-decoded, missing_blank, missing_kept_blank, blank_are, all_byte}

-- a body that may stand behind its header
pub record IsBody (kind : Kind) (banks : Banks) (body : List ℕ) : Type 0 where
  pub sized : is_length kind banks (length body) ≡ true
  pub flagged : flag_fits kind (length body) (get_or body 0 0) ≡ true

length_small : (kind : Kind) (banks : Banks) (count : ℕ) → is_length kind banks count ≡ true → (0 < count) × (count ≤ 1933)
length_small Permanent banks count is = let e : count ≡ 40 = eqb-true count 40 is in (omega arith, omega arith)
length_small Volatile One count is = grind (arith, nat_tests)
length_small Volatile Two count is = grind (arith, nat_tests)
length_small Saved One count is = grind (arith, nat_tests)
length_small Saved Two count is = grind (arith, nat_tests)

-- ---- a body behind its header is a blob, and a blob is nothing else

body_encodes : (kind : Kind) (banks : Banks) (body : List ℕ) → IsBody kind banks body → Encodes (sized_then kind banks (length body)) (Ok tt) body
body_encodes kind banks [] is = absurd (omega (arith, (length_small kind banks 0 is.sized).0))
body_encodes kind banks (flag ∷ rest) is =
    let first : 1 ≤ length (flag ∷ rest) = omega arith in
    let enough : suc (length rest) - 1 ≤ length rest = omega arith in
    let all : Encodes (Field (suc (length rest) - 1) (λ _. Ends (Ok tt))) (Ok tt) rest = (enough, (refl, drop_all (suc (length rest) - 1) rest (omega arith))) in
    let flagged : Encodes (body_then kind (suc (length rest))) (Ok tt) (flag ∷ rest) =
    (first, subst (λ (b : Bool). Encodes (cond b (Field (suc (length rest) - 1) (λ _. Ends (Ok tt))) (refuse Value 9)) (Ok tt) rest) (sym is.flagged) all) in
    subst (λ (b : Bool). Encodes (cond b (body_then kind (suc (length rest))) (refuse Length 5)) (Ok tt) (flag ∷ rest)) (sym is.sized) flagged

pub body_is_decoded : (kind : Kind) (banks : Banks) (body : List ℕ) → IsBody kind banks body → Encodes (blob kind) (Ok tt) (with_header kind banks body)
unfolding blob
body_is_decoded kind banks body is =
    magic_encode (magic_of kind) 0 (after_magic kind) (Ok tt) (version_of banks ∷ number (length body) ++ body)
    (version_encodes kind banks (Ok tt) (number (length body) ++ body)
    (encodes_number (sized_then kind banks) (Ok tt) (length body) body (omega (arith, (length_small kind banks (length body) is.sized).1)) (body_encodes kind banks body is)))

bodied : (kind : Kind) (banks : Banks) (count : ℕ) (body : List ℕ) → is_length kind banks count ≡ true → Encodes (body_then kind count) (Ok tt) body → IsBody kind banks body × (length body ≡ count)
bodied kind banks count [] is spelled = absurd (omega (arith, spelled.0))
bodied kind banks count (flag ∷ rest) is spelled =
    let p = passed (flag_fits kind count flag) (Field (count - 1) (λ _. Ends (Ok tt))) (malformed Value 9) tt rest spelled.1 in
    let size : length (flag ∷ rest) ≡ count = omega (arith, (length_small kind banks count is).0, p.1.0, ap length p.1.1.1, length-drop (count - 1) rest) in
    (record { sized = rw size is; flagged = rw size p.0 }, size)

-- the body of a blob
pub record Bodied (kind : Kind) (bytes : List ℕ) : Type 0 where
  pub banks : Banks
  pub body : List ℕ
  pub is_body : IsBody kind banks body
  pub fits : IsBytes body
  pub parts : bytes ≡ with_header kind banks body

pub decoded_is_body : (kind : Kind) (bytes : List ℕ) → IsBytes bytes → Encodes (blob kind) (Ok tt) bytes → Bodied kind bytes
unfolding blob
decoded_is_body kind bytes fits spelled =
    elim (magic_cases (magic_of kind) 0 (after_magic kind) (Ok tt) bytes spelled) [
      | inr (i, first, ends) ↦ absurd (cc (ends))
      | inl (rest, is, then) ↦
          elim (version_cases kind (Ok tt) rest then) [
            | inr (other, differs, was, ends) ↦ absurd (cc (ends))
            | inl (banks, more, are, counted) ↦
                let parts : bytes ≡ magic_of kind ++ version_of banks ∷ more = is ∙ ap (λ (r : List ℕ). magic_of kind ++ r) are in
                let f = number_prefix (sized_then kind banks) (Ok tt) more (subst IsBytes (ap (drop 5) parts) (IsBytes-drop 5 bytes fits)) counted in
                let p = passed (is_length kind banks f.value) (body_then kind f.value) (malformed Length 5) tt f.rest f.spelled in
                let b = bodied kind banks f.value f.rest p.0 p.1 in
                let number_is : number f.value ≡ number (length f.rest) = ap number (sym b.1) in
                record {
                  banks = banks;
                  body = f.rest;
                  is_body = b.0;
                  fits = f.fits;
                  parts = parts ∙ ap (λ (r : List ℕ). magic_of kind ++ version_of banks ∷ r) (f.parts ∙ ap (λ (n : List ℕ). n ++ f.rest) number_is);
                }
          ]
    ]

-- ---- the values of a TPM encode bodies

-- how long they are, by how long a register is in all banks
pub volatile_width : (banks : Banks) → volatile_length banks ≡ 13 + 24 * width banks
volatile_width One = refl
volatile_width Two = refl

pub saved_width : (banks : Banks) → saved_length banks ≡ 5 + 16 * width banks
saved_width One = refl
saved_width Two = refl

length-running : (v : TpmParts) → IsValid v → length ((1 ∷ long v.draws) ++ counted v.banks v.counter (λ a. bank_of a v)) ≡ volatile_length v.banks
length-running v fit =
    omega (arith, length-append (1 ∷ long v.draws) (counted v.banks v.counter (λ a. bank_of a v)), length-counted v.banks v.counter 24 (λ a. bank_of a v) (banks_are v fit), volatile_width v.banks)

pub length-kept : (banks : Banks) (state : SavedParts) → IsKept state → length (saved_body banks (Some state)) ≡ saved_length banks
length-kept banks state kept = omega (arith, length-counted banks state.counter 16 (λ a. kept_bank_of a state) (kept_are state kept), saved_width banks)

started_body : (v : TpmParts) → v.started ≡ true → volatile_body v ≡ (1 ∷ long v.draws) ++ counted v.banks v.counter (λ a. bank_of a v)
started_body v on = ap (λ (b : Bool). cond b ((1 ∷ long v.draws) ++ counted v.banks v.counter (λ a. bank_of a v)) (0 ∷ [])) on

-- the longer of the two bodies that a kind has
pub length-started : (kind : Kind) (v : TpmParts) → IsValid v → kind ≡ Volatile → v.started ≡ true → length (body_of kind v) ≡ volatile_length v.banks
length-started kind v fit volatile on = rw volatile (ap length (started_body v on) ∙ length-running v fit)

length-saved : (banks : Banks) (saved : Option SavedParts) → IfSome saved IsKept → is_some saved ≡ true → length (saved_body banks saved) ≡ saved_length banks
length-saved banks None kept there = absurd cc
length-saved banks (Some state) kept there = length-kept banks state kept

pub length-kept_too : (kind : Kind) (v : TpmParts) → IsValid v → kind ≡ Saved → is_some v.saved ≡ true → length (body_of kind v) ≡ saved_length v.banks
length-kept_too kind v fit saved there = rw saved (length-saved v.banks v.saved fit.kept_fits there)

sized_body : (kind : Kind) (banks : Banks) (body : List ℕ) (size : ℕ) → length body ≡ size → is_length kind banks size ≡ true → flag_fits kind size (get_or body 0 0) ≡ true → IsBody kind banks body
sized_body kind banks body size is allowed flagged = record { sized = rw is allowed; flagged = rw is flagged }

running_sized : (banks : Banks) → (is_length Volatile banks (volatile_length banks) ≡ true) × (flag_fits Volatile (volatile_length banks) 1 ≡ true)
running_sized One = (refl, refl)
running_sized Two = (refl, refl)

kept_sized : (banks : Banks) → (is_length Saved banks (saved_length banks) ≡ true) × (flag_fits Saved (saved_length banks) 1 ≡ true)
kept_sized One = (refl, refl)
kept_sized Two = (refl, refl)

saved_is_body : (banks : Banks) (saved : Option SavedParts) → IfSome saved IsKept → IsBody Saved banks (saved_body banks saved)
saved_is_body banks None kept = record { sized = refl; flagged = refl }
saved_is_body banks (Some state) kept = sized_body Saved banks (saved_body banks (Some state)) (saved_length banks) (length-kept banks state kept) (kept_sized banks).0 (kept_sized banks).1

volatile_is_body : (v : TpmParts) → IsValid v → (on : Bool) → IsBody Volatile v.banks (cond on ((1 ∷ long v.draws) ++ counted v.banks v.counter (λ a. bank_of a v)) (0 ∷ []))
volatile_is_body v fit true =
    sized_body Volatile v.banks ((1 ∷ long v.draws) ++ counted v.banks v.counter (λ a. bank_of a v)) (volatile_length v.banks) (length-running v fit) (running_sized v.banks).0 (running_sized v.banks).1
volatile_is_body v fit false = record { sized = refl; flagged = refl }

pub fit_is_body : (kind : Kind) (v : TpmParts) → IsValid v → IsBody kind v.banks (body_of kind v)
fit_is_body Permanent v fit = sized_body Permanent v.banks (v.seed ++ long v.boots) 40 (omega (arith, length-append v.seed (long v.boots), fit.seed)) refl refl
fit_is_body Volatile v fit = volatile_is_body v fit v.started
fit_is_body Saved v fit = saved_is_body v.banks v.saved fit.kept_fits

-- the blob of fit values is one
pub text_is_decoded : (kind : Kind) (v : TpmParts) → IsValid v → Encodes (blob kind) (Ok tt) (encode_blob kind v)
unfolding encode_blob
text_is_decoded kind v fit = body_is_decoded kind v.banks (body_of kind v) (fit_is_body kind v fit)

pub blob_is_decoded : (kind : Kind) (bytes : List ℕ) → IsBlob kind bytes → Encodes (blob kind) (Ok tt) bytes
blob_is_decoded kind bytes is = subst (Encodes (blob kind) (Ok tt)) (sym is.spelled) (text_is_decoded kind is.values is.fit)

-- ---- bodies encode the values of a TPM

-- a bank of values that were given these banks
pub bank_given : (bank : Algorithm → List (List ℕ)) (v : TpmParts) (a : Algorithm) → bank_of a (with_banks bank v) ≡ bank a
bank_given bank v = by_algorithm (λ a. bank_of a (with_banks bank v) ≡ bank a) refl refl

pub kept_given : (counter : ℕ) (bank : Algorithm → List (List ℕ)) (a : Algorithm) → kept_bank_of a (state_of counter bank) ≡ bank a
kept_given counter bank = by_algorithm (λ a. kept_bank_of a (state_of counter bank) ≡ bank a) refl refl

-- values with no banks yet
abbrev bare : List ℕ → Banks → ℕ → ℕ → Bool → ℕ → Option SavedParts → TpmParts
bare seed banks boots draws started counter saved = record { seed = seed; banks = banks; boots = boots; draws = draws; started = started; pcr = []; pcr384 = []; counter = counter; saved = saved }

widths_given : (n : ℕ) (x y : Algorithm → List (List ℕ)) → ((a : Algorithm) → x a ≡ y a) → AreBanks n y → (a : Algorithm) → HaveWidth a n (x a)
widths_given n x y same are a = subst (HaveWidth a n) (sym (same a)) (λ i lt. are.size a i (omega (arith, lt, are.count a)))

-- a TPM that isn't started
abbrev pub stopped_with : List ℕ → Banks → ℕ → Option SavedParts → TpmParts
stopped_with seed banks boots saved = with_banks blank_bank (bare seed banks boots 0 false 0 saved)

pub fit_stopped : (seed : List ℕ) (banks : Banks) (boots : ℕ) (saved : Option SavedParts) → length seed ≡ 32 → boots < 2 ^ 64 → IfSome saved IsKept → IfSome saved (MissingAreBlankInState banks)
    → IsValid (stopped_with seed banks boots saved)
fit_stopped seed banks boots saved size below kept missing =
    let given = bank_given blank_bank (bare seed banks boots 0 false 0 saved) in
    record {
      seed = size;
      boots = below;
      draws = omega arith;
      counter = omega arith;
      registers = λ a. ap length (given a) ∙ blank_are.count a;
      width = widths_given 24 (λ a. bank_of a (stopped_with seed banks boots saved)) blank_bank given blank_are;
      missing = λ a none. given a;
      kept_missing = missing;
      stopped = λ _. record { draws = refl; counter = refl; blank = given };
      kept_fits = kept;
      kept_agrees = λ on. absurd cc;
    }

-- the seed of values of which only others are decoded
abbrev pub zero_seed : List ℕ
zero_seed = replicate 32 0

-- numbers in bytes
long_from : (bytes : List ℕ) → IsBytes bytes → length bytes ≡ 8 → long (from_be_bytes w64 bytes) ≡ bytes
long_from bytes fits size = be_bytes_8 bytes _ size fits refl

long_below : (bytes : List ℕ) → IsBytes bytes → from_be_bytes w64 bytes < 2 ^ 64
long_below bytes fits = omega (arith, fits 0, fits 1, fits 2, fits 3, fits 4, fits 5, fits 6, fits 7)

counted_in : (banks : Banks) (n : ℕ) (bytes : List ℕ) → IsBytes bytes → length bytes ≡ 4 + n * width banks → counted banks (from_be_bytes w32 (take 4 bytes)) (decoded_bank banks n (drop 4 bytes)) ≡ bytes
counted_in banks n bytes fits size =
    ap (λ (prefix : List ℕ). prefix ++ registers_of banks (decoded_bank banks n (drop 4 bytes))) (number-from bytes fits (omega (arith, size)))
    ∙ ap (λ (rest : List ℕ). take 4 bytes ++ rest) (registers-decoded banks n (drop 4 bytes) (omega (arith, size, length-drop 4 bytes)))
    ∙ take-append-drop 4 bytes

-- values whose body this is
pub record Spelled (kind : Kind) (banks : Banks) (body : List ℕ) : Type 0 where
  pub values : TpmParts
  pub fit : IsValid values
  pub banks_are : values.banks ≡ banks
  pub is : body ≡ body_of kind values

nothing_flagged : (flag : ℕ) (rest : List ℕ) → length (flag ∷ rest) ≡ 1 → flag ≡ 0 → flag ∷ rest ≡ 0 ∷ []
nothing_flagged flag [] size is = ap (λ (b : ℕ). b ∷ []) is
nothing_flagged flag (b ∷ rest) size is = absurd (omega (arith, size))

permanent_encoded : (banks : Banks) (body : List ℕ) → IsBytes body → length body ≡ 40 → Spelled Permanent banks body
permanent_encoded banks body fits size = record {
  values = stopped_with (take 32 body) banks (from_be_bytes w64 (drop 32 body)) None;
  fit = fit_stopped (take 32 body) banks (from_be_bytes w64 (drop 32 body)) None (omega (arith, size, length-take 32 body)) (long_below (drop 32 body) (IsBytes-drop 32 body fits)) tt tt;
  banks_are = refl;
  is = sym (ap (λ (rest : List ℕ). take 32 body ++ rest) (long_from (drop 32 body) (IsBytes-drop 32 body fits) (omega (arith, size, length-drop 32 body))) ∙ take-append-drop 32 body);
}

-- what stands behind the flag of a started TPM
bare_running : Banks → List ℕ → TpmParts
bare_running banks rest = bare zero_seed banks 0 (from_be_bytes w64 (take 8 rest)) true (from_be_bytes w32 (take 4 (drop 8 rest))) None

running_bank : Banks → List ℕ → Algorithm → List (List ℕ)
running_bank banks rest = decoded_bank banks 24 (drop 4 (drop 8 rest))

fit_running : (banks : Banks) (rest : List ℕ) → IsBytes rest → length rest ≡ 12 + 24 * width banks → IsValid (with_banks (running_bank banks rest) (bare_running banks rest))
unfolding bare_running running_bank
fit_running banks rest fits size =
    let long_enough : length (drop 4 (drop 8 rest)) ≡ 24 * width banks = omega (arith, size, length-drop 4 (drop 8 rest), length-drop 8 rest) in
    let are = AreBanks-decoded banks 24 (drop 4 (drop 8 rest)) long_enough in
    let given = bank_given (running_bank banks rest) (bare_running banks rest) in
    record {
      seed = refl;
      boots = omega arith;
      draws = long_below (take 8 rest) (IsBytes-take 8 rest fits);
      counter = number_below (take 4 (drop 8 rest)) (IsBytes-take 4 (drop 8 rest) (IsBytes-drop 8 rest fits));
      registers = λ a. ap length (given a) ∙ are.count a;
      width = widths_given 24 (λ a. bank_of a (with_banks (running_bank banks rest) (bare_running banks rest))) (running_bank banks rest) given are;
      missing = λ a none. given a ∙ missing_blank banks (drop 4 (drop 8 rest)) a none;
      kept_missing = tt;
      stopped = λ off. absurd cc;
      kept_fits = tt;
      kept_agrees = λ on. tt;
    }

running_of : (banks : Banks) (rest : List ℕ) → (bare_running banks rest).banks ≡ banks
unfolding bare_running
running_of banks rest = refl

running_encoded : (banks : Banks) (rest : List ℕ) → IsBytes rest → length rest ≡ 12 + 24 * width banks → 1 ∷ rest ≡ volatile_body (with_banks (running_bank banks rest) (bare_running banks rest))
unfolding bare_running running_bank
running_encoded banks rest fits size =
    let v = with_banks (running_bank banks rest) (bare_running banks rest) in
    let given = counted_alike banks v.counter (λ a. bank_of a v) (running_bank banks rest) (λ a there. bank_given (running_bank banks rest) (bare_running banks rest) a) in
    let behind = counted_in banks 24 (drop 8 rest) (IsBytes-drop 8 rest fits) (omega (arith, size, length-drop 8 rest)) in
    let draws = long_from (take 8 rest) (IsBytes-take 8 rest fits) (omega (arith, size, length-take 8 rest)) in
    sym (ap (λ (prefix : List ℕ). (1 ∷ prefix) ++ counted banks v.counter (λ a. bank_of a v)) draws
    ∙ ap (λ (back : List ℕ). (1 ∷ take 8 rest) ++ back) (given ∙ behind)
    ∙ ap (λ (all : List ℕ). 1 ∷ all) (take-append-drop 8 rest))

kept_encoded : (banks : Banks) (rest : List ℕ) → IsBytes rest → length rest ≡ 4 + 16 * width banks → Spelled Saved banks (1 ∷ rest)
kept_encoded banks rest fits size =
    let long_enough : length (drop 4 rest) ≡ 16 * width banks = omega (arith, size, length-drop 4 rest) in
    let bank = decoded_bank banks 16 (drop 4 rest) in
    let counter = from_be_bytes w32 (take 4 rest) in
    let state : SavedParts = state_of counter bank in
    let are = AreBanks-decoded banks 16 (drop 4 rest) long_enough in
    let given = kept_given counter bank in
    let kept : IsKept state = record {
      counter = number_below (take 4 rest) (IsBytes-take 4 rest fits);
      registers = λ a. ap length (given a) ∙ are.count a;
      width = widths_given 16 (λ a. kept_bank_of a state) bank given are;
    } in
    let missing : MissingAreBlankInState banks state = λ a none. given a ∙ missing_kept_blank banks (drop 4 rest) a none in
    record {
      values = stopped_with zero_seed banks 0 (Some state);
      fit = fit_stopped zero_seed banks 0 (Some state) refl (omega arith) kept missing;
      banks_are = refl;
      is = ap (λ (all : List ℕ). 1 ∷ all) (sym (counted_alike banks counter (λ a. kept_bank_of a state) bank (λ a there. given a) ∙ counted_in banks 16 rest fits size));
    }

-- a flag alone, or one before values
flag_cases : (n k : ℕ) (flag : ℕ) → eqb n 1 || eqb n k ≡ true → 1 < k → eqb flag (cond (eqb n 1) 0 1) ≡ true → ((n ≡ 1) × (flag ≡ 0)) ⊎ ((n ≡ k) × (flag ≡ 1))
flag_cases n k flag sized le flagged =
    elim (cases_eq n 1) [
      | inl e ↦ inl (e, eqb-true flag _ flagged ∙ ap (λ (b : Bool). cond b 0 1) (eq-eqb n 1 e))
      | inr ne ↦ inr (grind (arith, nat_tests), eqb-true flag _ flagged ∙ ap (λ (b : Bool). cond b 0 1) (ne_eqb n 1 ne))
    ]

nothing_encoded : (kind : Kind) (banks : Banks) (flag : ℕ) (rest : List ℕ) → body_of kind (stopped_with zero_seed banks 0 None) ≡ 0 ∷ [] → length (flag ∷ rest) ≡ 1 → flag ≡ 0 → Spelled kind banks (flag ∷ rest)
nothing_encoded kind banks flag rest body size off = record {
  values = stopped_with zero_seed banks 0 None;
  fit = fit_stopped zero_seed banks 0 None refl (omega arith) tt tt;
  banks_are = refl;
  is = nothing_flagged flag rest size off ∙ sym body;
}

pub body_encoded : (kind : Kind) (banks : Banks) (body : List ℕ) → IsBytes body → IsBody kind banks body → Spelled kind banks body
body_encoded kind banks [] fits is = absurd (omega (arith, (length_small kind banks 0 is.sized).0))
body_encoded Permanent banks (flag ∷ rest) fits is = permanent_encoded banks (flag ∷ rest) fits (eqb-true _ 40 is.sized)
body_encoded Volatile banks (flag ∷ rest) fits is =
    elim (flag_cases (length (flag ∷ rest)) (volatile_length banks) flag is.sized (omega (arith, volatile_width banks)) is.flagged) [
      | inl (size, off) ↦ nothing_encoded Volatile banks flag rest refl size off
      | inr (size, on) ↦
          let fits_rest : IsBytes rest = IsBytes-drop 1 (flag ∷ rest) fits in
          let rest_size : length rest ≡ 12 + 24 * width banks = omega (arith, size, volatile_width banks) in
          record {
            values = with_banks (running_bank banks rest) (bare_running banks rest);
            fit = fit_running banks rest fits_rest rest_size;
            banks_are = running_of banks rest;
            is = ap (λ (b : ℕ). b ∷ rest) on ∙ running_encoded banks rest fits_rest rest_size;
          }
    ]
body_encoded Saved banks (flag ∷ rest) fits is =
    elim (flag_cases (length (flag ∷ rest)) (saved_length banks) flag is.sized (omega (arith, saved_width banks)) is.flagged) [
      | inl (size, off) ↦ nothing_encoded Saved banks flag rest refl size off
      | inr (size, on) ↦
          let fits_rest : IsBytes rest = IsBytes-drop 1 (flag ∷ rest) fits in
          let s = kept_encoded banks rest fits_rest (omega (arith, size, saved_width banks)) in
          record { values = s.values; fit = s.fit; banks_are = s.banks_are; is = ap (λ (b : ℕ). b ∷ rest) on ∙ s.is }
    ]

-- what is decoded as a whole blob is one
pub decoded_is_blob : (kind : Kind) (bytes : List ℕ) → IsBytes bytes → Encodes (blob kind) (Ok tt) bytes → IsBlob kind bytes
unfolding encode_blob
decoded_is_blob kind bytes fits spelled =
    let b = decoded_is_body kind bytes fits spelled in
    let s = body_encoded kind b.banks b.body b.fits b.is_body in
    record { values = s.values; fit = s.fit; spelled = b.parts ∙ ap (with_header kind b.banks) s.is ∙ ap (λ (banks : Banks). with_header kind banks (body_of kind s.values)) (sym s.banks_are) }

-- a byte of the count of draws
pub draws_byte : (v : TpmParts) (i : ℕ) → v.started ≡ true → 0 < i → i < 9 → get_or (volatile_body v) i 0 ≡ get_or (long v.draws) (i - 1) 0
draws_byte v i on some within_limit =
    ap (λ (body : List ℕ). get_or body i 0) (started_body v on)
    ∙ (get_or_append_left (1 ∷ long v.draws) (counted v.banks v.counter (λ a. bank_of a v)) 0 i (omega arith) ∙ get_or-append_right (1 ∷ []) (long v.draws) 1 i 0 refl (omega arith))

-- a byte of the counter and the registers behind it
pub running_byte : (v : TpmParts) (i : ℕ) → v.started ≡ true → 9 ≤ i → i < length (volatile_body v) → get_or (all_counted v.counter v.pcr v.pcr384) (i - 9) 0 ≡ get_or (volatile_body v) i 0
running_byte v i on le lt =
    let bank : Algorithm → List (List ℕ) = λ a. bank_of a v in
    let whole = started_body v on in
    let behind : i - 9 < length (counted v.banks v.counter bank) = omega (arith, lt, le, ap length whole, length-append (1 ∷ long v.draws) (counted v.banks v.counter bank)) in
    all_byte v.banks v.counter bank (i - 9) behind
    ∙ sym (ap (λ (body : List ℕ). get_or body i 0) whole ∙ get_or-append_right (1 ∷ long v.draws) (counted v.banks v.counter bank) 9 i 0 refl le)

-- the same of a saved state
pub kept_byte : (banks : Banks) (saved : Option SavedParts) (state : SavedParts) (i : ℕ) → saved ≡ Some state → 1 ≤ i → i < length (saved_body banks saved)
    → get_or (all_counted state.counter state.pcr state.pcr384) (i - 1) 0 ≡ get_or (saved_body banks saved) i 0
kept_byte banks saved state i is le lt =
    let bank : Algorithm → List (List ℕ) = λ a. kept_bank_of a state in
    let whole : saved_body banks saved ≡ 1 ∷ counted banks state.counter bank = ap (saved_body banks) is in
    let behind : i - 1 < length (counted banks state.counter bank) = omega (arith, lt, le, ap length whole) in
    all_byte banks state.counter bank (i - 1) behind
    ∙ sym (ap (λ (body : List ℕ). get_or body i 0) whole ∙ get_or-append_right (1 ∷ []) (counted banks state.counter bank) 1 i 0 refl le)
