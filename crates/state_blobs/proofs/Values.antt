-- The fields of a gather's body are the values that its blob is of.
use Rattle.std.proofs.Common.{◌≡◌, ℕ, ◌+◌, ◌-◌, ◌*◌, ◌<◌, ◌≤◌, Bool, true, false, cond, eqb, List, [], ◌∷◌, ◌++◌, length, take, drop, get_or, replicate, Option, Some, None, refl, sym, ap, ◌∙◌, arith, inl, inr, ◌⊎◌}
use Rattle.std.specs.Int.{w64, from_be_bytes}
use Rattle.std.specs.Prelude.{IfSome, is_some}
use Rattle.std.proofs.lemmas.List.{take_at, take_all, drop_at, drop-drop, get_or-take, get_or-drop}
use Rattle.std.proofs.lemmas.Nat.{from_be_bytes-to_be_bytes_8}
use Rattle.std.proofs.Math.Seq.{take-append-add}
use Rattle.vt_base.specs.Numbers.{long}
use Rattle.vt_base.specs.declared.types.Kind.{Kind}
use Rattle.vt_base.specs.declared.types.Kind.TheVariants.{Permanent, Volatile, Saved}
use Rattle.tpm_core.specs.declared.algorithm.Algorithm.{Algorithm}
use Rattle.tpm_core.specs.declared.algorithm.Algorithm.TheVariants.{Sha256, Sha384}
use Rattle.tpm_core.specs.declared.algorithm.Banks.{Banks}
use Rattle.tpm_core.specs.declared.algorithm.Banks.TheVariants.{Two}
use Rattle.tpm_core.specs.declared.parts.SavedParts.{SavedParts}
use Rattle.tpm_core.specs.declared.parts.TpmParts.{TpmParts}
use Rattle.tpm_core.specs.Algorithms.{digest_size, has_bank}
use Rattle.tpm_core.specs.Banks.{zeros, blank_bank, blank_kept, bank_of, kept_bank_of, MissingAreBlankInState}
use Rattle.tpm_core.specs.Steps.{IsValid, IsKept}
use Rattle.state_blobs.specs.declared.body_fields.Fields.{Fields}
use Rattle.state_blobs.specs.declared.read.Running.{Running}
use Rattle.state_blobs.specs.Encodings.{counted, slice}
use Rattle.state_blobs.specs.Assembly.{EncodesVolatile, EncodesSaved}
use Rattle.state_blobs.specs.Partial.{bank_in, counted_in, body_in, AreValid}
use Rattle.state_blobs.specs.Reading.{running_in}
use Rattle.state_blobs.specs.Running.{registers_if_there}
use Rattle.state_blobs.proofs.Widths.{by_algorithm, width, banks_are, kept_are, counted_alike, counted_same, counted_prefix}
use Rattle.state_blobs.proofs.Bodies.{volatile_width, saved_width}
use Rattle.state_blobs.proofs.Fields.{volatile_size, volatile_read, saved_size, state_read, started_read, same_state}
use Rattle.state_blobs.proofs.Places.{length-body_in, first_are}

-- so much of the body was read
abbrev pub IsRead : Kind → Fields → List ℕ → Type 0
IsRead kind f bytes = drop 9 bytes ≡ take (length bytes - 9) (body_in kind f)

-- of a gather of this kind
pub of_kind : (kind as_kind : Kind) (f : Fields) (bytes : List ℕ) → kind ≡ as_kind → IsRead kind f bytes → IsRead as_kind f bytes
of_kind kind as_kind f bytes same read = read ∙ ap (λ (k : Kind). take (length bytes - 9) (body_in k f)) same

-- ---- a permanent blob

pub permanent_body_read : (kind : Kind) (f : Fields) (bytes : List ℕ) → kind ≡ Permanent → AreValid f → IsRead kind f bytes → length bytes ≡ 49 → drop 9 bytes ≡ body_in Permanent f
permanent_body_read kind f bytes same valid read size = of_kind kind Permanent f bytes same read ∙ take_all (length bytes - 9) (body_in Permanent f) (omega (arith, size, length-body_in Permanent f valid))

pub seed_field : (f : Fields) (bytes : List ℕ) → AreValid f → drop 9 bytes ≡ body_in Permanent f → f.seed ≡ slice bytes 9 32
seed_field f bytes valid body = sym (ap (take 32) body ∙ take_at f.seed (long f.boots) 32 valid.seed)

pub boots_field : (f : Fields) (bytes : List ℕ) → AreValid f → drop 9 bytes ≡ body_in Permanent f → f.boots ≡ from_be_bytes w64 (slice bytes 41 8)
boots_field f bytes valid body =
    let behind : drop 41 bytes ≡ long f.boots = sym (drop-drop 32 9 bytes) ∙ ap (drop 32) body ∙ drop_at f.seed (long f.boots) 32 valid.seed in
    sym (ap (λ (rest : List ℕ). from_be_bytes w64 (take 8 rest)) behind ∙ from_be_bytes-to_be_bytes_8 f.boots valid.boots)

-- ---- behind a flag

pub flag_field : (kind : Kind) (f : Fields) (bytes : List ℕ) → (kind ≡ Volatile) ⊎ (kind ≡ Saved) → IsRead kind f bytes → 9 < length bytes → get_or bytes 9 0 ≡ f.flag
flag_field kind f bytes kinds read lt =
    sym (get_or-drop 9 bytes 0 0)
    ∙ ap (λ (body : List ℕ). get_or body 0 0) read
    ∙ get_or-take (length bytes - 9) (body_in kind f) 0 0 (omega (arith, lt))
    ∙ elim kinds [
      | inl e ↦ ap (λ (k : Kind). get_or (body_in k f) 0 0) e
      | inr e ↦ ap (λ (k : Kind). get_or (body_in k f) 0 0) e
    ]

-- the counter and so many registers are these, in the banks that are there
pub record AreCounted (banks : Banks) (n : ℕ) (f : Fields) (counter : ℕ) (bank : Algorithm → List (List ℕ)) : Type 0 where
  pub counter_is : f.counter ≡ counter
  pub registers : (a : Algorithm) → has_bank banks a ≡ true → take n (bank_in a f) ≡ bank a

pub counted_are : (banks : Banks) (n : ℕ) (f : Fields) (counter : ℕ) (bank : Algorithm → List (List ℕ)) → AreCounted banks n f counter bank → counted_in banks n f ≡ counted banks counter bank
counted_are banks n f counter bank are = ap (λ (c : ℕ). counted banks c (λ a. take n (bank_in a f))) are.counter_is ∙ counted_alike banks counter (λ a. take n (bank_in a f)) bank are.registers

-- what was read of the counter and the registers of all banks is those that are there
counted_read : (banks : Banks) (n m : ℕ) (f : Fields) → n ≤ 24 → AreValid f → m ≡ 4 + n * width banks → take m (counted_in Two n f) ≡ counted_in banks n f
counted_read banks n m f le valid is =
    ap (λ (k : ℕ). take k (counted_in Two n f)) is ∙ counted_prefix banks f.counter n (λ a. take n (bank_in a f)) (first_are n f le valid)

-- a started TPM's
pub running_body_read : (kind : Kind) (f : Fields) (bytes : List ℕ) (v : TpmParts) → kind ≡ Volatile → AreValid f → IsRead kind f bytes → IsValid v → EncodesVolatile bytes v → v.started ≡ true
    → (f.flag ∷ long f.draws) ++ counted_in v.banks 24 f ≡ (1 ∷ long v.draws) ++ counted v.banks v.counter (λ a. bank_of a v)
running_body_read kind f bytes v same valid read fit exact on =
    let size : length bytes - 9 ≡ 9 + (4 + 24 * width v.banks) = omega (arith, volatile_size v bytes fit exact on, volatile_width v.banks) in
    sym (of_kind kind Volatile f bytes same read
    ∙ ap (λ (n : ℕ). take n (body_in Volatile f)) size
    ∙ take-append-add (f.flag ∷ long f.draws) (counted_in Two 24 f) (4 + 24 * width v.banks)
    ∙ ap (λ (rest : List ℕ). (f.flag ∷ long f.draws) ++ rest) (counted_read v.banks 24 (4 + 24 * width v.banks) f (omega arith) valid refl))
    ∙ volatile_read v bytes exact on

pub draws_field : (kind : Kind) (f : Fields) (bytes : List ℕ) (v : TpmParts) → kind ≡ Volatile → AreValid f → IsRead kind f bytes → IsValid v → EncodesVolatile bytes v → v.started ≡ true → f.draws ≡ v.draws
draws_field kind f bytes v same valid read fit exact on =
    sym (from_be_bytes-to_be_bytes_8 f.draws valid.draws)
    ∙ ap (λ (body : List ℕ). from_be_bytes w64 (take 8 (drop 1 body))) (running_body_read kind f bytes v same valid read fit exact on)
    ∙ from_be_bytes-to_be_bytes_8 v.draws fit.draws

pub running_fields : (kind : Kind) (f : Fields) (bytes : List ℕ) (v : TpmParts) → kind ≡ Volatile → AreValid f → IsRead kind f bytes → IsValid v → EncodesVolatile bytes v → v.started ≡ true
    → AreCounted v.banks 24 f v.counter (λ a. bank_of a v)
running_fields kind f bytes v same valid read fit exact on =
    let both = counted_same v.banks f.counter v.counter 24 (λ a. take 24 (bank_in a f)) (λ a. bank_of a v) valid.counter fit.counter (first_are 24 f (omega arith) valid) (banks_are v fit)
    (ap (drop 9) (running_body_read kind f bytes v same valid read fit exact on)) in
    record { counter_is = both.0; registers = both.1 }

-- a saved state's
saved_counted : (kind : Kind) (f : Fields) (bytes : List ℕ) (v : TpmParts) (state : SavedParts) → kind ≡ Saved → AreValid f → IsRead kind f bytes → IsValid v → EncodesSaved bytes v → v.saved ≡ Some state
    → f.flag ∷ counted_in v.banks 16 f ≡ 1 ∷ counted v.banks state.counter (λ a. kept_bank_of a state)
saved_counted kind f bytes v state same valid read fit exact is =
    let there : is_some v.saved ≡ true = ap (λ (s : Option SavedParts). is_some s) is in
    let size : length bytes - 9 ≡ 1 + (4 + 16 * width v.banks) = omega (arith, saved_size v bytes fit exact there, saved_width v.banks) in
    sym (of_kind kind Saved f bytes same read
    ∙ ap (λ (n : ℕ). take n (body_in Saved f)) size
    ∙ take-append-add (f.flag ∷ []) (counted_in Two 16 f) (4 + 16 * width v.banks)
    ∙ ap (λ (rest : List ℕ). f.flag ∷ rest) (counted_read v.banks 16 (4 + 16 * width v.banks) f (omega arith) valid refl))
    ∙ state_read v state bytes exact is

pub saved_fields : (kind : Kind) (f : Fields) (bytes : List ℕ) (v : TpmParts) (state : SavedParts) → kind ≡ Saved → AreValid f → IsRead kind f bytes → IsValid v → EncodesSaved bytes v → v.saved ≡ Some state → IsKept state
    → AreCounted v.banks 16 f state.counter (λ a. kept_bank_of a state)
saved_fields kind f bytes v state same valid read fit exact is kept =
    let both = counted_same v.banks f.counter state.counter 16 (λ a. take 16 (bank_in a f)) (λ a. kept_bank_of a state) valid.counter kept.counter (first_are 16 f (omega arith) valid) (kept_are state kept)
    (ap (drop 1) (saved_counted kind f bytes v state same valid read fit exact is)) in
    record { counter_is = both.0; registers = both.1 }

-- ---- the values that are made of them

-- registers that were read, or zeros
pub if_there : (banks : Banks) (a : Algorithm) (n : ℕ) (registers wanted : List (List ℕ)) → (has_bank banks a ≡ true → registers ≡ wanted) → (has_bank banks a ≡ false → wanted ≡ replicate n (zeros (digest_size a)))
    → registers_if_there banks a n registers ≡ wanted
if_there banks a n registers wanted there missing = of_either (has_bank banks a) there missing
  where
    of_either : (b : Bool) → (b ≡ true → registers ≡ wanted) → (b ≡ false → wanted ≡ replicate n (zeros (digest_size a))) → cond b registers (replicate n (zeros (digest_size a))) ≡ wanted
    of_either true p q = p refl
    of_either false p q = sym (q refl)

blank_is : (a : Algorithm) → blank_bank a ≡ replicate 24 (zeros (digest_size a))
unfolding blank_bank
blank_is a = refl

kept_blank_is : (a : Algorithm) → blank_kept a ≡ replicate 16 (zeros (digest_size a))
unfolding blank_kept
kept_blank_is a = refl

same_running : (r s : Running) → r.draws ≡ s.draws → r.counter ≡ s.counter → r.pcr ≡ s.pcr → r.pcr384 ≡ s.pcr384 → r ≡ s
same_running r s a b c d =
    ap (λ (x : ℕ). record r { draws = x }) a
    ∙ ap (λ (x : ℕ). record r { draws = s.draws; counter = x }) b
    ∙ ap (λ (x : List (List ℕ)). record s { pcr = x; pcr384 = r.pcr384 }) c
    ∙ ap (λ (x : List (List ℕ)). record s { pcr384 = x }) d

-- a running TPM's
pub running_is : (v : TpmParts) (r : Running) → v.started ≡ true → r.draws ≡ v.draws → r.counter ≡ v.counter → r.pcr ≡ v.pcr → r.pcr384 ≡ v.pcr384 → Some r ≡ running_in v
running_is v r on a b c d =
    ap (λ (x : Running). Some x) (same_running r (record { draws = v.draws; counter = v.counter; pcr = v.pcr; pcr384 = v.pcr384 }) a b c d)
    ∙ sym (ap (λ (b : Bool). cond b (Some (record { draws = v.draws; counter = v.counter; pcr = v.pcr; pcr384 = v.pcr384 })) None) on)

pub bank_read : (v : TpmParts) (f : Fields) (banks : Banks) → IsValid v → AreValid f → banks ≡ v.banks → AreCounted v.banks 24 f v.counter (λ a. bank_of a v) → (a : Algorithm) → registers_if_there banks a 24 (bank_in a f) ≡ bank_of a v
bank_read v f banks fit valid same are a =
    ap (λ (b : Banks). registers_if_there b a 24 (bank_in a f)) same
    ∙ if_there v.banks a 24 (bank_in a f) (bank_of a v) (λ there. sym (take_all 24 (bank_in a f) (omega (arith, valid.count a))) ∙ are.registers a there) (λ missing. fit.missing a missing ∙ blank_is a)

pub kept_read : (state : SavedParts) (f : Fields) (banks own : Banks) → banks ≡ own → MissingAreBlankInState own state → AreCounted own 16 f state.counter (λ a. kept_bank_of a state)
    → (a : Algorithm) → registers_if_there banks a 16 (take 16 (bank_in a f)) ≡ kept_bank_of a state
kept_read state f banks own same blank are a =
    ap (λ (b : Banks). registers_if_there b a 16 (take 16 (bank_in a f))) same
    ∙ if_there own a 16 (take 16 (bank_in a f)) (kept_bank_of a state) (are.registers a) (λ missing. blank a missing ∙ kept_blank_is a)

-- a saved state
pub state_is : (kind : Kind) (f : Fields) (bytes : List ℕ) (v : TpmParts) (banks : Banks) (r : SavedParts) → kind ≡ Saved → AreValid f → IsRead kind f bytes → IsValid v → EncodesSaved bytes v → banks ≡ v.banks
    → r.counter ≡ f.counter → r.pcr ≡ registers_if_there banks Sha256 16 (take 16 f.pcr) → r.pcr384 ≡ registers_if_there banks Sha384 16 (take 16 f.pcr384)
    → (saved : Option SavedParts) → v.saved ≡ saved → is_some saved ≡ true → IfSome saved IsKept → IfSome saved (MissingAreBlankInState v.banks) → Some r ≡ saved
state_is kind f bytes v banks r same valid read fit exact own counter pcr pcr384 None is there kept blank = absurd cc
state_is kind f bytes v banks r same valid read fit exact own counter pcr pcr384 (Some state) is there kept blank =
    let are = saved_fields kind f bytes v state same valid read fit exact is kept in
    let registers = kept_read state f banks v.banks own blank are in
    ap (λ (x : SavedParts). Some x) (same_state r state (counter ∙ are.counter_is) (by_algorithm (λ a. kept_bank_of a r ≡ kept_bank_of a state) (pcr ∙ registers Sha256) (pcr384 ∙ registers Sha384)))

pub stopped_read : (v : TpmParts) (bytes : List ℕ) → EncodesVolatile bytes v → eqb (get_or bytes 9 0) 1 ≡ false → running_in v ≡ None
stopped_read v bytes exact flag =
    let off : v.started ≡ false = sym (started_read v bytes exact) ∙ flag in
    ap (λ (b : Bool). cond b (Some (record { draws = v.draws; counter = v.counter; pcr = v.pcr; pcr384 = v.pcr384 })) None) off
