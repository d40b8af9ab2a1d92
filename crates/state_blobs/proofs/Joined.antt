-- A TPM put together from three blobs.
use Rattle.std.proofs.Common.{◌≡◌, ℕ, ◌+◌, ◌≤◌, Bool, true, false, cond, eqb, List, [], ◌∷◌, ◌++◌, length, take, drop, get_or, Option, Some, None, refl, sym, ap, subst, ◌∙◌, arith, inl, inr}
use Rattle.std.specs.Prelude.{IfSome, IsSome, is_some}
use Rattle.std.proofs.lemmas.List.{length-append, length-take, length-drop, get_or-append-add, get_or-drop, drop-drop, take-take}
use Rattle.std.proofs.Math.Seq.{take-add, take-append-add}
use Rattle.vt_base.specs.Numbers.{long}
use Rattle.vt_base.specs.declared.types.Kind.{Kind}
use Rattle.vt_base.specs.declared.types.Kind.TheVariants.{Permanent, Volatile, Saved}
use Rattle.tpm_core.specs.declared.algorithm.Algorithm.{Algorithm}
use Rattle.tpm_core.specs.declared.algorithm.Algorithm.TheVariants.{Sha256, Sha384}
use Rattle.tpm_core.specs.declared.algorithm.Banks.{Banks}
use Rattle.tpm_core.specs.declared.parts.SavedParts.{SavedParts}
use Rattle.tpm_core.specs.declared.parts.TpmParts.{TpmParts}
use Rattle.tpm_core.specs.Algorithms.{has_bank}
use Rattle.tpm_core.specs.Banks.{blank_bank, bank_of, kept_bank_of, MissingAreBlankInState}
use Rattle.tpm_core.specs.Answers.{kept}
use Rattle.tpm_core.specs.Steps.{IsValid, IsKept, IsConsistent}
use Rattle.state_blobs.specs.declared.body_fields.Fields.{Fields}
use Rattle.state_blobs.specs.declared.read.Running.{Running}
use Rattle.state_blobs.specs.Numbers.{version_of, saved_length}
use Rattle.state_blobs.specs.Encodings.{header_of, with_header, counted, saved_body, encode_blob, IsBlob}
use Rattle.state_blobs.specs.Partial.{bank_in, kept_in, AreValid}
use Rattle.state_blobs.specs.Refusals.{FirstDiffersAt}
use Rattle.state_blobs.specs.Assembly.{EncodesVolatile, EncodesSaved, IsNoneOrBlob, IsOfVersion, IsNoneOrOfVersion, IsAssembled, Disagrees, version_in}
use Rattle.state_blobs.specs.Reading.{running_in, parts_with}
use Rattle.state_blobs.proofs.Widths.{by_algorithm, in_each, banks_are, kept_are, AreBanks-take, counted_alike, counted_same, kept_of_blank}
use Rattle.state_blobs.proofs.Bodies.{saved_width, length-kept, stopped_with, zero_seed, fit_stopped}
use Rattle.state_blobs.proofs.Fields.{decoded_running, decoded_saved, saved_size, same_state, started_read, saved_read, no_state_read, version_encoded, banks_read, state_read}
use Rattle.state_blobs.proofs.Values.{IsRead, counted_are, running_fields, saved_fields}

-- the values of one, what a second has while it runs, and the saved state of a third
abbrev joined : TpmParts → TpmParts → TpmParts → TpmParts
joined a b c = record { seed = a.seed; banks = a.banks; boots = a.boots; draws = b.draws; started = b.started; pcr = b.pcr; pcr384 = b.pcr384; counter = b.counter; saved = c.saved }

joined_bank : (a b c : TpmParts) (x : Algorithm) → bank_of x (joined a b c) ≡ bank_of x b
joined_bank a b c = by_algorithm (λ x. bank_of x (joined a b c) ≡ bank_of x b) refl refl

joined_running : (b : TpmParts) (seed : List ℕ) (banks : Banks) (boots : ℕ) (saved : Option SavedParts) → IsValid b → (on : Bool) → b.started ≡ on
    → parts_with seed banks boots (cond on (Some (record { draws = b.draws; counter = b.counter; pcr = b.pcr; pcr384 = b.pcr384 })) None) saved
    ≡ record { seed = seed; banks = banks; boots = boots; draws = b.draws; started = on; pcr = b.pcr; pcr384 = b.pcr384; counter = b.counter; saved = saved }
joined_running b seed banks boots saved fit true on = refl
joined_running b seed banks boots saved fit false off =
    let s = fit.stopped off in
    let v : TpmParts = record { seed = seed; banks = banks; boots = boots; draws = b.draws; started = false; pcr = b.pcr; pcr384 = b.pcr384; counter = b.counter; saved = saved } in
    sym (ap (λ (x : ℕ). record v { draws = x }) s.draws
    ∙ ap (λ (x : List (List ℕ)). record v { draws = 0; pcr = x }) (s.blank Sha256)
    ∙ ap (λ (x : List (List ℕ)). record v { draws = 0; pcr = blank_bank Sha256; pcr384 = x }) (s.blank Sha384)
    ∙ ap (λ (x : ℕ). record v { draws = 0; pcr = blank_bank Sha256; pcr384 = blank_bank Sha384; counter = x }) s.counter)

pub parts_are : (a b c : TpmParts) (seed : List ℕ) (banks : Banks) (boots : ℕ) (running : Option Running) (saved : Option SavedParts) → IsValid b → seed ≡ a.seed → banks ≡ a.banks → boots ≡ a.boots → running ≡ running_in b
    → saved ≡ c.saved → parts_with seed banks boots running saved ≡ joined a b c
parts_are a b c seed banks boots running saved fit p q r s t = rw (p, q, r, s, t) (joined_running b a.seed a.banks a.boots c.saved fit b.started refl)

pub joined_is_consistent : (a b c : TpmParts) → IsValid b → IsValid c → b.banks ≡ a.banks → c.banks ≡ a.banks → (b.started ≡ true → IfSome c.saved (λ state. state ≡ kept b)) → IsConsistent (joined a b c)
joined_is_consistent a b c fit fit_too same same_too agrees = record {
  missing = λ x none. joined_bank a b c x ∙ fit.missing x (ap (λ (banks : Banks). has_bank banks x) same ∙ none);
  kept_missing = subst (λ (banks : Banks). IfSome c.saved (MissingAreBlankInState banks)) same_too fit_too.kept_missing;
  stopped = λ off. record { draws = (fit.stopped off).draws; counter = (fit.stopped off).counter; blank = λ x. joined_bank a b c x ∙ (fit.stopped off).blank x };
  kept_agrees = λ on. agrees on;
}

-- the blobs of values that have the same banks
volatile_alike : (a b c : TpmParts) → b.banks ≡ a.banks → encode_blob Volatile b ≡ encode_blob Volatile (joined a b c)
unfolding encode_blob
volatile_alike a b c same =
    ap (λ (banks : Banks). with_header Volatile banks (cond b.started ((1 ∷ long b.draws) ++ counted banks b.counter (λ x. bank_of x b)) (0 ∷ []))) same
    ∙ ap (λ (bytes : List ℕ). with_header Volatile a.banks (cond b.started ((1 ∷ long b.draws) ++ bytes) (0 ∷ [])))
    (sym (counted_alike a.banks b.counter (λ x. bank_of x (joined a b c)) (λ x. bank_of x b) (λ x there. joined_bank a b c x)))

saved_alike : (a b c : TpmParts) → c.banks ≡ a.banks → encode_blob Saved c ≡ encode_blob Saved (joined a b c)
unfolding encode_blob
saved_alike a b c same = ap (λ (banks : Banks). with_header Saved banks (saved_body banks c.saved)) same

encodes_volatile : (a b c : TpmParts) (bytes : List ℕ) → b.banks ≡ a.banks → EncodesVolatile bytes b → EncodesVolatile bytes (joined a b c)
encodes_volatile a b c bytes same (inl is) = inl (is ∙ volatile_alike a b c same)
encodes_volatile a b c bytes same (inr (none, off)) = inr (none, off)

encodes_saved : (a b c : TpmParts) (bytes : List ℕ) → c.banks ≡ a.banks → EncodesSaved bytes c → EncodesSaved bytes (joined a b c)
encodes_saved a b c bytes same (inl is) = inl (is ∙ saved_alike a b c same)
encodes_saved a b c bytes same (inr (none, gone)) = inr (none, gone)

permanent_alike : (a b c : TpmParts) → encode_blob Permanent a ≡ encode_blob Permanent (joined a b c)
unfolding encode_blob
permanent_alike a b c = refl

-- ---- the saved state against the registers

pub differs_behind : (n i : ℕ) (bytes wanted : List ℕ) → n ≤ length bytes → FirstDiffersAt i (drop n bytes) wanted → FirstDiffersAt (n + i) bytes (take n bytes ++ wanted)
differs_behind n i bytes wanted le first =
    let size : length (take n bytes) ≡ n = omega (arith, length-take n bytes, le) in
    record {
      there = omega (arith, first.there, length-drop n bytes);
      named = omega (arith, first.named, size, length-append (take n bytes) wanted);
      same =
          take-add n i bytes ∙ ap (λ (prefix : List ℕ). take n bytes ++ prefix) first.same
          ∙ sym (ap (λ (k : ℕ). take (k + i) (take n bytes ++ wanted)) (sym size) ∙ take-append-add (take n bytes) wanted i);
      differs = λ e. first.differs (get_or-drop n bytes i 0 ∙ e ∙ ap (λ (k : ℕ). get_or (take n bytes ++ wanted) (k + i) 0) (sym size) ∙ get_or-append-add (take n bytes) wanted i 0);
    }

-- what a shutdown of a started TPM would keep
kept_now : (v : TpmParts) (a : Algorithm) → kept_bank_of a (kept v) ≡ take 16 (bank_of a v)
kept_now v = by_algorithm (λ a. kept_bank_of a (kept v) ≡ take 16 (bank_of a v)) refl refl

-- the fields of its volatile blob
pub kept_running : (kind : Kind) (f : Fields) (bytes : List ℕ) (v : TpmParts) → kind ≡ Volatile → AreValid f → IsRead kind f bytes → IsValid v → EncodesVolatile bytes v → v.started ≡ true
    → kept_in v.banks f ≡ counted v.banks v.counter (λ a. kept_bank_of a (kept v))
kept_running kind f bytes v same valid read fit exact on =
    let are = running_fields kind f bytes v same valid read fit exact on in
    let first : (a : Algorithm) → has_bank v.banks a ≡ true → take 16 (bank_in a f) ≡ kept_bank_of a (kept v) =
    λ a there. sym (take-take 16 24 (bank_in a f) (omega arith)) ∙ ap (take 16) (are.registers a there) ∙ sym (kept_now v a) in
    counted_are v.banks 16 f v.counter (λ a. kept_bank_of a (kept v)) (record { counter_is = are.counter_is; registers = first })

-- those of the blob of a saved state
pub kept_saved : (kind : Kind) (f : Fields) (bytes : List ℕ) (v : TpmParts) (state : SavedParts) → kind ≡ Saved → AreValid f → IsRead kind f bytes → IsValid v → EncodesSaved bytes v → v.saved ≡ Some state → IsKept state
    → kept_in v.banks f ≡ counted v.banks state.counter (λ a. kept_bank_of a state)
kept_saved kind f bytes v state same valid read fit exact is kept =
    counted_are v.banks 16 f state.counter (λ a. kept_bank_of a state) (saved_fields kind f bytes v state same valid read fit exact is kept)

-- what a shutdown keeps of fit values can be kept
kept_fits : (v : TpmParts) → IsValid v → IsKept (kept v)
kept_fits v fit =
    let first = AreBanks-take 16 24 (λ a. bank_of a v) (omega arith) (banks_are v fit) in
    record {
      counter = fit.counter;
      registers = λ a. ap length (kept_now v a) ∙ first.count a;
      width = λ a i lt. ap (λ (values : List (List ℕ)). length (get_or values i [])) (kept_now v a) ∙ first.size a i (omega (arith, lt, first.count a));
    }

-- a state whose bytes are those of now is that of now
state_agrees : (v : TpmParts) (state : SavedParts) (own : Banks) → IsValid v → IsKept state → own ≡ v.banks → MissingAreBlankInState own state
    → counted v.banks state.counter (λ a. kept_bank_of a state) ≡ counted v.banks v.counter (λ a. kept_bank_of a (kept v)) → state ≡ kept v
state_agrees v state own fit are same blank bytes =
    let both = counted_same v.banks state.counter v.counter 16 (λ a. kept_bank_of a state) (λ a. kept_bank_of a (kept v)) are.counter fit.counter (kept_are state are) (kept_are (kept v) (kept_fits v fit)) bytes in
    same_state state (kept v) both.0
    (in_each v.banks (λ a. kept_bank_of a state ≡ kept_bank_of a (kept v)) both.1
    (λ a missing. blank a (ap (λ (banks : Banks). has_bank banks a) same ∙ missing) ∙ sym (kept_now v a ∙ ap (take 16) (fit.missing a missing) ∙ kept_of_blank a)))

-- ---- the blob that a saved state has

some_text : (z : TpmParts) (state : SavedParts) → z.saved ≡ Some state → encode_blob Saved z ≡ with_header Saved z.banks (1 ∷ counted z.banks state.counter (λ a. kept_bank_of a state))
unfolding encode_blob
some_text z state is = ap (λ (saved : Option SavedParts). with_header Saved z.banks (saved_body z.banks saved)) is

header_read : (z : TpmParts) (state : SavedParts) (bytes : List ℕ) → bytes ≡ encode_blob Saved z → z.saved ≡ Some state → IsKept state → take 10 bytes ≡ header_of Saved z.banks (saved_length z.banks) ++ 1 ∷ []
header_read z state bytes is there fits = ap (take 10) (is ∙ some_text z state there) ∙ ap (λ (n : ℕ). header_of Saved z.banks n ++ 1 ∷ []) (length-kept z.banks state fits)

agreeing_text : (v : TpmParts) → IsValid v → encode_blob Saved (record v { saved = Some (kept v) }) ≡ (header_of Saved v.banks (saved_length v.banks) ++ 1 ∷ []) ++ counted v.banks v.counter (λ a. kept_bank_of a (kept v))
unfolding encode_blob
agreeing_text v fit = ap (λ (n : ℕ). (header_of Saved v.banks n ++ 1 ∷ []) ++ counted v.banks v.counter (λ a. kept_bank_of a (kept v))) (length-kept v.banks (kept v) (kept_fits v fit))

is_there : (saved : Option SavedParts) → is_some saved ≡ true → IsSome saved
is_there None e = absurd cc
is_there (Some state) e = refl

-- ---- the fields of two blobs

-- the fields of two blobs of a version
pub record AreFields (banks : Banks) (volatile saved : List ℕ) (running state : Fields) : Type 0 where
  pub running_valid : AreValid running
  pub running_read : IsRead Volatile running volatile
  pub running_version : version_in volatile ≡ version_of banks
  pub state_valid : AreValid state
  pub state_read : IsRead Saved state saved
  pub state_version : version_in saved ≡ version_of banks

module _ (banks : Banks) (volatile saved : List ℕ) (f g : Fields) (are : AreFields banks volatile saved f g) where
  -- the fields of the running TPM, by its values
  running_in_banks : (v : TpmParts) → IsValid v → volatile ≡ encode_blob Volatile v → v.started ≡ true → (v.banks ≡ banks) × (kept_in banks f ≡ counted banks v.counter (λ a. kept_bank_of a (kept v)))
  running_in_banks v fit is on =
      let same : v.banks ≡ banks = sym (banks_read Volatile v volatile banks is are.running_version) in (
        same,
        subst (λ (b : Banks). kept_in b f ≡ counted b v.counter (λ a. kept_bank_of a (kept v))) same (kept_running Volatile f volatile v refl are.running_valid are.running_read fit (inl is) on),
      )

  saved_in_banks : (z : TpmParts) (state : SavedParts) → IsValid z → saved ≡ encode_blob Saved z → z.saved ≡ Some state → IsKept state
      → (z.banks ≡ banks) × (kept_in banks g ≡ counted banks state.counter (λ a. kept_bank_of a state))
  saved_in_banks z state fit is there kept =
      let same : z.banks ≡ banks = sym (banks_read Saved z saved banks is are.state_version) in (
        same,
        subst (λ (b : Banks). kept_in b g ≡ counted b state.counter (λ a. kept_bank_of a state)) same (kept_saved Saved g saved z state refl are.state_valid are.state_read fit (inl is) there kept),
      )

  agrees_with : (v z : TpmParts) (state : Option SavedParts) → kept_in banks g ≡ kept_in banks f → IsValid v → EncodesVolatile volatile v → IsValid z → EncodesSaved saved z → v.started ≡ true → z.saved ≡ state
      → IfSome state IsKept → IfSome state (MissingAreBlankInState z.banks) → IfSome state (λ state. state ≡ kept v)
  agrees_with v z None same fit exact fit_too exact_too on is fits blank = tt
  agrees_with v z (Some state) same fit exact fit_too exact_too on is fits blank =
      let there : is_some z.saved ≡ true = ap (λ (s : Option SavedParts). is_some s) is in
      let running = running_in_banks v fit (decoded_running v volatile exact on) on in
      let kept_too = saved_in_banks z state fit_too (decoded_saved z saved exact_too there) is fits in
      state_agrees v state z.banks fit fits (kept_too.0 ∙ sym running.0) blank
      (subst (λ (b : Banks). counted b state.counter (λ a. kept_bank_of a state) ≡ counted b v.counter (λ a. kept_bank_of a (kept v))) (sym running.0) (sym kept_too.1 ∙ same ∙ running.1))

  pub fields_agree : kept_in banks g ≡ kept_in banks f → (v z : TpmParts) → IsValid v → EncodesVolatile volatile v → IsValid z → EncodesSaved saved z → v.started ≡ true → IfSome z.saved (λ state. state ≡ kept v)
  fields_agree same v z fit exact fit_too exact_too on = agrees_with v z z.saved same fit exact fit_too exact_too on refl fit_too.kept_fits fit_too.kept_missing

  -- where they differ
  saved_text : (z : TpmParts) (state : SavedParts) → IsValid z → saved ≡ encode_blob Saved z → z.saved ≡ Some state → drop 10 saved ≡ counted z.banks state.counter (λ a. kept_bank_of a state)
  saved_text z state fit is there = sym (drop-drop 1 9 saved) ∙ ap (drop 1) (state_read z state saved (inl is) there)

  disagrees_with : (i : ℕ) (v z : TpmParts) (state : Option SavedParts) → FirstDiffersAt i (kept_in banks g) (kept_in banks f) → IsValid v → volatile ≡ encode_blob Volatile v → v.started ≡ true → IsValid z → saved ≡ encode_blob Saved z
      → z.saved ≡ state → is_some state ≡ true → IfSome state IsKept → FirstDiffersAt (10 + i) saved (encode_blob Saved (record v { saved = Some (kept v) }))
  disagrees_with i v z None first fit is on fit_too is_too there some fits = absurd cc
  disagrees_with i v z (Some state) first fit is on fit_too is_too there some fits =
      let running = running_in_banks v fit is on in
      let kept_too = saved_in_banks z state fit_too is_too there fits in
      let behind : drop 10 saved ≡ kept_in banks g =
      saved_text z state fit_too is_too there ∙ ap (λ (b : Banks). counted b state.counter (λ a. kept_bank_of a state)) kept_too.0 ∙ sym kept_too.1 in
      let long_enough : 10 ≤ length saved = omega (arith, saved_size z saved fit_too (inl is_too) (ap (λ (s : Option SavedParts). is_some s) there), saved_width z.banks) in
      let moved = differs_behind 10 i saved (kept_in banks f) long_enough (subst (λ (bytes : List ℕ). FirstDiffersAt i bytes (kept_in banks f)) (sym behind) first) in
      subst (FirstDiffersAt (10 + i) saved)
      (ap (λ (bytes : List ℕ). take 10 saved ++ bytes) running.1
      ∙ ap (λ (front : List ℕ). front ++ counted banks v.counter (λ a. kept_bank_of a (kept v))) (header_read z state saved is_too there fits ∙ ap (λ (b : Banks). header_of Saved b (saved_length b) ++ 1 ∷ []) (kept_too.0 ∙ sym running.0))
      ∙ ap (λ (b : Banks). (header_of Saved v.banks (saved_length v.banks) ++ 1 ∷ []) ++ counted b v.counter (λ a. kept_bank_of a (kept v))) (sym running.0)
      ∙ sym (agreeing_text v fit)) moved

  pub fields_disagree : (i : ℕ) → FirstDiffersAt i (kept_in banks g) (kept_in banks f) → IsBlob Volatile volatile → IsBlob Saved saved → eqb (get_or volatile 9 0) 1 ≡ true → eqb (get_or saved 9 0) 1 ≡ true
      → Disagrees (10 + i) volatile saved
  fields_disagree i first v z on there =
      let started : v.values.started ≡ true = sym (started_read v.values volatile (inl v.spelled)) ∙ on in
      let some : is_some z.values.saved ≡ true = sym (saved_read z.values saved (inl z.spelled)) ∙ there in
      record {
        running = v.values;
        is_fit = v.fit;
        is_started = started;
        is_volatile = v.spelled;
        saving = z.values;
        is_fit_too = z.fit;
        is_there = is_there z.values.saved some;
        is_saved = z.spelled;
        first = disagrees_with i v.values z.values z.values.saved first v.fit v.spelled started z.fit z.spelled refl some z.fit.kept_fits;
      }

pub none_agrees : (v z : TpmParts) (saved : List ℕ) → eqb (get_or saved 9 0) 1 ≡ false → EncodesSaved saved z → IfSome z.saved (λ state. state ≡ kept v)
none_agrees v z saved flag exact = subst (λ (state : Option SavedParts). IfSome state (λ state. state ≡ kept v)) (sym (no_state_read z saved exact flag)) tt

-- ---- versions

-- a flag of 1 is that of a blob
pub of_version_there : (kind : Kind) (version : ℕ) (bytes : List ℕ) → IsNoneOrOfVersion kind version bytes → eqb (get_or bytes 9 0) 1 ≡ true → IsOfVersion kind version bytes
of_version_there kind version bytes (inl none) on = let off : eqb (get_or bytes 9 0) 1 ≡ false = ap (λ (b : List ℕ). eqb (get_or b 9 0) 1) none in absurd cc
of_version_there kind version bytes (inr is) on = is

-- a blob of a version is a blob
pub some_blob : (kind : Kind) (version : ℕ) (bytes : List ℕ) → IsNoneOrOfVersion kind version bytes → IsNoneOrBlob kind bytes
some_blob kind version bytes (inl none) = inl none
some_blob kind version bytes (inr is) = inr is.0

-- what is begun is a blob
pub blob_if_begun : (kind : Kind) (bytes : List ℕ) → IsNoneOrBlob kind bytes → (bytes ≡ [] → ⊥) → IsBlob kind bytes
blob_if_begun kind bytes (inl none) begun = absurd (begun none)
blob_if_begun kind bytes (inr is) begun = is

-- ---- some values that are decoded

-- values of which something is decoded, with these banks
pub record Decoded (banks : Banks) (P : TpmParts → Type 0) : Type 0 where
  pub values : TpmParts
  pub fit : IsValid values
  pub own : values.banks ≡ banks
  pub exact : P values

nothing_decoded : (banks : Banks) → IsValid (stopped_with zero_seed banks 0 None)
nothing_decoded banks = fit_stopped zero_seed banks 0 None refl (omega arith) tt tt

pub volatile_decoded : (banks : Banks) (bytes : List ℕ) → IsNoneOrOfVersion Volatile (version_of banks) bytes → Decoded banks (EncodesVolatile bytes)
volatile_decoded banks bytes (inl none) = record { values = stopped_with zero_seed banks 0 None; fit = nothing_decoded banks; own = refl; exact = inr (none, refl) }
volatile_decoded banks bytes (inr is) = record { values = is.0.values; fit = is.0.fit; own = sym (banks_read Volatile is.0.values bytes banks is.0.spelled is.1); exact = inl is.0.spelled }

pub saved_decoded : (banks : Banks) (bytes : List ℕ) → IsNoneOrOfVersion Saved (version_of banks) bytes → Decoded banks (EncodesSaved bytes)
saved_decoded banks bytes (inl none) = record { values = stopped_with zero_seed banks 0 None; fit = nothing_decoded banks; own = refl; exact = inr (none, refl) }
saved_decoded banks bytes (inr is) = record { values = is.0.values; fit = is.0.fit; own = sym (banks_read Saved is.0.values bytes banks is.0.spelled is.1); exact = inl is.0.spelled }

-- what holds of a started TPM and of a saved state that are decoded
abbrev pub Agree : List ℕ → List ℕ → Type 0
Agree volatile saved = (v z : TpmParts) → IsValid v → EncodesVolatile volatile v → IsValid z → EncodesSaved saved z → v.started ≡ true → IfSome z.saved (λ state. state ≡ kept v)

-- What is read of three blobs that agree is put together to the one TPM whose blobs they are.
pub put_together : (permanent volatile saved : List ℕ) (seed : List ℕ) (banks : Banks) (boots : ℕ) (running : Option Running) (state : Option SavedParts) (parts : TpmParts)
    → IsBlob Permanent permanent → IsNoneOrOfVersion Volatile (version_in permanent) volatile → IsNoneOrOfVersion Saved (version_in permanent) saved → Agree volatile saved
    → ((v : TpmParts) → IsValid v → permanent ≡ encode_blob Permanent v → seed ≡ v.seed)
    → ((v : TpmParts) → IsValid v → permanent ≡ encode_blob Permanent v → banks ≡ v.banks)
    → ((v : TpmParts) → IsValid v → permanent ≡ encode_blob Permanent v → boots ≡ v.boots)
    → ((v : TpmParts) → IsValid v → EncodesVolatile volatile v → running ≡ running_in v) → ((v : TpmParts) → IsValid v → EncodesSaved saved v → state ≡ v.saved)
    → parts ≡ parts_with seed banks boots running state → IsConsistent parts × (IsValid parts → IsAssembled permanent volatile saved parts)
put_together permanent volatile saved seed banks boots running state parts p v z agree seed_is banks_are boots_is running_is state_is are =
    let a = p.values in
    let version = version_encoded Permanent a permanent p.spelled in
    let b = volatile_decoded a.banks volatile (subst (λ (n : ℕ). IsNoneOrOfVersion Volatile n volatile) version v) in
    let c = saved_decoded a.banks saved (subst (λ (n : ℕ). IsNoneOrOfVersion Saved n saved) version z) in
    let same : parts ≡ joined a b.values c.values =
    are ∙ parts_are a b.values c.values seed banks boots running state b.fit (seed_is a p.fit p.spelled) (banks_are a p.fit p.spelled) (boots_is a p.fit p.spelled) (running_is b.values b.fit b.exact) (state_is c.values c.fit c.exact) in
    let consistent : IsConsistent (joined a b.values c.values) = joined_is_consistent a b.values c.values b.fit c.fit b.own c.own (agree b.values c.values b.fit b.exact c.fit c.exact) in (
      subst IsConsistent (sym same) consistent,
      λ fit. subst (IsAssembled permanent volatile saved) (sym same) (record {
        fit = subst IsValid same fit;
        is_permanent = p.spelled ∙ permanent_alike a b.values c.values;
        is_volatile = encodes_volatile a b.values c.values volatile b.own b.exact;
        is_saved = encodes_saved a b.values c.values saved c.own c.exact;
      }),
    )
