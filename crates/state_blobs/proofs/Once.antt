-- Blobs encode their values injectively.
use Rattle.std.proofs.Common.{◌≡◌, ℕ, ◌+◌, ◌≤◌, Bool, true, false, eqb, List, [], ◌∷◌, ◌++◌, length, take, drop, get_or, Option, Some, None, refl, sym, ap, subst, ◌∙◌, inl}
use Rattle.std.specs.Prelude.{IfSome, is_some, sum}
use Rattle.std.specs.List.{concat}
use Rattle.std.proofs.lemmas.List.{take_all, drop-drop}
use Rattle.std.proofs.lemmas.List.Sums.{sum_by-cons}
use Rattle.std.proofs.Math.Seq.{take-add}
use Rattle.vt_base.specs.declared.types.Kind.{Kind}
use Rattle.vt_base.specs.declared.types.Kind.TheVariants.{Permanent, Volatile, Saved}
use Rattle.tpm_core.specs.declared.algorithm.Algorithm.TheVariants.{Sha256, Sha384}
use Rattle.tpm_core.specs.declared.algorithm.Banks.{Banks}
use Rattle.tpm_core.specs.declared.parts.SavedParts.{SavedParts}
use Rattle.tpm_core.specs.declared.parts.TpmParts.{TpmParts}
use Rattle.tpm_core.specs.Algorithms.{has_bank}
use Rattle.tpm_core.specs.Banks.{bank_of, kept_bank_of, MissingAreBlankInState}
use Rattle.tpm_core.specs.Steps.{IsValid, IsKept}
use Rattle.state_blobs.specs.Encodings.{counted, encode_blob, slice, slices}
use Rattle.state_blobs.specs.Running.{SameRunning}
use Rattle.state_blobs.specs.Assembly.{EncodesVolatile, EncodesSaved, IsAssembled}
use Rattle.state_blobs.proofs.Magics.{same_version}
use Rattle.state_blobs.proofs.Widths.{in_each, banks_are, kept_are, counted_same}
use Rattle.state_blobs.proofs.Fields.{version_encoded, seed_read, boots_read, started_read, saved_read, draws_read, decoded_running, decoded_saved, volatile_read, state_read, same_state}

-- the banks are those of the version
pub banks_alike : (kind : Kind) (v w : TpmParts) (bytes : List ℕ) → bytes ≡ encode_blob kind v → bytes ≡ encode_blob kind w → v.banks ≡ w.banks
banks_alike kind v w bytes is is_too = same_version v.banks w.banks (sym (version_encoded kind v bytes is) ∙ version_encoded kind w bytes is_too)

pub banks_once : (kind : Kind) (v w : TpmParts) → encode_blob kind v ≡ encode_blob kind w → v.banks ≡ w.banks
banks_once kind v w same = banks_alike kind v w (encode_blob kind v) refl same

pub seed_once : (v w : TpmParts) → IsValid v → IsValid w → encode_blob Permanent v ≡ encode_blob Permanent w → v.seed ≡ w.seed
seed_once v w fit fit_too same = sym (seed_read v (encode_blob Permanent v) fit refl) ∙ seed_read w (encode_blob Permanent v) fit_too same

pub boots_once : (v w : TpmParts) → IsValid v → IsValid w → encode_blob Permanent v ≡ encode_blob Permanent w → v.boots ≡ w.boots
boots_once v w fit fit_too same = sym (boots_read v (encode_blob Permanent v) fit refl) ∙ boots_read w (encode_blob Permanent v) fit_too same

same_running_if : (v w : TpmParts) (bytes : List ℕ) → IsValid v → IsValid w → EncodesVolatile bytes v → EncodesVolatile bytes w → (on : Bool) → v.started ≡ on → w.started ≡ on → SameRunning v w
same_running_if v w bytes fit fit_too exact exact_too true on on_too =
    let own = banks_alike Volatile v w bytes (decoded_running v bytes exact on) (decoded_running w bytes exact_too on_too) in
    let counted_too = subst (λ (banks : Banks). drop 18 bytes ≡ counted banks w.counter (λ a. bank_of a w)) (sym own) (sym (drop-drop 9 9 bytes) ∙ ap (drop 9) (volatile_read w bytes exact_too on_too)) in
    let both = counted_same v.banks v.counter w.counter 24 (λ a. bank_of a v) (λ a. bank_of a w) fit.counter fit_too.counter (banks_are v fit) (banks_are w fit_too)
    (sym (sym (drop-drop 9 9 bytes) ∙ ap (drop 9) (volatile_read v bytes exact on)) ∙ counted_too) in
    record {
      started = on ∙ sym on_too;
      draws = sym (draws_read v bytes fit exact on) ∙ draws_read w bytes fit_too exact_too on_too;
      counter = both.0;
      registers = in_each v.banks (λ a. bank_of a v ≡ bank_of a w) both.1 (λ a missing. fit.missing a missing ∙ sym (fit_too.missing a (ap (λ (banks : Banks). has_bank banks a) (sym own) ∙ missing)));
    }
same_running_if v w bytes fit fit_too exact exact_too false off off_too =
    let s = fit.stopped off in
    let t = fit_too.stopped off_too in
    record { started = off ∙ sym off_too; draws = s.draws ∙ sym t.draws; counter = s.counter ∙ sym t.counter; registers = λ a. s.blank a ∙ sym (t.blank a) }

pub running_once : (v w : TpmParts) (bytes : List ℕ) → IsValid v → IsValid w → EncodesVolatile bytes v → EncodesVolatile bytes w → SameRunning v w
running_once v w bytes fit fit_too exact exact_too = same_running_if v w bytes fit fit_too exact exact_too (eqb (get_or bytes 9 0) 1) (sym (started_read v bytes exact)) (sym (started_read w bytes exact_too))

pub running_text_once : (v w : TpmParts) → IsValid v → IsValid w → encode_blob Volatile v ≡ encode_blob Volatile w → SameRunning v w
running_text_once v w fit fit_too same = running_once v w (encode_blob Volatile v) fit fit_too (inl refl) (inl same)

some_is : (saved : Option SavedParts) (state : SavedParts) → saved ≡ Some state → is_some saved ≡ true
some_is saved state is = ap (λ (s : Option SavedParts). is_some s) is

same_saved_if : (v w : TpmParts) (bytes : List ℕ) (s t : Option SavedParts) → EncodesSaved bytes v → EncodesSaved bytes w → v.saved ≡ s → w.saved ≡ t → IfSome s IsKept → IfSome t IsKept
    → IfSome s (MissingAreBlankInState v.banks) → IfSome t (MissingAreBlankInState w.banks) → is_some s ≡ is_some t → s ≡ t
same_saved_if v w bytes None None exact exact_too p q kept kept_too blank blank_too there = refl
same_saved_if v w bytes None (Some t) exact exact_too p q kept kept_too blank blank_too there = absurd cc
same_saved_if v w bytes (Some s) None exact exact_too p q kept kept_too blank blank_too there = absurd cc
same_saved_if v w bytes (Some s) (Some t) exact exact_too p q kept kept_too blank blank_too there =
    let own = banks_alike Saved v w bytes (decoded_saved v bytes exact (some_is v.saved s p)) (decoded_saved w bytes exact_too (some_is w.saved t q)) in
    let state_too = subst (λ (banks : Banks). drop 9 bytes ≡ 1 ∷ counted banks t.counter (λ a. kept_bank_of a t)) (sym own) (state_read w t bytes exact_too q) in
    let both = counted_same v.banks s.counter t.counter 16 (λ a. kept_bank_of a s) (λ a. kept_bank_of a t) kept.counter kept_too.counter (kept_are s kept) (kept_are t kept_too)
    (ap (drop 1) (sym (state_read v s bytes exact p) ∙ state_too)) in
    ap (λ (state : SavedParts). Some state)
    (same_state s t both.0 (in_each v.banks (λ a. kept_bank_of a s ≡ kept_bank_of a t) both.1 (λ a missing. blank a missing ∙ sym (blank_too a (ap (λ (banks : Banks). has_bank banks a) (sym own) ∙ missing)))))

pub saved_once : (v w : TpmParts) (bytes : List ℕ) → IsValid v → IsValid w → EncodesSaved bytes v → EncodesSaved bytes w → v.saved ≡ w.saved
saved_once v w bytes fit fit_too exact exact_too =
    same_saved_if v w bytes v.saved w.saved exact exact_too refl refl fit.kept_fits fit_too.kept_fits fit.kept_missing fit_too.kept_missing (sym (saved_read v bytes exact) ∙ saved_read w bytes exact_too)

pub saved_text_once : (v w : TpmParts) → IsValid v → IsValid w → encode_blob Saved v ≡ encode_blob Saved w → v.saved ≡ w.saved
saved_text_once v w fit fit_too same = saved_once v w (encode_blob Saved v) fit fit_too (inl refl) (inl same)

-- values that agree in each field
same_values : (v w : TpmParts) → v.seed ≡ w.seed → v.banks ≡ w.banks → v.boots ≡ w.boots → SameRunning v w → v.saved ≡ w.saved → v ≡ w
same_values v w seed banks boots running saved =
    ap (λ (x : List ℕ). record v { seed = x }) seed
    ∙ ap (λ (x : Banks). record v { seed = w.seed; banks = x }) banks
    ∙ ap (λ (x : ℕ). record v { seed = w.seed; banks = w.banks; boots = x }) boots
    ∙ ap (λ (x : ℕ). record v { seed = w.seed; banks = w.banks; boots = w.boots; draws = x }) running.draws
    ∙ ap (λ (x : Bool). record w { started = x; pcr = v.pcr; pcr384 = v.pcr384; counter = v.counter; saved = v.saved }) running.started
    ∙ ap (λ (x : List (List ℕ)). record w { pcr = x; pcr384 = v.pcr384; counter = v.counter; saved = v.saved }) (running.registers Sha256)
    ∙ ap (λ (x : List (List ℕ)). record w { pcr384 = x; counter = v.counter; saved = v.saved }) (running.registers Sha384)
    ∙ ap (λ (x : ℕ). record w { counter = x; saved = v.saved }) running.counter
    ∙ ap (λ (x : Option SavedParts). record w { saved = x }) saved

-- one TPM is assembled
pub assembled_once : (permanent volatile saved : List ℕ) (v w : TpmParts) → IsAssembled permanent volatile saved v → IsAssembled permanent volatile saved w → v ≡ w
assembled_once permanent volatile saved v w a b =
    let same = sym a.is_permanent ∙ b.is_permanent in
    same_values v w (seed_once v w a.fit b.fit same) (banks_once Permanent v w same) (boots_once v w a.fit b.fit same) (running_once v w volatile a.fit b.fit a.is_volatile b.is_volatile) (saved_once v w saved a.fit b.fit a.is_saved b.is_saved)

pub texts_assemble : (v : TpmParts) → IsValid v → IsAssembled (encode_blob Permanent v) (encode_blob Volatile v) (encode_blob Saved v) v
texts_assemble v fit = record { fit = fit; is_permanent = refl; is_volatile = inl refl; is_saved = inl refl }

-- ---- slices one after the other

slices_from : (list : List ℕ) (offset : ℕ) (counts : List ℕ) → concat (slices list offset counts) ≡ slice list offset (sum counts)
slices_from list offset [] = refl
slices_from list offset (count ∷ counts) =
    ap (λ (rest : List ℕ). slice list offset count ++ rest) (slices_from list (offset + count) counts ∙ ap (take (sum counts)) (sym (drop-drop count offset list)))
    ∙ sym (ap (λ (n : ℕ). take n (drop offset list)) (sum_by-cons (λ (x : ℕ). x) count counts) ∙ take-add count (sum counts) (drop offset list))

pub slices_are_prefix : (list counts : List ℕ) → concat (slices list 0 counts) ≡ take (sum counts) list
slices_are_prefix list counts = slices_from list 0 counts

pub slices_are_all : (list counts : List ℕ) → length list ≤ sum counts → concat (slices list 0 counts) ≡ list
slices_are_all list counts enough = slices_from list 0 counts ∙ take_all (sum counts) list enough
