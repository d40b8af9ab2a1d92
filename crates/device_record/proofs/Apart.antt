-- Records and refusals are prefix-free.
use Rattle.std.proofs.Common.{◌≡◌, ◌≢◌, ℕ, ◌<◌, List, [], ◌++◌, length, take, drop, Err, refl, sym, ap, subst, ◌∙◌, arith, inl, inr, append_assoc}
use Rattle.std.proofs.lemmas.List.{length-take, take-append-drop, take-append-le, take_all, take_at, append-nil, length-append}
use Rattle.vt_base.specs.Layout.{Encodes, IsOpen}
use Rattle.vt_base.specs.Refusing.{malformed}
use Rattle.vt_base.proofs.Layouts.{one_encoding}
use Rattle.vt_base.specs.declared.types.Why.{Why}
use Rattle.vt_base.specs.declared.types.Why.TheVariants.{Cut}
use Rattle.vt_base.specs.declared.types.Malformed.{Malformed}
use Rattle.crb_machine.specs.Values.{DeviceValues, AreValid}
use Rattle.device_record.specs.declared.fields.Fields.{Fields}
use Rattle.device_record.specs.Records.{fields_of, encode_record, IsRecord}
use Rattle.device_record.specs.Layouts.{Ending, record_layout, IsRefused}
use Rattle.device_record.proofs.Decoding.{wholly}
use Rattle.device_record.proofs.Values.{record_is_decoded}

abbrev refused_with : Malformed → Ending
refused_with fault = Err fault

same_fault : (f g : Malformed) → refused_with f ≡ refused_with g → f ≡ g
same_fault f g same = cc

whole_or_refused : (f : Fields) (fault : Malformed) → wholly f ≡ refused_with fault → ⊥
whole_or_refused f fault same = cc

same_malformed : (f g : Malformed) → f.why ≡ g.why → f.place ≡ g.place → f ≡ g
same_malformed f g p q = ap (λ (x : Why). record f { why = x }) p ∙ ap (λ (x : ℕ). record g { place = x }) q

-- two prefixes of the same bytes that are decoded end alike, and are one
two_prefixes : (bytes : List ℕ) (d e : Ending) (m n : ℕ) → Encodes record_layout d (take m bytes) → Encodes record_layout e (take n bytes) → (d ≡ e) × (take m bytes ≡ take n bytes)
two_prefixes bytes d e m n p q = one_encoding record_layout d e (take m bytes) (take n bytes) (drop m bytes) (drop n bytes) p q (take-append-drop m bytes ∙ sym (take-append-drop n bytes))

-- how a whole record, or a refused field, ends
abbrev Ended : Ending → ℕ → List ℕ → Type 0
Ended end n bytes = Encodes record_layout end (take n bytes)

record_ended : (bytes : List ℕ) (n : ℕ) (v : DeviceValues) → IsRecord (take n bytes) v → Ended (wholly (fields_of v)) n bytes
record_ended bytes n v is = record_is_decoded (take n bytes) v is

all_ended : (bytes : List ℕ) (v : DeviceValues) → IsRecord bytes v → Ended (wholly (fields_of v)) (length bytes) bytes
all_ended bytes v is = subst (Encodes record_layout (wholly (fields_of v))) (sym (take_all (length bytes) bytes (omega arith))) (record_is_decoded bytes v is)

shorter : (bytes : List ℕ) (n : ℕ) → n < length bytes → take n bytes ≡ take (length bytes) bytes → ⊥
shorter bytes n less same = omega (arith, ap length same, length-take n bytes, length-take (length bytes) bytes)

-- A record isn't refused.
pub record_not_refused : (bytes : List ℕ) (v : DeviceValues) (fault : Malformed) → IsRecord bytes v → IsRefused fault bytes → ⊥
record_not_refused bytes v fault is (inl (n, exact)) =
    whole_or_refused (fields_of v) fault (two_prefixes bytes (wholly (fields_of v)) (Err fault) (length bytes) n (all_ended bytes v is) exact).0
record_not_refused bytes v fault is (inr (inl cut)) = cut.open_end (wholly (fields_of v)) (length bytes) (all_ended bytes v is)
record_not_refused bytes v fault is (inr (inr more)) =
    shorter bytes fault.place more.behind
    (two_prefixes bytes (wholly (fields_of more.values)) (wholly (fields_of v)) fault.place (length bytes) (record_ended bytes fault.place more.values more.is_record) (all_ended bytes v is)).1

two_lengths : (bytes : List ℕ) (m n : ℕ) → m < length bytes → n < length bytes → take m bytes ≡ take n bytes → m ≡ n
two_lengths bytes m n less less_too same = omega (arith, ap length same, length-take m bytes, length-take n bytes)

-- Bytes are refused in one way.
pub refused_once : (f g : Malformed) (bytes : List ℕ) → IsRefused f bytes → IsRefused g bytes → f ≡ g
refused_once f g bytes (inl (m, exact)) (inl (n, decoded_too)) = same_fault f g (two_prefixes bytes (Err f) (Err g) m n exact decoded_too).0
refused_once f g bytes (inl (m, exact)) (inr (inl cut)) = absurd (cut.open_end (Err f) m exact)
refused_once f g bytes (inl (m, exact)) (inr (inr more)) =
    absurd (whole_or_refused (fields_of more.values) f (two_prefixes bytes (wholly (fields_of more.values)) (Err f) g.place m (record_ended bytes g.place more.values more.is_record) exact).0)
refused_once f g bytes (inr (inl cut)) (inl (n, exact)) = absurd (cut.open_end (Err g) n exact)
refused_once f g bytes (inr (inl cut)) (inr (inl cut_too)) = cut.named ∙ sym cut_too.named
refused_once f g bytes (inr (inl cut)) (inr (inr more)) = absurd (cut.open_end (wholly (fields_of more.values)) g.place (record_ended bytes g.place more.values more.is_record))
refused_once f g bytes (inr (inr more)) (inl (n, exact)) =
    absurd (whole_or_refused (fields_of more.values) g (two_prefixes bytes (wholly (fields_of more.values)) (Err g) f.place n (record_ended bytes f.place more.values more.is_record) exact).0)
refused_once f g bytes (inr (inr more)) (inr (inl cut)) = absurd (cut.open_end (wholly (fields_of more.values)) f.place (record_ended bytes f.place more.values more.is_record))
refused_once f g bytes (inr (inr more)) (inr (inr more_too)) =
    same_malformed f g (more.named ∙ sym more_too.named) (two_lengths bytes f.place g.place more.behind more_too.behind
    (two_prefixes bytes (wholly (fields_of more.values)) (wholly (fields_of more_too.values)) f.place g.place (record_ended bytes f.place more.values more.is_record) (record_ended bytes g.place more_too.values more_too.is_record)).1)

-- A prefix of a record that isn't all of it is cut.
pub prefix_is_cut : (bytes : List ℕ) (v : DeviceValues) (n : ℕ) → IsRecord bytes v → n < length bytes → IsRefused (malformed Cut n) (take n bytes)
prefix_is_cut bytes v n is less =
    let count : n ≡ length (take n bytes) = omega (arith, length-take n bytes) in
    inr (inl (record { open_end = none; named = ap (malformed Cut) count }))
  where
    none : IsOpen record_layout (take n bytes)
    none end m spelled =
        let whole : take m (take n bytes) ++ (drop m (take n bytes) ++ drop n bytes) ≡ bytes ++ [] =
        sym (append_assoc (take m (take n bytes)) (drop m (take n bytes)) (drop n bytes)) ∙ ap (λ (prefix : List ℕ). prefix ++ drop n bytes) (take-append-drop m (take n bytes)) ∙ take-append-drop n bytes
        ∙ sym (append-nil bytes) in
        let same = (one_encoding record_layout end (wholly (fields_of v)) (take m (take n bytes)) bytes (drop m (take n bytes) ++ drop n bytes) [] spelled (record_is_decoded bytes v is) whole).1 in
        omega (arith, ap length same, length-take m (take n bytes), length-take n bytes, less)

-- What isn't cut stays refused, whatever follows.
pub refused_stays : (fault : Malformed) (bytes more : List ℕ) → IsRefused fault bytes → fault.why ≢ Cut → IsRefused fault (bytes ++ more)
refused_stays fault bytes more (inl (n, exact)) other =
    let parts : bytes ++ more ≡ take n bytes ++ (drop n bytes ++ more) = ap (λ (list : List ℕ). list ++ more) (sym (take-append-drop n bytes)) ∙ append_assoc (take n bytes) (drop n bytes) more in
    let prefix : take (length (take n bytes)) (bytes ++ more) ≡ take n bytes =
    ap (take (length (take n bytes))) parts ∙ take_at (take n bytes) (drop n bytes ++ more) (length (take n bytes)) refl in
    inl (length (take n bytes), subst (Encodes record_layout (Err fault)) (sym prefix) exact)
refused_stays fault bytes more (inr (inl cut)) other = absurd (other (ap (λ (f : Malformed). f.why) cut.named))
refused_stays fault bytes more (inr (inr extra)) other =
    let prefix : take fault.place (bytes ++ more) ≡ take fault.place bytes = take-append-le fault.place bytes more (omega (arith, extra.behind)) in
    inr (inr (record {
      values = extra.values;
      is_record = subst (λ (list : List ℕ). IsRecord list extra.values) (sym prefix) extra.is_record;
      behind = omega (arith, extra.behind, length-append bytes more);
      named = extra.named;
    }))

-- ---- the same of a text

pub text_is_record : (v : DeviceValues) → AreValid v → IsRecord (encode_record v) v
text_is_record v fit = record { fit = fit; spelled = refl }

pub text_not_refused : (v : DeviceValues) (fault : Malformed) → AreValid v → IsRefused fault (encode_record v) → ⊥
text_not_refused v fault fit refused = record_not_refused (encode_record v) v fault (text_is_record v fit) refused

pub text_prefix_is_cut : (v : DeviceValues) (n : ℕ) → AreValid v → n < length (encode_record v) → IsRefused (malformed Cut n) (take n (encode_record v))
text_prefix_is_cut v n fit less = prefix_is_cut (encode_record v) v n (text_is_record v fit) less
