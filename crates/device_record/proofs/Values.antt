-- The values that records give.
use Rattle.std.proofs.Common.{◌≡◌, ℕ, ◌+◌, ◌-◌, ◌≤◌, Bool, true, false, List, [], ◌++◌, length, take, drop, Ok, refl, sym, ap, subst, ◌∙◌, arith}
use Rattle.std.proofs.lemmas.List.{length-take, nil_from_length, take_rest}
use Rattle.vt_base.specs.Buffer.{zeros, followed_by_zeros}
use Rattle.vt_base.specs.Numbers.{IsBytes}
use Rattle.vt_base.specs.Layout.{Encodes}
use Rattle.vt_base.proofs.Numbers.{IsBytes-take, IsBytes-append}
use Rattle.vt_base.proofs.Zeros.{get_or-zeros, length-followed_by_zeros}
use Rattle.vt_base.proofs.Layouts.{one_encoding}
use Rattle.crb_regs.specs.Registers.{is_idle, is_executing, is_lost}
use Rattle.crb_regs.specs.declared.phase.Phase.{Phase}
use Rattle.crb_regs.specs.declared.phase.Phase.TheVariants.{Idle, Ready, Reception, Execution, Completion, Lost}
use Rattle.crb_machine.specs.Model.{DeviceModel}
use Rattle.crb_machine.specs.Values.{with_values, DeviceValues, AreValid}
use Rattle.device_record.specs.declared.fields.Fields.{Fields}
use Rattle.device_record.specs.Records.{trimmed, fields_of, values_of, encode_header, encode_record, IsRecord}
use Rattle.device_record.specs.Layouts.{record_layout}
use Rattle.device_record.specs.Restoring.{Restores}
use Rattle.device_record.proofs.Trims.{trimmed_back, trimmed-followed, trimmed_nothing, length-trimmed, trimmed_whole, trimmed_ends, trimmed_prefix}
use Rattle.device_record.proofs.Decoding.{AreWhole, wholly, record_decoded, record_encoded}

idle_is : (phase : Phase) → is_idle phase ≡ true → phase ≡ Idle
idle_is Idle is = refl
idle_is _ is = absurd cc

executing_is : (phase : Phase) → is_executing phase ≡ true → phase ≡ Execution
executing_is Execution is = refl
executing_is _ is = absurd cc

-- ---- from values to a record

fields_are_whole : (v : DeviceValues) → AreValid v → AreWhole (fields_of v) (trimmed v.content)
fields_are_whole v fit = record {
  working = fit.working;
  waits = λ is. ap is_executing (fit.waits is);
  number = fit.number;
  count = omega (arith, length-trimmed v.content, fit.size);
  idle = λ is. ap (λ (bytes : List ℕ). length (trimmed bytes)) (fit.idle (idle_is v.phase is)) ∙ ap length (trimmed_nothing 3968);
  size = refl;
  trimmed = trimmed_ends v.content;
  bytes = subst IsBytes (trimmed_prefix v.content) (IsBytes-take (length (trimmed v.content)) v.content fit.bytes);
}

-- The record of fit values is decoded as their fields.
pub text_is_decoded : (v : DeviceValues) → AreValid v → Encodes record_layout (wholly (fields_of v)) (encode_record v)
unfolding encode_record
text_is_decoded v fit = record_encoded (fields_of v) (trimmed v.content) (fields_are_whole v fit)

pub record_is_decoded : (bytes : List ℕ) (v : DeviceValues) → IsRecord bytes v → Encodes record_layout (wholly (fields_of v)) bytes
record_is_decoded bytes v is = subst (Encodes record_layout (wholly (fields_of v))) (sym is.spelled) (text_is_decoded v is.fit)

-- ---- from a record to values

IsBytes-zeros : (n : ℕ) → IsBytes (zeros n)
IsBytes-zeros n i = let none = get_or-zeros n i in omega (arith, none)

followed_idle : (content : List ℕ) → length content ≡ 0 → followed_by_zeros content ≡ zeros 3968
followed_idle content none = ap followed_by_zeros (nil_from_length content none)

values_are_fit : (f : Fields) (content : List ℕ) → AreWhole f content → AreValid (values_of f content)
values_are_fit f content is = record {
  working = is.working;
  idle = λ idle. followed_idle content (is.size ∙ is.idle (ap is_idle idle));
  waits = λ on. executing_is f.regs.phase (is.waits on);
  size = length-followed_by_zeros content (omega (arith, is.size, is.count));
  bytes = IsBytes-append content (zeros (3968 - length content)) is.bytes (IsBytes-zeros (3968 - length content));
  number = is.number;
}

kept_again : (f : Fields) (content : List ℕ) → AreWhole f content → trimmed (followed_by_zeros content) ≡ content
kept_again f content is = trimmed-followed content ∙ trimmed_whole content is.trimmed

text_again : (f : Fields) (content : List ℕ) → AreWhole f content → encode_record (values_of f content) ≡ encode_header f ++ content
unfolding encode_record
text_again f content is =
    let kept = kept_again f content is in
    ap (λ (list : List ℕ). encode_header (record { regs = f.regs; cancelled = f.cancelled; number = f.number; count = length list }) ++ list) kept
    ∙ ap (λ (n : ℕ). encode_header (record { regs = f.regs; cancelled = f.cancelled; number = f.number; count = n }) ++ content) is.size

whole_is_record : (f : Fields) (bytes : List ℕ) (content : List ℕ) → bytes ≡ encode_header f ++ content → AreWhole f content → IsRecord bytes (values_of f content)
whole_is_record f bytes content parts whole = record { fit = values_are_fit f content whole; spelled = parts ∙ sym (text_again f content whole) }

-- What is decoded as a record is that of the values that it gives.
pub decoded_is_record : (f : Fields) (bytes : List ℕ) → IsBytes bytes → Encodes record_layout (Ok f) bytes → IsRecord bytes (values_of f (drop 23 bytes)) × (length bytes ≡ 23 + f.count)
decoded_is_record f bytes fits spelled =
    let w = record_decoded f bytes fits spelled in
    let content : drop 23 bytes ≡ w.content = ap (drop 23) w.parts in
    (subst (λ (list : List ℕ). IsRecord bytes (values_of f list)) (sym content) (whole_is_record f bytes w.content w.parts w.whole), omega (arith, ap length w.parts, w.whole.size))

-- ---- the encoding of values as a record is injective

same_fields : (f g : Fields) → wholly f ≡ wholly g → f ≡ g
same_fields f g same = cc

values_back : (v : DeviceValues) → AreValid v → values_of (fields_of v) (trimmed v.content) ≡ v
values_back v fit = ap (λ (list : List ℕ). record v { content = list }) (trimmed_back v.content fit.size)

content_behind : (v : DeviceValues) → drop 23 (encode_record v) ≡ trimmed v.content
unfolding encode_record
content_behind v = refl

pub values_once : (v w : DeviceValues) → AreValid v → AreValid w → encode_record v ≡ encode_record w → v ≡ w
values_once v w fit fit_too same =
    let texts : encode_record v ++ [] ≡ encode_record w ++ [] = ap (λ (text : List ℕ). text ++ []) same in
    let one = one_encoding record_layout (wholly (fields_of v)) (wholly (fields_of w)) (encode_record v) (encode_record w) [] [] (text_is_decoded v fit) (text_is_decoded w fit_too) texts in
    let content : trimmed v.content ≡ trimmed w.content = sym (content_behind v) ∙ ap (drop 23) same ∙ content_behind w in
    sym (values_back v fit)
    ∙ ap (λ (f : Fields). values_of f (trimmed v.content)) (same_fields (fields_of v) (fields_of w) one.0)
    ∙ ap (λ (list : List ℕ). values_of (fields_of w) list) content
    ∙ values_back w fit_too

-- ---- what a device takes

lost_not : (phase : Phase) → is_lost phase ≡ false → phase ≡ Lost → ⊥
lost_not Lost works is = absurd cc
lost_not Idle works is = absurd cc
lost_not Ready works is = absurd cc
lost_not Reception works is = absurd cc
lost_not Execution works is = absurd cc
lost_not Completion works is = absurd cc

pub whole_decoded : (f : Fields) (bytes : List ℕ) → IsBytes bytes → Encodes record_layout (Ok f) bytes → Restores f bytes
whole_decoded f bytes fits spelled =
    let w = record_decoded f bytes fits spelled in
    let t = decoded_is_record f bytes fits spelled in
    record {
      is_record = t.0;
      size = t.1;
      within_limit = w.whole.count;
      working = lost_not f.regs.phase w.whole.working;
      waits = λ on. executing_is f.regs.phase (w.whole.waits on);
    }

pub decoded_is_of_values : (f : Fields) (bytes : List ℕ) → IsBytes bytes → Encodes record_layout (Ok f) bytes → IsRecord bytes (values_of f (drop 23 bytes))
decoded_is_of_values f bytes fits spelled = (decoded_is_record f bytes fits spelled).0

-- ---- what is written of a device

abbrev fields_with : Bool → Bool → Phase → Bool → ℕ → ℕ → Fields
fields_with granted cancel phase cancelled number count = record { regs = record { granted = granted; cancel = cancel; phase = phase }; cancelled = cancelled; number = number; count = count }

pub text_written : (x v : DeviceValues) (count : ℕ) (new : List ℕ) → x ≡ v → take count x.content ≡ trimmed x.content → count ≤ length x.content
    → take (23 + length (take count x.content)) new ≡ encode_header (fields_with x.granted x.cancel x.phase x.cancelled x.number count) ++ take count x.content → take (23 + count) new ≡ encode_record v
unfolding encode_record
text_written x v count new same kept le written =
    let size : length (take count x.content) ≡ count = omega (arith, length-take count x.content) in
    let count_too : count ≡ length (trimmed x.content) = sym size ∙ ap length kept in
    let fields : fields_with x.granted x.cancel x.phase x.cancelled x.number count ≡ fields_of x = ap (λ (n : ℕ). fields_with x.granted x.cancel x.phase x.cancelled x.number n) count_too in
    ap (λ (n : ℕ). take (23 + n) new) (sym size) ∙ written
    ∙ ap (λ (f : Fields). encode_header f ++ take count x.content) fields ∙ ap (λ (list : List ℕ). encode_header (fields_of x) ++ list) kept ∙ ap encode_record same

-- ---- and what a device gets

pub values_restored : (f : Fields) (bytes : List ℕ) (v : DeviceValues) → Restores f bytes → v ≡ values_of f (take (length bytes - 23) (drop 23 bytes)) → IsRecord bytes v
values_restored f bytes v restores same =
    let all : v ≡ values_of f (drop 23 bytes) = same ∙ ap (λ (content : List ℕ). values_of f content) (take_rest bytes 23) in
    subst (λ (x : DeviceValues). IsRecord bytes x) (sym all) restores.is_record

-- the content of an idle device is zeros
pub idle_restored : (f : Fields) (bytes : List ℕ) → Restores f bytes → f.regs.phase ≡ Idle → followed_by_zeros (take (length bytes - 23) (drop 23 bytes)) ≡ zeros 3968
idle_restored f bytes restores idle = ap followed_by_zeros (take_rest bytes 23) ∙ restores.is_record.fit.idle idle

-- whichever values the bytes are the record of, the device gets those
pub restored_as : {P : Type 0} (f : Fields) (bytes : List ℕ) (v : DeviceValues) (d e : DeviceModel P) → Restores f bytes → IsRecord bytes v
    → e ≡ with_values (values_of f (take (length bytes - 23) (drop 23 bytes))) d → e ≡ with_values v d
restored_as f bytes v d e restores is_record is =
    let made : DeviceValues = values_of f (take (length bytes - 23) (drop 23 bytes)) in
    let one : IsRecord bytes made = values_restored f bytes made restores refl in
    is ∙ ap (λ (w : DeviceValues). with_values w d) (values_once made v one.fit is_record.fit (sym one.spelled ∙ is_record.spelled))

-- the length of the record, as many bytes of content as are left without the zeros at the end
pub length-encode_record : (v : DeviceValues) (count : ℕ) (content : List ℕ) → content ≡ v.content → take count content ≡ trimmed content → count ≤ length content → length (encode_record v) ≡ 23 + count
unfolding encode_record
length-encode_record v count content same kept within =
    let size : length (take count content) ≡ count = omega (arith, length-take count content) in
    let count_too : count ≡ length (trimmed v.content) = sym size ∙ ap length kept ∙ ap (λ (list : List ℕ). length (trimmed list)) same in
    omega (arith, count_too)
