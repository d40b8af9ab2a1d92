-- Bytes are a record or refused.
use Rattle.std.proofs.Common.{◌≡◌, ℕ, ◌+◌, ◌<◌, ◌≤◌, List, length, take, drop, Result, Ok, Err, refl, subst, arith, inl, inr, ◌⊎◌}
use Rattle.std.proofs.lemmas.Bool.{cases_lt}
use Rattle.std.proofs.lemmas.List.{length-take, take_all}
use Rattle.vt_base.specs.declared.grammar.Missing.{Missing}
use Rattle.vt_base.specs.Numbers.{IsBytes}
use Rattle.vt_base.specs.Layout.{Encodes}
use Rattle.vt_base.specs.Parsing.{parsed}
use Rattle.vt_base.specs.Refusing.{malformed}
use Rattle.vt_base.proofs.Layouts.{encodes_prefix, open_wants}
use Rattle.vt_base.proofs.Numbers.{IsBytes-take}
use Rattle.vt_base.specs.declared.types.Why.TheVariants.{Cut, Extra}
use Rattle.vt_base.specs.declared.types.Malformed.{Malformed}
use Rattle.crb_machine.specs.Values.{DeviceValues}
use Rattle.device_record.specs.declared.fields.Fields.{Fields}
use Rattle.device_record.specs.Records.{values_of, IsRecord}
use Rattle.device_record.specs.Layouts.{Ending, record_layout, IsRefused}
use Rattle.device_record.specs.Restoring.{Restores}
use Rattle.device_record.proofs.Decoding.{wholly}
use Rattle.device_record.proofs.Values.{decoded_is_record, whole_decoded}

-- what the bytes come to
abbrev pub ParseOutcome : Type 0
ParseOutcome = Result Ending Missing

pub field_is_refused : (bytes : List ℕ) (fault : Malformed) → parsed record_layout bytes ≡ Ok (Err fault) → IsRefused fault bytes
field_is_refused bytes fault is = let prefix = encodes_prefix record_layout bytes (Err fault) is in inl (prefix.0, prefix.2)

pub cut_is_refused : (bytes : List ℕ) (lack : Missing) → parsed record_layout bytes ≡ Err lack → IsRefused (malformed Cut (length bytes)) bytes
cut_is_refused bytes lack is = inr (inl (record { open_end = open_wants record_layout bytes lack.0 is; named = refl }))

-- a record at the start of the bytes
pub record Begun (f : Fields) (bytes : List ℕ) : Type 0 where
  pub whole : 23 + f.count ≤ length bytes
  pub spelled : Encodes record_layout (wholly f) (take (23 + f.count) bytes)
  pub is_record : IsRecord (take (23 + f.count) bytes) (values_of f (drop 23 (take (23 + f.count) bytes)))

begun_at : (f : Fields) (bytes : List ℕ) (n : ℕ) → IsBytes bytes → n ≤ length bytes → Encodes record_layout (wholly f) (take n bytes) → Begun f bytes
begun_at f bytes n fits le spelled =
    let t = decoded_is_record f (take n bytes) (IsBytes-take n bytes fits) spelled in
    let count : n ≡ 23 + f.count = omega (arith, t.1, length-take n bytes) in
    record {
      whole = omega arith;
      spelled = subst (λ (k : ℕ). Encodes record_layout (wholly f) (take k bytes)) count spelled;
      is_record = subst (λ (k : ℕ). IsRecord (take k bytes) (values_of f (drop 23 (take k bytes)))) count t.0;
    }

pub begins : (f : Fields) (bytes : List ℕ) → IsBytes bytes → parsed record_layout bytes ≡ Ok (Ok f) → Begun f bytes
begins f bytes fits is = let prefix = encodes_prefix record_layout bytes (wholly f) is in begun_at f bytes prefix.0 fits prefix.1 prefix.2

-- bytes behind it are refused
pub more_is_refused : (f : Fields) (bytes : List ℕ) → IsBytes bytes → parsed record_layout bytes ≡ Ok (Ok f) → 23 + f.count < length bytes → IsRefused (malformed Extra (23 + f.count)) bytes
more_is_refused f bytes fits is more =
    let b = begins f bytes fits is in
    inr (inr (record { values = values_of f (drop 23 (take (23 + f.count) bytes)); is_record = b.is_record; behind = more; named = refl }))

-- and where there are none all bytes are the record
pub all_is_decoded : (f : Fields) (bytes : List ℕ) → IsBytes bytes → parsed record_layout bytes ≡ Ok (Ok f) → length bytes ≤ 23 + f.count → Encodes record_layout (wholly f) bytes
all_is_decoded f bytes fits is le =
    let b = begins f bytes fits is in
    subst (Encodes record_layout (wholly f)) (take_all (23 + f.count) bytes le) b.spelled

decided_as : (bytes : List ℕ) (outcome_of_parse : ParseOutcome) → IsBytes bytes → parsed record_layout bytes ≡ outcome_of_parse → ((v : DeviceValues) × IsRecord bytes v) ⊎ ((fault : Malformed) × IsRefused fault bytes)
decided_as bytes (Err lack) fits is = inr (malformed Cut (length bytes), cut_is_refused bytes lack is)
decided_as bytes (Ok (Err fault)) fits is = inr (fault, field_is_refused bytes fault is)
decided_as bytes (Ok (Ok f)) fits is =
    elim (cases_lt (23 + f.count) (length bytes)) [
      | inl more ↦ inr (malformed Extra (23 + f.count), more_is_refused f bytes fits is more)
      | inr le ↦ inl (values_of f (drop 23 bytes), (decoded_is_record f bytes fits (all_is_decoded f bytes fits is le)).0)
    ]

-- Bytes are a record or refused.
pub decided : (bytes : List ℕ) → IsBytes bytes → ((v : DeviceValues) × IsRecord bytes v) ⊎ ((fault : Malformed) × IsRefused fault bytes)
decided bytes fits = decided_as bytes (parsed record_layout bytes) fits refl

pub all_restores : (f : Fields) (bytes : List ℕ) → IsBytes bytes → parsed record_layout bytes ≡ Ok (Ok f) → length bytes ≤ 23 + f.count → Restores f bytes
all_restores f bytes fits is le = whole_decoded f bytes fits (all_is_decoded f bytes fits is le)
