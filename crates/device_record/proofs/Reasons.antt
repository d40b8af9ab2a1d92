-- The reasons for which a field is refused: it is never that the bytes end or go on.
use Rattle.std.proofs.Common.{◌≡◌, ℕ, ◌+◌, Bool, true, false, cond, eqb, ◌&&◌, ◌||◌, not, List, [], ◌∷◌, take, drop, Option, Some, None, Ok, Err, sym, ap, ◌∙◌, inl, inr}
use Rattle.std.specs.Prelude.{nat_lt, slice_index}
use Rattle.std.specs.Int.{w16, w32, w64, from_be_bytes}
use Rattle.vt_base.specs.Layout.{Layout, Ends, Field, Encodes, long_then}
use Rattle.vt_base.specs.Magics.{magic_then}
use Rattle.vt_base.specs.Refusing.{refuse, magic_byte_then}
use Rattle.vt_base.specs.declared.types.Why.{Why}
use Rattle.vt_base.specs.declared.types.Why.TheVariants.{Magic, Version, Length, Value, Cut, Extra}
use Rattle.vt_base.specs.declared.types.Malformed.{Malformed}
use Rattle.crb_regs.specs.Registers.{is_idle, is_executing}
use Rattle.crb_regs.specs.declared.registers.Regs.{Regs}
use Rattle.device_record.specs.declared.fields.Fields.{Fields}
use Rattle.device_record.specs.Records.{magic, flag_at, phase_at}
use Rattle.device_record.specs.Layouts.{Ending, value_then, ends_in_zero, content_then, count_then, job_then, registers_then, length_then, record_layout, AreCut, GoOn, IsRefused}
use Rattle.device_record.proofs.Decoding.{idle_next, magic_byte_next, phase_next, cancel_next, granted_next}

-- a reason that only a field has
abbrev IsOfField : Why → Type 0
IsOfField Cut = ⊥
IsOfField Extra = ⊥
IsOfField _ = Unit {0}

-- a record, or a refusal for such a reason
abbrev IsField : Ending → Type 0
IsField (Ok f) = Unit {0}
IsField (Err fault) = IsOfField fault.why

-- each end of the layout is one
abbrev AllField : Layout Ending → Type 0
AllField (Ends end) = IsField end
AllField (Field n next) = (field : List ℕ) → AllField (next field)

encoded_field : (layout : Layout Ending) (end : Ending) (bytes : List ℕ) → AllField layout → Encodes layout end bytes → IsField end
encoded_field (Ends e) end bytes all spelled = rw (← spelled.0) all
encoded_field (Field n next) end bytes all spelled = encoded_field (next (take n bytes)) end (drop n bytes) (all (take n bytes)) spelled.1

either : (b : Bool) (p q : Layout Ending) → AllField p → AllField q → AllField (cond b p q)
either true p q all other = all
either false p q all other = other

valued : {X : Type 0} (found : Option X) (place : ℕ) (next : X → Layout Ending) → ((value : X) → AllField (next value)) → AllField (value_then found place next)
valued None place next each = tt
valued (Some value) place next each = each value

marked : (marks : List ℕ) (place : ℕ) (next : Layout Ending) → AllField next → AllField (magic_then marks place next)
marked [] place next all = all
marked (mark ∷ marks) place next all = λ field. either (eqb (slice_index field 0) mark) (magic_then marks (place + 1) next) (refuse Magic place) (marked marks (place + 1) next all) tt

counted : (size : ℕ) (regs : Regs) (cancelled : Bool) (number : ℕ) → AllField (count_then size regs cancelled number)
counted size regs cancelled number = λ field.
    let f : Fields = record { regs = regs; cancelled = cancelled; number = number; count = from_be_bytes w16 field } in
    either (not (eqb (14 + f.count) size)) (refuse Length 21) (idle_next f) tt
    (either (is_idle regs.phase && nat_lt 0 f.count) (refuse Value 21) (content_then f) tt
    (λ content. either (ends_in_zero content) (refuse Value (22 + f.count)) (Ends (Ok f)) tt tt))

jobs : (size : ℕ) (regs : Regs) → AllField (job_then size regs)
jobs size regs = λ field. valued (flag_at (slice_index field 0)) 12 (magic_byte_next size regs) (λ cancelled.
    either (cancelled && not (is_executing regs.phase)) (refuse Value 12) (long_then (λ number. count_then size regs cancelled number)) tt
    (λ digits. counted size regs cancelled (from_be_bytes w64 digits)))

registers : (size : ℕ) → AllField (registers_then size)
registers size =
    λ first. valued (flag_at (slice_index first 0)) 9 (granted_next size) (λ granted.
    λ second. valued (flag_at (slice_index second 0)) 10 (cancel_next size granted) (λ cancel.
    λ third. valued (phase_at (slice_index third 0)) 11 (phase_next size granted cancel) (λ phase. jobs size (record { granted = granted; cancel = cancel; phase = phase }))))

sizes : AllField length_then
sizes = λ field. either (nat_lt (from_be_bytes w32 field) 14 || nat_lt 3982 (from_be_bytes w32 field)) (refuse Length 5) (registers_then (from_be_bytes w32 field)) tt (registers (from_be_bytes w32 field))

all_field : AllField record_layout
unfolding record_layout
all_field = marked magic 0 (magic_byte_then 1 Version 4 length_then) (λ field. either (eqb (slice_index field 0) 1) length_then (refuse Version 4) sizes tt)

-- what is refused for this reason is so for no other
field_reason : (fault : Malformed) (why : Why) (bytes : List ℕ) (n : ℕ) → Encodes record_layout (Err fault) (take n bytes) → fault.why ≡ why → IsOfField why
field_reason fault why bytes n spelled is = rw (← is) (encoded_field record_layout (Err fault) (take n bytes) all_field spelled)

-- Bytes are refused as cut only where they end before a record does.
pub cut_is_cut : (fault : Malformed) (bytes : List ℕ) → IsRefused fault bytes → fault.why ≡ Cut → AreCut fault bytes
cut_is_cut fault bytes (inl (n, exact)) is = absurd (field_reason fault Cut bytes n exact is)
cut_is_cut fault bytes (inr (inl cut)) is = cut
cut_is_cut fault bytes (inr (inr more)) is = let never : Extra ≡ Cut = sym more.named ∙ is in absurd cc

-- And as too many only where a record stands before others.
pub extra_goes_on : (fault : Malformed) (bytes : List ℕ) → IsRefused fault bytes → fault.why ≡ Extra → GoOn fault bytes
extra_goes_on fault bytes (inl (n, exact)) is = absurd (field_reason fault Extra bytes n exact is)
extra_goes_on fault bytes (inr (inl cut)) is = let never : Cut ≡ Extra = sym (ap (λ (f : Malformed). f.why) cut.named) ∙ is in absurd cc
extra_goes_on fault bytes (inr (inr more)) is = more
