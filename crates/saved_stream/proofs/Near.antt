-- How long a record is at most, and how far on its refusals may be.
use Rattle.std.proofs.Common.{◌≡◌, ◌≢◌, ℕ, ◌+◌, ◌-◌, ◌≤◌, Bool, true, false, cond, eqb, ◌&&◌, ◌||◌, not, List, length, take, drop, Option, Some, None, Result, Ok, Err, refl, ap, arith, inl, inr}
use Rattle.std.specs.Prelude.{nat_lt, slice_index}
use Rattle.std.specs.Int.{w16, w32, w64, from_be_bytes}
use Rattle.std.proofs.lemmas.Bool.Decides.{nat_tests}
use Rattle.std.proofs.lemmas.List.{length-drop}
use Rattle.vt_base.specs.declared.grammar.Missing.{Missing}
use Rattle.vt_base.specs.Layout.{Layout, Ends, Field, Encodes, IsOpen, IsWithin, byte_then, long_then}
use Rattle.vt_base.specs.Parsing.{parsed}
use Rattle.vt_base.specs.Refusing.{refuse, magic_byte_then}
use Rattle.vt_base.specs.declared.types.Why.{Why}
use Rattle.vt_base.specs.declared.types.Why.TheVariants.{Magic, Version, Length, Value, Extra}
use Rattle.vt_base.specs.declared.types.Malformed.{Malformed}
use Rattle.vt_base.proofs.Layouts.{wants_within, encodes_prefix}
use Rattle.crb_machine.specs.Values.{DeviceValues, AreValid}
use Rattle.crb_regs.specs.Registers.{is_idle, is_executing}
use Rattle.crb_regs.specs.declared.phase.Phase.{Phase}
use Rattle.crb_regs.specs.declared.registers.Regs.{Regs}
use Rattle.device_record.specs.declared.fields.Fields.{Fields}
use Rattle.device_record.specs.Records.{flag_at, phase_at, fields_of, encode_record, IsRecord}
use Rattle.device_record.specs.Layouts.{Ending, value_then, flag_then, ends_in_zero, content_then, count_then, job_then, registers_then, length_then, record_layout, IsRefused}

-- each message is within so many bytes, and each refusal within 3991
abbrev pub IsNear : {V : Type 0} → Layout (Result V Malformed) → ℕ → Type 0
IsNear (Ends (Ok v)) room = Unit {0}
IsNear (Ends (Err fault)) room = fault.place ≤ 3991
IsNear (Field n next) room = (n ≤ room) × ((field : List ℕ) → IsNear (next field) (room - n))

-- ---- what follows from it

pub near_place : {V : Type 0} (layout : Layout (Result V Malformed)) (room : ℕ) (fault : Malformed) (bytes : List ℕ) → IsNear layout room → Encodes layout (Err fault) bytes → fault.place ≤ 3991
near_place (Ends (Ok v)) room fault bytes near spelled = absurd cc
near_place (Ends (Err f)) room fault bytes near spelled = let same : f ≡ fault = cc in rw (← same) near
near_place (Field n next) room fault bytes near spelled = near_place (next (take n bytes)) (room - n) fault (drop n bytes) (near.1 (take n bytes)) spelled.1

pub length_within : {E : Type 0} (layout : Layout E) (room : ℕ) (end : E) (bytes : List ℕ) → IsWithin layout room → Encodes layout end bytes → length bytes ≤ room
length_within (Ends e) room end bytes within spelled = omega (arith, ap length spelled.1)
length_within (Field n next) room end bytes within spelled =
    let rest = length_within (next (take n bytes)) (room - n) end (drop n bytes) (within.1 (take n bytes)) spelled.1 in
    omega (arith, within.0, spelled.0, rest, length-drop n bytes)

near_within : {V : Type 0} (layout : Layout (Result V Malformed)) (room : ℕ) → IsNear layout room → IsWithin layout room
near_within (Ends e) room near = tt
near_within (Field n next) room near = (near.0, λ field. near_within (next field) (room - n) (near.1 field))

open_length_if : {V : Type 0} (layout : Layout (Result V Malformed)) (room : ℕ) (bytes : List ℕ) → IsNear layout room → IsOpen layout bytes → (end : Result (Result V Malformed) Missing) → parsed layout bytes ≡ end → length bytes ≤ room
open_length_if layout room bytes near none (Ok end) is = let prefix = encodes_prefix layout bytes end is in absurd (none end prefix.0 prefix.2)
open_length_if layout room bytes near none (Err lack) is = omega (arith, wants_within layout room bytes lack.0 (near_within layout room near) is)

pub near_open : {V : Type 0} (layout : Layout (Result V Malformed)) (room : ℕ) (bytes : List ℕ) → IsNear layout room → IsOpen layout bytes → length bytes ≤ room
near_open layout room bytes near none = open_length_if layout room bytes near none (parsed layout bytes) refl

-- ---- the record

either_near : {V : Type 0} (b : Bool) (p q : Layout (Result V Malformed)) (room : ℕ) → (b ≡ true → IsNear p room) → (b ≡ false → IsNear q room) → IsNear (cond b p q) room
either_near true p q room h k = h refl
either_near false p q room h k = k refl

magic_byte_near : {V : Type 0} (byte : ℕ) (why : Why) (place : ℕ) (next : Layout (Result V Malformed)) (room : ℕ) → 1 ≤ room → place ≤ 3991 → IsNear next (room - 1) → IsNear (magic_byte_then byte why place next) room
magic_byte_near byte why place next room some near h = (some, λ b. either_near (eqb (slice_index b 0) byte) next (refuse why place) (room - 1) (λ _. h) (λ _. near))

value_near : {X : Type 0} (found : Option X) (place : ℕ) (next : X → Layout Ending) (room : ℕ) → place ≤ 3991 → ((value : X) → IsNear (next value) room) → IsNear (value_then found place next) room
value_near None place next room near each = near
value_near (Some value) place next room near each = each value

content_near : (f : Fields) → f.count ≤ 3968 → IsNear (content_then f) 3968
content_near f within_limit = (within_limit, λ content. either_near (ends_in_zero content) (refuse Value (22 + f.count)) (Ends (Ok f)) (3968 - f.count) (λ _. omega arith) (λ _. tt))

few_of : (size count : ℕ) → size ≤ 3982 → not (eqb (14 + count) size) ≡ false → count ≤ 3968
few_of size count le is = grind (arith, nat_tests)

abbrev pub idle_next : Fields → Layout Ending
idle_next f = cond (is_idle f.regs.phase && nat_lt 0 f.count) (refuse Value 21) (content_then f)

count_near : (size : ℕ) (regs : Regs) (cancelled : Bool) (number : ℕ) → size ≤ 3982 → IsNear (count_then size regs cancelled number) 3970
count_near size regs cancelled number le = (
  omega arith,
  λ field.
      let f : Fields = record { regs = regs; cancelled = cancelled; number = number; count = from_be_bytes w16 field } in
      either_near (not (eqb (14 + f.count) size)) (refuse Length 21) (idle_next f) 3968 (λ _. omega arith) (λ is.
      either_near (is_idle regs.phase && nat_lt 0 f.count) (refuse Value 21) (content_then f) 3968 (λ _. omega arith) (λ _. content_near f (few_of size f.count le is))),
)

abbrev pub magic_byte_next : ℕ → Regs → Bool → Layout Ending
magic_byte_next size regs cancelled = cond (cancelled && not (is_executing regs.phase)) (refuse Value 12) (long_then (λ number. count_then size regs cancelled number))

job_near : (size : ℕ) (regs : Regs) → size ≤ 3982 → IsNear (job_then size regs) 3979
job_near size regs le = (
  omega arith,
  λ field. value_near (flag_at (slice_index field 0)) 12 (magic_byte_next size regs) 3978 (omega arith) (λ cancelled.
      either_near (cancelled && not (is_executing regs.phase)) (refuse Value 12) (long_then (λ number. count_then size regs cancelled number)) 3978 (λ _. omega arith)
      (λ _. (omega arith, λ field. count_near size regs cancelled (from_be_bytes w64 field) le))),
)

abbrev pub phase_next : ℕ → Bool → Bool → Phase → Layout Ending
phase_next size granted cancel phase = job_then size (record { granted = granted; cancel = cancel; phase = phase })

abbrev pub cancel_next : ℕ → Bool → Bool → Layout Ending
cancel_next size granted cancel = byte_then (λ code. value_then (phase_at code) 11 (phase_next size granted cancel))

abbrev pub granted_next : ℕ → Bool → Layout Ending
granted_next size granted = flag_then 10 (cancel_next size granted)

registers_near : (size : ℕ) → size ≤ 3982 → IsNear (registers_then size) 3982
registers_near size le = (
  omega arith,
  λ field. value_near (flag_at (slice_index field 0)) 9 (granted_next size) 3981 (omega arith) (λ granted. (
    omega arith,
    λ field. value_near (flag_at (slice_index field 0)) 10 (cancel_next size granted) 3980 (omega arith) (λ cancel.
        (omega arith, λ field. value_near (phase_at (slice_index field 0)) 11 (phase_next size granted cancel) 3979 (omega arith) (λ phase. job_near size _ le))),
  )),
)

in_room : (size : ℕ) → nat_lt size 14 || nat_lt 3982 size ≡ false → size ≤ 3982
in_room size is = grind (arith, nat_tests)

length_near : IsNear length_then 3986
length_near = (
  omega arith,
  λ field.
      either_near (nat_lt (from_be_bytes w32 field) 14 || nat_lt 3982 (from_be_bytes w32 field)) (refuse Length 5) (registers_then (from_be_bytes w32 field)) 3982 (λ _. omega arith)
      (λ is. registers_near (from_be_bytes w32 field) (in_room (from_be_bytes w32 field) is)),
)

pub record_near : IsNear record_layout 3991
unfolding record_layout
record_near =
    magic_byte_near 67 Magic 0 _ 3991 (omega arith) (omega arith) (magic_byte_near 82 Magic 1 _ 3990 (omega arith) (omega arith) (magic_byte_near 66 Magic 2 _ 3989 (omega arith) (omega arith)
    (magic_byte_near 68 Magic 3 _ 3988 (omega arith) (omega arith) (magic_byte_near 1 Version 4 length_then 3987 (omega arith) (omega arith) length_near))))

-- What is refused of a record isn't far on.
pub refused_near : (fault : Malformed) (bytes : List ℕ) → IsRefused fault bytes → fault.why ≢ Extra → fault.place ≤ 3991
refused_near fault bytes (inl (n, exact)) other = near_place record_layout 3991 fault (take n bytes) record_near exact
refused_near fault bytes (inr (inl cut)) other = rw cut.named (near_open record_layout 3991 bytes record_near cut.open_end)
refused_near fault bytes (inr (inr on)) other = absurd (other on.named)

-- the layout of what the laws of records give
abbrev pub RecordIsDecoded : Type 0
RecordIsDecoded = (v : DeviceValues) → AreValid v → Encodes record_layout (Ok (fields_of v)) (encode_record v)

-- A record isn't long.
pub record_few : RecordIsDecoded → (bytes : List ℕ) (v : DeviceValues) → IsRecord bytes v → length bytes ≤ 3991
record_few exact bytes v is = rw is.spelled (length_within record_layout 3991 (Ok (fields_of v)) (encode_record v) (near_within record_layout 3991 record_near) (exact v is.fit))
