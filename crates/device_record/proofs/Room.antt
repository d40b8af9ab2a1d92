-- How long a record is at most.
use Rattle.std.proofs.Common.{◌≡◌, ℕ, ◌+◌, ◌-◌, ◌≤◌, Bool, false, eqb, ◌&&◌, ◌||◌, not, List, length, Option, Some, None, Ok, Err, arith}
use Rattle.std.specs.Prelude.{nat_lt, slice_index}
use Rattle.std.proofs.lemmas.Bool.Decides.{nat_tests}
use Rattle.std.specs.Int.{w16, w32, from_be_bytes}
use Rattle.vt_base.specs.declared.grammar.Missing.{Missing}
use Rattle.vt_base.specs.Layout.{Layout, Ends, IsWithin, long_then}
use Rattle.vt_base.specs.Parsing.{parsed}
use Rattle.vt_base.specs.Refusing.{refuse}
use Rattle.vt_base.specs.Within.{either_within, magic_byte_within}
use Rattle.vt_base.proofs.Layouts.{wants_within}
use Rattle.vt_base.specs.declared.types.Why.TheVariants.{Magic, Version, Length, Value}
use Rattle.crb_regs.specs.Registers.{is_idle, is_executing}
use Rattle.crb_regs.specs.declared.registers.Regs.{Regs}
use Rattle.device_record.specs.declared.fields.Fields.{Fields}
use Rattle.device_record.specs.Records.{flag_at, phase_at}
use Rattle.device_record.specs.Layouts.{Ending, value_then, flag_then, ends_in_zero, content_then, count_then, job_then, registers_then, length_then, record_layout}
use Rattle.device_record.proofs.Decoding.{idle_next, magic_byte_next, phase_next, cancel_next, granted_next}

value_within : {X : Type 0} (found : Option X) (place : ℕ) (next : X → Layout Ending) (room : ℕ) → ((value : X) → IsWithin (next value) room) → IsWithin (value_then found place next) room
value_within None place next room each = tt
value_within (Some value) place next room each = each value

flag_within : (place : ℕ) (next : Bool → Layout Ending) (room : ℕ) → 1 ≤ room → ((flag : Bool) → IsWithin (next flag) (room - 1)) → IsWithin (flag_then place next) room
flag_within place next room some each = (some, λ field. value_within (flag_at (slice_index field 0)) place next (room - 1) each)

content_within : (f : Fields) → f.count ≤ 3968 → IsWithin (content_then f) 3968
content_within f within_limit = (within_limit, λ content. either_within (ends_in_zero content) (refuse Value (22 + f.count)) (Ends (Ok f)) (3968 - f.count) (λ _. tt) (λ _. tt))

within_limit : (size count : ℕ) → size ≤ 3982 → not (eqb (14 + count) size) ≡ false → count ≤ 3968
within_limit size count le is = grind (arith, nat_tests)

count_within : (size : ℕ) (regs : Regs) (cancelled : Bool) (number : ℕ) → size ≤ 3982 → IsWithin (count_then size regs cancelled number) 3970
count_within size regs cancelled number le = (
  omega arith,
  λ field.
      let f : Fields = record { regs = regs; cancelled = cancelled; number = number; count = from_be_bytes w16 field } in
      either_within (not (eqb (14 + f.count) size)) (refuse Length 21) (idle_next f) 3968 (λ _. tt) (λ is.
      either_within (is_idle regs.phase && nat_lt 0 f.count) (refuse Value 21) (content_then f) 3968 (λ _. tt) (λ _. content_within f (within_limit size f.count le is))),
)

job_within : (size : ℕ) (regs : Regs) → size ≤ 3982 → IsWithin (job_then size regs) 3979
job_within size regs le = flag_within 12 (magic_byte_next size regs) 3979 (omega arith) (λ cancelled.
    either_within (cancelled && not (is_executing regs.phase)) (refuse Value 12) (long_then (λ number. count_then size regs cancelled number)) 3978 (λ _. tt)
    (λ _. (omega arith, λ field. count_within size regs cancelled _ le)))

registers_within : (size : ℕ) → size ≤ 3982 → IsWithin (registers_then size) 3982
registers_within size le =
    flag_within 9 (granted_next size) 3982 (omega arith) (λ granted. flag_within 10 (cancel_next size granted) 3981 (omega arith) (λ cancel.
    (omega arith, λ field. value_within (phase_at (slice_index field 0)) 11 (phase_next size granted cancel) 3979 (λ phase. job_within size _ le))))

in_room : (size : ℕ) → nat_lt size 14 || nat_lt 3982 size ≡ false → size ≤ 3982
in_room size is = grind (arith, nat_tests)

length_within : IsWithin length_then 3986
length_within = (
  omega arith,
  λ field.
      either_within (nat_lt (from_be_bytes w32 field) 14 || nat_lt 3982 (from_be_bytes w32 field)) (refuse Length 5) (registers_then (from_be_bytes w32 field)) 3982 (λ _. tt)
      (λ is. registers_within (from_be_bytes w32 field) (in_room (from_be_bytes w32 field) is)),
)

pub record_within : IsWithin record_layout 3991
unfolding record_layout
record_within =
    magic_byte_within 67 Magic 0 _ 3991 (omega arith) (magic_byte_within 82 Magic 1 _ 3990 (omega arith) (magic_byte_within 66 Magic 2 _ 3989 (omega arith) (magic_byte_within 68 Magic 3 _ 3988 (omega arith)
    (magic_byte_within 1 Version 4 length_then 3987 (omega arith) length_within))))

-- Bytes that are cut are fewer.
pub cut_is_short : (bytes : List ℕ) (lack : Missing) → parsed record_layout bytes ≡ Err lack → length bytes ≤ 3991
cut_is_short bytes lack is = let all = wants_within record_layout 3991 bytes lack.0 record_within is in omega (arith, all)
