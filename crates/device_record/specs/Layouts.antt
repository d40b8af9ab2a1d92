-- Records parsed from left to right, field by field: the places and the order of what is refused. (Own definitions.)
use Rattle.std.specs.Prelude.{◌≡◌, ℕ, ◌+◌, ◌-◌, ◌<◌, ◌==◌, ◌&&◌, ◌||◌, not, nat_lt, if◌then◌else◌, Bool, List, length, take, slice_index, ◌⊎◌, Option, Some, None, Result, Ok, Err}
use Rattle.vt_base.specs.Layout.{Layout, Ends, Field, Encodes, IsOpen, byte_then, short_then, number_then, long_then}
use Rattle.vt_base.specs.Magics.{magic_then}
use Rattle.vt_base.specs.Refusing.{malformed, refuse, magic_byte_then}
use Rattle.vt_base.specs.declared.types.Why.TheVariants.{Version, Length, Value, Cut, Extra}
use Rattle.vt_base.specs.declared.types.Malformed.{Malformed}
use Rattle.crb_regs.specs.Registers.{is_idle, is_executing}
use Rattle.crb_regs.specs.declared.registers.Regs.{Regs}
use Rattle.crb_machine.specs.Values.{DeviceValues}
use Rattle.device_record.specs.declared.fields.Fields.{Fields}
use Rattle.device_record.specs.Records.{magic, flag_at, phase_at, IsRecord}

-- the fields of a whole record, or why the bytes are refused
abbrev pub Ending : Type 0
Ending = Result Fields Malformed

-- what a value makes of the rest, or a refusal at its place where there is none
abbrev pub value_then : {X : Type 0} → Option X → ℕ → (X → Layout Ending) → Layout Ending
value_then None place next = refuse Value place
value_then (Some value) place next = next value

-- a flag
abbrev pub flag_then : ℕ → (Bool → Layout Ending) → Layout Ending
flag_then place next = byte_then (λ byte. value_then (flag_at byte) place next)

-- whether there is a last byte, and it is 0
abbrev pub ends_in_zero : List ℕ → Bool
ends_in_zero bytes = nat_lt 0 (length bytes) && slice_index bytes (length bytes - 1) == 0

-- the content, which doesn't end in a zero
abbrev pub content_then : Fields → Layout Ending
content_then f = Field f.count (λ content. if ends_in_zero content then refuse Value (22 + f.count) else Ends (Ok f))

-- the number of content bytes, which the length of the record gave before, and which is 0 in Idle
abbrev pub count_then : ℕ → Regs → Bool → ℕ → Layout Ending
count_then size regs cancelled number = short_then (λ count.
    if not (14 + count == size) then refuse Length 21 else
    if is_idle regs.phase && nat_lt 0 count then refuse Value 21 else
    content_then (record { regs = regs; cancelled = cancelled; number = number; count = count }))

-- whether the job that waits is cancelled, which it can be in Execution alone, and the number of the last job
abbrev pub job_then : ℕ → Regs → Layout Ending
job_then size regs = flag_then 12 (λ cancelled.
    if cancelled && not (is_executing regs.phase) then refuse Value 12 else
    long_then (λ number. count_then size regs cancelled number))

-- access, CANCEL and the phase
abbrev pub registers_then : ℕ → Layout Ending
registers_then size =
    flag_then 9 (λ granted. flag_then 10 (λ cancel. byte_then (λ code. value_then (phase_at code) 11 (λ phase.
    job_then size (record { granted = granted; cancel = cancel; phase = phase })))))

-- how many bytes follow: 14, and as many more as the content has
abbrev pub length_then : Layout Ending
length_then = number_then (λ size. if nat_lt size 14 || nat_lt 3982 size then refuse Length 5 else registers_then size)

-- the version
abbrev pub version_then : Layout Ending
version_then = magic_byte_then 1 Version 4 length_then

-- a record
unfoldable pub record_layout : Layout Ending
record_layout = magic_then magic 0 version_then

-- A field of the bytes is refused, whatever stands behind it.
abbrev pub HasRefusedField : Malformed → List ℕ → Type 0
HasRefusedField fault bytes = (n : ℕ) × Encodes record_layout (Err fault) (take n bytes)

-- The bytes end before a record does, and no field of them is refused.
pub record AreCut (fault : Malformed) (bytes : List ℕ) : Type 0 where
  pub open_end : IsOpen record_layout bytes
  pub named : fault ≡ malformed Cut (length bytes)

-- The bytes begin with a record, behind which others stand.
pub record GoOn (fault : Malformed) (bytes : List ℕ) : Type 0 where
  pub values : DeviceValues
  pub is_record : IsRecord (take fault.place bytes) values
  pub behind : fault.place < length bytes
  pub named : fault.why ≡ Extra

-- The bytes are no record, for this reason and at this place.
abbrev pub IsRefused : Malformed → List ℕ → Type 0
IsRefused fault bytes = HasRefusedField fault bytes ⊎ AreCut fault bytes ⊎ GoOn fault bytes
