-- How the values of a device are encoded as a record. (Own definitions. Numbers are big-endian.)
use Rattle.std.specs.Prelude.{◌≡◌, ℕ, ◌+◌, List, [], ◌∷◌, ◌++◌, length, find, Option, Bool, true, false, ◌==◌, if◌then◌else◌}
use Rattle.vt_base.specs.Buffer.{followed_by_zeros}
use Rattle.vt_base.specs.Numbers.{short, number, long}
use Rattle.crb_regs.specs.declared.phase.Phase.{Phase}
use Rattle.crb_regs.specs.declared.phase.Phase.TheVariants.{Idle, Ready, Reception, Execution, Completion, Lost}
use Rattle.crb_machine.specs.Values.{DeviceValues, AreValid}
use Rattle.device_record.specs.declared.fields.Fields.{Fields}

-- C, R, B, D
abbrev pub magic : List ℕ
magic = 67 ∷ 82 ∷ 66 ∷ 68 ∷ []

-- the byte of a flag
abbrev pub flag_byte : Bool → ℕ
flag_byte flag = if flag then 1 else 0

-- the flag of a byte, if it is one
abbrev pub flag_at : ℕ → Option Bool
flag_at byte = find (λ flag. flag_byte flag == byte) (false ∷ true ∷ [])

-- the code of a phase; that of `Lost` stands in no record
abbrev pub phase_code : Phase → ℕ
phase_code Idle = 0
phase_code Ready = 1
phase_code Reception = 2
phase_code Execution = 3
phase_code Completion = 4
phase_code Lost = 5

-- the phases that a record may have
abbrev pub phases : List Phase
phases = Idle ∷ Ready ∷ Reception ∷ Execution ∷ Completion ∷ []

-- the phase of a code, if a record may have it
abbrev pub phase_at : ℕ → Option Phase
phase_at code = find (λ phase. phase_code phase == code) phases

-- a byte before others; a zero before nothing is left out
abbrev pub before : ℕ → List ℕ → List ℕ
before byte [] = if byte == 0 then [] else byte ∷ []
before byte (next ∷ rest) = byte ∷ next ∷ rest

-- the bytes without the zeros at their end
abbrev pub trimmed : List ℕ → List ℕ
trimmed [] = []
trimmed (byte ∷ bytes) = before byte (trimmed bytes)

-- the fields of these values
abbrev pub fields_of : DeviceValues → Fields
fields_of v = record {
  regs = record { granted = v.granted; cancel = v.cancel; phase = v.phase };
  cancelled = v.cancelled;
  number = v.number;
  count = length (trimmed v.content);
}

-- and the values of these fields with this content
abbrev pub values_of : Fields → List ℕ → DeviceValues
values_of f content = record {
  granted = f.regs.granted;
  cancel = f.regs.cancel;
  phase = f.regs.phase;
  cancelled = f.cancelled;
  content = followed_by_zeros content;
  number = f.number;
}

-- the magic, the version, how many bytes follow, and then the fields, up to the number of content bytes
abbrev pub encode_header : Fields → List ℕ
encode_header f =
    magic ++ 1 ∷ [] ++ number (14 + f.count)
    ++ flag_byte f.regs.granted ∷ flag_byte f.regs.cancel ∷ phase_code f.regs.phase ∷ flag_byte f.cancelled ∷ []
    ++ long f.number ++ short f.count

-- the record of these values: its header, and the buffer without the zeros at its end
unfoldable pub encode_record : DeviceValues → List ℕ
encode_record v = encode_header (fields_of v) ++ trimmed v.content

-- The bytes are the record of these values, which a device can have.
pub record IsRecord (bytes : List ℕ) (v : DeviceValues) : Type 0 where
  pub fit : AreValid v
  pub spelled : bytes ≡ encode_record v
