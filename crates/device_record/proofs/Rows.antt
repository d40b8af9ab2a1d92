-- A field is refused by the first row of the table that holds.
use Rattle.std.proofs.Common.{◌≡◌, ℕ, zero, suc, ◌+◌, ◌-◌, ◌<◌, ◌≤◌, Bool, true, false, cond, eqb, ◌&&◌, ◌||◌, not, List, [], ◌∷◌, length, take, drop, Option, Some, None, Ok, Err, refl, sym, ap, subst, ◌∙◌, arith, inl, inr}
use Rattle.std.specs.Prelude.{nat_lt, slice_index}
use Rattle.std.specs.Int.{w16, w32, w64, from_be_bytes}
use Rattle.std.proofs.lemmas.Bool.{cases_lt, le-ltb, lt-ltb, ne_eqb}
use Rattle.std.proofs.Math.Bool.{and_comm}
use Rattle.std.proofs.lemmas.List.{length-drop, length-take, drop-drop, take-append-drop, get_or-take, get_or-drop}
use Rattle.vt_base.specs.Layout.{Layout, Ends, Field, Encodes, byte_then, long_then}
use Rattle.vt_base.specs.Parsing.{field_at, parsed}
use Rattle.vt_base.specs.Refusing.{malformed, refuse, magic_byte_then}
use Rattle.vt_base.proofs.Layouts.{encodes_prefix, parsed_encodes, parsed-append-ended}
use Rattle.vt_base.specs.declared.types.Why.{Why}
use Rattle.vt_base.specs.declared.types.Why.TheVariants.{Magic, Version, Length, Value}
use Rattle.vt_base.specs.declared.types.Malformed.{Malformed}
use Rattle.crb_regs.specs.Registers.{is_idle, is_executing}
use Rattle.crb_regs.specs.declared.phase.Phase.{Phase}
use Rattle.crb_regs.specs.declared.registers.Regs.{Regs}
use Rattle.device_record.specs.declared.fields.Fields.{Fields}
use Rattle.device_record.specs.Records.{flag_at, phase_at}
use Rattle.device_record.specs.Layouts.{Ending, value_then, ends_in_zero, content_then, count_then, job_then, registers_then, length_then, record_layout, HasRefusedField}
use Rattle.device_record.specs.Rows.{Row, after, rows, first_bad, first_refused}
use Rattle.device_record.proofs.Decoding.{idle_next, count_next, magic_byte_next, phase_next, cancel_next, granted_next, size_next}
use Rattle.device_record.proofs.Decided.{ParseOutcome}

-- what a verdict refuses
abbrev refusal : ParseOutcome → Option Malformed
refusal (Ok (Err fault)) = Some fault
refusal (Ok (Ok f)) = None
refusal (Err lack) = None

-- what a layout refuses in these bytes
abbrev refused_in : Layout Ending → List ℕ → Option Malformed
refused_in layout bytes = refusal (parsed layout bytes)

-- ---- a field, and the row that it has

-- a field that isn't whole, and one that is
short_field : (n : ℕ) (next : List ℕ → Layout Ending) (bytes : List ℕ) → length bytes < n → refused_in (Field n next) bytes ≡ None
unfolding field_at
short_field n next bytes less = rw (lt-ltb (length bytes) n less) refl

whole_field : (n : ℕ) (next : List ℕ → Layout Ending) (bytes : List ℕ) → n ≤ length bytes → refused_in (Field n next) bytes ≡ refused_in (next (take n bytes)) (drop n bytes)
unfolding field_at
whole_field n next bytes le = rw (le-ltb (length bytes) n le) refl

-- and a row of each
short_row : (count : ℕ) (first : Row) (rest : List Row) → count < first.whole → first_bad count (first ∷ rest) ≡ None
short_row count first rest less = rw (lt-ltb count first.whole less) refl

whole_row : (count : ℕ) (first : Row) (rest : List Row) → first.whole ≤ count → first_bad count (first ∷ rest) ≡ cond first.bad (Some first.fault) (first_bad count rest)
whole_row count first rest le = rw (le-ltb count first.whole le) refl

-- a field of n bytes at place k, which ends no later than that of the first row
field_before : (k n : ℕ) (next : List ℕ → Layout Ending) (bytes : List ℕ) (first : Row) (rest : List Row) → (length bytes < k → 0 < n) → k + n ≤ first.whole
    → (k + n ≤ length bytes → refused_in (next (take n (drop k bytes))) (drop (k + n) bytes) ≡ first_bad (length bytes) (first ∷ rest))
    → refused_in (Field n next) (drop k bytes) ≡ first_bad (length bytes) (first ∷ rest)
field_before k n next bytes first rest some within behind =
    elim (cases_lt (length (drop k bytes)) n) [
      | inl less ↦
          let short : length bytes < first.whole = grind (arith, length-drop k bytes) in
          short_field n next (drop k bytes) less ∙ sym (short_row (length bytes) first rest short)
      | inr whole ↦
          let le : k + n ≤ length bytes = grind (arith, length-drop k bytes) in
          whole_field n next (drop k bytes) whole ∙ rw (drop-drop n k bytes) (behind le)
    ]

-- a field with the first row
field_row : (k n : ℕ) (next : List ℕ → Layout Ending) (bytes : List ℕ) (first : Row) (rest : List Row) → (length bytes < k → 0 < n) → k + n ≡ first.whole
    → (k + n ≤ length bytes → refused_in (next (take n (drop k bytes))) (drop (k + n) bytes) ≡ cond first.bad (Some first.fault) (first_bad (length bytes) rest))
    → refused_in (Field n next) (drop k bytes) ≡ first_bad (length bytes) (first ∷ rest)
field_row k n next bytes first rest some ends behind =
    field_before k n next bytes first rest some (omega (arith, ends)) (λ le. behind le ∙ sym (whole_row (length bytes) first rest (omega (arith, ends))))

byte_at : (k : ℕ) (bytes : List ℕ) → slice_index (take 1 (drop k bytes)) 0 ≡ slice_index bytes k
byte_at k bytes = let same : k + 0 ≡ k = omega arith in get_or-take 1 (drop k bytes) 0 0 (omega arith) ∙ get_or-drop k bytes 0 0 ∙ ap (slice_index bytes) same

-- a byte with the first row
byte_row : (k : ℕ) (next : ℕ → Layout Ending) (bytes : List ℕ) (first : Row) (rest : List Row) → k + 1 ≡ first.whole
    → refused_in (next (slice_index bytes k)) (drop (k + 1) bytes) ≡ cond first.bad (Some first.fault) (first_bad (length bytes) rest)
    → refused_in (byte_then next) (drop k bytes) ≡ first_bad (length bytes) (first ∷ rest)
byte_row k next bytes first rest ends behind =
    field_row k 1 (λ field. next (slice_index field 0)) bytes first rest (λ _. omega arith) ends (λ le. ap (λ (b : ℕ). refused_in (next b) (drop (k + 1) bytes)) (byte_at k bytes) ∙ behind)

-- ---- what a value makes of the row

-- a test whose one side is a refusal
refused_if : (bad : Bool) (why : Why) (place : ℕ) (next : Layout Ending) (bytes : List ℕ) (later : Option Malformed) → (bad ≡ false → refused_in next bytes ≡ later)
    → refused_in (cond bad (refuse why place) next) bytes ≡ cond bad (Some (malformed why place)) later
refused_if true why place next bytes later behind = refl
refused_if false why place next bytes later behind = behind refl

refused_unless : (good : Bool) (why : Why) (place : ℕ) (next : Layout Ending) (bytes : List ℕ) (later : Option Malformed) → refused_in next bytes ≡ later
    → refused_in (cond good next (refuse why place)) bytes ≡ cond (not good) (Some (malformed why place)) later
refused_unless true why place next bytes later behind = behind
refused_unless false why place next bytes later behind = refl

-- two tests with the same refusal
refused_either : (bad worse : Bool) (fault later : Option Malformed) → cond bad fault (cond worse fault later) ≡ cond (bad || worse) fault later
refused_either true worse fault later = refl
refused_either false worse fault later = refl

no_flag : (byte : ℕ) → 1 < byte → flag_at byte ≡ None
no_flag byte high = rw (ne_eqb 0 byte (omega arith), ne_eqb 1 byte (omega arith)) refl

no_phase : (byte : ℕ) → 4 < byte → phase_at byte ≡ None
no_phase byte high = rw (ne_eqb 0 byte (omega arith), ne_eqb 1 byte (omega arith), ne_eqb 2 byte (omega arith), ne_eqb 3 byte (omega arith), ne_eqb 4 byte (omega arith)) refl

-- a flag, and what is refused behind each
flag_row : (byte place : ℕ) (next : Bool → Layout Ending) (bytes : List ℕ) (later : Bool → Option Malformed) → ((flag : Bool) → refused_in (next flag) bytes ≡ later flag)
    → refused_in (value_then (flag_at byte) place next) bytes ≡ cond (nat_lt 1 byte) (Some (malformed Value place)) (later (eqb byte 1))
flag_row zero place next bytes later each = each false
flag_row (suc zero) place next bytes later each = each true
flag_row (suc (suc byte)) place next bytes later each =
    let high : 1 < suc (suc byte) = omega arith in
    rw (no_flag (suc (suc byte)) high, lt-ltb 1 (suc (suc byte)) high) refl

-- a phase, and what later rows ask of its byte
phase_row : (byte place : ℕ) (next : Phase → Layout Ending) (bytes : List ℕ) (later : Option Malformed)
    → ((phase : Phase) → is_executing phase ≡ eqb byte 3 → is_idle phase ≡ eqb byte 0 → refused_in (next phase) bytes ≡ later)
    → refused_in (value_then (phase_at byte) place next) bytes ≡ cond (nat_lt 4 byte) (Some (malformed Value place)) later
phase_row zero place next bytes later each = each _ refl refl
phase_row (suc zero) place next bytes later each = each _ refl refl
phase_row (suc (suc zero)) place next bytes later each = each _ refl refl
phase_row (suc (suc (suc zero))) place next bytes later each = each _ refl refl
phase_row (suc (suc (suc (suc zero)))) place next bytes later each = each _ refl refl
phase_row (suc (suc (suc (suc (suc byte))))) place next bytes later each =
    let high : 4 < suc (suc (suc (suc (suc byte)))) = omega arith in
    rw (no_phase (suc (suc (suc (suc (suc byte))))) high, lt-ltb 4 (suc (suc (suc (suc (suc byte))))) high) refl

-- ---- the layout, from its end

-- the rows behind the first n, and what they refuse
abbrev rows_from : ℕ → List ℕ → List Row
rows_from n bytes = drop n (rows bytes)

abbrev refused_from : ℕ → List ℕ → Option Malformed
refused_from n bytes = first_bad (length bytes) (rows_from n bytes)

-- whether the content ends in a zero, by its last byte
last_byte : (bytes : List ℕ) (n : ℕ) → 23 + n ≤ length bytes → ends_in_zero (take n (drop 23 bytes)) ≡ (nat_lt 0 n && eqb (slice_index bytes (22 + n)) 0)
last_byte bytes n le =
    let size : length (take n (drop 23 bytes)) ≡ n = omega (arith, length-take n (drop 23 bytes), length-drop 23 bytes) in
    ap (λ (k : ℕ). nat_lt 0 k && eqb (slice_index (take n (drop 23 bytes)) (k - 1)) 0) size ∙ at n
  where
    at : (n : ℕ) → nat_lt 0 n && eqb (slice_index (take n (drop 23 bytes)) (n - 1)) 0 ≡ (nat_lt 0 n && eqb (slice_index bytes (22 + n)) 0)
    at zero = refl
    at (suc n) =
        let place : 23 + (suc n - 1) ≡ 22 + suc n = omega arith in
        ap (λ (b : ℕ). nat_lt 0 (suc n) && eqb b 0) (get_or-take (suc n) (drop 23 bytes) (suc n - 1) 0 (omega arith) ∙ get_or-drop 23 bytes (suc n - 1) 0 ∙ ap (slice_index bytes) place)

-- the length in the bytes, the number of content bytes in them, and fields with that number
abbrev size_in : List ℕ → ℕ
size_in bytes = from_be_bytes w32 (take 4 (drop 5 bytes))

abbrev count_in : List ℕ → ℕ
count_in bytes = from_be_bytes w16 (take 2 (drop 21 bytes))

abbrev fields_in : Regs → Bool → ℕ → List ℕ → Fields
fields_in regs cancelled number bytes = record { regs = regs; cancelled = cancelled; number = number; count = count_in bytes }

content_by_row : (regs : Regs) (cancelled : Bool) (number : ℕ) (bytes : List ℕ) → 23 ≤ length bytes
    → refused_in (content_then (fields_in regs cancelled number bytes)) (drop 23 bytes) ≡ refused_from 12 bytes
content_by_row regs cancelled number bytes header =
    let n = count_in bytes in
    let f = fields_in regs cancelled number bytes in
    field_row 23 n (λ content. cond (ends_in_zero content) (refuse Value (22 + n)) (Ends (Ok f))) bytes _ [] (λ short. absurd (omega (arith, short, header))) refl (λ le.
    refused_if (ends_in_zero (take n (drop 23 bytes))) Value (22 + n) (Ends (Ok f)) (drop (23 + n) bytes) None (λ _. refl)
    ∙ ap (λ (t : Bool). cond t (Some (malformed Value (22 + n))) None) (last_byte bytes n le))

count_by_rows : (regs : Regs) (cancelled : Bool) (number : ℕ) (bytes : List ℕ) → is_idle regs.phase ≡ eqb (slice_index bytes 11) 0
    → refused_in (count_then (size_in bytes) regs cancelled number) (drop 21 bytes) ≡ refused_from 10 bytes
count_by_rows regs cancelled number bytes idle =
    let n = count_in bytes in
    let f = fields_in regs cancelled number bytes in
    field_row 21 2 (λ field. count_next (size_in bytes) regs cancelled number (from_be_bytes w16 field)) bytes _ (rows_from 11 bytes) (λ _. omega arith) refl (λ le.
    refused_if (not (eqb (14 + n) (size_in bytes))) Length 21 (idle_next f) (drop 23 bytes) (refused_from 11 bytes) (λ _.
    refused_if (is_idle regs.phase && nat_lt 0 n) Value 21 (content_then f) (drop 23 bytes) (refused_from 12 bytes) (λ _. content_by_row regs cancelled number bytes le)
    ∙ ap (λ (t : Bool). cond t (Some (malformed Value 21)) (refused_from 12 bytes)) (and_comm (is_idle regs.phase) (nat_lt 0 n) ∙ ap (λ (t : Bool). nat_lt 0 n && t) idle)
    ∙ sym (whole_row (length bytes) _ (rows_from 12 bytes) le)))

job_by_rows : (regs : Regs) (bytes : List ℕ) → is_executing regs.phase ≡ eqb (slice_index bytes 11) 3 → is_idle regs.phase ≡ eqb (slice_index bytes 11) 0
    → refused_in (job_then (size_in bytes) regs) (drop 12 bytes) ≡ refused_from 9 bytes
job_by_rows regs bytes executing idle =
    let fault = Some (malformed Value 12) in
    let later = refused_from 10 bytes in
    byte_row 12 (λ byte. value_then (flag_at byte) 12 (magic_byte_next (size_in bytes) regs)) bytes _ (rows_from 10 bytes) refl
    (flag_row (slice_index bytes 12) 12 (magic_byte_next (size_in bytes) regs) (drop 13 bytes) (λ flag. cond (flag && not (eqb (slice_index bytes 11) 3)) fault later) (λ flag.
    refused_if (flag && not (is_executing regs.phase)) Value 12 (long_then (λ number. count_then (size_in bytes) regs flag number)) (drop 13 bytes) later (λ _.
    field_before 13 8 (λ field. count_then (size_in bytes) regs flag (from_be_bytes w64 field)) bytes _ (rows_from 11 bytes) (λ _. omega arith) (omega arith) (λ _. count_by_rows regs flag _ bytes idle))
    ∙ ap (λ (t : Bool). cond (flag && not t) fault later) executing)
    ∙ refused_either (nat_lt 1 (slice_index bytes 12)) (eqb (slice_index bytes 12) 1 && not (eqb (slice_index bytes 11) 3)) fault later)

registers_by_rows : (bytes : List ℕ) → refused_in (registers_then (size_in bytes)) (drop 9 bytes) ≡ refused_from 6 bytes
registers_by_rows bytes =
    let size = size_in bytes in
    byte_row 9 (λ byte. value_then (flag_at byte) 9 (granted_next size)) bytes _ (rows_from 7 bytes) refl
    (flag_row (slice_index bytes 9) 9 (granted_next size) (drop 10 bytes) (λ _. refused_from 7 bytes) (λ granted.
    byte_row 10 (λ byte. value_then (flag_at byte) 10 (cancel_next size granted)) bytes _ (rows_from 8 bytes) refl
    (flag_row (slice_index bytes 10) 10 (cancel_next size granted) (drop 11 bytes) (λ _. refused_from 8 bytes) (λ cancel.
    byte_row 11 (λ code. value_then (phase_at code) 11 (phase_next size granted cancel)) bytes _ (rows_from 9 bytes) refl
    (phase_row (slice_index bytes 11) 11 (phase_next size granted cancel) (drop 12 bytes) (refused_from 9 bytes) (λ phase executing idle.
    job_by_rows (record { granted = granted; cancel = cancel; phase = phase }) bytes executing idle))))))

length_by_rows : (bytes : List ℕ) → refused_in length_then (drop 5 bytes) ≡ refused_from 5 bytes
length_by_rows bytes =
    let size = size_in bytes in
    field_row 5 4 (λ field. size_next (from_be_bytes w32 field)) bytes _ (rows_from 6 bytes) (λ _. omega arith) refl (λ le.
    refused_if (nat_lt size 14 || nat_lt 3982 size) Length 5 (registers_then size) (drop 9 bytes) (refused_from 6 bytes) (λ _. registers_by_rows bytes))

-- a byte of the magic, or the version
magic_byte_row : (mark : ℕ) (why : Why) (place : ℕ) (next : Layout Ending) (bytes : List ℕ) (rest : List Row) → refused_in next (drop (place + 1) bytes) ≡ first_bad (length bytes) rest
    → refused_in (magic_byte_then mark why place next) (drop place bytes) ≡ first_bad (length bytes) (after (place + 1) (not (eqb (slice_index bytes place) mark)) why place ∷ rest)
magic_byte_row mark why place next bytes rest behind =
    byte_row place (λ b. cond (eqb b mark) next (refuse why place)) bytes _ rest refl
    (refused_unless (eqb (slice_index bytes place) mark) why place next (drop (place + 1) bytes) (first_bad (length bytes) rest) behind)

-- what bytes are refused for is what the first row says
by_rows : (bytes : List ℕ) → refused_in record_layout bytes ≡ first_refused bytes
unfolding record_layout first_refused
by_rows bytes =
    magic_byte_row 67 Magic 0 _ bytes (rows_from 1 bytes) (magic_byte_row 82 Magic 1 _ bytes (rows_from 2 bytes)
    (magic_byte_row 66 Magic 2 _ bytes (rows_from 3 bytes) (magic_byte_row 68 Magic 3 _ bytes (rows_from 4 bytes)
    (magic_byte_row 1 Version 4 length_then bytes (rows_from 5 bytes) (length_by_rows bytes)))))

-- ---- a field that is refused

-- what refuses a prefix refuses all bytes
refused_at : (fault : Malformed) (bytes : List ℕ) (n : ℕ) → Encodes record_layout (Err fault) (take n bytes) → parsed record_layout bytes ≡ Ok (Err fault)
refused_at fault bytes n exact =
    subst (λ (all : List ℕ). parsed record_layout all ≡ Ok (Err fault)) (take-append-drop n bytes)
    (parsed-append-ended record_layout (take n bytes) (drop n bytes) (Err fault) (parsed_encodes record_layout (take n bytes) (Err fault) exact))

refusal_of : (outcome_of_parse : ParseOutcome) (fault : Malformed) → refusal outcome_of_parse ≡ Some fault → outcome_of_parse ≡ Ok (Err fault)
refusal_of (Ok (Err other)) fault is = let same : other ≡ fault = cc in rw same refl
refusal_of (Ok (Ok f)) fault is = absurd cc
refusal_of (Err lack) fault is = absurd cc

-- A refused field is that of the first row that holds.
pub refused_by_rows : (fault : Malformed) (bytes : List ℕ) (n : ℕ) → Encodes record_layout (Err fault) (take n bytes) → first_refused bytes ≡ Some fault
refused_by_rows fault bytes n exact = sym (by_rows bytes) ∙ ap refusal (refused_at fault bytes n exact)

-- And where a row holds, the field of the first is refused.
pub rows_refuse : (fault : Malformed) (bytes : List ℕ) → first_refused bytes ≡ Some fault → HasRefusedField fault bytes
rows_refuse fault bytes is =
    let prefix = encodes_prefix record_layout bytes (Err fault) (refusal_of (parsed record_layout bytes) fault (by_rows bytes ∙ is)) in
    (prefix.0, prefix.2)
