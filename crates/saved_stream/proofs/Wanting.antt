-- A stream that is cut wants more: what the headers give is whole before a part is.
use Rattle.std.proofs.Common.{◌≡◌, ℕ, ◌+◌, ◌-◌, ◌<◌, ◌≤◌, Bool, true, false, cond, eqb, not, ◌&&◌, ◌||◌, List, [], ◌∷◌, ◌++◌, length, take, drop, Option, Some, None, Result, Ok, Err, refl, sym, ap, subst, ◌∙◌, arith, inl, inr, get_or}
use Rattle.std.specs.Prelude.{nat_lt, slice_index, ◌⊎◌}
use Rattle.std.specs.Int.{w16, w32, w64, from_be_bytes}
use Rattle.std.proofs.lemmas.Bool.{cases_lt, eqb-true, le-ltb, lt-ltb}
use Rattle.std.proofs.lemmas.Bool.Decides.{nat_tests}
use Rattle.std.proofs.lemmas.List.{length-append, length-take, length-drop, drop_at, take_all, take-append-drop, take-append-le, drop-drop, drop-take, take-take, get_or-take, get_or-drop, get_or_past}
use Rattle.vt_base.specs.Numbers.{IsBytes}
use Rattle.vt_base.specs.declared.grammar.Missing.{Missing}
use Rattle.vt_base.specs.Layout.{Layout, Ends, Field, Encodes, IsOpen, IsWithin, byte_then, number_then, long_then}
use Rattle.vt_base.specs.Parsing.{missing, field_at, parsed}
use Rattle.vt_base.specs.Refusing.{malformed, refuse, magic_byte_then}
use Rattle.vt_base.specs.Magics.{magic_then}
use Rattle.vt_base.specs.Within.{either_within}
use Rattle.vt_base.proofs.Layouts.{wants_positive, wants_within, encodes_prefix}
use Rattle.vt_base.specs.declared.types.Kind.{Kind}
use Rattle.vt_base.specs.declared.types.Kind.TheVariants.{Permanent, Volatile, Saved}
use Rattle.vt_base.specs.declared.types.Why.{Why}
use Rattle.vt_base.specs.declared.types.Why.TheVariants.{Magic, Version, Length, Value, Cut, Extra}
use Rattle.vt_base.specs.declared.types.Malformed.{Malformed}
use Rattle.crb_regs.specs.Registers.{is_idle, is_executing}
use Rattle.crb_regs.specs.declared.registers.Regs.{Regs}
use Rattle.device_record.specs.declared.fields.Fields.{Fields}
use Rattle.device_record.specs.Records as records
use Rattle.device_record.specs.Records.{flag_at, phase_at}
use Rattle.device_record.specs.Layouts.{Ending, value_then, ends_in_zero, content_then, count_then, job_then, registers_then, length_then, version_then, record_layout}
use Rattle.tpm_core.specs.declared.algorithm.Banks.{Banks}
use Rattle.state_blobs.specs.Numbers.{banks_named, version_place}
use Rattle.state_blobs.specs.Encodings.{magic_of, is_length, flag_fits, IsBlob}
use Rattle.state_blobs.specs.Blobs.{body_then, sized_then, after_version, after_magic, blob}
use Rattle.state_blobs.specs.Blobs.{Ending as Ending_of_head}
use Rattle.state_blobs.specs.Refusals.{length_field, IsRefused, IsRefusedFor, IsCut}
use Rattle.saved_stream.specs.Numbers.{format_version}
use Rattle.saved_stream.specs.declared.part.Part.{Part}
use Rattle.saved_stream.specs.declared.part.Part.TheVariants.{Record, Blob}
use Rattle.saved_stream.specs.Parts.{parts, IsPartRefused}
use Rattle.saved_stream.specs.Streams.{magic}
use Rattle.saved_stream.specs.Refusals.{head, IsStopped, ArePartsRefused, IsStreamRefused}
use Rattle.saved_stream.specs.Headers.{may_follow, begins, is_header, parts_then, walk, lack, wanted_after}
use Rattle.saved_stream.proofs.Heads.{cut_if_open}
use Rattle.saved_stream.proofs.Near.{idle_next, magic_byte_next, phase_next, cancel_next, granted_next}
use Rattle.saved_stream.proofs.PartLaws.{LawsOfParts}
use Rattle.saved_stream.proofs.Asked.{take_four, some_body, is_blob_header, is_record_header, headed, begins_head}

-- ---- bytes in which nothing ended

with_field : {E : Type 0} (n k : ℕ) (next : List ℕ → Layout E) (bytes : List ℕ) (end : E) → n ≤ length bytes → Encodes (next (take n bytes)) end (take k (drop n bytes)) → Encodes (Field n next) end (take (n + k) bytes)
with_field n k next bytes end le exact =
    let front : take n (take (n + k) bytes) ≡ take n bytes = take-take n (n + k) bytes (omega arith) in
    let size : n ≤ length (take (n + k) bytes) = omega (arith, length-take (n + k) bytes) in
    (size, rw (front, drop-take n k bytes) exact)

-- a field that is whole is passed
field_passed : {E : Type 0} (n : ℕ) (next : List ℕ → Layout E) (bytes : List ℕ) → IsOpen (Field n next) bytes → n ≤ length bytes → IsOpen (next (take n bytes)) (drop n bytes)
field_passed n next bytes none le = λ end k exact. none end (n + k) (with_field n k next bytes end le exact)

-- a test whose other side is a refusal
passed_if : {V F : Type 0} (b : Bool) (p : Layout (Result V F)) (fault : F) (bytes : List ℕ) → IsOpen (cond b p (Ends (Err fault))) bytes → (b ≡ true) × IsOpen p bytes
passed_if true p fault bytes none = (refl, none)
passed_if false p fault bytes none = absurd (none (Err fault) 0 (refl, refl))

passed_unless : {V F : Type 0} (b : Bool) (p : Layout (Result V F)) (fault : F) (bytes : List ℕ) → IsOpen (cond b (Ends (Err fault)) p) bytes → (b ≡ false) × IsOpen p bytes
passed_unless true p fault bytes none = absurd (none (Err fault) 0 (refl, refl))
passed_unless false p fault bytes none = (refl, none)

byte_passed : {V : Type 0} (byte : ℕ) (why : Why) (place : ℕ) (next : Layout (Result V Malformed)) (bytes : List ℕ) → IsOpen (magic_byte_then byte why place next) bytes → 1 ≤ length bytes
    → (rest : List ℕ) × (bytes ≡ byte ∷ rest) × IsOpen next rest
byte_passed byte why place next [] none le = absurd (omega (arith, le))
byte_passed byte why place next (b ∷ rest) none le =
    let behind = field_passed 1 (λ field. cond (eqb (slice_index field 0) byte) next (refuse why place)) (b ∷ rest) none le in
    let same = passed_if (eqb b byte) next (malformed why place) rest behind in
    (rest, ap (λ (x : ℕ). x ∷ rest) (eqb-true _ _ same.0), same.1)

magic_passed : {V : Type 0} (marks : List ℕ) (place : ℕ) (next : Layout (Result V Malformed)) (bytes : List ℕ) → IsOpen (magic_then marks place next) bytes → length marks ≤ length bytes
    → (rest : List ℕ) × (bytes ≡ marks ++ rest) × IsOpen next rest
magic_passed [] place next bytes none le = (bytes, refl, none)
magic_passed (mark ∷ marks) place next bytes none le =
    let first = byte_passed mark Magic place (magic_then marks (place + 1) next) bytes none (omega (arith, le)) in
    let others = magic_passed marks (place + 1) next first.0 first.2 (omega (arith, le, ap length first.1)) in
    (others.0, first.1 ∙ ap (λ (r : List ℕ). mark ∷ r) others.1, others.2)

-- bytes in which nothing ended are fewer than the longest message has
fewer_if : {E : Type 0} (layout : Layout E) (room : ℕ) (bytes : List ℕ) → IsWithin layout room → IsOpen layout bytes → (answer : Result E Missing) → parsed layout bytes ≡ answer → length bytes < room
fewer_if layout room bytes within none (Ok end) is = let prefix = encodes_prefix layout bytes end is in absurd (none end prefix.0 prefix.2)
fewer_if layout room bytes within none (Err m) is = omega (arith, wants_within layout room bytes m.0 within is, wants_positive layout bytes m.0 is)

fewer : {E : Type 0} (layout : Layout E) (room : ℕ) (bytes : List ℕ) → IsWithin layout room → IsOpen layout bytes → length bytes < room
fewer layout room bytes within none = fewer_if layout room bytes within none (parsed layout bytes) refl

-- ---- a walk that ended

walk_short : {E : Type 0} (n : ℕ) (next : List ℕ → Layout E) (bytes : List ℕ) → length bytes < n → parsed (Field n next) bytes ≡ Err (missing (n - length bytes))
unfolding field_at
walk_short n next bytes lt = rw (lt-ltb (length bytes) n lt) refl

walk_long : {E : Type 0} (n : ℕ) (next : List ℕ → Layout E) (bytes : List ℕ) → n ≤ length bytes → parsed (Field n next) bytes ≡ parsed (next (take n bytes)) (drop n bytes)
unfolding field_at
walk_long n next bytes le = rw (le-ltb (length bytes) n le) refl

field_walked : {E : Type 0} (n : ℕ) (next : List ℕ → Layout E) (bytes : List ℕ) (end : E) → parsed (Field n next) bytes ≡ Ok end → (n ≤ length bytes) × (parsed (next (take n bytes)) (drop n bytes) ≡ Ok end)
field_walked n next bytes end is =
    elim (cases_lt (length bytes) n) [
      | inl lt ↦ let never : Err (missing (n - length bytes)) ≡ Ok end = sym (walk_short n next bytes lt) ∙ is in absurd cc
      | inr le ↦ (le, sym (walk_long n next bytes le) ∙ is)
    ]

-- ---- a part that is cut has its header, and fewer bytes than that gives

record IsBegun (part : Part) (bytes : List ℕ) : Type 0 where
  pub is : is_header part (take 9 bytes) ≡ true
  pub fewer : length bytes < 9 + length_field (take 9 bytes)

-- a body of a blob
body_within : (kind : Kind) (count : ℕ) → 1 ≤ count → IsWithin (body_then kind count) count
body_within kind count some = (some, λ field. either_within (flag_fits kind count (slice_index field 0)) (Field (count - 1) (λ _. Ends (Ok tt))) (refuse Value 9) (count - 1) (λ _. (omega arith, λ _. tt)) (λ _. tt))

magic_of_four : (kind : Kind) → length (magic_of kind) ≡ 4
magic_of_four Permanent = refl
magic_of_four Volatile = refl
magic_of_four Saved = refl

take_prefix : (kind : Kind) (version : ℕ) (rest : List ℕ) → take 9 (magic_of kind ++ version ∷ rest) ≡ magic_of kind ++ version ∷ take 4 rest
take_prefix Permanent version rest = refl
take_prefix Volatile version rest = refl
take_prefix Saved version rest = refl

field_of_blob : (kind : Kind) (version : ℕ) (rest : List ℕ) → length_field (magic_of kind ++ version ∷ rest) ≡ from_be_bytes w32 (take 4 rest)
field_of_blob Permanent version rest = refl
field_of_blob Volatile version rest = refl
field_of_blob Saved version rest = refl

any_byte_passed : {E : Type 0} (next : ℕ → Layout E) (bytes : List ℕ) → IsOpen (byte_then next) bytes → 1 ≤ length bytes → (byte : ℕ) × (rest : List ℕ) × (bytes ≡ byte ∷ rest) × IsOpen (next byte) rest
any_byte_passed next [] none le = absurd (omega (arith, le))
any_byte_passed next (b ∷ rest) none le = (b, rest, refl, field_passed 1 (λ field. next (slice_index field 0)) (b ∷ rest) none le)

version_passed : (kind : Kind) (named : Option Banks) (bytes : List ℕ) → IsOpen (after_version kind named) bytes → (banks : Banks) × (named ≡ Some banks) × IsOpen (number_then (sized_then kind banks)) bytes
version_passed kind None bytes none = absurd (none (Err (malformed Version version_place)) 0 (refl, refl))
version_passed kind (Some banks) bytes none = (banks, refl, none)

open_blob : (kind : Kind) (bytes : List ℕ) → IsOpen (blob kind) bytes → 9 ≤ length bytes → IsBegun (Blob kind) bytes
unfolding blob
open_blob kind bytes none le =
    let four = magic_of_four kind in
    let marks = magic_passed (magic_of kind) 0 (after_magic kind) bytes none (omega (arith, le, four)) in
    let long : 5 ≤ length marks.0 = omega (arith, le, four, ap length marks.1, length-append (magic_of kind) marks.0) in
    let first = any_byte_passed (λ (version : ℕ). after_version kind (banks_named version)) marks.0 marks.2 (omega (arith, long)) in
    let version = version_passed kind (banks_named first.0) first.1 first.3 in
    let banks : Banks = version.0 in
    let rest : List ℕ = first.1 in
    let enough : 4 ≤ length rest = omega (arith, long, ap length first.2) in
    let count : ℕ = from_be_bytes w32 (take 4 rest) in
    let sized = field_passed 4 (λ field. sized_then kind banks (from_be_bytes w32 field)) rest version.2 enough in
    let allowed = passed_if (is_length kind banks count) (body_then kind count) (malformed Length 5) (drop 4 rest) sized in
    let short = fewer (body_then kind count) count (drop 4 rest) (body_within kind count (some_body kind banks count allowed.0)) allowed.1 in
    let all : bytes ≡ magic_of kind ++ first.0 ∷ rest = marks.1 ∙ ap (λ (t : List ℕ). magic_of kind ++ t) first.2 in
    let prefix : take 9 bytes ≡ magic_of kind ++ first.0 ∷ take 4 rest = ap (take 9) all ∙ take_prefix kind first.0 rest in
    let field : length_field (take 9 bytes) ≡ count = ap length_field prefix ∙ field_of_blob kind first.0 (take 4 rest) ∙ ap (λ (t : List ℕ). from_be_bytes w32 t) (take_four rest enough) in
    record {
      is = is_blob_header kind banks first.0 count (take 4 rest) (take 9 bytes) prefix version.1 field allowed.0;
      fewer = omega (arith, field, short, four, ap length all, length-append (magic_of kind) (first.0 ∷ rest), length-drop 4 rest, enough);
    }

-- ---- a record

value_within : {X : Type 0} (found : Option X) (place : ℕ) (next : X → Layout Ending) (room : ℕ) → ((value : X) → IsWithin (next value) room) → IsWithin (value_then found place next) room
value_within None place next room each = tt
value_within (Some value) place next room each = each value

few_of : (size count : ℕ) → not (eqb (14 + count) size) ≡ false → 14 + count ≡ size
few_of size count is = grind (arith, nat_tests)

-- from the registers on it has as many bytes as its length gives
content_within : (size : ℕ) (f : Fields) → not (eqb (14 + f.count) size) ≡ false → IsWithin (content_then f) (size - 1 - 1 - 1 - 1 - 8 - 2)
content_within size f is =
    let same = few_of size f.count is in
    (omega arith, λ content. either_within (ends_in_zero content) (refuse Value (22 + f.count)) (Ends (Ok f)) (size - 1 - 1 - 1 - 1 - 8 - 2 - f.count) (λ _. tt) (λ _. tt))

count_within : (size : ℕ) (regs : Regs) (cancelled : Bool) (number : ℕ) → 14 ≤ size → IsWithin (count_then size regs cancelled number) (size - 1 - 1 - 1 - 1 - 8)
count_within size regs cancelled number le = (
  omega arith,
  λ field.
      let f : Fields = record { regs = regs; cancelled = cancelled; number = number; count = from_be_bytes w16 field } in
      either_within (not (eqb (14 + f.count) size)) (refuse Length 21) (idle_next f) (size - 1 - 1 - 1 - 1 - 8 - 2) (λ _. tt)
      (λ is. either_within (is_idle regs.phase && nat_lt 0 f.count) (refuse Value 21) (content_then f) (size - 1 - 1 - 1 - 1 - 8 - 2) (λ _. tt) (λ _. content_within size f is)),
)

job_within : (size : ℕ) (regs : Regs) → 14 ≤ size → IsWithin (job_then size regs) (size - 1 - 1 - 1)
job_within size regs le = (
  omega arith,
  λ field. value_within (flag_at (slice_index field 0)) 12 (magic_byte_next size regs) (size - 1 - 1 - 1 - 1) (λ cancelled.
      either_within (cancelled && not (is_executing regs.phase)) (refuse Value 12) (long_then (λ number. count_then size regs cancelled number)) (size - 1 - 1 - 1 - 1) (λ _. tt)
      (λ _. (omega arith, λ field. count_within size regs cancelled (from_be_bytes w64 field) le))),
)

registers_within : (size : ℕ) → 14 ≤ size → IsWithin (registers_then size) size
registers_within size le = (
  omega arith,
  λ field. value_within (flag_at (slice_index field 0)) 9 (granted_next size) (size - 1) (λ granted. (
    omega arith,
    λ field. value_within (flag_at (slice_index field 0)) 10 (cancel_next size granted) (size - 1 - 1) (λ cancel. (
      omega arith,
      λ field. value_within (phase_at (slice_index field 0)) 11 (phase_next size granted cancel) (size - 1 - 1 - 1) (λ phase. job_within size (record { granted = granted; cancel = cancel; phase = phase }) le),
    )),
  )),
)

in_room : (size : ℕ) → nat_lt size 14 || nat_lt 3982 size ≡ false → (14 ≤ size) × (may_follow Record format_version size ≡ true)
in_room size is = (grind (arith, nat_tests), grind (arith, nat_tests))

open_record : (bytes : List ℕ) → IsOpen record_layout bytes → 9 ≤ length bytes → IsBegun Record bytes
unfolding record_layout
open_record bytes none le =
    let marks = magic_passed records.magic 0 version_then bytes none (omega (arith, le)) in
    let long : 5 ≤ length marks.0 = omega (arith, le, ap length marks.1) in
    let version = byte_passed 1 Version 4 length_then marks.0 marks.2 (omega (arith, long)) in
    let rest : List ℕ = version.0 in
    let enough : 4 ≤ length rest = omega (arith, long, ap length version.1) in
    let size : ℕ = from_be_bytes w32 (take 4 rest) in
    let sized = field_passed 4 (λ field. cond (nat_lt (from_be_bytes w32 field) 14 || nat_lt 3982 (from_be_bytes w32 field)) (refuse Length 5) (registers_then (from_be_bytes w32 field))) rest version.2 enough in
    let allowed = passed_unless (nat_lt size 14 || nat_lt 3982 size) (registers_then size) (malformed Length 5) (drop 4 rest) sized in
    let room = in_room size allowed.0 in
    let short = fewer (registers_then size) size (drop 4 rest) (registers_within size room.0) allowed.1 in
    let all : bytes ≡ records.magic ++ 1 ∷ rest = marks.1 ∙ ap (λ (t : List ℕ). records.magic ++ t) version.1 in
    let prefix : take 9 bytes ≡ records.magic ++ 1 ∷ take 4 rest = ap (take 9) all in
    let field : length_field (take 9 bytes) ≡ size = ap length_field prefix ∙ ap (λ (t : List ℕ). from_be_bytes w32 t) (take_four rest enough) in
    record {
      is = is_record_header size (take 4 rest) (take 9 bytes) prefix field room.1;
      fewer = omega (arith, field, short, ap length all, length-drop 4 rest, enough);
    }

-- ---- bytes

bytes_taken_if : (n : ℕ) (bytes : List ℕ) (i : ℕ) → slice_index bytes i < 256 → (i < n) ⊎ (n ≤ i) → slice_index (take n bytes) i < 256
bytes_taken_if n bytes i fits (inl lt) = rw (get_or-take n bytes i 0 lt) fits
bytes_taken_if n bytes i fits (inr le) = let none : get_or (take n bytes) i 0 ≡ 0 = get_or_past (take n bytes) i 0 (omega (arith, le, length-take n bytes)) in rw none (omega arith)

bytes_taken : (n : ℕ) (bytes : List ℕ) → IsBytes bytes → IsBytes (take n bytes)
bytes_taken n bytes fits = λ i. bytes_taken_if n bytes i (fits i) (cases_lt i n)

bytes_dropped : (n : ℕ) (bytes : List ℕ) → IsBytes bytes → IsBytes (drop n bytes)
bytes_dropped n bytes fits = λ i. rw (get_or-drop n bytes i 0) (fits (n + i))

-- ---- the parts and the stream

cut_of_if : (kind : Kind) (why : Why) (place : ℕ) (bytes : List ℕ) → IsRefusedFor kind why place bytes → why ≡ Cut → IsCut kind bytes
cut_of_if kind Cut place bytes row is = absurd row
cut_of_if kind Magic place bytes row is = absurd cc
cut_of_if kind Version place bytes row is = absurd cc
cut_of_if kind Length place bytes row is = absurd cc
cut_of_if kind Value place bytes row is = absurd cc
cut_of_if kind Extra place bytes row is = absurd cc

cut_of : (kind : Kind) (fault : Malformed) (bytes : List ℕ) → IsPartRefused (Blob kind) fault bytes → fault.why ≡ Cut → IsCut kind bytes
cut_of kind fault bytes (inl refused) is = cut_of_if kind fault.why fault.place bytes refused is
cut_of kind fault bytes (inr (cut, named)) is = cut

module _ (k : LawsOfParts) where
  -- bytes that end before a blob does leave it open
  cut_blob : (kind : Kind) (bytes : List ℕ) → IsBytes bytes → IsCut kind bytes → IsOpen (blob kind) bytes
  cut_blob kind bytes fits cut (Err fault) n exact =
      cut.not_refused fault (subst (λ (t : List ℕ). IsRefused kind fault t) (take-append-drop n bytes) (k.blob_stays kind fault (take n bytes) (drop n bytes) exact))
  cut_blob kind bytes fits cut (Ok done) n exact =
      let is : IsBlob kind (take n bytes) = k.blob_spelled kind (take n bytes) (bytes_taken n bytes fits) exact in
      elim (cases_lt n (length bytes)) [
        | inl less ↦ cut.not_refused (malformed Extra n) (less, is)
        | inr le ↦ cut.no_blob (subst (λ (t : List ℕ). IsBlob kind t) (take_all n bytes le) is)
      ]

  begun : (part : Part) (place : ℕ) (fault : Malformed) (bytes : List ℕ) → IsBytes bytes → IsStopped part place fault bytes → fault.why ≡ Cut → 9 ≤ length bytes → IsBegun part bytes
  begun Record place fault bytes fits stop is le =
      let why : stop.inner.why ≡ Cut = sym (ap (λ (f : Malformed). f.why) stop.named) ∙ is in
      open_record bytes (k.record_cut stop.inner bytes stop.refused why).open_end le
  begun (Blob kind) place fault bytes fits stop is le =
      let why : stop.inner.why ≡ Cut = sym (ap (λ (f : Malformed). f.why) stop.named) ∙ is in
      open_blob kind bytes (cut_blob kind bytes fits (cut_of kind stop.inner bytes stop.refused why)) le

  -- a walk that ends has passed the header and the body of each part that is whole
  passes : (part : Part) (ps : List Part) (bytes : List ℕ) (end : Bool) → is_header part (take 9 bytes) ≡ true → parsed (parts_then (part ∷ ps)) bytes ≡ Ok end
      → (9 + length_field (take 9 bytes) ≤ length bytes) × (parsed (parts_then ps) (drop (length_field (take 9 bytes)) (drop 9 bytes)) ≡ Ok end)
  passes part ps bytes end is walked =
      let next = λ (header : List ℕ). cond (is_header part header) (Field (length_field header) (λ body. parts_then ps)) (Ends false) in
      let first = field_walked 9 next bytes end walked in
      let body : parsed (Field (length_field (take 9 bytes)) (λ body. parts_then ps)) (drop 9 bytes) ≡ Ok end =
      subst (λ (t : Bool). parsed (cond t (Field (length_field (take 9 bytes)) (λ body. parts_then ps)) (Ends false)) (drop 9 bytes) ≡ Ok end) is first.1 in
      let second = field_walked (length_field (take 9 bytes)) (λ body. parts_then ps) (drop 9 bytes) end body in
      (omega (arith, first.0, second.0, length-drop 9 bytes), second.1)

  not_cut : (ps : List Part) (place : ℕ) (fault : Malformed) (bytes : List ℕ) (end : Bool) → IsBytes bytes → ArePartsRefused ps place fault bytes → fault.why ≡ Cut → parsed (parts_then ps) bytes ≡ Ok end → ⊥
  not_cut [] place fault bytes end fits refused is walked = refused
  not_cut (part ∷ ps) place fault bytes end fits (inl stop) is walked =
      let first = field_walked 9 (λ (header : List ℕ). cond (is_header part header) (Field (length_field header) (λ body. parts_then ps)) (Ends false)) bytes end walked in
      let b = begun part place fault bytes fits stop is first.0 in
      omega (arith, b.fewer, (passes part ps bytes end b.is walked).0)
  not_cut (part ∷ ps) place fault bytes end fits (inr (prefix, after, parts, whole, refused)) is walked =
      let h = headed k part prefix whole in
      let header : take 9 bytes ≡ take 9 prefix = ap (take 9) parts ∙ take-append-le 9 prefix after h.long in
      let count : ℕ = length_field (take 9 bytes) in
      let size : length prefix ≡ 9 + count = h.size ∙ ap (λ (t : List ℕ). 9 + length_field t) (sym header) in
      let behind : drop count (drop 9 bytes) ≡ after = drop-drop count 9 bytes ∙ ap (λ (n : ℕ). drop n bytes) (sym size) ∙ ap (drop (length prefix)) parts ∙ drop_at prefix after (length prefix) refl in
      let rest : parsed (parts_then ps) after ≡ Ok end = subst (λ (t : List ℕ). parsed (parts_then ps) t ≡ Ok end) behind (passes part ps bytes end (ap (is_header part) header ∙ h.is) walked).1 in
      not_cut ps (place + length prefix) fault after end (subst IsBytes behind (bytes_dropped count (drop 9 bytes) (bytes_dropped 9 bytes fits))) refused is rest

  head_short : (bytes : List ℕ) → IsOpen head bytes → (answer : Result Ending_of_head Missing) → parsed head bytes ≡ answer → length bytes < 9
  head_short bytes none (Ok end) is = let prefix = encodes_prefix head bytes end is in absurd (none end prefix.0 prefix.2)
  head_short bytes none (Err lack) is = (cut_if_open bytes lack is).0

  walk_ended : (bytes : List ℕ) (place : ℕ) (end : Bool) → IsBytes bytes → IsStreamRefused (malformed Cut place) bytes → parsed walk bytes ≡ Ok end → ⊥
  unfolding walk
  walk_ended bytes place end fits (inl refused) walked =
      let first = field_walked 9 (λ head. cond (begins magic head) (parts_then parts) (Ends false)) bytes end walked in
      omega (arith, first.0, head_short bytes refused.1 (parsed head bytes) refl)
  walk_ended bytes place end fits (inr (inl (h, refused))) walked =
      let first = field_walked 9 (λ head. cond (begins magic head) (parts_then parts) (Ends false)) bytes end walked in
      let rest : parsed (parts_then parts) (drop 9 bytes) ≡ Ok end = subst (λ (t : Bool). parsed (cond t (parts_then parts) (Ends false)) (drop 9 bytes) ≡ Ok end) (begins_head k bytes h) first.1 in
      not_cut parts 9 (malformed Cut place) (drop 9 bytes) end (bytes_dropped 9 bytes fits) refused refl rest
  walk_ended bytes place end fits (inr (inr row)) walked = row

  wants_if : (bytes : List ℕ) (place : ℕ) → IsBytes bytes → IsStreamRefused (malformed Cut place) bytes → (answer : Result Bool Missing) → parsed walk bytes ≡ answer → 0 < lack answer
  wants_if bytes place fits refused (Ok end) is = absurd (walk_ended bytes place end fits refused is)
  wants_if bytes place fits refused (Err m) is = wants_positive walk bytes m.0 is

  pub cut_wants : (bytes : List ℕ) (place : ℕ) → IsBytes bytes → IsStreamRefused (malformed Cut place) bytes → 0 < wanted_after bytes
  cut_wants bytes place fits refused = wants_if bytes place fits refused (parsed walk bytes) refl
