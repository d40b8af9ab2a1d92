-- A walk over the headers of a stream ends with it.
use Rattle.std.proofs.Common.{◌≡◌, ℕ, ◌+◌, ◌-◌, ◌<◌, ◌≤◌, Bool, true, false, cond, ◌&&◌, List, [], ◌∷◌, ◌++◌, length, take, drop, Option, Some, None, Result, Ok, Err, refl, sym, ap, subst, ◌∙◌, arith, inl, inr, append_assoc, get_or}
use Rattle.std.specs.Prelude.{nat_eq, slice_index}
use Rattle.std.specs.List.{starts_with}
use Rattle.std.specs.Int.{w32, from_be_bytes}
use Rattle.std.proofs.lemmas.Bool.{cases_lt}
use Rattle.std.proofs.lemmas.Bool.Decides.{nat_tests}
use Rattle.std.proofs.lemmas.List.{length-append, length-take, length-drop, drop_at, take_all, take-append-drop, take-append-le, drop-drop, append-nil}
use Rattle.std.proofs.lemmas.Nat.{from_be_bytes-to_be_bytes_4}
use Rattle.std.proofs.Math.Seq.{take-add}
use Rattle.vt_base.specs.Numbers.{number, short}
use Rattle.vt_base.specs.declared.grammar.Missing.{Missing}
use Rattle.vt_base.specs.Layout.{Layout, Ends, Field, Encodes, byte_then, number_then}
use Rattle.vt_base.specs.Parsing.{missing, parsed}
use Rattle.vt_base.specs.Refusing.{malformed}
use Rattle.vt_base.proofs.Prefixes.{passed}
use Rattle.vt_base.proofs.Layouts.{parsed_encodes, parsed-append-wants, wants_positive, encodes_prefix, one_encoding}
use Rattle.vt_base.specs.declared.types.Kind.{Kind}
use Rattle.vt_base.specs.declared.types.Kind.TheVariants.{Permanent, Volatile, Saved}
use Rattle.vt_base.specs.declared.types.Why.TheVariants.{Length, Value}
use Rattle.crb_machine.specs.Values.{DeviceValues}
use Rattle.device_record.specs.Records as records
use Rattle.device_record.specs.Records.{encode_record, trimmed, IsRecord}
use Rattle.tpm_core.specs.declared.algorithm.Banks.{Banks}
use Rattle.tpm_core.specs.declared.algorithm.Banks.TheVariants.{One, Two}
use Rattle.state_blobs.specs.Numbers.{banks_named}
use Rattle.state_blobs.specs.Encodings.{magic_of, is_length, flag_fits}
use Rattle.state_blobs.specs.Blobs.{body_then, sized_then, after_version, after_magic, blob}
use Rattle.state_blobs.specs.Refusals.{length_field}
use Rattle.crb_history.specs.Snapshot.{Snapshot}
use Rattle.saved_stream.specs.Numbers.{format_version}
use Rattle.saved_stream.specs.declared.part.Part.{Part}
use Rattle.saved_stream.specs.declared.part.Part.TheVariants.{Record, Blob}
use Rattle.saved_stream.specs.Parts.{parts, IsWhole}
use Rattle.saved_stream.specs.Streams.{magic, IsStream}
use Rattle.saved_stream.specs.Refusals.{HasHead}
use Rattle.saved_stream.specs.Headers.{may_follow, begins, is_length_of, is_header, parts_then, walk, lack, wanted_after}
use Rattle.saved_stream.proofs.Heads.{begin, magic_decoded}
use Rattle.saved_stream.proofs.PartLaws.{LawsOfParts, laws_of}
use Rattle.saved_stream.proofs.Apart.{AreWhole}
use Rattle.saved_stream.proofs.Once.{parts_whole, stream_head, stream_parts}

-- a header, and as many bytes behind it as it gives
pub record IsHeaded (part : Part) (bytes : List ℕ) : Type 0 where
  pub long : 9 ≤ length bytes
  pub is : is_header part (take 9 bytes) ≡ true
  pub size : length bytes ≡ 9 + length_field (take 9 bytes)

-- ---- a blob

pub begins_blob : (kind : Kind) (version : ℕ) (rest : List ℕ) → starts_with nat_eq (magic_of kind ++ version ∷ rest) (magic_of kind) ≡ true
begins_blob Permanent version rest = refl
begins_blob Volatile version rest = refl
begins_blob Saved version rest = refl

pub some_body : (kind : Kind) (banks : Banks) (count : ℕ) → is_length kind banks count ≡ true → 1 ≤ count
some_body Permanent banks count is = grind (arith, nat_tests)
some_body Volatile One count is = grind (arith, nat_tests)
some_body Volatile Two count is = grind (arith, nat_tests)
some_body Saved One count is = grind (arith, nat_tests)
some_body Saved Two count is = grind (arith, nat_tests)

pub both : (a b : Bool) → a ≡ true → b ≡ true → a && b ≡ true
both a b p q = rw (p, q) refl

pub take_four : (rest : List ℕ) → 4 ≤ length rest → take 4 (take 4 rest) ≡ take 4 rest
take_four rest le = take_all 4 (take 4 rest) (omega (arith, length-take 4 rest))

-- the header of a blob, by its bytes
pub is_blob_header : (kind : Kind) (banks : Banks) (version count : ℕ) (rest header : List ℕ) → header ≡ magic_of kind ++ version ∷ rest → banks_named version ≡ Some banks → length_field header ≡ count → is_length kind banks count ≡ true
    → is_header (Blob kind) header ≡ true
is_blob_header kind banks version count rest header is named field allowed =
    let begun : starts_with nat_eq header (magic_of kind) ≡ true = ap (λ (t : List ℕ). starts_with nat_eq t (magic_of kind)) is ∙ begins_blob kind version rest in
    let at : slice_index header 4 ≡ version = ap (λ (t : List ℕ). slice_index t 4) is in
    let may : is_length_of kind (banks_named (slice_index header 4)) (length_field header) ≡ true =
    ap (λ (v : ℕ). is_length_of kind (banks_named v) (length_field header)) at ∙ ap (λ (n : Option Banks). is_length_of kind n (length_field header)) named ∙ ap (is_length kind banks) field ∙ allowed in
    both (starts_with nat_eq header (magic_of kind)) (is_length_of kind (banks_named (slice_index header 4)) (length_field header)) begun may

byte_decoded : {E : Type 0} (next : ℕ → Layout E) (end : E) (bytes : List ℕ) → Encodes (byte_then next) end bytes → (byte : ℕ) × (rest : List ℕ) × (bytes ≡ byte ∷ rest) × Encodes (next byte) end rest
byte_decoded next end [] spelled = absurd (omega (arith, spelled.0))
byte_decoded next end (b ∷ rest) spelled = (b, rest, refl, spelled.1)

version_decoded : (kind : Kind) (named : Option Banks) (bytes : List ℕ) → Encodes (after_version kind named) (Ok tt) bytes → (banks : Banks) × (named ≡ Some banks) × Encodes (number_then (sized_then kind banks)) (Ok tt) bytes
version_decoded kind None bytes (is, ends) = absurd cc
version_decoded kind (Some banks) bytes spelled = (banks, refl, spelled)

headed_blob : (kind : Kind) (bytes : List ℕ) → Encodes (blob kind) (Ok tt) bytes → IsHeaded (Blob kind) bytes
unfolding blob
headed_blob kind bytes spelled =
    let marks = magic_decoded (magic_of kind) 0 (after_magic kind) bytes spelled in
    let first = byte_decoded (λ (version : ℕ). after_version kind (banks_named version)) (Ok tt) marks.0 marks.2 in
    let version = version_decoded kind (banks_named first.0) first.1 first.3 in
    let banks : Banks = version.0 in
    let rest : List ℕ = first.1 in
    let count : ℕ = from_be_bytes w32 (take 4 rest) in
    let allowed = passed (is_length kind banks count) (body_then kind count) (malformed Length 5) tt (drop 4 rest) version.2.1 in
    let body = passed (flag_fits kind count (get_or (take 1 (drop 4 rest)) 0 0)) (Field (count - 1) (λ _. Ends (Ok tt))) (malformed Value 9) tt (drop 1 (drop 4 rest)) allowed.1.1 in
    let all : bytes ≡ (magic_of kind ++ first.0 ∷ []) ++ rest = marks.1 ∙ ap (λ (t : List ℕ). magic_of kind ++ t) first.2 in
    let prefix : take 9 bytes ≡ magic_of kind ++ first.0 ∷ take 4 rest = ap (take 9) all in
    let field : length_field (take 9 bytes) ≡ count = ap length_field prefix ∙ ap (λ (t : List ℕ). from_be_bytes w32 t) (take_four rest version.2.0) in
    let ends : drop (count - 1) (drop 1 (drop 4 rest)) ≡ [] = body.1.1.1 in
    record {
      long = omega (arith, ap length all, version.2.0, length-append (magic_of kind ++ first.0 ∷ []) rest);
      is = is_blob_header kind banks first.0 count (take 4 rest) (take 9 bytes) prefix version.1 field allowed.0;
      size = omega (
        arith,
        ap length all,
        length-append (magic_of kind ++ first.0 ∷ []) rest,
        field,
        ap length ends,
        length-drop (count - 1) (drop 1 (drop 4 rest)),
        length-drop 1 (drop 4 rest),
        length-drop 4 rest,
        body.1.0,
        allowed.1.0,
        version.2.0,
        some_body kind banks count allowed.0,
      );
    }

-- ---- a record

may_record : (count : ℕ) → count ≤ 3968 → may_follow Record format_version (14 + count) ≡ true
may_record count le = grind (arith, nat_tests)

-- the header of a record, by its bytes
pub is_record_header : (count : ℕ) (rest header : List ℕ) → header ≡ records.magic ++ format_version ∷ rest → length_field header ≡ count → may_follow Record format_version count ≡ true → is_header Record header ≡ true
is_record_header count rest header is field allowed =
    let begun : starts_with nat_eq header records.magic ≡ true = ap (λ (t : List ℕ). starts_with nat_eq t records.magic) is in
    let at : slice_index header 4 ≡ format_version = ap (λ (t : List ℕ). slice_index t 4) is in
    let may : may_follow Record (slice_index header 4) (length_field header) ≡ true =
    ap (λ (v : ℕ). may_follow Record v (length_field header)) at ∙ ap (may_follow Record format_version) field ∙ allowed in
    both (starts_with nat_eq header records.magic) (may_follow Record (slice_index header 4) (length_field header)) begun may

headed_record : (bytes : List ℕ) (v : DeviceValues) → length bytes ≤ 3991 → IsRecord bytes v → IsHeaded Record bytes
unfolding encode_record
headed_record bytes v within_limit is =
    let count : ℕ = length (trimmed v.content) in
    let size : length bytes ≡ 23 + count = ap length is.spelled ∙ length-append (records.encode_header (records.fields_of v)) (trimmed v.content) in
    let prefix : take 9 bytes ≡ records.magic ++ format_version ∷ number (14 + count) = ap (take 9) is.spelled in
    let field : length_field (take 9 bytes) ≡ 14 + count = ap length_field prefix ∙ from_be_bytes-to_be_bytes_4 (14 + count) (omega (arith, size, within_limit)) in
    record {
      long = omega (arith, size);
      is = is_record_header (14 + count) (number (14 + count)) (take 9 bytes) prefix field (may_record count (omega (arith, size, within_limit)));
      size = omega (arith, size, field);
    }

-- ---- the walk

module _ (k : LawsOfParts) where
  pub headed : (part : Part) (bytes : List ℕ) → IsWhole part bytes → IsHeaded part bytes
  headed Record bytes (v, is) = headed_record bytes v ((laws_of k Record).within_limit bytes (v, is)) is
  headed (Blob kind) bytes is = headed_blob kind bytes (k.blob_decoded kind bytes is)

  parts_walk : (ps : List Part) (bytes : List ℕ) → AreWhole ps bytes [] → Encodes (parts_then ps) true bytes
  parts_walk [] bytes none = (refl, none)
  parts_walk (part ∷ ps) bytes (prefix, back, is, whole, others) =
      let h = headed part prefix whole in
      let header : take 9 bytes ≡ take 9 prefix = ap (take 9) is ∙ take-append-le 9 prefix back h.long in
      let count : ℕ = length_field (take 9 bytes) in
      let size : length prefix ≡ 9 + count = h.size ∙ ap (λ (t : List ℕ). 9 + length_field t) (sym header) in
      let rest : drop count (drop 9 bytes) ≡ back = drop-drop count 9 bytes ∙ ap (λ (n : ℕ). drop n bytes) (sym size) ∙ ap (drop (length prefix)) is ∙ drop_at prefix back (length prefix) refl in
      let walked : Encodes (Field count (λ _. parts_then ps)) true (drop 9 bytes) =
      (omega (arith, ap length is, length-append prefix back, size, length-drop 9 bytes), subst (Encodes (parts_then ps) true) (sym rest) (parts_walk ps back others)) in
      let test : is_header part (take 9 bytes) ≡ true = ap (is_header part) header ∙ h.is in (
        omega (arith, ap length is, length-append prefix back, h.long),
        subst (λ (t : Bool). Encodes (cond t (Field count (λ _. parts_then ps)) (Ends false)) true (drop 9 bytes)) (sym test) walked,
      )

  pub begins_head : (bytes : List ℕ) → HasHead bytes → begins magic (take 9 bytes) ≡ true
  begins_head bytes h =
      let prefix : take 9 bytes ≡ begin ++ take 4 (drop 5 bytes) = take-add 5 4 bytes ∙ ap (λ (f : List ℕ). f ++ take 4 (drop 5 bytes)) h.begins in
      ap (begins magic) prefix

  walk_decoded : (bytes : List ℕ) (b : Snapshot) → IsStream bytes b → Encodes walk true bytes
  unfolding walk
  walk_decoded bytes b s =
      let is = sym (append-nil bytes) in
      let h = stream_head bytes bytes [] b is s in
      let whole = parts_whole bytes (stream_parts k bytes bytes [] b is s) in
      (h.long, subst (λ (t : Bool). Encodes (cond t (parts_then parts) (Ends false)) true (drop 9 bytes)) (sym (begins_head bytes h)) (parts_walk parts (drop 9 bytes) whole))

  pub stops : (bytes : List ℕ) (b : Snapshot) → IsStream bytes b → wanted_after bytes ≡ 0
  stops bytes b s = ap lack (parsed_encodes walk bytes true (walk_decoded bytes b s))

  -- what is asked for where so many bytes are there
  asked_if : (bytes : List ℕ) (n : ℕ) → n < length bytes → Encodes walk true bytes → (answer : Result Bool Missing) → parsed walk (take n bytes) ≡ answer → (0 < lack answer) × (n + lack answer ≤ length bytes)
  asked_if bytes n less exact (Ok end) is =
      let prefix = encodes_prefix walk (take n bytes) end is in
      let all : take prefix.0 (take n bytes) ++ (drop prefix.0 (take n bytes) ++ drop n bytes) ≡ bytes =
      sym (append_assoc (take prefix.0 (take n bytes)) (drop prefix.0 (take n bytes)) (drop n bytes)) ∙ ap (λ (t : List ℕ). t ++ drop n bytes) (take-append-drop prefix.0 (take n bytes)) ∙ take-append-drop n bytes in
      let same = (one_encoding walk end true (take prefix.0 (take n bytes)) bytes (drop prefix.0 (take n bytes) ++ drop n bytes) [] prefix.2 exact (all ∙ sym (append-nil bytes))).1 in
      absurd (omega (arith, ap length same, length-take prefix.0 (take n bytes), length-take n bytes, less))
  asked_if bytes n less exact (Err m) is =
      let some = wants_positive walk (take n bytes) m.0 is in
      elim (cases_lt (length (drop n bytes)) m.0) [
        | inl short ↦
            let wants = parsed-append-wants walk (take n bytes) (drop n bytes) m.0 is short in
            let never : Err (missing (m.0 - length (drop n bytes))) ≡ Ok true = sym wants ∙ ap (parsed walk) (take-append-drop n bytes) ∙ parsed_encodes walk bytes true exact in
            absurd cc
        | inr le ↦ (some, omega (arith, le, length-drop n bytes, less))
      ]

  pub asks : (bytes : List ℕ) (b : Snapshot) (n : ℕ) → IsStream bytes b → n < length bytes → 0 < wanted_after (take n bytes)
  asks bytes b n s less = (asked_if bytes n less (walk_decoded bytes b s) (parsed walk (take n bytes)) refl).0

  pub within : (bytes : List ℕ) (b : Snapshot) (n : ℕ) → IsStream bytes b → n < length bytes → n + wanted_after (take n bytes) ≤ length bytes
  within bytes b n s less = (asked_if bytes n less (walk_decoded bytes b s) (parsed walk (take n bytes)) refl).1
