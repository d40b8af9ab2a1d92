-- Bytes of a blob of which a part was read.
use Rattle.std.proofs.Common.{◌≡◌, ◌≢◌, ℕ, ◌+◌, ◌-◌, ◌*◌, ◌<◌, ◌≤◌, ◌^◌, suc, Bool, true, false, eqb, Some, None, List, [], ◌∷◌, ◌++◌, length, take, drop, get_or, set, refl, sym, ap, subst, ◌∙◌, arith, inl, inr, Ok}
use Rattle.std.specs.Prelude.{IsTrue}
use Rattle.std.specs.Bool.{OnTrue, OnFalse}
use Rattle.std.specs.Int.{w32, from_be_bytes}
use Rattle.std.proofs.Math.Seq.{take-append-add}
use Rattle.std.proofs.lemmas.Bool.{eqb-true, eqb-false, eq-eqb, ne_eqb, cases_lt}
use Rattle.std.proofs.lemmas.Bool.Decides.{nat_tests}
use Rattle.std.proofs.lemmas.List.{length-append, length-take, take_at, take-take, take_more_set, take-append-le, drop_all, nil_from_length, get_or-take, get_or_append_left, set-append_right}
use Rattle.std.proofs.lemmas.Nat.{from_be_bytes-to_be_bytes_4}
use Rattle.vt_base.specs.Numbers.{IsBytes, number, long}
use Rattle.vt_base.specs.declared.types.Kind.{Kind}
use Rattle.vt_base.specs.declared.types.Kind.TheVariants.{Permanent, Volatile, Saved}
use Rattle.vt_base.specs.declared.types.Why.{Why}
use Rattle.vt_base.specs.declared.types.Why.TheVariants.{Magic, Version, Length, Value, Cut, Extra}
use Rattle.vt_base.specs.Refusing.{malformed}
use Rattle.vt_base.proofs.Numbers.{IsBytes-append}
use Rattle.tpm_core.specs.declared.algorithm.Banks.{Banks}
use Rattle.tpm_core.specs.declared.algorithm.Banks.TheVariants.{One, Two}
use Rattle.tpm_core.specs.Algorithms.{digest_size}
use Rattle.state_blobs.specs.declared.body_fields.Fields.{Fields}
use Rattle.state_blobs.specs.declared.reading.Header.{Header}
use Rattle.state_blobs.specs.declared.reading.Reading.{Reading}
use Rattle.state_blobs.specs.Numbers.{version_of, banks_named}
use Rattle.state_blobs.specs.Encodings.{magic_of, header_of, with_header, body_of, encode_blob, is_length, flag_fits, IsBlob}
use Rattle.state_blobs.specs.Running.{AreRegisters}
use Rattle.state_blobs.specs.Refusals.{FirstDiffersAt, IsRefusedFor, IsRefused, IsCut, length_field}
use Rattle.state_blobs.specs.Partial.{bank_in, counted_in, body_in, header_in, fits_header, bytes_read, is_whole, AreValid, IsReading, ReadTheSame}
use Rattle.state_blobs.specs.Blobs.{blob}
use Rattle.state_blobs.specs.Gathering.{Gathering}
use Rattle.vt_base.specs.Layout.{Encodes}
use Rattle.state_blobs.proofs.Bodies.{IsBody, body_is_decoded, decoded_is_blob, fit_is_body}
use Rattle.state_blobs.proofs.Magics.{version_named, same_version}
use Rattle.state_blobs.proofs.Widths.{by_algorithm, width, AreBanks, AreBanks-take, length-counted}

-- ---- how long bodies are

-- the longest body of a kind
abbrev pub longest : Kind → ℕ
longest Permanent = 40
longest Volatile = 1933
longest Saved = 1285

-- the registers of fields
pub fields_are : (f : Fields) → AreValid f → AreBanks 24 (λ a. bank_in a f)
fields_are f valid = record { count = valid.count; size = valid.size }

pub first_are : (n : ℕ) (f : Fields) → n ≤ 24 → AreValid f → AreBanks n (λ a. take n (bank_in a f))
first_are n f le valid = AreBanks-take n 24 (λ a. bank_in a f) le (fields_are f valid)

pub length-counted_in : (banks : Banks) (n : ℕ) (f : Fields) → n ≤ 24 → AreValid f → length (counted_in banks n f) ≡ 4 + n * width banks
length-counted_in banks n f le valid = length-counted banks f.counter n (λ a. take n (bank_in a f)) (first_are n f le valid)

pub length-body_in : (kind : Kind) (f : Fields) → AreValid f → length (body_in kind f) ≡ longest kind
length-body_in Permanent f valid = omega (arith, length-append f.seed (long f.boots), valid.seed)
length-body_in Volatile f valid = omega (arith, length-append (f.flag ∷ long f.draws) (counted_in Two 24 f), length-counted_in Two 24 f (omega arith) valid)
length-body_in Saved f valid = omega (arith, length-counted_in Two 16 f (omega arith) valid)

pub length_longest : (kind : Kind) (banks : Banks) (n : ℕ) → is_length kind banks n ≡ true → (0 < n) × (n ≤ longest kind) × (n < 2 ^ 32)
length_longest Permanent banks n is = let e : n ≡ 40 = eqb-true n 40 is in (omega arith, omega arith, omega arith)
length_longest Volatile One n is = (grind (arith, nat_tests), grind (arith, nat_tests), grind (arith, nat_tests))
length_longest Volatile Two n is = (grind (arith, nat_tests), grind (arith, nat_tests), grind (arith, nat_tests))
length_longest Saved One n is = (grind (arith, nat_tests), grind (arith, nat_tests), grind (arith, nat_tests))
length_longest Saved Two n is = (grind (arith, nat_tests), grind (arith, nat_tests), grind (arith, nat_tests))

-- the types of the fields make them valid
pub fields_are_valid : (f : Fields) → length f.seed ≡ 32 → f.boots < 2 ^ 64 → f.draws < 2 ^ 64 → f.counter < 2 ^ 32 → length f.pcr ≡ 24 → AreRegisters 32 f.pcr → length f.pcr384 ≡ 24 → AreRegisters 48 f.pcr384 → AreValid f
fields_are_valid f seed boots draws counter n w m x = record {
  seed = seed;
  boots = boots;
  draws = draws;
  counter = counter;
  count = by_algorithm (λ a. length (bank_in a f) ≡ 24) n m;
  size = by_algorithm (λ a. AreRegisters (digest_size a) (bank_in a f)) w x;
}

-- ---- the header

module _ (kind : Kind) (banks : Banks) (n : ℕ) where
  -- a byte of the magic
  pub magic_there : (place : ℕ) (rest : List ℕ) → place < 4 → get_or (header_of kind banks n ++ rest) place 0 ≡ get_or (magic_of kind) place 0
  magic_there place rest lt = get_or_append_left (magic_of kind) (version_of banks ∷ number n ++ rest) 0 place lt

  -- the number in the length field
  pub length_there : (rest : List ℕ) → n < 2 ^ 32 → length_field (header_of kind banks n ++ rest) ≡ n
  length_there rest below = from_be_bytes-to_be_bytes_4 n below

-- the header is read
pub behind_header : (kind : Kind) (r : Reading) → 9 ≤ r.place → bytes_read kind r ≡ header_in kind r.header ++ take (r.place - 9) (body_in kind r.fields)
unfolding bytes_read
behind_header kind r le = let e : r.place ≡ 9 + (r.place - 9) = omega (arith, le) in ap (λ (p : ℕ). take p (header_in kind r.header ++ body_in kind r.fields)) e ∙ take-append-add (header_in kind r.header) (body_in kind r.fields) (r.place - 9)

-- in the header
pub within_header : (kind : Kind) (r : Reading) → r.place ≤ 9 → bytes_read kind r ≡ take r.place (header_in kind r.header)
unfolding bytes_read
within_header kind r le = take-append-le r.place (header_in kind r.header) (body_in kind r.fields) le

-- a byte that was read
pub read_at : (kind : Kind) (r : Reading) (p : ℕ) → p < r.place → get_or (bytes_read kind r) p 0 ≡ get_or (header_in kind r.header ++ body_in kind r.fields) p 0
unfolding bytes_read
read_at kind r p lt = get_or-take r.place (header_in kind r.header ++ body_in kind r.fields) p 0 lt

-- the version
pub version_read : (kind : Kind) (r : Reading) → 4 < r.place → get_or (bytes_read kind r) 4 0 ≡ version_of r.header.banks
version_read kind r lt = read_at kind r 4 lt

-- as many bytes as the place says
pub length-read : (kind : Kind) (r : Reading) → IsReading kind r → length (bytes_read kind r) ≡ r.place
unfolding bytes_read
length-read kind r is =
    omega (arith, length-take r.place (header_in kind r.header ++ body_in kind r.fields), length-append (header_in kind r.header) (body_in kind r.fields), room)
  where
    room : r.place ≤ 9 + length (body_in kind r.fields)
    room = elim (cases_lt r.place 9) [
      | inl lt ↦ omega (arith, lt)
      | inr le ↦ omega (arith, le, is.within le, (length_longest kind r.header.banks r.header.length (is.sized le)).1, length-body_in kind r.fields is.valid)
    ]

-- ---- a byte is read

bytes_more : (bytes : List ℕ) (byte : ℕ) → IsBytes bytes → byte < 256 → IsBytes (bytes ++ byte ∷ [])
bytes_more bytes byte are below = IsBytes-append bytes (byte ∷ []) are one
  where
    one : IsBytes (byte ∷ [])
    one Prim.Native.Nat.zero = below
    one (suc i) = omega arith

pub header_byte_read : (kind : Kind) (r : Reading) (next : Header) (byte : ℕ) → r.place < 9 → take (r.place + 1) (header_in kind next) ≡ take r.place (header_in kind r.header) ++ byte ∷ []
    → bytes_read kind (record r { place = r.place + 1; header = next }) ≡ bytes_read kind r ++ byte ∷ []
header_byte_read kind r next byte lt read =
    within_header kind (record r { place = r.place + 1; header = next }) (omega (arith, lt))
    ∙ read
    ∙ ap (λ (bytes : List ℕ). bytes ++ byte ∷ []) (sym (within_header kind r (omega (arith, lt))))

pub reads_header : (kind : Kind) (r : Reading) (next : Header) (byte : ℕ) → IsReading kind r → r.place < 9 → byte < 256 → take (r.place + 1) (header_in kind next) ≡ take r.place (header_in kind r.header) ++ byte ∷ []
    → (r.place ≡ 8 → fits_header kind next ≡ true) → IsReading kind (record r { place = r.place + 1; header = next })
reads_header kind r next byte is lt below read sized = record {
  valid = is.valid;
  bytes = subst IsBytes (sym (header_byte_read kind r next byte lt read)) (bytes_more (bytes_read kind r) byte is.bytes below);
  sized = λ le. sized (omega (arith, le, lt));
  flagged = λ le. absurd (omega (arith, le, lt));
  within = λ le. omega (arith, lt);
}

pub body_byte_read : (kind : Kind) (r : Reading) (f : Fields) (byte : ℕ) → IsReading kind r → 9 ≤ r.place → r.place < 9 + r.header.length → body_in kind f ≡ set (body_in kind r.fields) (r.place - 9) byte
    → bytes_read kind (record r { place = r.place + 1; fields = f }) ≡ bytes_read kind r ++ byte ∷ []
unfolding bytes_read
body_byte_read kind r f byte is le lt changed =
    let all = header_in kind r.header ++ body_in kind r.fields in
    let there : r.place < length all = omega (arith, lt, length-append (header_in kind r.header) (body_in kind r.fields), (length_longest kind r.header.banks r.header.length (is.sized le)).1, length-body_in kind r.fields is.valid) in
    ap (λ (body : List ℕ). take (r.place + 1) (header_in kind r.header ++ body)) changed
    ∙ ap (take (r.place + 1)) (sym (set-append_right (header_in kind r.header) (body_in kind r.fields) 9 r.place byte refl le))
    ∙ take_more_set all r.place byte there

pub body_room : (kind : Kind) (r : Reading) → IsReading kind r → 9 ≤ r.place → r.place < 9 + r.header.length → r.place - 9 < length (body_in kind r.fields)
body_room kind r is le lt = omega (arith, le, lt, (length_longest kind r.header.banks r.header.length (is.sized le)).1, length-body_in kind r.fields is.valid)

-- the first byte of a body in which a byte was changed
first_byte : (list : List ℕ) (i byte : ℕ) (Q : ℕ → Type 0) → i < length list → (i ≡ 0 → Q byte) → (0 < i → Q (get_or list 0 0)) → Q (get_or (set list i byte) 0 0)
first_byte [] i byte Q lt at behind = absurd (omega (arith, lt))
first_byte (b ∷ list) Prim.Native.Nat.zero byte Q lt at behind = at refl
first_byte (b ∷ list) (suc i) byte Q lt at behind = behind (omega arith)

pub reads_body : (kind : Kind) (r : Reading) (f : Fields) (byte : ℕ) → IsReading kind r → 9 ≤ r.place → r.place < 9 + r.header.length → byte < 256 → AreValid f
    → body_in kind f ≡ set (body_in kind r.fields) (r.place - 9) byte → (r.place ≡ 9 → flag_fits kind r.header.length byte ≡ true) → IsReading kind (record r { place = r.place + 1; fields = f })
reads_body kind r f byte is le lt below valid changed flagged = record {
  valid = valid;
  bytes = subst IsBytes (sym (body_byte_read kind r f byte is le lt changed)) (bytes_more (bytes_read kind r) byte is.bytes below);
  sized = λ _. is.sized le;
  flagged = λ _. subst (λ (body : List ℕ). flag_fits kind r.header.length (get_or body 0 0) ≡ true) (sym changed)
      (first_byte (body_in kind r.fields) (r.place - 9) byte (λ (b : ℕ). flag_fits kind r.header.length b ≡ true) (body_room kind r is le lt)
      (λ e. flagged (omega (arith, e, le))) (λ gt. is.flagged (omega (arith, gt))));
  within = λ _. omega (arith, lt);
}

-- ---- a flag is refused

pub flag_refused : (kind : Kind) (r : Reading) (byte : ℕ) (rest : List ℕ) → IsReading kind r → r.place ≡ 9 → flag_fits kind r.header.length byte ≡ false → IsRefused kind (malformed Value 9) (bytes_read kind r ++ byte ∷ rest)
flag_refused kind r byte rest is at differs =
    let le : 9 ≤ r.place = omega (arith, at) in
    let bytes : bytes_read kind r ≡ header_in kind r.header = within_header kind r (omega (arith, at)) ∙ ap (λ (p : ℕ). take p (header_in kind r.header)) at in
    let field = length_there kind r.header.banks r.header.length (byte ∷ rest) (length_longest kind r.header.banks r.header.length (is.sized le)).2 in
    subst (λ (b : List ℕ). IsRefused kind (malformed Value 9) (b ++ byte ∷ rest)) (sym bytes)
    (refl, omega arith, r.header.banks, refl, ap (is_length kind r.header.banks) field ∙ is.sized le, ap (λ (n : ℕ). flag_fits kind n byte) field ∙ differs)

-- ---- a length is refused

length_refused_at : (kind : Kind) (header : Header) (next byte : ℕ) (rest : List ℕ) → number next ≡ set (number header.length) 3 byte → next < 2 ^ 32 → is_length kind header.banks next ≡ false
    → IsRefused kind (malformed Length 5) (take 8 (header_in kind header) ++ byte ∷ rest)
length_refused_at kind header next byte rest is below differs =
    let field : length_field (take 8 (header_in kind header) ++ byte ∷ rest) ≡ next = ap (from_be_bytes w32) (sym is) ∙ from_be_bytes-to_be_bytes_4 next below in
    (refl, omega arith, header.banks, refl, ap (is_length kind header.banks) field ∙ differs)

pub length_refused : (kind : Kind) (header : Header) (place next byte : ℕ) (rest : List ℕ) → place ≡ 8 → number next ≡ set (number header.length) (place - 5) byte → next < 2 ^ 32 → is_length kind header.banks next ≡ false
    → IsRefused kind (malformed Length 5) (take place (header_in kind header) ++ byte ∷ rest)
length_refused kind header place next byte rest at is below differs =
    subst (λ (p : ℕ). IsRefused kind (malformed Length 5) (take p (header_in kind header) ++ byte ∷ rest)) (sym at)
    (length_refused_at kind header next byte rest (is ∙ ap (λ (p : ℕ). set (number header.length) (p - 5) byte) at) below differs)

-- ---- a blob that is whole, and one that isn't

-- the bytes are a blob
pub whole_is_blob : (kind : Kind) (r : Reading) → IsReading kind r → is_whole r ≡ true → IsBlob kind (bytes_read kind r)
whole_is_blob kind r is whole =
    let all : r.place ≡ 9 + r.header.length = eqb-true r.place (9 + r.header.length) whole in
    let le : 9 ≤ r.place = omega (arith, all) in
    let long = length_longest kind r.header.banks r.header.length (is.sized le) in
    let body = take r.header.length (body_in kind r.fields) in
    let size : length body ≡ r.header.length = omega (arith, length-take r.header.length (body_in kind r.fields), length-body_in kind r.fields is.valid, long.1) in
    let bytes : bytes_read kind r ≡ with_header kind r.header.banks body =
    behind_header kind r le ∙ ap (λ (n : ℕ). header_in kind r.header ++ take n (body_in kind r.fields)) (omega (arith, all)) ∙ ap (λ (n : ℕ). header_of kind r.header.banks n ++ body) (sym size) in
    let first : get_or body 0 0 ≡ get_or (body_in kind r.fields) 0 0 = get_or-take r.header.length (body_in kind r.fields) 0 0 long.0 in
    let is_body : IsBody kind r.header.banks body = record {
      sized = ap (is_length kind r.header.banks) size ∙ is.sized le;
      flagged = ap (λ (n : ℕ). flag_fits kind n (get_or body 0 0)) size ∙ ap (λ (b : ℕ). flag_fits kind r.header.length b) first ∙ is.flagged (omega (arith, all, long.0));
    } in
    decoded_is_blob kind (bytes_read kind r) is.bytes (subst (Encodes (blob kind) (Ok tt)) (sym bytes) (body_is_decoded kind r.header.banks body is_body))

-- a blob has more than its header, and as many bytes as its length field says
blob_length : (kind : Kind) (bytes : List ℕ) → IsBlob kind bytes → (10 ≤ length bytes) × (length bytes ≡ 9 + length_field bytes)
unfolding encode_blob
blob_length kind bytes is =
    let long = length_longest kind is.values.banks (length (body_of kind is.values)) (fit_is_body kind is.values is.fit).sized in
    let field : length_field bytes ≡ length (body_of kind is.values) = ap length_field is.spelled ∙ length_there kind is.values.banks (length (body_of kind is.values)) (body_of kind is.values) long.2 in
    (omega (arith, ap length is.spelled, long.0), omega (arith, ap length is.spelled, field))

-- the bytes are none, where their length field is there: it says that there are more
open_no_blob : (kind : Kind) (banks : Banks) (n : ℕ) (rest : List ℕ) → n < 2 ^ 32 → length rest ≢ n → IsBlob kind (header_of kind banks n ++ rest) → ⊥
open_no_blob kind banks n rest below differs is =
    let size = (blob_length kind (header_of kind banks n ++ rest) is).1 in
    differs (omega (arith, size, length_there kind banks n rest below, length-append (header_of kind banks n) rest))

true_not_false : (b : Bool) → b ≡ true → b ≡ false → ⊥
true_not_false b on off = absurd cc

-- rows of refusals that don't hold of bytes that were read
module _ (kind : Kind) (r : Reading) (is : IsReading kind r) (part : is_whole r ≡ false) where
  not_all : r.place ≢ 9 + r.header.length
  not_all = eqb-false r.place (9 + r.header.length) part

  no_blob_before : (bytes : List ℕ) → length bytes < 10 → IsBlob kind bytes → ⊥
  no_blob_before bytes lt blob = omega (arith, lt, (blob_length kind bytes blob).0)

  no_blob : IsBlob kind (bytes_read kind r) → ⊥
  no_blob blob = elim (cases_lt r.place 9) [
    | inl lt ↦ no_blob_before (bytes_read kind r) (omega (arith, lt, length-read kind r is)) blob
    | inr le ↦
        let rest = take (r.place - 9) (body_in kind r.fields) in
        let size : length rest ≡ r.place - 9 = omega (arith, length-read kind r is, ap length (behind_header kind r le), length-append (header_in kind r.header) rest, le) in
        open_no_blob kind r.header.banks r.header.length rest (length_longest kind r.header.banks r.header.length (is.sized le)).2 (λ e. not_all (omega (arith, e, size, le))) (subst (IsBlob kind) (behind_header kind r le) blob)
  ]

  no_blob_in : (p : ℕ) → p < length (bytes_read kind r) → IsBlob kind (take p (bytes_read kind r)) → ⊥
  no_blob_in p lt blob =
      let size = length-read kind r is in
      elim (cases_lt p 9) [
        | inl below ↦ no_blob_before (take p (bytes_read kind r)) (omega (arith, below, length-take p (bytes_read kind r))) blob
        | inr le ↦
            let behind : 9 ≤ r.place = omega (arith, lt, size, le) in
            let rest = take (r.place - 9) (body_in kind r.fields) in
            let e : p ≡ 9 + (p - 9) = omega (arith, le) in
            let bytes : take p (bytes_read kind r) ≡ header_in kind r.header ++ take (p - 9) rest =
            ap (take p) (behind_header kind r behind) ∙ ap (λ (n : ℕ). take n (header_in kind r.header ++ rest)) e ∙ take-append-add (header_in kind r.header) rest (p - 9) in
            let short : length (take (p - 9) rest) ≢ r.header.length = λ same. omega (arith, same, ap length bytes, length-append (header_in kind r.header) (take (p - 9) rest), length-take p (bytes_read kind r), lt, size, is.within behind) in
            open_no_blob kind r.header.banks r.header.length (take (p - 9) rest) (length_longest kind r.header.banks r.header.length (is.sized behind)).2 short (subst (IsBlob kind) bytes blob)
      ]

  no_magic : (p : ℕ) → FirstDiffersAt p (bytes_read kind r) (magic_of kind) → ⊥
  no_magic p first = first.differs (read_at kind r p (omega (arith, first.there, length-read kind r is)) ∙ magic_there kind r.header.banks r.header.length p (body_in kind r.fields) first.named)

  no_version : 4 < length (bytes_read kind r) → banks_named (get_or (bytes_read kind r) 4 0) ≡ None → ⊥
  no_version lt unnamed =
      let named : Some r.header.banks ≡ None = sym (ap banks_named (version_read kind r (omega (arith, lt, length-read kind r is))) ∙ version_named r.header.banks) ∙ unnamed in
      absurd cc

  -- the banks that the bytes name
  same_banks : (banks : Banks) → 4 < length (bytes_read kind r) → take 5 (bytes_read kind r) ≡ magic_of kind ++ version_of banks ∷ [] → banks ≡ r.header.banks
  same_banks banks lt begins =
      same_version banks r.header.banks
      (sym (ap (λ (b : List ℕ). get_or b 4 0) begins) ∙ get_or-take 5 (bytes_read kind r) 4 0 (omega arith) ∙ version_read kind r (omega (arith, lt, length-read kind r is)))

  field_read : 9 ≤ r.place → length_field (bytes_read kind r) ≡ r.header.length
  field_read le = ap length_field (behind_header kind r le) ∙ length_there kind r.header.banks r.header.length (take (r.place - 9) (body_in kind r.fields)) (length_longest kind r.header.banks r.header.length (is.sized le)).2

  no_length : (banks : Banks) → 9 ≤ length (bytes_read kind r) → take 5 (bytes_read kind r) ≡ magic_of kind ++ version_of banks ∷ [] → is_length kind banks (length_field (bytes_read kind r)) ≡ false → ⊥
  no_length banks long begins differs =
      let le : 9 ≤ r.place = omega (arith, long, length-read kind r is) in
      let same : banks ≡ r.header.banks = same_banks banks (omega (arith, long)) begins in
      true_not_false (is_length kind banks (length_field (bytes_read kind r)))
      (ap (λ (b : Banks). is_length kind b (length_field (bytes_read kind r))) same ∙ ap (is_length kind r.header.banks) (field_read le) ∙ is.sized le) differs

  no_value : 9 < length (bytes_read kind r) → flag_fits kind (length_field (bytes_read kind r)) (get_or (bytes_read kind r) 9 0) ≡ false → ⊥
  no_value long differs =
      let lt : 9 < r.place = omega (arith, long, length-read kind r is) in
      let flag : get_or (bytes_read kind r) 9 0 ≡ get_or (body_in kind r.fields) 0 0 = read_at kind r 9 lt in
      true_not_false (flag_fits kind (length_field (bytes_read kind r)) (get_or (bytes_read kind r) 9 0))
      (ap (λ (n : ℕ). flag_fits kind n (get_or (bytes_read kind r) 9 0)) (field_read (omega (arith, lt))) ∙ ap (λ (b : ℕ). flag_fits kind r.header.length b) flag ∙ is.flagged lt) differs

  not_refused : (why : Why) (p : ℕ) → IsRefusedFor kind why p (bytes_read kind r) → ⊥
  not_refused Magic p row = no_magic p row
  not_refused Version p row = no_version row.1 row.3
  not_refused Length p row = no_length row.2 row.1 row.3 row.4
  not_refused Value p row = no_value row.1 row.5
  not_refused Cut p row = row
  not_refused Extra p row = no_blob_in p row.0 row.1

  pub part_is_cut : IsCut kind (bytes_read kind r)
  part_is_cut = record { no_blob = no_blob; not_refused = λ fault refused. not_refused fault.why fault.place refused }

-- ---- a byte behind a blob is refused

pub byte_behind : (kind : Kind) (r : Reading) (byte : ℕ) (rest : List ℕ) → IsReading kind r → is_whole r ≡ true → IsRefused kind (malformed Extra r.place) (bytes_read kind r ++ byte ∷ rest)
byte_behind kind r byte rest is whole =
    let size = length-read kind r is in
    (omega (arith, size, length-append (bytes_read kind r) (byte ∷ rest)), subst (IsBlob kind) (sym (take_at (bytes_read kind r) (byte ∷ rest) r.place size)) (whole_is_blob kind r is whole))

-- ---- bytes are taken back

module _ (kind : Kind) (r s : Reading) (is : IsReading kind r) (now : IsReading kind s) (more : List ℕ) (read : bytes_read kind s ≡ bytes_read kind r ++ more) (headers : 9 ≤ r.place → s.header ≡ r.header) where
  pub earlier : r.place ≤ s.place
  earlier = omega (arith, length-read kind r is, length-read kind s now, ap length read, length-append (bytes_read kind r) more)

  back_bytes : bytes_read kind (record s { place = r.place }) ≡ bytes_read kind r
  unfolding bytes_read
  back_bytes =
      sym (take-take r.place s.place (header_in kind s.header ++ body_in kind s.fields) earlier)
      ∙ ap (take r.place) read
      ∙ take_at (bytes_read kind r) more r.place (length-read kind r is)

  back_whole : eqb r.place (9 + s.header.length) ≡ eqb r.place (9 + r.header.length)
  back_whole = elim (cases_lt r.place 9) [
    | inl lt ↦ ne_eqb r.place (9 + s.header.length) (λ e. omega (arith, e, lt)) ∙ sym (ne_eqb r.place (9 + r.header.length) (λ e. omega (arith, e, lt)))
    | inr le ↦ ap (λ (h : Header). eqb r.place (9 + h.length)) (headers le)
  ]

  pub same_taken_back : ReadTheSame kind r (record s { place = r.place })
  same_taken_back = record { bytes = back_bytes; whole = back_whole }

  pub reads_taken_back : IsReading kind (record s { place = r.place })
  reads_taken_back = record {
    valid = now.valid;
    bytes = subst IsBytes (sym back_bytes) is.bytes;
    sized = λ le. now.sized (omega (arith, le, earlier));
    flagged = λ lt. now.flagged (omega (arith, lt, earlier));
    within = λ le. omega (arith, le, earlier, now.within (omega (arith, le, earlier)));
  }

-- ---- what a gather shows of them

-- how it is seen
abbrev pub gathering : Kind → Reading → Gathering
gathering kind r = record { kind = kind; begun = bytes_read kind r; whole = is_whole r }

pub nothing_read : (kind : Kind) (r : Reading) → r.place ≡ 0 → bytes_read kind r ≡ []
unfolding bytes_read
nothing_read kind r none = ap (λ (n : ℕ). take n (header_in kind r.header ++ body_in kind r.fields)) none

pub reads_nothing : (kind : Kind) (r : Reading) → AreValid r.fields → r.place ≡ 0 → IsReading kind r
reads_nothing kind r valid none = record {
  valid = valid;
  bytes = subst IsBytes (sym (nothing_read kind r none)) (λ i. omega arith);
  sized = λ le. absurd (omega (arith, le, none));
  flagged = λ lt. absurd (omega (arith, lt, none));
  within = λ le. absurd (omega (arith, le, none));
}

pub gathering_nothing : (kind as_kind : Kind) (r : Reading) → kind ≡ as_kind → r.place ≡ 0 → gathering kind r ≡ record { kind = as_kind; begun = []; whole = false }
gathering_nothing kind as_kind r same none =
    let part : is_whole r ≡ false = ne_eqb r.place (9 + r.header.length) (λ e. omega (arith, e, none)) in
    ap (λ (bytes : List ℕ). let g : Gathering = record { kind = kind; begun = bytes; whole = is_whole r } in g) (nothing_read kind r none)
    ∙ ap (λ (whole : Bool). let g : Gathering = record { kind = kind; begun = []; whole = whole } in g) part
    ∙ ap (λ (k : Kind). let g : Gathering = record { kind = k; begun = []; whole = false } in g) same

pub none_if : (kind : Kind) (r : Reading) (g : Gathering) → IsReading kind r → gathering kind r ≡ g → (IsTrue (eqb r.place 0) → g.begun ≡ []) × (g.begun ≡ [] → IsTrue (eqb r.place 0))
none_if kind r g is seen =
    let size : length g.begun ≡ r.place = sym (ap (λ (g : Gathering). length g.begun) seen) ∙ length-read kind r is in
    (λ on. nil_from_length g.begun (size ∙ eqb-true r.place 0 on), λ none. eq-eqb r.place 0 (sym size ∙ ap length none))

-- the body so far
pub body_so_far : (kind : Kind) (r : Reading) → IsReading kind r → drop 9 (bytes_read kind r) ≡ take (length (bytes_read kind r) - 9) (body_in kind r.fields)
body_so_far kind r is =
    let size = length-read kind r is in
    elim (cases_lt r.place 9) [
      | inl lt ↦ drop_all 9 (bytes_read kind r) (omega (arith, size, lt)) ∙ ap (λ (n : ℕ). take n (body_in kind r.fields)) {x = 0} (omega (arith, size, lt))
      | inr le ↦ ap (drop 9) (behind_header kind r le) ∙ ap (λ (n : ℕ). take n (body_in kind r.fields)) {x = r.place - 9} (omega (arith, size))
    ]

-- what an answer of a gather says
on_true : {P : Type 0} (b : Bool) → (b ≡ true → P) → OnTrue b P
on_true true then = then refl
on_true false then = tt

on_false : {P : Type 0} (b : Bool) → (b ≡ false → P) → OnFalse b P
on_false true then = tt
on_false false then = then refl

module _ (kind : Kind) (r s : Reading) (g : Gathering) (whole : Bool) (bytes : List ℕ) (now : IsReading kind s) (seen : gathering kind r ≡ g) (read : bytes_read kind s ≡ bytes_read kind r ++ bytes) (is : whole ≡ is_whole s) where
  pub blob_on_true : OnTrue whole (IsBlob g.kind (g.begun ++ bytes))
  blob_on_true = on_true whole (λ on. subst (λ (g : Gathering). IsBlob g.kind (g.begun ++ bytes)) seen (subst (IsBlob kind) read (whole_is_blob kind s now (sym is ∙ on))))

  pub cut_on_false : OnFalse whole (IsCut g.kind (g.begun ++ bytes))
  cut_on_false = on_false whole (λ off. subst (λ (g : Gathering). IsCut g.kind (g.begun ++ bytes)) seen (subst (IsCut kind) read (part_is_cut kind s now (sym is ∙ off))))

module _ (kind : Kind) (r : Reading) (g : Gathering) (is : IsReading kind r) (seen : gathering kind r ≡ g) where
  pub blob_seen : is_whole r ≡ true → IsBlob g.kind g.begun
  blob_seen on = subst (λ (g : Gathering). IsBlob g.kind g.begun) seen (whole_is_blob kind r is on)

  pub cut_seen : is_whole r ≡ false → IsCut g.kind g.begun
  cut_seen off = subst (λ (g : Gathering). IsCut g.kind g.begun) seen (part_is_cut kind r is off)

  pub version_seen : 4 < length g.begun → get_or g.begun 4 0 ≡ version_of r.header.banks
  version_seen = subst (λ (g : Gathering). 4 < length g.begun → get_or g.begun 4 0 ≡ version_of r.header.banks) seen (λ lt. version_read kind r (omega (arith, lt, length-read kind r is)))
