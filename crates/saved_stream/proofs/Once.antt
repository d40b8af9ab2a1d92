-- A stream is decoded in one way and not refused, and what is none is refused in one way.
use Rattle.std.proofs.Common.{◌≡◌, ◌⊎◌, ℕ, ◌^◌, ◌<◌, List, ◌++◌, length, take, drop, Ok, Err, refl, sym, ap, ◌∙◌, arith, inl, inr, append_assoc}
use Rattle.std.proofs.lemmas.List.{length-append, take-append-drop}
use Rattle.std.proofs.lemmas.Nat.{from_be_bytes-to_be_bytes_4}
use Rattle.vt_base.specs.Numbers.{number}
use Rattle.vt_base.specs.Layout.{Encodes, IsOpen}
use Rattle.vt_base.specs.Refusing.{malformed}
use Rattle.vt_base.proofs.Layouts.{one_encoding}
use Rattle.vt_base.specs.declared.types.Kind.TheVariants.{Permanent, Volatile, Saved}
use Rattle.vt_base.specs.declared.types.Why.{Why}
use Rattle.vt_base.specs.declared.types.Why.TheVariants.{Magic, Version, Length, Value, Cut, Extra}
use Rattle.vt_base.specs.declared.types.Malformed.{Malformed}
use Rattle.device_record.specs.Records.{encode_record}
use Rattle.state_blobs.specs.Encodings.{encode_blob}
use Rattle.state_blobs.specs.Blobs.{Ending}
use Rattle.state_blobs.specs.Refusals.{length_field}
use Rattle.crb_history.specs.Snapshot.{Snapshot}
use Rattle.saved_stream.specs.declared.part.Part.TheVariants.{Record, Blob}
use Rattle.saved_stream.specs.Parts.{parts}
use Rattle.saved_stream.specs.Streams.{encode_parts, encode_stream, IsStream}
use Rattle.saved_stream.specs.Refusals.{head, IsHeadRefusedFor, IsHeadRefused, HasHead, HasParts, total}
use Rattle.saved_stream.proofs.Heads.{begin, head_encodes}
use Rattle.saved_stream.proofs.PartLaws.{LawsOfParts, laws_of, same_prefix}
use Rattle.saved_stream.proofs.Apart.{AreWhole, same_back}

-- ---- the head

-- a refusal of the head: the bytes end, or a field was decoded as refused
pub head_cases : (why : Why) (place : ℕ) (bytes : List ℕ) → IsHeadRefusedFor why place bytes
    → ((why ≡ Cut) × (place ≡ length bytes) × IsOpen head bytes) ⊎ ((n : ℕ) × Encodes head (Err (malformed why place)) (take n bytes))
head_cases Cut place bytes row = inl (refl, row.0, row.1)
head_cases Magic place bytes row = inr row
head_cases Version place bytes row = inr row
head_cases Length place bytes row = inr row
head_cases Value place bytes row = inr row
head_cases Extra place bytes row = inr row

-- two prefixes that are decoded
pub two_decoded : (bytes : List ℕ) (d e : Ending) (m n : ℕ) → Encodes head d (take m bytes) → Encodes head e (take n bytes) → (d ≡ e) × (take m bytes ≡ take n bytes)
two_decoded bytes d e m n p q = one_encoding head d e (take m bytes) (take n bytes) (drop m bytes) (drop n bytes) p q (take-append-drop m bytes ∙ sym (take-append-drop n bytes))

abbrev refused_with : Malformed → Ending
refused_with fault = Err fault

pub same_refusal : (f g : Malformed) → refused_with f ≡ refused_with g → f ≡ g
same_refusal f g e = cc

decoded_or_refused : (f : Malformed) → ◌≡◌ {A = Ending} (Ok tt) (Err f) → ⊥
decoded_or_refused f e = cc

pub head_not_refused : (bytes : List ℕ) (fault : Malformed) → HasHead bytes → IsHeadRefused fault bytes → ⊥
head_not_refused bytes fault h refused =
    elim (head_cases fault.why fault.place bytes refused) [
      | inl (is, place, none) ↦ none (Ok tt) 9 (head_encodes bytes h)
      | inr (n, exact) ↦ decoded_or_refused (malformed fault.why fault.place) (two_decoded bytes (Ok tt) (Err (malformed fault.why fault.place)) 9 n (head_encodes bytes h) exact).0
    ]

pub same_malformed : (f g : Malformed) → f.why ≡ g.why → f.place ≡ g.place → f ≡ g
same_malformed f g p q = ap (λ (x : Why). record f { why = x }) p ∙ ap (λ (x : ℕ). record g { place = x }) q

pub head_once : (bytes : List ℕ) (f g : Malformed) → IsHeadRefused f bytes → IsHeadRefused g bytes → f ≡ g
head_once bytes f g p q =
    elim (head_cases f.why f.place bytes p) [
      | inl (is, place, none) ↦
          elim (head_cases g.why g.place bytes q) [
            | inl (is_too, place_too, none_too) ↦ same_malformed f g (is ∙ sym is_too) (place ∙ sym place_too)
            | inr (n, exact) ↦ absurd (none (Err (malformed g.why g.place)) n exact)
          ]
      | inr (m, exact) ↦
          elim (head_cases g.why g.place bytes q) [
            | inl (is_too, place_too, none) ↦ absurd (none (Err (malformed f.why f.place)) m exact)
            | inr (n, decoded_too) ↦ same_refusal f g (two_decoded bytes (Err f) (Err g) m n exact decoded_too).0
          ]
    ]

-- ---- the parts

-- the parts behind a head, one by one
nested : (bytes : List ℕ) (p : HasParts bytes) → drop 9 bytes ≡ p.device ++ (p.permanent ++ (p.volatile ++ (p.saved ++ p.after)))
nested bytes p = p.behind ∙ simp append_assoc

pub parts_whole : (bytes : List ℕ) (p : HasParts bytes) → AreWhole parts (drop 9 bytes) p.after
parts_whole bytes p = (
  p.device,
  p.permanent ++ (p.volatile ++ (p.saved ++ p.after)),
  nested bytes p,
  p.is_record,
  (
    p.permanent,
    p.volatile ++ (p.saved ++ p.after),
    refl,
    p.is_permanent,
    (
      p.volatile,
      p.saved ++ p.after,
      refl,
      p.is_volatile,
      (p.saved, p.after, refl, p.is_saved, refl),
    ),
  ),
)

-- the same parts
pub record SameParts {bytes : List ℕ} (p q : HasParts bytes) : Type 0 where
  pub device : p.device ≡ q.device
  pub permanent : p.permanent ≡ q.permanent
  pub volatile : p.volatile ≡ q.volatile
  pub saved : p.saved ≡ q.saved
  pub after : p.after ≡ q.after

-- how the parts of a stream stand behind its head
pub stream_behind : (prefix : List ℕ) (b : Snapshot) → IsStream prefix b → (prefix ≡ (begin ++ number (length (encode_parts b))) ++ encode_parts b)
unfolding encode_stream
stream_behind prefix b s = s.spelled

-- nine bytes, and the parts behind them
stream_split : (bytes prefix more : List ℕ) (b : Snapshot) → bytes ≡ prefix ++ more → IsStream prefix b → bytes ≡ (begin ++ number (length (encode_parts b))) ++ (encode_parts b ++ more)
stream_split bytes prefix more b is s = is ∙ ap (λ (t : List ℕ). t ++ more) (stream_behind prefix b s) ∙ append_assoc (begin ++ number (length (encode_parts b))) (encode_parts b) more

pub stream_head : (bytes prefix more : List ℕ) (b : Snapshot) → bytes ≡ prefix ++ more → IsStream prefix b → HasHead bytes
stream_head bytes prefix more b is s =
    let split = stream_split bytes prefix more b is s in
    record {
      long = omega (arith, ap length split, length-append (begin ++ number (length (encode_parts b))) (encode_parts b ++ more));
      begins = ap (take 5) split;
    }

pub stream_rest : (bytes prefix more : List ℕ) (b : Snapshot) → bytes ≡ prefix ++ more → IsStream prefix b → drop 9 bytes ≡ encode_parts b ++ more
stream_rest bytes prefix more b is s = ap (drop 9) (stream_split bytes prefix more b is s)

pub stream_length : (bytes prefix more : List ℕ) (b : Snapshot) → bytes ≡ prefix ++ more → IsStream prefix b → length (encode_parts b) < 2 ^ 32 → length_field bytes ≡ length (encode_parts b)
stream_length bytes prefix more b is s within_limit =
    ap length_field (stream_split bytes prefix more b is s) ∙ from_be_bytes-to_be_bytes_4 (length (encode_parts b)) within_limit

module _ (k : LawsOfParts) where
  pub one_parting : (bytes : List ℕ) (p q : HasParts bytes) → SameParts p q
  one_parting bytes p q =
      let one = nested bytes p in
      let two = nested bytes q in
      let a = same_prefix Record (laws_of k Record) _ _ _ _ p.is_record q.is_record (sym one ∙ two) in
      let a' = same_back _ _ _ _ (drop 9 bytes) one two a in
      let b = same_prefix (Blob Permanent) (laws_of k (Blob Permanent)) _ _ _ _ p.is_permanent q.is_permanent a' in
      let b' = same_back _ _ _ _ _ refl a' b in
      let c = same_prefix (Blob Volatile) (laws_of k (Blob Volatile)) _ _ _ _ p.is_volatile q.is_volatile b' in
      let c' = same_back _ _ _ _ _ refl b' c in
      let d = same_prefix (Blob Saved) (laws_of k (Blob Saved)) _ _ _ _ p.is_saved q.is_saved c' in
      record { device = a; permanent = b; volatile = c; saved = d; after = same_back _ _ _ _ _ refl c' d }

  pub same_total : (bytes : List ℕ) (p q : HasParts bytes) → total p ≡ total q
  same_total bytes p q =
      let s = one_parting bytes p q in
      ap length (rw (s.device, s.permanent, s.volatile, s.saved) refl)

  -- how long the parts of fit values are
  pub parts_few : (b : Snapshot) (prefix : List ℕ) → IsStream prefix b → length (encode_parts b) < 2 ^ 32
  parts_few b prefix s =
      let fit = s.fit in
      let d = (laws_of k Record).within_limit (encode_record b.device) (b.device, record { fit = fit.device; spelled = refl }) in
      let p = (laws_of k (Blob Permanent)).within_limit (encode_blob Permanent b.tpm) (record { values = b.tpm; fit = fit.tpm; spelled = refl }) in
      let v = (laws_of k (Blob Volatile)).within_limit (encode_blob Volatile b.tpm) (record { values = b.tpm; fit = fit.tpm; spelled = refl }) in
      let z = (laws_of k (Blob Saved)).within_limit (encode_blob Saved b.tpm) (record { values = b.tpm; fit = fit.tpm; spelled = refl }) in
      omega (
        arith,
        d,
        p,
        v,
        z,
        length-append (encode_record b.device ++ encode_blob Permanent b.tpm ++ encode_blob Volatile b.tpm) (encode_blob Saved b.tpm),
        length-append (encode_record b.device ++ encode_blob Permanent b.tpm) (encode_blob Volatile b.tpm),
        length-append (encode_record b.device) (encode_blob Permanent b.tpm),
      )

  -- the parts of a stream at the start of bytes
  abbrev pub stream_parts : (bytes prefix more : List ℕ) (b : Snapshot) → bytes ≡ prefix ++ more → IsStream prefix b → HasParts bytes
  stream_parts bytes prefix more b is s = record {
    head = stream_head bytes prefix more b is s;
    device = encode_record b.device;
    permanent = encode_blob Permanent b.tpm;
    volatile = encode_blob Volatile b.tpm;
    saved = encode_blob Saved b.tpm;
    after = more;
    behind = stream_rest bytes prefix more b is s;
    is_record = (b.device, record { fit = s.fit.device; spelled = refl });
    is_permanent = record { values = b.tpm; fit = s.fit.tpm; spelled = refl };
    is_volatile = record { values = b.tpm; fit = s.fit.tpm; spelled = refl };
    is_saved = record { values = b.tpm; fit = s.fit.tpm; spelled = refl };
  }
