-- The laws of streams.
use Rattle.std.proofs.Common.{◌≡◌, ◌≢◌, ℕ, ◌+◌, ◌-◌, ◌<◌, List, [], ◌++◌, length, take, drop, Ok, Err, refl, sym, ap, subst, ◌∙◌, arith, inl, inr, append_assoc}
use Rattle.std.specs.Int.{w32, from_be_bytes}
use Rattle.std.proofs.lemmas.Bool.{cases_lt}
use Rattle.std.proofs.lemmas.List.{length-append, length-take, length-drop, take_at, take-append-drop, take-append-le, drop-append-le, take-take, drop-take, append-nil}
use Rattle.vt_base.specs.Numbers.{number}
use Rattle.vt_base.specs.Layout.{Encodes, IsOpen}
use Rattle.vt_base.specs.Refusing.{malformed}
use Rattle.vt_base.proofs.Layouts.{one_encoding}
use Rattle.vt_base.specs.declared.types.Kind.TheVariants.{Permanent, Volatile, Saved}
use Rattle.vt_base.specs.declared.types.Why.{Why}
use Rattle.vt_base.specs.declared.types.Why.TheVariants.{Magic, Version, Length, Value, Cut, Extra}
use Rattle.vt_base.specs.declared.types.Malformed.{Malformed}
use Rattle.crb_machine.specs.Values.{DeviceValues}
use Rattle.tpm_core.specs.declared.parts.TpmParts.{TpmParts}
use Rattle.state_blobs.specs.declared.types.BlobFault.{BlobFault}
use Rattle.state_blobs.specs.Encodings.{encode_blob}
use Rattle.state_blobs.specs.Blobs.{Ending}
use Rattle.state_blobs.specs.Refusals.{length_field}
use Rattle.state_blobs.specs.Numbers.{version_place}
use Rattle.state_blobs.specs.Assembly.{IsAssembled, IsFault, Disagrees, version_in, version_fault}
use Rattle.crb_history.specs.Snapshot.{Snapshot, IsValidSnapshot}
use Rattle.saved_stream.specs.Parts.{parts}
use Rattle.saved_stream.specs.Streams.{with_head, encode_parts, encode_stream, IsStream}
use Rattle.saved_stream.specs.Refusals.{head, IsHeadRefusedFor, HasHead, ArePartsRefused, HasParts, total, place_of_saved, OtherVersionAt, AreOfOneVersion, IsWholeRefusedFor, IsWholeRefused, IsStreamRefused}
use Rattle.saved_stream.proofs.Heads.{begin, head_encodes}
use Rattle.saved_stream.proofs.PartLaws.{LawsOfParts}
use Rattle.saved_stream.proofs.Apart.{whole_not_refused, parts_once, prefix_cut, parts_stay}
use Rattle.saved_stream.proofs.Once.{head_not_refused, head_once, same_malformed, parts_whole, SameParts, one_parting, same_total, stream_behind, stream_head, stream_length, parts_few, stream_parts}

-- the fault that three blobs disagree at a place of the third
abbrev disagreeing : ℕ → BlobFault
disagreeing place = record { kind = Saved; fault = malformed Value place }

-- what the whole shows of three blobs is a fault of theirs
version_blamed : {bytes : List ℕ} (p : HasParts bytes) (place : ℕ) → OtherVersionAt place p → (f : BlobFault) × IsFault p.permanent p.volatile p.saved f
version_blamed p place (inl (at, other)) = (version_fault Volatile, (refl, p.is_permanent, (p.is_volatile, other), inr p.is_saved))
version_blamed p place (inr (at, same, other)) = (version_fault Saved, (refl, p.is_permanent, inr (p.is_volatile, same), (p.is_saved, other)))

disagreement_blamed : {bytes : List ℕ} (p : HasParts bytes) (place : ℕ) → AreOfOneVersion p → Disagrees place p.volatile p.saved → IsFault p.permanent p.volatile p.saved (disagreeing place)
disagreement_blamed p place one d = (p.is_permanent, (p.is_volatile, one.0), (p.is_saved, one.1), d)

-- the parts of bytes are of one version or not, and at one place
one_other : {bytes : List ℕ} (p q : HasParts bytes) (m n : ℕ) → SameParts p q → OtherVersionAt m p → OtherVersionAt n q → m ≡ n
one_other p q m n s (inl (at, other)) (inl (at_too, other_too)) =
    at ∙ ap (λ (t : List ℕ). 9 + length t + version_place) (rw (s.device, s.permanent) refl) ∙ sym at_too
one_other p q m n s (inl (at, other)) (inr (at_too, same, other_too)) = absurd (other (ap version_in s.volatile ∙ same ∙ sym (ap version_in s.permanent)))
one_other p q m n s (inr (at, same, other)) (inl (at_too, other_too)) = absurd (other_too (sym (ap version_in s.volatile) ∙ same ∙ ap version_in s.permanent))
one_other p q m n s (inr (at, same, other)) (inr (at_too, same_too, other_too)) =
    at ∙ ap (λ (t : List ℕ). 9 + length t + version_place) (rw (s.device, s.permanent, s.volatile) refl) ∙ sym at_too

other_or_one : {bytes : List ℕ} (p q : HasParts bytes) (m : ℕ) → SameParts p q → OtherVersionAt m p → AreOfOneVersion q → ⊥
other_or_one p q m s (inl (at, other)) one = other (ap version_in s.volatile ∙ one.0 ∙ sym (ap version_in s.permanent))
other_or_one p q m s (inr (at, same, other)) one = other (ap version_in s.saved ∙ one.1 ∙ sym (ap version_in s.permanent))

module _ (k : LawsOfParts) where
  -- ---- a stream, and the bytes behind it

  has_total : (bytes prefix more : List ℕ) (b : Snapshot) (is : bytes ≡ prefix ++ more) (s : IsStream prefix b) → length_field bytes ≡ total (stream_parts k bytes prefix more b is s)
  has_total bytes prefix more b is s = stream_length bytes prefix more b is s (parts_few k b prefix s)

  prefix_length : (prefix : List ℕ) (b : Snapshot) → IsStream prefix b → length prefix ≡ 9 + length (encode_parts b)
  prefix_length prefix b s = omega (arith, ap length (stream_behind prefix b s), length-append (begin ++ number (length (encode_parts b))) (encode_parts b))

  -- the blobs of a stream are at no fault
  no_blame : (bytes prefix more : List ℕ) (b : Snapshot) (is : bytes ≡ prefix ++ more) (s : IsStream prefix b) (p : HasParts bytes) (f : BlobFault) → IsFault p.permanent p.volatile p.saved f → ⊥
  no_blame bytes prefix more b is s p f fault =
      let same = one_parting k bytes p (stream_parts k bytes prefix more b is s) in
      let made : IsAssembled p.permanent p.volatile p.saved b.tpm = rw (same.permanent, same.volatile, same.saved) (k.tpm_made b.tpm s.fit.tpm) in
      k.tpm_or_fault p.permanent p.volatile p.saved b.tpm f made fault

  -- two streams at the start of the same bytes are as long
  same_length : (bytes prefix more other rest : List ℕ) (b c : Snapshot) (is : bytes ≡ prefix ++ more) (was : bytes ≡ other ++ rest) (s : IsStream prefix b) (t : IsStream other c) → length prefix ≡ length other
  same_length bytes prefix more other rest b c is was s t =
      let same : length (encode_parts b) ≡ length (encode_parts c) = same_total k bytes (stream_parts k bytes prefix more b is s) (stream_parts k bytes other rest c was t) in
      omega (arith, prefix_length prefix b s, prefix_length other c t, same)

  -- what the whole shows of bytes that begin with a stream is that they go on
  only_extra : (why : Why) (place : ℕ) (bytes prefix more : List ℕ) (b : Snapshot) (is : bytes ≡ prefix ++ more) (s : IsStream prefix b) → IsWholeRefusedFor why place bytes → (why ≡ Extra) × (place ≡ length prefix) × (place < length bytes)
  only_extra Length place bytes prefix more b is s row =
      absurd (row.2 (has_total bytes prefix more b is s ∙ same_total k bytes (stream_parts k bytes prefix more b is s) row.0))
  only_extra Version place bytes prefix more b is s row = let blamed = version_blamed row.0 place row.2 in absurd (no_blame bytes prefix more b is s row.0 blamed.0 blamed.1)
  only_extra Value place bytes prefix more b is s row = absurd (no_blame bytes prefix more b is s row.0 (disagreeing row.3) (disagreement_blamed row.0 row.3 row.2 row.4))
  only_extra Extra place bytes prefix more b is s row =
      let same = same_length bytes prefix more (take place bytes) (drop place bytes) b row.1 is (sym (take-append-drop place bytes)) s row.2 in
      (refl, omega (arith, same, length-take place bytes, row.0), row.0)
  only_extra Magic place bytes prefix more b is s row = absurd row
  only_extra Cut place bytes prefix more b is s row = absurd row

  -- ---- not refused

  pub not_refused : (bytes : List ℕ) (b : Snapshot) (fault : Malformed) → IsStream bytes b → IsStreamRefused fault bytes → ⊥
  not_refused bytes b fault s (inl refused) = head_not_refused bytes fault (stream_head bytes bytes [] b (sym (append-nil bytes)) s) refused
  not_refused bytes b fault s (inr (inl (h, refused))) =
      whole_not_refused k parts (drop 9 bytes) [] 9 fault (parts_whole bytes (stream_parts k bytes bytes [] b (sym (append-nil bytes)) s)) refused
  not_refused bytes b fault s (inr (inr refused)) =
      let only = only_extra fault.why fault.place bytes bytes [] b (sym (append-nil bytes)) s refused in
      absurd (omega (arith, only.1, only.2))

  -- ---- decoded in one way

  pub decoded_once : (bytes : List ℕ) (b c : Snapshot) → IsStream bytes b → IsStream bytes c → b ≡ c
  decoded_once bytes b c s t =
      let is = sym (append-nil bytes) in
      let same = one_parting k bytes (stream_parts k bytes bytes [] b is s) (stream_parts k bytes bytes [] c is t) in
      let device = k.record_values b.device c.device s.fit.device t.fit.device same.device in
      let made : IsAssembled (encode_blob Permanent b.tpm) (encode_blob Volatile b.tpm) (encode_blob Saved b.tpm) c.tpm =
      rw (same.permanent, same.volatile, same.saved) (k.tpm_made c.tpm t.fit.tpm) in
      let tpm = k.tpm_once (encode_blob Permanent b.tpm) (encode_blob Volatile b.tpm) (encode_blob Saved b.tpm) b.tpm c.tpm (k.tpm_made b.tpm s.fit.tpm) made in
      ap (λ (x : TpmParts). record b { tpm = x }) tpm ∙ ap (λ (x : DeviceValues). record c { device = x }) device

  -- ---- one refusal

  same_disagreement : (bytes : List ℕ) (p q : HasParts bytes) (m n : ℕ) → AreOfOneVersion p → Disagrees m p.volatile p.saved → Disagrees n q.volatile q.saved → m ≡ n
  same_disagreement bytes p q m n one d e =
      let same = one_parting k bytes q p in
      let e' = subst (λ (v : List ℕ). Disagrees n v p.saved) same.volatile (subst (λ (z : List ℕ). Disagrees n q.volatile z) same.saved e) in
      ap (λ (f : BlobFault). f.fault.place) (k.one_fault p.permanent p.volatile p.saved (disagreeing m) (disagreeing n) (disagreement_blamed p m one d) (disagreement_blamed p n one e'))

  same_place : (bytes : List ℕ) (p q : HasParts bytes) → place_of_saved p ≡ place_of_saved q
  same_place bytes p q = let s = one_parting k bytes p q in ap (λ (t : List ℕ). 9 + length t) (rw (s.device, s.permanent, s.volatile) refl)

  after_stream : (place : ℕ) (why : Why) (q : ℕ) (bytes : List ℕ) → IsWholeRefusedFor Extra place bytes → IsWholeRefusedFor why q bytes → (why ≡ Extra) × (q ≡ place)
  after_stream place why q bytes row other =
      let only = only_extra why q bytes (take place bytes) (drop place bytes) row.1 (sym (take-append-drop place bytes)) row.2 other in
      (only.0, omega (arith, only.1, length-take place bytes, row.0))

  whole_once : (bytes : List ℕ) (why : Why) (p : ℕ) (other : Why) (q : ℕ) → IsWholeRefusedFor why p bytes → IsWholeRefusedFor other q bytes → (why ≡ other) × (p ≡ q)
  whole_once bytes Extra p other q row row_too = let same = after_stream p other q bytes row row_too in (sym same.0, sym same.1)
  whole_once bytes Length p Extra q row row_too = after_stream q Length p bytes row_too row
  whole_once bytes Version p Extra q row row_too = after_stream q Version p bytes row_too row
  whole_once bytes Value p Extra q row row_too = after_stream q Value p bytes row_too row
  whole_once bytes Length p Length q row row_too = (refl, row.1 ∙ sym row_too.1)
  whole_once bytes Length p Version q row row_too = absurd (row.2 (row_too.1 ∙ same_total k bytes row_too.0 row.0))
  whole_once bytes Length p Value q row row_too = absurd (row.2 (row_too.1 ∙ same_total k bytes row_too.0 row.0))
  whole_once bytes Version p Length q row row_too = absurd (row_too.2 (row.1 ∙ same_total k bytes row.0 row_too.0))
  whole_once bytes Version p Version q row row_too = (refl, one_other row.0 row_too.0 p q (one_parting k bytes row.0 row_too.0) row.2 row_too.2)
  whole_once bytes Version p Value q row row_too = absurd (other_or_one row.0 row_too.0 p (one_parting k bytes row.0 row_too.0) row.2 row_too.2)
  whole_once bytes Value p Version q row row_too = absurd (other_or_one row_too.0 row.0 q (one_parting k bytes row_too.0 row.0) row_too.2 row.2)
  whole_once bytes Value p Length q row row_too = absurd (row_too.2 (row.1 ∙ same_total k bytes row.0 row_too.0))
  whole_once bytes Value p Value q row row_too =
      let inner = same_disagreement bytes row.0 row_too.0 row.3 row_too.3 row.2 row.4 row_too.4 in
      (refl, omega (arith, row.5, row_too.5, inner, same_place bytes row.0 row_too.0))
  whole_once bytes Magic p other q row row_too = absurd row
  whole_once bytes Cut p other q row row_too = absurd row
  whole_once bytes Length p _ q row row_too = absurd row_too
  whole_once bytes Version p _ q row row_too = absurd row_too
  whole_once bytes Value p _ q row row_too = absurd row_too

  -- the parts of bytes that only the whole refuses
  parted : (why : Why) (place : ℕ) (bytes : List ℕ) → IsWholeRefusedFor why place bytes → HasParts bytes
  parted Length place bytes row = row.0
  parted Version place bytes row = row.0
  parted Value place bytes row = row.0
  parted Extra place bytes row = stream_parts k bytes (take place bytes) (drop place bytes) row.1 (sym (take-append-drop place bytes)) row.2
  parted Magic place bytes row = absurd row
  parted Cut place bytes row = absurd row

  parts_or_whole : (bytes : List ℕ) (f g : Malformed) → ArePartsRefused parts 9 f (drop 9 bytes) → IsWholeRefused g bytes → ⊥
  parts_or_whole bytes f g refused row = let p = parted g.why g.place bytes row in whole_not_refused k parts (drop 9 bytes) p.after 9 f (parts_whole bytes p) refused

  pub refused_once : (bytes : List ℕ) (f g : Malformed) → IsStreamRefused f bytes → IsStreamRefused g bytes → f ≡ g
  refused_once bytes f g (inl p) (inl q) = head_once bytes f g p q
  refused_once bytes f g (inl p) (inr (inl (h, q))) = absurd (head_not_refused bytes f h p)
  refused_once bytes f g (inl p) (inr (inr q)) = absurd (head_not_refused bytes f (parted g.why g.place bytes q).head p)
  refused_once bytes f g (inr (inl (h, p))) (inl q) = absurd (head_not_refused bytes g h q)
  refused_once bytes f g (inr (inl (h, p))) (inr (inl (h_too, q))) = parts_once k parts 9 f g (drop 9 bytes) p q
  refused_once bytes f g (inr (inl (h, p))) (inr (inr q)) = absurd (parts_or_whole bytes f g p q)
  refused_once bytes f g (inr (inr p)) (inl q) = absurd (head_not_refused bytes g (parted f.why f.place bytes p).head q)
  refused_once bytes f g (inr (inr p)) (inr (inl (h, q))) = absurd (parts_or_whole bytes g f q p)
  refused_once bytes f g (inr (inr p)) (inr (inr q)) = let same = whole_once bytes f.why f.place g.why g.place p q in same_malformed f g same.0 same.1

  -- ---- cut

  short_head : (bytes : List ℕ) (n : ℕ) → HasHead bytes → n < 9 → IsOpen head (take n bytes)
  short_head bytes n h less end m exact =
      let same = (one_encoding head end (Ok tt) (take m (take n bytes)) (take 9 bytes) (drop m (take n bytes) ++ drop n bytes) (drop 9 bytes) exact (head_encodes bytes h)
      (sym (append_assoc (take m (take n bytes)) (drop m (take n bytes)) (drop n bytes)) ∙ ap (λ (t : List ℕ). t ++ drop n bytes) (take-append-drop m (take n bytes)) ∙ take-append-drop n bytes ∙ sym (take-append-drop 9 bytes))).1 in
      omega (arith, ap length same, length-take m (take n bytes), length-take n bytes, length-take 9 bytes, h.long, less)

  pub prefixes_cut : (bytes : List ℕ) (b : Snapshot) (n : ℕ) → IsStream bytes b → n < length bytes → IsStreamRefused (malformed Cut n) (take n bytes)
  prefixes_cut bytes b n s less =
      let is = sym (append-nil bytes) in
      let h = stream_head bytes bytes [] b is s in
      elim (cases_lt n 9) [
        | inl short ↦ inl (omega (arith, length-take n bytes, less), short_head bytes n h short)
        | inr le ↦
            let prefix : HasHead (take n bytes) = record { long = omega (arith, length-take n bytes, less, le); begins = take-take 5 n bytes (omega (arith, le)) ∙ h.begins } in
            let whole = parts_whole bytes (stream_parts k bytes bytes [] b is s) in
            let less_too : n - 9 < length (drop 9 bytes) = omega (arith, length-drop 9 bytes, less, le) in
            let cut = prefix_cut k parts (drop 9 bytes) 9 (n - 9) whole less_too in
            let rest : take (n - 9) (drop 9 bytes) ≡ drop 9 (take n bytes) = sym (drop-take 9 (n - 9) bytes) ∙ ap (λ (m : ℕ). drop 9 (take m bytes)) (let same : 9 + (n - 9) ≡ n = omega (arith, le) in same) in
            let place : 9 + (n - 9) ≡ n = omega (arith, le) in
            inr (inl (prefix, subst (λ (m : ℕ). ArePartsRefused parts 9 (malformed Cut m) (drop 9 (take n bytes))) place (subst (ArePartsRefused parts 9 (malformed Cut (9 + (n - 9)))) rest cut)))
      ]

  -- ---- whatever follows

  decoded_further : (bytes more : List ℕ) (end : Ending) → (n : ℕ) × Encodes head end (take n bytes) → (n : ℕ) × Encodes head end (take n (bytes ++ more))
  decoded_further bytes more end (n, exact) =
      let prefix : bytes ++ more ≡ take n bytes ++ (drop n bytes ++ more) = ap (λ (t : List ℕ). t ++ more) (sym (take-append-drop n bytes)) ∙ append_assoc (take n bytes) (drop n bytes) more in
      (length (take n bytes), subst (Encodes head end) (sym (ap (take (length (take n bytes))) prefix ∙ take_at (take n bytes) (drop n bytes ++ more) (length (take n bytes)) refl)) exact)

  head_stays : (why : Why) (place : ℕ) (bytes more : List ℕ) → why ≢ Cut → IsHeadRefusedFor why place bytes → IsHeadRefusedFor why place (bytes ++ more)
  head_stays Magic place bytes more whole row = decoded_further bytes more (Err (malformed Magic place)) row
  head_stays Version place bytes more whole row = decoded_further bytes more (Err (malformed Version place)) row
  head_stays Length place bytes more whole row = decoded_further bytes more (Err (malformed Length place)) row
  head_stays Value place bytes more whole row = decoded_further bytes more (Err (malformed Value place)) row
  head_stays Extra place bytes more whole row = decoded_further bytes more (Err (malformed Extra place)) row
  head_stays Cut place bytes more whole row = absurd (whole refl)

  has_head_further : (bytes more : List ℕ) → HasHead bytes → HasHead (bytes ++ more)
  has_head_further bytes more h = record {
    long = omega (arith, h.long, length-append bytes more);
    begins = take-append-le 5 bytes more (omega (arith, h.long)) ∙ h.begins;
  }

  abbrev parts_further : (bytes more : List ℕ) → HasParts bytes → HasParts (bytes ++ more)
  parts_further bytes more p = record {
    head = has_head_further bytes more p.head;
    device = p.device;
    permanent = p.permanent;
    volatile = p.volatile;
    saved = p.saved;
    after = p.after ++ more;
    behind = drop-append-le 9 bytes more p.head.long ∙ ap (λ (t : List ℕ). t ++ more) p.behind ∙ append_assoc (p.device ++ p.permanent ++ p.volatile ++ p.saved) p.after more;
    is_record = p.is_record;
    is_permanent = p.is_permanent;
    is_volatile = p.is_volatile;
    is_saved = p.is_saved;
  }

  same_field : (bytes more : List ℕ) → HasHead bytes → length_field (bytes ++ more) ≡ length_field bytes
  same_field bytes more h =
      let prefix : take 9 (bytes ++ more) ≡ take 9 bytes = take-append-le 9 bytes more h.long in
      let field : (list : List ℕ) → take 4 (drop 5 list) ≡ drop 5 (take 9 list) = λ list. sym (drop-take 5 4 list) in
      ap (λ (list : List ℕ). from_be_bytes w32 list) (field (bytes ++ more) ∙ ap (drop 5) prefix ∙ sym (field bytes))

  whole_stays : (why : Why) (place : ℕ) (bytes more : List ℕ) → why ≢ Extra → IsWholeRefusedFor why place bytes → IsWholeRefusedFor why place (bytes ++ more)
  whole_stays Length place bytes more not_extra row = (parts_further bytes more row.0, row.1, λ e. row.2 (sym (same_field bytes more row.0.head) ∙ e))
  whole_stays Version place bytes more not_extra row = (parts_further bytes more row.0, same_field bytes more row.0.head ∙ row.1, row.2)
  whole_stays Value place bytes more not_extra row = (parts_further bytes more row.0, same_field bytes more row.0.head ∙ row.1, row.2, row.3, row.4, row.5)
  whole_stays Extra place bytes more not_extra row = absurd (not_extra refl)
  whole_stays Magic place bytes more not_extra row = absurd row
  whole_stays Cut place bytes more not_extra row = absurd row

  pub refused_stays : (bytes more : List ℕ) (fault : Malformed) → IsStreamRefused fault bytes → fault.why ≢ Cut → fault.why ≢ Extra → IsStreamRefused fault (bytes ++ more)
  refused_stays bytes more fault (inl refused) not_cut not_extra = inl (head_stays fault.why fault.place bytes more not_cut refused)
  refused_stays bytes more fault (inr (inl (h, refused))) not_cut not_extra =
      inr (inl (has_head_further bytes more h, subst (ArePartsRefused parts 9 fault) (sym (drop-append-le 9 bytes more h.long)) (parts_stay k parts 9 fault (drop 9 bytes) more not_cut refused)))
  refused_stays bytes more fault (inr (inr row)) not_cut not_extra = inr (inr (whole_stays fault.why fault.place bytes more not_extra row))

-- what is written of fit values
pub is_stream : (b : Snapshot) → IsValidSnapshot b → IsStream (with_head (encode_parts b)) b
unfolding encode_stream
is_stream b fit = record { fit = fit; spelled = refl }
