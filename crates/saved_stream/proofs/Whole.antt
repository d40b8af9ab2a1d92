-- What four parts behind a head make: a stream, or a refusal that only the whole shows.
use Rattle.std.proofs.Common.{◌≡◌, ◌≢◌, ℕ, ◌+◌, ◌-◌, ◌<◌, ◌≤◌, List, [], ◌∷◌, ◌++◌, length, take, drop, refl, sym, ap, subst, ◌∙◌, arith, inl, inr, true, append_assoc}
use Rattle.std.proofs.Math.Seq.{take-add}
use Rattle.std.proofs.lemmas.List.{length-append, length-drop, take_at, take_all}
use Rattle.vt_base.specs.Numbers.{IsBytes, number}
use Rattle.vt_base.specs.Refusing.{malformed}
use Rattle.vt_base.proofs.Numbers.{IsBytes-drop, number-from}
use Rattle.vt_base.specs.declared.types.Kind.{Kind}
use Rattle.vt_base.specs.declared.types.Kind.TheVariants.{Permanent, Volatile, Saved}
use Rattle.vt_base.specs.declared.types.Why.{Why}
use Rattle.vt_base.specs.declared.types.Why.TheVariants.{Version, Length, Value, Cut, Extra}
use Rattle.crb_machine.specs.Values.{DeviceValues}
use Rattle.device_record.specs.Records.{IsRecord}
use Rattle.tpm_core.specs.declared.parts.TpmParts.{TpmParts}
use Rattle.state_blobs.specs.declared.types.BlobFault.{BlobFault}
use Rattle.state_blobs.specs.Gathering.{Gathering}
use Rattle.state_blobs.specs.Encodings.{encode_blob, IsBlob}
use Rattle.state_blobs.specs.Refusals.{length_field}
use Rattle.state_blobs.specs.Assembly.{EncodesVolatile, EncodesSaved, IsAssembled, IsNoneOrOfVersion, version_in, IsFaultFor, IsFault}
use Rattle.crb_history.specs.Snapshot.{Snapshot}
use Rattle.saved_stream.specs.Numbers.{format_version}
use Rattle.saved_stream.specs.declared.reading.Places.{Places}
use Rattle.saved_stream.specs.Streams.{magic, with_head, encode_parts, encode_stream, IsStream}
use Rattle.saved_stream.specs.Refusals.{moved, HasHead, HasParts, total, place_of_volatile, place_of_saved, IsWholeRefusedFor, IsStreamRefused}
use Rattle.saved_stream.specs.Places.{between, begin_of, AreAt}
use Rattle.saved_stream.proofs.Passed.{split_at, length-between}

-- ---- the parts

pub have_parts : (bytes : List ℕ) (at : Places) → HasHead bytes → AreAt bytes at → HasParts bytes
have_parts bytes at h a = record {
  head = h;
  device = between bytes 9 at.permanent;
  permanent = between bytes at.permanent at.volatile;
  volatile = between bytes at.volatile at.saved;
  saved = between bytes at.saved at.end;
  after = drop at.end bytes;
  behind = simp append_assoc (
      split_at bytes 9 at.permanent a.device.order
      ∙ ap (λ (r : List ℕ). between bytes 9 at.permanent ++ r) (split_at bytes at.permanent at.volatile a.permanent.order
      ∙ ap (λ (r : List ℕ). between bytes at.permanent at.volatile ++ r) (split_at bytes at.volatile at.saved a.volatile.order
      ∙ ap (λ (r : List ℕ). between bytes at.volatile at.saved ++ r) (split_at bytes at.saved at.end a.saved.order))));
  is_record = a.device.whole;
  is_permanent = a.permanent.whole;
  is_volatile = a.volatile.whole;
  is_saved = a.saved.whole;
}

pub places_fit : (bytes : List ℕ) (at : Places) (h : HasHead bytes) (a : AreAt bytes at) → (total (have_parts bytes at h a) ≡ at.end - 9) × (place_of_volatile (have_parts bytes at h a) ≡ at.volatile) × (place_of_saved (have_parts bytes at h a) ≡ at.saved)
unfolding have_parts
places_fit bytes at h a =
    let d = between bytes 9 at.permanent in
    let p = between bytes at.permanent at.volatile in
    let v = between bytes at.volatile at.saved in
    let z = between bytes at.saved at.end in
    let dn = length-between bytes 9 at.permanent a.device.order a.device.within in
    let pn = length-between bytes at.permanent at.volatile a.permanent.order a.permanent.within in
    let vn = length-between bytes at.volatile at.saved a.volatile.order a.volatile.within in
    let zn = length-between bytes at.saved at.end a.saved.order a.saved.within in (
      omega (arith, length-append (d ++ p ++ v) z, length-append (d ++ p) v, length-append d p, dn, pn, vn, zn, a.device.order, a.permanent.order, a.volatile.order, a.saved.order),
      omega (arith, length-append d p, dn, pn, a.device.order, a.permanent.order),
      omega (arith, length-append (d ++ p) v, length-append d p, dn, pn, vn, a.device.order, a.permanent.order, a.volatile.order),
    )

-- ---- a stream

no_empty_blob : (kind : Kind) (bytes : List ℕ) → bytes ≡ [] → IsBlob kind bytes → ⊥
unfolding encode_blob
no_empty_blob kind bytes none is = let never : [] ≡ encode_blob kind is.values = sym none ∙ is.spelled in absurd cc

volatile_decoded : (bytes : List ℕ) (tpm : TpmParts) → IsBlob Volatile bytes → EncodesVolatile bytes tpm → bytes ≡ encode_blob Volatile tpm
volatile_decoded bytes tpm is (inl exact) = exact
volatile_decoded bytes tpm is (inr (none, off)) = absurd (no_empty_blob Volatile bytes none is)

saved_decoded : (bytes : List ℕ) (tpm : TpmParts) → IsBlob Saved bytes → EncodesSaved bytes tpm → bytes ≡ encode_blob Saved tpm
saved_decoded bytes tpm is (inl exact) = exact
saved_decoded bytes tpm is (inr (none, gone)) = absurd (no_empty_blob Saved bytes none is)

abbrev pub base : TpmParts → DeviceValues → Snapshot
base tpm v = record { tpm = tpm; device = v }

-- the parts are those of these values
parts_decoded : (bytes : List ℕ) (at : Places) (v : DeviceValues) (tpm : TpmParts) → AreAt bytes at → IsRecord (between bytes 9 at.permanent) v
    → IsAssembled (between bytes at.permanent at.volatile) (between bytes at.volatile at.saved) (between bytes at.saved at.end) tpm
    → between bytes 9 at.permanent ++ between bytes at.permanent at.volatile ++ between bytes at.volatile at.saved ++ between bytes at.saved at.end ≡ encode_parts (base tpm v)
parts_decoded bytes at v tpm a is made =
    let volatile = volatile_decoded (between bytes at.volatile at.saved) tpm a.volatile.whole made.is_volatile in
    let saved = saved_decoded (between bytes at.saved at.end) tpm a.saved.whole made.is_saved in
    rw (is.spelled, made.is_permanent, volatile, saved) refl

abbrev begin : List ℕ
begin = magic ++ format_version ∷ []

-- What stands up to the end of the parts is a stream, if the length is theirs.
pub stream_prefix : (bytes : List ℕ) (at : Places) (v : DeviceValues) (tpm : TpmParts) → IsBytes bytes → HasHead bytes → AreAt bytes at → length_field bytes ≡ at.end - 9 → IsRecord (between bytes 9 at.permanent) v
    → IsAssembled (between bytes at.permanent at.volatile) (between bytes at.volatile at.saved) (between bytes at.saved at.end) tpm → IsStream (take at.end bytes) (base tpm v)
unfolding encode_stream have_parts
stream_prefix bytes at v tpm fits h a same is made =
    let p = have_parts bytes at h a in
    let parts : List ℕ = p.device ++ p.permanent ++ p.volatile ++ p.saved in
    let count : length parts ≡ at.end - 9 = (places_fit bytes at h a).0 in
    let exact : parts ≡ encode_parts (base tpm v) = parts_decoded bytes at v tpm a is made in
    let end : at.end ≡ 9 + length parts = omega (arith, count, a.device.order, a.permanent.order, a.volatile.order, a.saved.order) in
    let field : take 4 (drop 5 bytes) ≡ number (length parts) =
    sym (number-from (drop 5 bytes) (IsBytes-drop 5 bytes fits) (omega (arith, length-drop 5 bytes, h.long))) ∙ ap number (same ∙ sym count) in
    let prefix : take 9 bytes ≡ begin ++ number (length parts) = take-add 5 4 bytes ∙ ap (λ (f : List ℕ). f ++ take 4 (drop 5 bytes)) h.begins ∙ ap (λ (f : List ℕ). begin ++ f) field in
    let body : take (length parts) (drop 9 bytes) ≡ parts = ap (take (length parts)) p.behind ∙ take_at parts p.after (length parts) refl in
    let all : take at.end bytes ≡ with_head parts =
    ap (λ (n : ℕ). take n bytes) end ∙ take-add 9 (length parts) bytes ∙ ap (λ (f : List ℕ). f ++ take (length parts) (drop 9 bytes)) prefix ∙ ap (λ (r : List ℕ). (begin ++ number (length parts)) ++ r) body in
    record { fit = record { device = is.fit; tpm = made.fit }; spelled = all ∙ ap with_head exact }

pub whole_stream : (bytes : List ℕ) (at : Places) (v : DeviceValues) (tpm : TpmParts) → IsBytes bytes → HasHead bytes → AreAt bytes at → length_field bytes ≡ at.end - 9 → IsRecord (between bytes 9 at.permanent) v
    → IsAssembled (between bytes at.permanent at.volatile) (between bytes at.volatile at.saved) (between bytes at.saved at.end) tpm → length bytes ≤ at.end → IsStream bytes (base tpm v)
whole_stream bytes at v tpm fits h a same is made le =
    subst (λ (b : List ℕ). IsStream b (base tpm v)) (take_all at.end bytes le) (stream_prefix bytes at v tpm fits h a same is made)

-- ---- refusals

pub refused_length : (bytes : List ℕ) (at : Places) → HasHead bytes → AreAt bytes at → length_field bytes ≢ at.end - 9 → IsStreamRefused (malformed Length 5) bytes
refused_length bytes at h a differs = inr (inr (have_parts bytes at h a, refl, λ e. differs (e ∙ (places_fit bytes at h a).0)))

pub refused_extra : (bytes : List ℕ) (at : Places) (v : DeviceValues) (tpm : TpmParts) → IsBytes bytes → HasHead bytes → AreAt bytes at → length_field bytes ≡ at.end - 9 → IsRecord (between bytes 9 at.permanent) v
    → IsAssembled (between bytes at.permanent at.volatile) (between bytes at.volatile at.saved) (between bytes at.saved at.end) tpm → at.end < length bytes → IsStreamRefused (malformed Extra at.end) bytes
refused_extra bytes at v tpm fits h a same is made less = inr (inr (less, base tpm v, stream_prefix bytes at v tpm fits h a same is made))

-- a blob is of a version where it isn't left out
of_version : (kind : Kind) (version : ℕ) (bytes : List ℕ) → IsBlob kind bytes → IsNoneOrOfVersion kind version bytes → version_in bytes ≡ version
of_version kind version bytes is (inl none) = absurd (no_empty_blob kind bytes none is)
of_version kind version bytes is (inr of) = of.1

-- three whole blobs are at fault only for their versions, or where they disagree
pub refused_by : (kind : Kind) (why : Why) (place : ℕ) (bytes : List ℕ) (at : Places) → HasHead bytes → AreAt bytes at → length_field bytes ≡ at.end - 9
    → IsFaultFor kind why place (between bytes at.permanent at.volatile) (between bytes at.volatile at.saved) (between bytes at.saved at.end) → IsWholeRefusedFor why (begin_of kind at + place) bytes
unfolding have_parts
refused_by Permanent Cut place bytes at h a same fault = absurd (fault.1 a.permanent.whole)
refused_by Volatile Cut place bytes at h a same fault = absurd (fault.2.1 a.volatile.whole)
refused_by Saved Cut place bytes at h a same fault = absurd (fault.3.1 a.saved.whole)
refused_by Volatile Version place bytes at h a same fault =
    let fit = places_fit bytes at h a in
    (have_parts bytes at h a, same ∙ sym fit.0, inl (omega (arith, fit.1, fault.0), fault.2.1))
refused_by Saved Version place bytes at h a same fault =
    let fit = places_fit bytes at h a in
    let version = version_in (between bytes at.permanent at.volatile) in
    (have_parts bytes at h a, same ∙ sym fit.0, inr (omega (arith, fit.2, fault.0), of_version Volatile version (between bytes at.volatile at.saved) a.volatile.whole fault.2, fault.3.1))
refused_by Saved Value place bytes at h a same fault =
    let fit = places_fit bytes at h a in
    (have_parts bytes at h a, same ∙ sym fit.0, (fault.1.1, fault.2.1), place, fault.3, ap (λ (n : ℕ). n + place) (sym fit.2))
refused_by _ _ place bytes at h a same fault = absurd fault

pub refused_blame : (bytes : List ℕ) (at : Places) → HasHead bytes → AreAt bytes at → length_field bytes ≡ at.end - 9 → (blame : BlobFault)
    → IsFault (between bytes at.permanent at.volatile) (between bytes at.volatile at.saved) (between bytes at.saved at.end) blame → IsStreamRefused (moved (begin_of blame.kind at) blame.fault) bytes
refused_blame bytes at h a same blame fault = inr (inr (refused_by blame.kind blame.fault.why blame.fault.place bytes at h a same fault))

-- ---- by what gathers have

-- a gather with these bytes
abbrev pub gathered : Kind → List ℕ → Gathering
gathered kind bytes = record { kind = kind; begun = bytes; whole = true }

begun_of : (g : Gathering) (kind : Kind) (bytes : List ℕ) → g ≡ gathered kind bytes → g.begun ≡ bytes
begun_of g kind bytes is = ap (λ (x : Gathering). x.begun) is

pub fault_of : (p v z : Gathering) (a b c : List ℕ) (blame : BlobFault) → p ≡ gathered Permanent a → v ≡ gathered Volatile b → z ≡ gathered Saved c → IsFault p.begun v.begun z.begun blame → IsFault a b c blame
fault_of p v z a b c blame is is_too is_last fault =
    subst (λ (t : List ℕ). IsFault a b t blame) (begun_of z Saved c is_last) (subst (λ (t : List ℕ). IsFault a t z.begun blame) (begun_of v Volatile b is_too)
    (subst (λ (t : List ℕ). IsFault t v.begun z.begun blame) (begun_of p Permanent a is) fault))

pub made_of : (p v z : Gathering) (a b c : List ℕ) (tpm : TpmParts) → p ≡ gathered Permanent a → v ≡ gathered Volatile b → z ≡ gathered Saved c → IsAssembled p.begun v.begun z.begun tpm → IsAssembled a b c tpm
made_of p v z a b c tpm is is_too is_last made =
    subst (λ (t : List ℕ). IsAssembled a b t tpm) (begun_of z Saved c is_last) (subst (λ (t : List ℕ). IsAssembled a t z.begun tpm) (begun_of v Volatile b is_too)
    (subst (λ (t : List ℕ). IsAssembled t v.begun z.begun tpm) (begun_of p Permanent a is) made))
