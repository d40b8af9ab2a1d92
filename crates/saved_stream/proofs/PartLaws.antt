-- What the crates below prove of the parts of a stream, as one.
use Rattle.std.proofs.Common.{◌≡◌, ◌≢◌, ℕ, ◌<◌, ◌≤◌, List, [], ◌∷◌, ◌++◌, length, take, drop, Ok, Err, refl, sym, ap, subst, ◌∙◌, arith, inl, inr, append_assoc}
use Rattle.std.proofs.lemmas.List.{length-append, length-take, take_at, take-append-drop, take-append-le, take_all, append-nil}
use Rattle.std.proofs.lemmas.Bool.{cases_order}
use Rattle.vt_base.specs.Numbers.{IsBytes}
use Rattle.vt_base.specs.Layout.{Encodes}
use Rattle.vt_base.specs.Refusing.{malformed}
use Rattle.vt_base.specs.declared.types.Kind.{Kind}
use Rattle.vt_base.specs.declared.types.Kind.TheVariants.{Permanent, Volatile, Saved}
use Rattle.vt_base.specs.declared.types.Why.TheVariants.{Cut, Extra}
use Rattle.vt_base.specs.declared.types.Malformed.{Malformed}
use Rattle.crb_machine.specs.Values.{DeviceValues, AreValid}
use Rattle.device_record.specs.Records.{encode_record, IsRecord}
use Rattle.device_record.specs.Layouts as layouts
use Rattle.tpm_core.specs.declared.parts.TpmParts.{TpmParts}
use Rattle.tpm_core.specs.Steps.{IsValid}
use Rattle.state_blobs.specs.declared.types.BlobFault.{BlobFault}
use Rattle.state_blobs.specs.Encodings.{encode_blob, IsBlob}
use Rattle.state_blobs.specs.Blobs.{blob}
use Rattle.state_blobs.specs.Refusals.{IsRefused, IsCut}
use Rattle.state_blobs.specs.Assembly.{IsAssembled, IsFault}
use Rattle.saved_stream.specs.declared.part.Part.{Part}
use Rattle.saved_stream.specs.declared.part.Part.TheVariants.{Record, Blob}
use Rattle.saved_stream.specs.Parts.{IsWhole, IsPartRefused}
use Rattle.saved_stream.specs.Refusals.{moved, IsStopped}
use Rattle.saved_stream.proofs.Near.{RecordIsDecoded, record_few}
use Rattle.saved_stream.proofs.Ends.{RecordNotRefused, BlobIsDecoded, BlobNotRefused, blob_few}

-- ---- the laws of the crates below

pub record LawsOfParts : Type 0 where
  pub record_not_refused : RecordNotRefused
  pub record_decoded : RecordIsDecoded
  pub record_once : (f g : Malformed) (bytes : List ℕ) → layouts.IsRefused f bytes → layouts.IsRefused g bytes → f ≡ g
  pub record_prefixes : (v : DeviceValues) (n : ℕ) → AreValid v → n < length (encode_record v) → layouts.IsRefused (malformed Cut n) (take n (encode_record v))
  pub record_stays : (fault : Malformed) (bytes more : List ℕ) → layouts.IsRefused fault bytes → fault.why ≢ Cut → layouts.IsRefused fault (bytes ++ more)
  pub record_cut : (fault : Malformed) (bytes : List ℕ) → layouts.IsRefused fault bytes → fault.why ≡ Cut → layouts.AreCut fault bytes
  pub record_values : (v w : DeviceValues) → AreValid v → AreValid w → encode_record v ≡ encode_record w → v ≡ w
  pub blob_not_refused : BlobNotRefused
  pub blob_decoded : BlobIsDecoded
  pub blob_spelled : (kind : Kind) (bytes : List ℕ) → IsBytes bytes → Encodes (blob kind) (Ok tt) bytes → IsBlob kind bytes
  pub blob_once : (kind : Kind) (f g : Malformed) (bytes : List ℕ) → IsRefused kind f bytes → IsRefused kind g bytes → f ≡ g
  pub blob_prefixes : (kind : Kind) (bytes : List ℕ) (n : ℕ) → IsBlob kind bytes → n < length bytes → IsCut kind (take n bytes)
  pub blob_refused : (kind : Kind) (fault : Malformed) (bytes : List ℕ) → IsRefused kind fault bytes → fault.why ≢ Extra → (n : ℕ) × Encodes (blob kind) (Err fault) (take n bytes)
  pub blob_stays : (kind : Kind) (fault : Malformed) (prefix more : List ℕ) → Encodes (blob kind) (Err fault) prefix → IsRefused kind fault (prefix ++ more)
  pub tpm_once : (p v z : List ℕ) (a b : TpmParts) → IsAssembled p v z a → IsAssembled p v z b → a ≡ b
  pub tpm_made : (v : TpmParts) → IsValid v → IsAssembled (encode_blob Permanent v) (encode_blob Volatile v) (encode_blob Saved v) v
  pub tpm_or_fault : (p v z : List ℕ) (a : TpmParts) (f : BlobFault) → IsAssembled p v z a → IsFault p v z f → ⊥
  pub one_fault : (p v z : List ℕ) (f g : BlobFault) → IsFault p v z f → IsFault p v z g → f ≡ g

-- ---- what they come to for one part, whichever it is

pub record PartLaws (part : Part) : Type 0 where
  pub not_refused : (bytes : List ℕ) (fault : Malformed) → IsWhole part bytes → IsPartRefused part fault bytes → ⊥
  pub once : (bytes : List ℕ) (f g : Malformed) → IsPartRefused part f bytes → IsPartRefused part g bytes → f ≡ g
  pub prefix : (bytes : List ℕ) (n : ℕ) → IsWhole part bytes → n < length bytes → IsPartRefused part (malformed Cut n) (take n bytes)
  pub behind : (prefix after : List ℕ) → IsWhole part prefix → 0 < length after → IsPartRefused part (malformed Extra (length prefix)) (prefix ++ after)
  pub stays : (fault : Malformed) (bytes more : List ℕ) → IsPartRefused part fault bytes → fault.why ≢ Cut → fault.why ≢ Extra → IsPartRefused part fault (bytes ++ more)
  pub within_limit : (bytes : List ℕ) → IsWhole part bytes → length bytes ≤ 3991

module _ (k : LawsOfParts) where
  record_laws : PartLaws Record
  record_laws = record {
    not_refused = λ bytes fault whole refused. k.record_not_refused whole.0 fault whole.1.fit (subst (layouts.IsRefused fault) whole.1.spelled refused);
    once = λ bytes f g p q. k.record_once f g bytes p q;
    prefix = λ bytes n whole less.
        subst (λ (b : List ℕ). layouts.IsRefused (malformed Cut n) (take n b)) (sym whole.1.spelled) (k.record_prefixes whole.0 n whole.1.fit (subst (λ (b : List ℕ). n < length b) whole.1.spelled less));
    behind = λ prefix after whole some. inr (inr (record {
      values = whole.0;
      is_record = subst (λ (b : List ℕ). IsRecord b whole.0) (sym (take_at prefix after (length prefix) refl)) whole.1;
      behind = omega (arith, length-append prefix after, some);
      named = refl;
    }));
    stays = λ fault bytes more refused whole other. k.record_stays fault bytes more refused whole;
    within_limit = λ bytes whole. record_few k.record_decoded bytes whole.0 whole.1;
  }

  blob_apart : (kind : Kind) (bytes : List ℕ) (fault : Malformed) → IsBlob kind bytes → IsPartRefused (Blob kind) fault bytes → ⊥
  blob_apart kind bytes fault is (inl refused) = k.blob_not_refused kind fault bytes is refused
  blob_apart kind bytes fault is (inr (cut, named)) = cut.no_blob is

  blob_fault_once : (kind : Kind) (bytes : List ℕ) (f g : Malformed) → IsPartRefused (Blob kind) f bytes → IsPartRefused (Blob kind) g bytes → f ≡ g
  blob_fault_once kind bytes f g (inl p) (inl q) = k.blob_once kind f g bytes p q
  blob_fault_once kind bytes f g (inl p) (inr (cut, named)) = absurd (cut.not_refused f p)
  blob_fault_once kind bytes f g (inr (cut, named)) (inl q) = absurd (cut.not_refused g q)
  blob_fault_once kind bytes f g (inr (cut, named)) (inr (cut_too, named_too)) = named ∙ sym named_too

  blob_fault_stays : (kind : Kind) (fault : Malformed) (bytes more : List ℕ) → IsPartRefused (Blob kind) fault bytes → fault.why ≢ Cut → fault.why ≢ Extra → IsPartRefused (Blob kind) fault (bytes ++ more)
  blob_fault_stays kind fault bytes more (inl refused) whole other =
      let exact = k.blob_refused kind fault bytes refused other in
      let same : take exact.0 bytes ++ (drop exact.0 bytes ++ more) ≡ bytes ++ more =
      sym (append_assoc (take exact.0 bytes) (drop exact.0 bytes) more) ∙ ap (λ (b : List ℕ). b ++ more) (take-append-drop exact.0 bytes) in
      inl (subst (IsRefused kind fault) same (k.blob_stays kind fault (take exact.0 bytes) (drop exact.0 bytes ++ more) exact.1))
  blob_fault_stays kind fault bytes more (inr (cut, named)) whole other = absurd (whole (ap (λ (f : Malformed). f.why) named))

  blob_laws : (kind : Kind) → PartLaws (Blob kind)
  blob_laws kind = record {
    not_refused = λ bytes fault is refused. blob_apart kind bytes fault is refused;
    once = λ bytes f g p q. blob_fault_once kind bytes f g p q;
    prefix = λ bytes n is less. inr (k.blob_prefixes kind bytes n is less, ap (malformed Cut) (let size : n ≡ length (take n bytes) = omega (arith, length-take n bytes, less) in size));
    behind = λ prefix after is some. inl (omega (arith, length-append prefix after, some), subst (IsBlob kind) (sym (take_at prefix after (length prefix) refl)) is);
    stays = λ fault bytes more refused whole other. blob_fault_stays kind fault bytes more refused whole other;
    within_limit = λ bytes is. blob_few k.blob_decoded kind bytes is;
  }

  pub laws_of : (part : Part) → PartLaws part
  laws_of Record = record_laws
  laws_of (Blob kind) = blob_laws kind

-- ---- two parts at the start of the same bytes

prefix_of : (a x b y : List ℕ) → a ++ x ≡ b ++ y → length a ≤ length b → a ≡ take (length a) b
prefix_of a x b y same le = sym (take_at a x (length a) refl) ∙ ap (take (length a)) same ∙ take-append-le (length a) b y le

not_shorter : (part : Part) → PartLaws part → (a x b y : List ℕ) → IsWhole part a → IsWhole part b → a ++ x ≡ b ++ y → length a < length b → ⊥
not_shorter part laws a x b y whole other same less =
    let is = prefix_of a x b y same (omega (arith, less)) in
    laws.not_refused a (malformed Cut (length a)) whole (subst (IsPartRefused part (malformed Cut (length a))) (sym is) (laws.prefix b (length a) other less))

-- They are one.
pub same_prefix : (part : Part) → PartLaws part → (a x b y : List ℕ) → IsWhole part a → IsWhole part b → a ++ x ≡ b ++ y → a ≡ b
same_prefix part laws a x b y whole other same =
    elim (cases_order (length a) (length b)) [
      | inl e ↦ prefix_of a x b y same (omega (arith, e)) ∙ ap (λ (n : ℕ). take n b) e ∙ take_all (length b) b (omega arith)
      | inr (inl less) ↦ absurd (not_shorter part laws a x b y whole other same less)
      | inr (inr less) ↦ absurd (not_shorter part laws b y a x other whole (sym same) less)
    ]

-- A part that is whole isn't refused, whatever stands behind it.
pub not_stopped : (part : Part) → PartLaws part → (prefix after : List ℕ) (place : ℕ) (fault : Malformed) → IsWhole part prefix → IsStopped part place fault (prefix ++ after) → ⊥
not_stopped part laws prefix [] place fault whole stop = laws.not_refused prefix stop.inner whole (subst (IsPartRefused part stop.inner) (append-nil prefix) stop.refused)
not_stopped part laws prefix (x ∷ after) place fault whole stop =
    let same = laws.once (prefix ++ x ∷ after) stop.inner (malformed Extra (length prefix)) stop.refused (laws.behind prefix (x ∷ after) whole (omega arith)) in
    stop.not_behind (ap (λ (f : Malformed). f.why) same)

-- It is refused in one way.
pub stopped_once : (part : Part) → PartLaws part → (place : ℕ) (f g : Malformed) (bytes : List ℕ) → IsStopped part place f bytes → IsStopped part place g bytes → f ≡ g
stopped_once part laws place f g bytes p q = p.named ∙ ap (moved place) (laws.once bytes p.inner q.inner p.refused q.refused) ∙ sym q.named
