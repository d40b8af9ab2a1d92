-- Blobs, refusals and cuts are distinguished, and so are a TPM and a fault.
use Rattle.std.proofs.Common.{◌≡◌, ◌≢◌, ℕ, ◌<◌, List, [], ◌++◌, length, take, drop, get_or, Option, Some, None, Ok, Err, refl, sym, ap, subst, ◌∙◌, arith, inl, inr, append_assoc}
use Rattle.std.specs.Prelude.{IsSome, IfSome}
use Rattle.std.proofs.lemmas.Bool.{cases_order}
use Rattle.std.proofs.lemmas.List.{length-take, take-append-drop, append-nil, get_or-take}
use Rattle.vt_base.specs.Layout.{Encodes, IsOpen}
use Rattle.vt_base.proofs.Layouts.{one_encoding}
use Rattle.vt_base.specs.declared.types.Kind.{Kind}
use Rattle.vt_base.specs.declared.types.Kind.TheVariants.{Permanent, Volatile, Saved}
use Rattle.vt_base.specs.declared.types.Why.{Why}
use Rattle.vt_base.specs.declared.types.Why.TheVariants.{Version, Value, Cut, Extra}
use Rattle.vt_base.specs.declared.types.Malformed.{Malformed}
use Rattle.tpm_core.specs.declared.algorithm.Algorithm.{Algorithm}
use Rattle.tpm_core.specs.declared.algorithm.Algorithm.TheVariants.{Sha256, Sha384}
use Rattle.tpm_core.specs.declared.algorithm.Banks.{Banks}
use Rattle.tpm_core.specs.declared.parts.SavedParts.{SavedParts}
use Rattle.tpm_core.specs.declared.parts.TpmParts.{TpmParts}
use Rattle.tpm_core.specs.Banks.{bank_of, kept_bank_of}
use Rattle.tpm_core.specs.Answers.{kept}
use Rattle.tpm_core.specs.Steps.{IsValid}
use Rattle.state_blobs.specs.declared.types.BlobFault.{BlobFault}
use Rattle.state_blobs.specs.Encodings.{saved_body, with_header, encode_blob, IsBlob}
use Rattle.state_blobs.specs.Blobs.{Ending, blob}
use Rattle.state_blobs.specs.Refusals.{FirstDiffersAt, IsRefused, IsCut}
use Rattle.state_blobs.specs.Assembly.{EncodesVolatile, EncodesSaved, IsAssembled, IsNoneOrBlob, IsUnfinished, IsNoneOrOfVersion, IsOfOtherVersion, Disagrees, IsFaultFor, IsFault, version_in}
use Rattle.state_blobs.proofs.Bodies.{blob_is_decoded}
use Rattle.state_blobs.proofs.Refused.{same_fault, whole_or_refused, refused_is_decoded}
use Rattle.state_blobs.proofs.Decoding.{open_is_cut}
use Rattle.state_blobs.proofs.Widths.{by_algorithm}
use Rattle.state_blobs.proofs.Fields.{version_encoded, not_empty, length-text, same_state}
use Rattle.state_blobs.proofs.Joined.{some_blob}
use Rattle.state_blobs.proofs.Once.{banks_alike, running_once, saved_once}

pub text_is_blob : (kind : Kind) (v : TpmParts) → IsValid v → IsBlob kind (encode_blob kind v)
text_is_blob kind v fit = record { values = v; fit = fit; spelled = refl }

-- two prefixes of the same bytes that are decoded end alike, and are one
two_prefixes : (kind : Kind) (bytes : List ℕ) (d e : Ending) (m n : ℕ) → Encodes (blob kind) d (take m bytes) → Encodes (blob kind) e (take n bytes) → (d ≡ e) × (take m bytes ≡ take n bytes)
two_prefixes kind bytes d e m n p q = one_encoding (blob kind) d e (take m bytes) (take n bytes) (drop m bytes) (drop n bytes) p q (take-append-drop m bytes ∙ sym (take-append-drop n bytes))

-- a prefix that is decoded and a blob that begins with it are one
prefix_of_blob : (kind : Kind) (bytes prefix back : List ℕ) (d : Ending) → IsBlob kind bytes → Encodes (blob kind) d prefix → prefix ++ back ≡ bytes → (d ≡ Ok tt) × (prefix ≡ bytes)
prefix_of_blob kind bytes prefix back d is spelled same = one_encoding (blob kind) d (Ok tt) prefix bytes back [] spelled (blob_is_decoded kind bytes is) (same ∙ sym (append-nil bytes))

same_malformed : (f g : Malformed) → f.why ≡ g.why → f.place ≡ g.place → f ≡ g
same_malformed f g p q = ap (λ (x : Why). record f { why = x }) p ∙ ap (λ (x : ℕ). record g { place = x }) q

-- A blob isn't refused.
pub blob_not_refused : (kind : Kind) (fault : Malformed) (bytes : List ℕ) → IsBlob kind bytes → IsRefused kind fault bytes → ⊥
blob_not_refused kind fault bytes is refused =
    elim (refused_is_decoded kind fault.why fault.place bytes refused) [
      | inl (n, exact) ↦ whole_or_refused fault (sym (prefix_of_blob kind bytes (take n bytes) (drop n bytes) (Err fault) is exact (take-append-drop n bytes)).0)
      | inr (less, prefix, extra) ↦
          let same = (prefix_of_blob kind bytes (take fault.place bytes) (drop fault.place bytes) (Ok tt) is (blob_is_decoded kind (take fault.place bytes) prefix) (take-append-drop fault.place bytes)).1 in
          absurd (omega (arith, ap length same, length-take fault.place bytes, less))
    ]

-- Bytes are refused in one way.
pub refused_once : (kind : Kind) (f g : Malformed) (bytes : List ℕ) → IsRefused kind f bytes → IsRefused kind g bytes → f ≡ g
refused_once kind f g bytes p q =
    elim (refused_is_decoded kind f.why f.place bytes p) [
      | inl (m, exact) ↦
          elim (refused_is_decoded kind g.why g.place bytes q) [
            | inl (n, decoded_too) ↦ same_fault f g (sym (two_prefixes kind bytes (Err f) (Err g) m n exact decoded_too).0)
            | inr (less, prefix, extra) ↦ absurd (whole_or_refused f (sym (two_prefixes kind bytes (Err f) (Ok tt) m g.place exact (blob_is_decoded kind (take g.place bytes) prefix)).0))
          ]
      | inr (less, prefix, extra) ↦
          elim (refused_is_decoded kind g.why g.place bytes q) [
            | inl (n, exact) ↦ absurd (whole_or_refused g (sym (two_prefixes kind bytes (Err g) (Ok tt) n f.place exact (blob_is_decoded kind (take f.place bytes) prefix)).0))
            | inr (less_too, prefix_too, extra_too) ↦
                let same = (two_prefixes kind bytes (Ok tt) (Ok tt) f.place g.place (blob_is_decoded kind (take f.place bytes) prefix) (blob_is_decoded kind (take g.place bytes) prefix_too)).1 in
                same_malformed f g (extra ∙ sym extra_too) (omega (arith, ap length same, length-take f.place bytes, length-take g.place bytes, less, less_too))
          ]
    ]

-- A prefix of a blob that isn't all of it is cut.
pub prefix_is_cut : (kind : Kind) (bytes : List ℕ) (n : ℕ) → IsBlob kind bytes → n < length bytes → IsCut kind (take n bytes)
prefix_is_cut kind bytes n is less = open_is_cut kind (take n bytes) none
  where
    none : IsOpen (blob kind) (take n bytes)
    none end m spelled =
        let whole : take m (take n bytes) ++ (drop m (take n bytes) ++ drop n bytes) ≡ bytes =
        sym (append_assoc (take m (take n bytes)) (drop m (take n bytes)) (drop n bytes)) ∙ ap (λ (prefix : List ℕ). prefix ++ drop n bytes) (take-append-drop m (take n bytes)) ∙ take-append-drop n bytes in
        let same = (prefix_of_blob kind bytes (take m (take n bytes)) (drop m (take n bytes) ++ drop n bytes) end is spelled whole).1 in
        omega (arith, ap length same, length-take m (take n bytes), length-take n bytes, less)

-- What the table refuses for bytes that are there, the layout refuses.
pub refused_is_decoded_if : (kind : Kind) (fault : Malformed) (bytes : List ℕ) → IsRefused kind fault bytes → fault.why ≢ Extra → (n : ℕ) × Encodes (blob kind) (Err fault) (take n bytes)
refused_is_decoded_if kind fault bytes refused other =
    elim (refused_is_decoded kind fault.why fault.place bytes refused) [
      | inl exact ↦ exact
      | inr (less, prefix, extra) ↦ absurd (other extra)
    ]

-- ---- a TPM and a fault

-- the blob that a saved state would have
kept_alike : (v w : TpmParts) → v.counter ≡ w.counter → ((a : Algorithm) → bank_of a v ≡ bank_of a w) → kept v ≡ kept w
kept_alike v w counter banks = same_state (kept v) (kept w) counter (by_algorithm (λ a. kept_bank_of a (kept v) ≡ kept_bank_of a (kept w)) (ap (take 16) (banks Sha256)) (ap (take 16) (banks Sha384)))

agreeing_same : (v w : TpmParts) → v.banks ≡ w.banks → v.counter ≡ w.counter → ((a : Algorithm) → bank_of a v ≡ bank_of a w) → encode_blob Saved (record v { saved = Some (kept v) }) ≡ encode_blob Saved (record w { saved = Some (kept w) })
unfolding encode_blob
agreeing_same v w same counter banks =
    ap (λ (b : Banks). with_header Saved b (saved_body b (Some (kept v)))) same
    ∙ ap (λ (state : SavedParts). with_header Saved w.banks (saved_body w.banks (Some state))) (kept_alike v w counter banks)

saved_text : (v : TpmParts) (saved : Option SavedParts) → v.saved ≡ saved → encode_blob Saved v ≡ with_header Saved v.banks (saved_body v.banks saved)
unfolding encode_blob
saved_text v saved is = ap (λ (s : Option SavedParts). with_header Saved v.banks (saved_body v.banks s)) is

kept_text : (v : TpmParts) (saved : Option SavedParts) → v.saved ≡ saved → IsSome saved → IfSome saved (λ state. state ≡ kept v) → encode_blob Saved v ≡ encode_blob Saved (record v { saved = Some (kept v) })
unfolding encode_blob
kept_text v None is there agrees = absurd cc
kept_text v (Some state) is there agrees = saved_text v (Some state) is ∙ ap (λ (s : SavedParts). with_header Saved v.banks (saved_body v.banks (Some s))) agrees

differs_not : (place : ℕ) (bytes wanted : List ℕ) → bytes ≡ wanted → FirstDiffersAt place bytes wanted → ⊥
differs_not place bytes wanted same first = first.differs (ap (λ (b : List ℕ). get_or b place 0) same)

decoded_there : (v : TpmParts) (bytes : List ℕ) → EncodesSaved bytes v → IsSome v.saved → bytes ≡ encode_blob Saved v
decoded_there v bytes (inl is) there = is
decoded_there v bytes (inr (none, gone)) there = let never : IsSome {T = SavedParts} None = subst (λ (s : Option SavedParts). IsSome s) gone there in absurd cc

-- a started TPM's blob that both tell is there, so their banks are its
banks_of_running : (v w : TpmParts) (bytes : List ℕ) → EncodesVolatile bytes v → bytes ≡ encode_blob Volatile w → v.banks ≡ w.banks
banks_of_running v w bytes (inl is) is_too = banks_alike Volatile v w bytes is is_too
banks_of_running v w bytes (inr (none, off)) is_too = absurd (not_short w (sym is_too ∙ none))
  where
    not_short : (w : TpmParts) → encode_blob Volatile w ≡ [] → ⊥
    not_short w none = omega (arith, ap length none, length-text Volatile w)

no_disagreement : (place : ℕ) (permanent volatile saved : List ℕ) (t : TpmParts) → IsAssembled permanent volatile saved t → Disagrees place volatile saved → ⊥
no_disagreement place permanent volatile saved t a d =
    let running = running_once t d.running volatile a.fit d.is_fit a.is_volatile (inl d.is_volatile) in
    let state = saved_once t d.saving saved a.fit d.is_fit_too a.is_saved (inl d.is_saved) in
    let there : IsSome t.saved = subst (λ (s : Option SavedParts). IsSome s) (sym state) d.is_there in
    let agrees = a.fit.kept_agrees (running.started ∙ d.is_started) in
    let same : saved ≡ encode_blob Saved (record d.running { saved = Some (kept d.running) }) =
    decoded_there t saved a.is_saved there ∙ kept_text t t.saved refl there agrees
    ∙ agreeing_same t d.running (banks_of_running t d.running volatile a.is_volatile d.is_volatile) running.counter running.registers in
    differs_not place saved (encode_blob Saved (record d.running { saved = Some (kept d.running) })) same d.first

-- Three blobs that make a TPM have no fault.
not_both_at : (kind : Kind) (why : Why) (place : ℕ) (permanent volatile saved : List ℕ) (t : TpmParts) → IsAssembled permanent volatile saved t → IsFaultFor kind why place permanent volatile saved → ⊥
not_both_at Permanent Cut place permanent volatile saved t a row = row.1 (record { values = t; fit = a.fit; spelled = a.is_permanent })
not_both_at Volatile Cut place permanent volatile saved t a row =
    elim a.is_volatile [
      | inl is ↦ row.2.1 (record { values = t; fit = a.fit; spelled = is })
      | inr (none, off) ↦ row.2.0 none
    ]
not_both_at Saved Cut place permanent volatile saved t a row =
    elim a.is_saved [
      | inl is ↦ row.3.1 (record { values = t; fit = a.fit; spelled = is })
      | inr (none, gone) ↦ row.3.0 none
    ]
not_both_at Volatile Version place permanent volatile saved t a row =
    elim a.is_volatile [
      | inl is ↦ row.2.1 (version_encoded Volatile t volatile is ∙ sym (version_encoded Permanent t permanent a.is_permanent))
      | inr (none, off) ↦ not_empty Volatile volatile none row.2.0
    ]
not_both_at Saved Version place permanent volatile saved t a row =
    elim a.is_saved [
      | inl is ↦ row.3.1 (version_encoded Saved t saved is ∙ sym (version_encoded Permanent t permanent a.is_permanent))
      | inr (none, gone) ↦ not_empty Saved saved none row.3.0
    ]
not_both_at Saved Value place permanent volatile saved t a row = no_disagreement place permanent volatile saved t a row.3
not_both_at _ _ place permanent volatile saved t a row = absurd row

pub not_both : (permanent volatile saved : List ℕ) (t : TpmParts) (f : BlobFault) → IsAssembled permanent volatile saved t → IsFault permanent volatile saved f → ⊥
not_both permanent volatile saved t f a fault = not_both_at f.kind f.fault.why f.fault.place permanent volatile saved t a fault

-- ---- one fault

not_later : (p q : ℕ) (bytes wanted : List ℕ) → FirstDiffersAt p bytes wanted → FirstDiffersAt q bytes wanted → p < q → ⊥
not_later p q bytes wanted a b lt = a.differs (sym (get_or-take q bytes p 0 lt) ∙ ap (λ (prefix : List ℕ). get_or prefix p 0) b.same ∙ get_or-take q wanted p 0 lt)

first_once : (p q : ℕ) (bytes wanted : List ℕ) → FirstDiffersAt p bytes wanted → FirstDiffersAt q bytes wanted → p ≡ q
first_once p q bytes wanted a b =
    elim (cases_order p q) [
      | inl e ↦ e
      | inr (inl lt) ↦ absurd (not_later p q bytes wanted a b lt)
      | inr (inr lt) ↦ absurd (not_later q p bytes wanted b a lt)
    ]

one_place : (p q : ℕ) (volatile saved : List ℕ) → Disagrees p volatile saved → Disagrees q volatile saved → p ≡ q
one_place p q volatile saved a b =
    let same = running_once a.running b.running volatile a.is_fit b.is_fit (inl a.is_volatile) (inl b.is_volatile) in
    first_once p q saved (encode_blob Saved (record b.running { saved = Some (kept b.running) }))
    (subst (FirstDiffersAt p saved) (agreeing_same a.running b.running (banks_alike Volatile a.running b.running volatile a.is_volatile b.is_volatile) same.counter same.registers) a.first) b.first

-- the same fault, by its parts
abbrev IsSame : Kind → Why → ℕ → Kind → Why → ℕ → Type 0
IsSame kind why place kind_too why_too place_too = (kind ≡ kind_too) × (why ≡ why_too) × (place ≡ place_too)

module _ (permanent volatile saved : List ℕ) where
  unfinished : (kind : Kind) (bytes : List ℕ) → IsUnfinished kind bytes → IsNoneOrBlob kind bytes → ⊥
  unfinished kind bytes u (inl none) = u.0 none
  unfinished kind bytes u (inr is) = u.1 is

  -- a blob of another version isn't one of this version, nor left out
  other_version : (kind : Kind) (version : ℕ) (bytes : List ℕ) → IsOfOtherVersion kind version bytes → IsNoneOrOfVersion kind version bytes → ⊥
  other_version kind version bytes other (inl none) = not_empty kind bytes none other.0
  other_version kind version bytes other (inr is) = other.1 is.1

  -- the rows that come after those of blobs that end too soon: each of the three is a blob, or left out
  record AreWhole : Type 0 where
    is_permanent : IsBlob Permanent permanent
    is_volatile : IsNoneOrBlob Volatile volatile
    is_saved : IsNoneOrBlob Saved saved

  volatile_version : (p : ℕ) → IsFaultFor Volatile Version p permanent volatile saved → AreWhole
  volatile_version p row = record { is_permanent = row.1; is_volatile = inr row.2.0; is_saved = row.3 }

  saved_version : (p : ℕ) → IsFaultFor Saved Version p permanent volatile saved → AreWhole
  saved_version p row = record { is_permanent = row.1; is_volatile = some_blob Volatile (version_in permanent) volatile row.2; is_saved = inr row.3.0 }

  saved_value : (p : ℕ) → IsFaultFor Saved Value p permanent volatile saved → AreWhole
  saved_value p row = record { is_permanent = row.0; is_volatile = inr row.1.0; is_saved = inr row.2.0 }

  permanent_alone : (p : ℕ) → IsFaultFor Permanent Cut p permanent volatile saved → (kind : Kind) (why : Why) (q : ℕ) → IsFaultFor kind why q permanent volatile saved → IsSame Permanent Cut p kind why q
  permanent_alone p row Permanent Cut q other = (refl, refl, row.0 ∙ sym other.0)
  permanent_alone p row Volatile Cut q other = absurd (row.1 other.1)
  permanent_alone p row Saved Cut q other = absurd (row.1 other.1)
  permanent_alone p row Volatile Version q other = absurd (row.1 other.1)
  permanent_alone p row Saved Version q other = absurd (row.1 other.1)
  permanent_alone p row Saved Value q other = absurd (row.1 other.0)
  permanent_alone p row _ _ q other = absurd other

  volatile_alone : (p : ℕ) → IsFaultFor Volatile Cut p permanent volatile saved → (kind : Kind) (why : Why) (q : ℕ) → IsFaultFor kind why q permanent volatile saved → IsSame Volatile Cut p kind why q
  volatile_alone p row Permanent Cut q other = absurd (other.1 row.1)
  volatile_alone p row Volatile Cut q other = (refl, refl, row.0 ∙ sym other.0)
  volatile_alone p row Saved Cut q other = absurd (unfinished Volatile volatile row.2 other.2)
  volatile_alone p row Volatile Version q other = absurd (unfinished Volatile volatile row.2 (volatile_version q other).is_volatile)
  volatile_alone p row Saved Version q other = absurd (unfinished Volatile volatile row.2 (saved_version q other).is_volatile)
  volatile_alone p row Saved Value q other = absurd (unfinished Volatile volatile row.2 (saved_value q other).is_volatile)
  volatile_alone p row _ _ q other = absurd other

  saved_alone : (p : ℕ) → IsFaultFor Saved Cut p permanent volatile saved → (kind : Kind) (why : Why) (q : ℕ) → IsFaultFor kind why q permanent volatile saved → IsSame Saved Cut p kind why q
  saved_alone p row Permanent Cut q other = absurd (other.1 row.1)
  saved_alone p row Volatile Cut q other = absurd (unfinished Volatile volatile other.2 row.2)
  saved_alone p row Saved Cut q other = (refl, refl, row.0 ∙ sym other.0)
  saved_alone p row Volatile Version q other = absurd (unfinished Saved saved row.3 (volatile_version q other).is_saved)
  saved_alone p row Saved Version q other = absurd (unfinished Saved saved row.3 (saved_version q other).is_saved)
  saved_alone p row Saved Value q other = absurd (unfinished Saved saved row.3 (saved_value q other).is_saved)
  saved_alone p row _ _ q other = absurd other

  volatile_version_alone : (p : ℕ) → IsFaultFor Volatile Version p permanent volatile saved → (kind : Kind) (why : Why) (q : ℕ) → IsFaultFor kind why q permanent volatile saved → IsSame Volatile Version p kind why q
  volatile_version_alone p row Permanent Cut q other = absurd (other.1 row.1)
  volatile_version_alone p row Volatile Cut q other = absurd (unfinished Volatile volatile other.2 (volatile_version p row).is_volatile)
  volatile_version_alone p row Saved Cut q other = absurd (unfinished Saved saved other.3 (volatile_version p row).is_saved)
  volatile_version_alone p row Volatile Version q other = (refl, refl, row.0 ∙ sym other.0)
  volatile_version_alone p row Saved Version q other = absurd (other_version Volatile (version_in permanent) volatile row.2 other.2)
  volatile_version_alone p row Saved Value q other = absurd (row.2.1 other.1.1)
  volatile_version_alone p row _ _ q other = absurd other

  saved_version_alone : (p : ℕ) → IsFaultFor Saved Version p permanent volatile saved → (kind : Kind) (why : Why) (q : ℕ) → IsFaultFor kind why q permanent volatile saved → IsSame Saved Version p kind why q
  saved_version_alone p row Permanent Cut q other = absurd (other.1 row.1)
  saved_version_alone p row Volatile Cut q other = absurd (unfinished Volatile volatile other.2 (saved_version p row).is_volatile)
  saved_version_alone p row Saved Cut q other = absurd (unfinished Saved saved other.3 (saved_version p row).is_saved)
  saved_version_alone p row Volatile Version q other = absurd (other_version Volatile (version_in permanent) volatile other.2 row.2)
  saved_version_alone p row Saved Version q other = (refl, refl, row.0 ∙ sym other.0)
  saved_version_alone p row Saved Value q other = absurd (row.3.1 other.2.1)
  saved_version_alone p row _ _ q other = absurd other

  value_alone : (p : ℕ) → IsFaultFor Saved Value p permanent volatile saved → (kind : Kind) (why : Why) (q : ℕ) → IsFaultFor kind why q permanent volatile saved → IsSame Saved Value p kind why q
  value_alone p row Permanent Cut q other = absurd (other.1 row.0)
  value_alone p row Volatile Cut q other = absurd (unfinished Volatile volatile other.2 (saved_value p row).is_volatile)
  value_alone p row Saved Cut q other = absurd (unfinished Saved saved other.3 (saved_value p row).is_saved)
  value_alone p row Volatile Version q other = absurd (other.2.1 row.1.1)
  value_alone p row Saved Version q other = absurd (other.3.1 row.2.1)
  value_alone p row Saved Value q other = (refl, refl, one_place p q volatile saved row.3 other.3)
  value_alone p row _ _ q other = absurd other

  alone : (kind : Kind) (why : Why) (p : ℕ) → IsFaultFor kind why p permanent volatile saved → (kind_too : Kind) (why_too : Why) (q : ℕ) → IsFaultFor kind_too why_too q permanent volatile saved
      → IsSame kind why p kind_too why_too q
  alone Permanent Cut p row kind_too why_too q other = permanent_alone p row kind_too why_too q other
  alone Volatile Cut p row kind_too why_too q other = volatile_alone p row kind_too why_too q other
  alone Saved Cut p row kind_too why_too q other = saved_alone p row kind_too why_too q other
  alone Volatile Version p row kind_too why_too q other = volatile_version_alone p row kind_too why_too q other
  alone Saved Version p row kind_too why_too q other = saved_version_alone p row kind_too why_too q other
  alone Saved Value p row kind_too why_too q other = value_alone p row kind_too why_too q other
  alone _ _ p row kind_too why_too q other = absurd row

same_blob_fault : (f g : BlobFault) → f.kind ≡ g.kind → f.fault ≡ g.fault → f ≡ g
same_blob_fault f g p q = ap (λ (x : Kind). record f { kind = x }) p ∙ ap (λ (x : Malformed). record g { fault = x }) q

-- Three blobs have one fault.
pub one_fault : (permanent volatile saved : List ℕ) (f g : BlobFault) → IsFault permanent volatile saved f → IsFault permanent volatile saved g → f ≡ g
one_fault permanent volatile saved f g a b =
    let same = alone permanent volatile saved f.kind f.fault.why f.fault.place a g.kind g.fault.why g.fault.place b in
    same_blob_fault f g same.0 (same_malformed f.fault g.fault same.1 same.2)
