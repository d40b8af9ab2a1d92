-- Parts that stand one behind the other are whole, or the first that isn't is refused in one way.
use Rattle.std.proofs.Common.{◌≡◌, ◌≢◌, ℕ, ◌+◌, ◌-◌, ◌<◌, ◌≤◌, List, [], ◌∷◌, ◌++◌, length, take, drop, refl, sym, ap, subst, ◌∙◌, arith, inl, inr, append_assoc}
use Rattle.std.proofs.Math.Seq.{take-add}
use Rattle.std.proofs.lemmas.List.{length-append, append_cancel_left, take-append-le, take_at, drop_at}
use Rattle.std.proofs.lemmas.Bool.{cases_lt}
use Rattle.vt_base.specs.Refusing.{malformed}
use Rattle.vt_base.specs.declared.types.Why.TheVariants.{Cut}
use Rattle.vt_base.specs.declared.types.Malformed.{Malformed}
use Rattle.saved_stream.specs.declared.part.Part.{Part}
use Rattle.saved_stream.specs.Parts.{IsWhole, IsPartRefused}
use Rattle.saved_stream.specs.Refusals.{IsStopped, ArePartsRefused}
use Rattle.saved_stream.proofs.PartLaws.{LawsOfParts, laws_of, same_prefix, not_stopped, stopped_once}

-- the parts, each whole, and what stands behind the last
abbrev pub AreWhole : List Part → List ℕ → List ℕ → Type 0
AreWhole [] bytes after = bytes ≡ after
AreWhole (part ∷ ps) bytes after = (prefix : List ℕ) × (back : List ℕ) × (bytes ≡ prefix ++ back) × IsWhole part prefix × AreWhole ps back after

-- the same prefix leaves the same rest
pub same_back : (a x b y bytes : List ℕ) → bytes ≡ a ++ x → bytes ≡ b ++ y → a ≡ b → x ≡ y
same_back a x b y bytes is was same = append_cancel_left a x y (sym is ∙ was ∙ ap (λ (t : List ℕ). t ++ y) (sym same))

-- a prefix that reaches past another
take_over : (a b : List ℕ) (n : ℕ) → length a ≤ n → take n (a ++ b) ≡ a ++ take (n - length a) b
take_over a b n le =
    let same : n ≡ length a + (n - length a) = omega (arith, le) in
    ap (λ (m : ℕ). take m (a ++ b)) same ∙ take-add (length a) (n - length a) (a ++ b)
    ∙ ap (λ (t : List ℕ). t ++ take (n - length a) (drop (length a) (a ++ b))) (take_at a b (length a) refl)
    ∙ ap (λ (t : List ℕ). a ++ take (n - length a) t) (drop_at a b (length a) refl)

module _ (k : LawsOfParts) where
  pub whole_not_refused : (ps : List Part) (bytes after : List ℕ) (place : ℕ) (fault : Malformed) → AreWhole ps bytes after → ArePartsRefused ps place fault bytes → ⊥
  whole_not_refused [] bytes after place fault whole refused = refused
  whole_not_refused (part ∷ ps) bytes after place fault (prefix, back, is, whole, others) (inl stop) =
      not_stopped part (laws_of k part) prefix back place fault whole (subst (IsStopped part place fault) is stop)
  whole_not_refused (part ∷ ps) bytes after place fault (prefix, back, is, whole, others) (inr (f, b, was, whole_too, refused)) =
      let same = same_prefix part (laws_of k part) prefix back f b whole whole_too (sym is ∙ was) in
      whole_not_refused ps back after (place + length f) fault others (subst (ArePartsRefused ps (place + length f) fault) (sym (same_back prefix back f b bytes is was same)) refused)

  pub parts_once : (ps : List Part) (place : ℕ) (f g : Malformed) (bytes : List ℕ) → ArePartsRefused ps place f bytes → ArePartsRefused ps place g bytes → f ≡ g
  parts_once [] place f g bytes p q = absurd p
  parts_once (part ∷ ps) place f g bytes (inl p) (inl q) = stopped_once part (laws_of k part) place f g bytes p q
  parts_once (part ∷ ps) place f g bytes (inl p) (inr (prefix, back, is, whole, refused)) = absurd (not_stopped part (laws_of k part) prefix back place f whole (subst (IsStopped part place f) is p))
  parts_once (part ∷ ps) place f g bytes (inr (prefix, back, is, whole, refused)) (inl q) = absurd (not_stopped part (laws_of k part) prefix back place g whole (subst (IsStopped part place g) is q))
  parts_once (part ∷ ps) place f g bytes (inr (prefix, back, is, whole, refused)) (inr (a, b, was, whole_too, refused_too)) =
      let same = same_prefix part (laws_of k part) prefix back a b whole whole_too (sym is ∙ was) in
      let place_same : place + length a ≡ place + length prefix = ap (λ (t : List ℕ). place + length t) (sym same) in
      parts_once ps (place + length prefix) f g back refused
      (subst (λ (n : ℕ). ArePartsRefused ps n g back) place_same (subst (ArePartsRefused ps (place + length a) g) (sym (same_back prefix back a b bytes is was same)) refused_too))

  -- Bytes that end before the parts do are cut.
  pub prefix_cut : (ps : List Part) (bytes : List ℕ) (place n : ℕ) → AreWhole ps bytes [] → n < length bytes → ArePartsRefused ps place (malformed Cut (place + n)) (take n bytes)
  prefix_cut [] bytes place n none less = absurd (omega (arith, ap length none, less))
  prefix_cut (part ∷ ps) bytes place n (prefix, back, is, whole, others) less =
      elim (cases_lt n (length prefix)) [
        | inl short ↦
            let same : take n bytes ≡ take n prefix = ap (take n) is ∙ take-append-le n prefix back (omega (arith, short)) in
            inl (record {
              inner = malformed Cut n;
              refused = subst (IsPartRefused part (malformed Cut n)) (sym same) ((laws_of k part).prefix prefix n whole short);
              not_behind = λ e. cc;
              named = refl;
            })
        | inr le ↦
            let rest : n - length prefix < length back = omega (arith, ap length is, length-append prefix back, less, le) in
            let place_same : (place + length prefix) + (n - length prefix) ≡ place + n = omega (arith, le) in
            inr (
              prefix,
              take (n - length prefix) back,
              ap (take n) is ∙ take_over prefix back n le,
              whole,
              subst (λ (m : ℕ). ArePartsRefused ps (place + length prefix) (malformed Cut m) (take (n - length prefix) back)) place_same (prefix_cut ps back (place + length prefix) (n - length prefix) others rest),
            )
      ]

  -- What is refused stays refused, unless the bytes are cut.
  pub parts_stay : (ps : List Part) (place : ℕ) (fault : Malformed) (bytes more : List ℕ) → fault.why ≢ Cut → ArePartsRefused ps place fault bytes → ArePartsRefused ps place fault (bytes ++ more)
  parts_stay [] place fault bytes more whole refused = absurd refused
  parts_stay (part ∷ ps) place fault bytes more not_cut (inl stop) =
      let inner_whole : stop.inner.why ≢ Cut = λ e. not_cut (ap (λ (f : Malformed). f.why) stop.named ∙ e) in
      inl (record { inner = stop.inner; refused = (laws_of k part).stays stop.inner bytes more stop.refused inner_whole stop.not_behind; not_behind = stop.not_behind; named = stop.named })
  parts_stay (part ∷ ps) place fault bytes more not_cut (inr (prefix, back, is, whole, refused)) =
      inr (prefix, back ++ more, ap (λ (t : List ℕ). t ++ more) is ∙ append_assoc prefix back more, whole, parts_stay ps (place + length prefix) fault back more not_cut refused)
