-- What an emulator that is off does with the next piece of a blob, and with the last one and INIT.
use Rattle.std.proofs.Common.{◌≡◌, ℕ, ◌<◌, true, false, List, [], ◌∷◌, ◌++◌, length, take, refl, ap, subst, ◌∙◌, arith, Some, inl, inr}
use Rattle.std.proofs.lemmas.List.{take_all}
use Rattle.std.proofs.lemmas.Bool.{cases_lt}
use Rattle.vt_base.specs.declared.types.Kind.{Kind}
use Rattle.vt_base.specs.declared.types.Kind.TheVariants.{Permanent, Volatile, Saved}
use Rattle.vt_base.specs.declared.types.Malformed.{Malformed}
use Rattle.tpm_core.specs.declared.parts.TpmParts.{TpmParts}
use Rattle.tpm_core.specs.Steps.{IsValid}
use Rattle.state_blobs.specs.Encodings.{encode_blob}
use Rattle.state_blobs.specs.Refusals.{IsRefused}
use Rattle.state_blobs.specs.Assembly.{IsAssembled, IsFault}
use Rattle.state_blobs.proofs.Apart.{text_is_blob, prefix_is_cut, blob_not_refused, not_both}
use Rattle.state_blobs.proofs.Once.{assembled_once, texts_assemble}
use Rattle.state_blobs.proofs.Sizes.{text_least}
use Rattle.ctrl_codec.specs.declared.request.Request.TheVariants.{Init, SetStateBlob}
use Rattle.ctrl_model.specs.declared.profile.TheConstants.{SUCCESS}
use Rattle.ctrl_model.specs.Emulator.{EmulatorState, Gathers, RequestOutcome, HandlesRequest, BlobTaken, TakesPiece, StartsBy, Assembled, type_of, gather_of, with_gather, resulted, switched_on, started_with, is_nothing, is_nil}

-- no prefix of a blob is refused, nor all of it
pub prefix_fine : (k : Kind) (t : TpmParts) (n : ℕ) (f : Malformed) → IsValid t → IsRefused k f (take n (encode_blob k t)) → ⊥
prefix_fine k t n f fit refused =
    elim (cases_lt n (length (encode_blob k t))) [
      | inl lt ↦ (prefix_is_cut k (encode_blob k t) n (text_is_blob k t fit) lt).not_refused f refused
      | inr le ↦ blob_not_refused k f (encode_blob k t) (text_is_blob k t fit) (subst (IsRefused k f) (take_all n (encode_blob k t) le) refused)
    ]

abbrev pub put_desk : Kind → List ℕ → EmulatorState → EmulatorState
put_desk k bytes d = record d { gathers = with_gather k (gather_of k d.gathers ++ bytes) d.gathers }

pub put_turn : (k : Kind) (bytes : List ℕ) (d : EmulatorState) (request_outcome : RequestOutcome) → d.on ≡ false → 0 < length bytes → ((f : Malformed) → IsRefused k f (gather_of k d.gathers ++ bytes) → ⊥)
    → HandlesRequest (SetStateBlob 0 (type_of k) (length bytes)) bytes d request_outcome → request_outcome ≡ resulted SUCCESS (put_desk k bytes d)
put_turn k bytes d request_outcome off some fine obeys = go k bytes (subst (λ on. BlobTaken on true (type_of k) bytes d request_outcome) off (by_kind k obeys)) some fine
  where
    by_kind : (k : Kind) → HandlesRequest (SetStateBlob 0 (type_of k) (length bytes)) bytes d request_outcome → BlobTaken d.on true (type_of k) bytes d request_outcome
    by_kind k is = is

    taken : (k : Kind) (bytes : List ℕ) → TakesPiece (Some k) bytes d request_outcome → 0 < length bytes → ((f : Malformed) → IsRefused k f (gather_of k d.gathers ++ bytes) → ⊥) → request_outcome ≡ resulted SUCCESS (put_desk k bytes d)
    taken k [] is some fine = absurd (omega (arith, some))
    taken k (x ∷ xs) (inl (none, same)) some fine = same
    taken k (x ∷ xs) (inr (fault, refused, same)) some fine = absurd (fine fault refused)

    go : (k : Kind) (bytes : List ℕ) → BlobTaken false true (type_of k) bytes d request_outcome → 0 < length bytes → ((f : Malformed) → IsRefused k f (gather_of k d.gathers ++ bytes) → ⊥) → request_outcome ≡ resulted SUCCESS (put_desk k bytes d)
    go Permanent bytes is some fine = taken Permanent bytes is some fine
    go Volatile bytes is some fine = taken Volatile bytes is some fine
    go Saved bytes is some fine = taken Saved bytes is some fine

abbrev pub whole_gathers : TpmParts → Gathers
whole_gathers t = record { permanent = encode_blob Permanent t; volatile = encode_blob Volatile t; saved = encode_blob Saved t }

not_nil : (xs : List ℕ) → 0 < length xs → is_nil xs ≡ false
not_nil [] some = absurd (omega (arith, some))
not_nil (x ∷ xs) some = refl

starts_so : (xs : List ℕ) (t : TpmParts) → 0 < length xs → started_with xs t ≡ t
starts_so [] t some = absurd (omega (arith, some))
starts_so (x ∷ xs) t some = refl

pub init_turn : (t : TpmParts) (d : EmulatorState) (request_outcome : RequestOutcome) → IsValid t → d.gathers ≡ whole_gathers t → HandlesRequest (Init 0) [] d request_outcome → request_outcome ≡ resulted SUCCESS (switched_on t d)
init_turn t d request_outcome fit whole obeys = done (subst (λ c. StartsBy c 0 d request_outcome) some obeys)
  where
    some : is_nothing d.gathers ≡ false
    some = ap is_nothing whole ∙ rw (not_nil (encode_blob Permanent t) (omega (arith, text_least Permanent t))) refl

    done : Assembled d.gathers.volatile d request_outcome → request_outcome ≡ resulted SUCCESS (switched_on t d)
    done (inl (u, assembled, same)) =
        let here : IsAssembled (encode_blob Permanent t) (encode_blob Volatile t) (encode_blob Saved t) u = subst (λ (g : Gathers). IsAssembled g.permanent g.volatile g.saved u) whole assembled in
        let is : u ≡ t = assembled_once (encode_blob Permanent t) (encode_blob Volatile t) (encode_blob Saved t) u t here (texts_assemble t fit) in
        same ∙ ap (λ (g : Gathers). resulted SUCCESS (switched_on (started_with g.volatile u) d)) whole ∙ ap (λ k. resulted SUCCESS (switched_on k d)) (starts_so (encode_blob Volatile t) u (omega (arith, text_least Volatile t)) ∙ is)
    done (inr (fault, is, same)) =
        absurd (not_both (encode_blob Permanent t) (encode_blob Volatile t) (encode_blob Saved t) t fault (texts_assemble t fit) (subst (λ (g : Gathers). IsFault g.permanent g.volatile g.saved fault) whole is))
