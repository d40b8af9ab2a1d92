use Rattle.std.proofs.Common.{ℕ, ◌<◌, inl, inr, List, length, take, subst}
use Rattle.std.proofs.lemmas.List.{take_all}
use Rattle.std.proofs.lemmas.Bool.{cases_lt}
use Rattle.vt_base.specs.declared.types.Kind.{Kind}
use Rattle.vt_base.specs.declared.types.Malformed.{Malformed}
use Rattle.tpm_core.specs.declared.parts.TpmParts.{TpmParts}
use Rattle.tpm_core.specs.Steps.{IsValid}
use Rattle.state_blobs.specs.Encodings.{encode_blob, IsBlob}
use Rattle.state_blobs.specs.Refusals.{IsRefused, IsCut}
use Rattle.hand_over.proofs.Certain.{certain}
use Rattle.hand_over.proofs.bridge.fitting_deliveries_are_sure.Goals as goal

-- no prefix of a blob is refused, nor all of it
never : ((k : Kind) (t : TpmParts) → IsValid t → IsBlob k (encode_blob k t)) → ((k : Kind) (bytes : List ℕ) (n : ℕ) → IsBlob k bytes → n < length bytes → IsCut k (take n bytes))
    → ((k : Kind) (f : Malformed) (bytes : List ℕ) → IsBlob k bytes → IsRefused k f bytes → ⊥) → (k : Kind) (t : TpmParts) (n : ℕ) (f : Malformed) → IsValid t → IsRefused k f (take n (encode_blob k t)) → ⊥
never texts fronts whole k t n f fit refused =
    elim (cases_lt n (length (encode_blob k t))) [
      | inl lt ↦ (fronts k (encode_blob k t) n (texts k t fit) lt).not_refused f refused
      | inr le ↦ whole k f (encode_blob k t) (texts k t fit) (subst (IsRefused k f) (take_all n (encode_blob k t) le) refused)
    ]

pub returns : goal.returns
returns g c = λ size h new m w v l s answer is fine stands placed some fine_for f.
    certain g.P.PortModel.port_view
    (record {
      fronts = never c.blobs_are_prefix_free.ensures.texts c.blobs_are_prefix_free.ensures.fronts c.blobs_are_prefix_free.ensures.not_refused;
      assembles = λ t fault fit wrong. c.tpms_are_assembled_once.ensures.not_both _ _ _ t fault (c.tpms_are_assembled_once.ensures.blobs t fit) wrong;
      records = λ values fault fit wrong. c.records_are_prefix_free.ensures.not_refused values fault fit wrong;
    })
    size h m w v l s answer new is fine stands placed some fine_for f
