-- A prepared host holds what its source offered.
use Rattle.std.proofs.Common.{◌≡◌, ℕ, List, Some, sym, ap, subst, ◌∙◌}
use Rattle.vt_base.specs.declared.types.Kind.TheVariants as kind
use Rattle.crb_machine.specs.Values.{DeviceValues, AreValid, held_values}
use Rattle.device_record.specs.Records.{encode_record}
use Rattle.tpm_core.specs.declared.parts.TpmParts.{TpmParts}
use Rattle.tpm_core.specs.Steps.{IsValid}
use Rattle.state_blobs.specs.Encodings.{encode_blob}
use Rattle.state_blobs.specs.Assembly.{IsAssembled}
use Rattle.ctrl_model.specs.Link.{Link}
use Rattle.ctrl_client.specs.Pieces.{encode_blob_if_any}
use Rattle.move_core.specs.declared.stage.MoveStage.{MoveStage}
use Rattle.move_core.specs.declared.stage.MoveStage.TheVariants.{Prepared}
use Rattle.move_core.specs.Model.{HostModel}
use Rattle.move_core.specs.Hosts.{HasRecord, MatchesSide}
use Rattle.hand_over.specs.Host.{HostState}
use Rattle.hand_over.specs.Bridge.{model_of, IsReady, StandsFor}
use Rattle.hand_over.specs.Fine.{offered_by}
use Rattle.hand_over.specs.Parts.{Parts, PieceSizes}

-- that records and blobs encode their values injectively
pub record AreInjective : Type 0 where
  pub records : (v w : DeviceValues) → AreValid v → AreValid w → encode_record v ≡ encode_record w → v ≡ w
  pub assembled : (p v z : List ℕ) (a b : TpmParts) → IsAssembled p v z a → IsAssembled p v z b → a ≡ b
  pub blobs : (t : TpmParts) → IsValid t → IsAssembled (encode_blob kind.Permanent t) (encode_blob kind.Volatile t) (encode_blob kind.Saved t) t

pub held : {P : Type 0} (once : AreInjective) (size : PieceSizes) (h : HostModel P) (l : Link) (y : HostState) (e : ℕ) (values : DeviceValues) (tpm : TpmParts) → AreValid values → IsValid tpm
    → StandsFor size h l y → MatchesSide h → h.stage ≡ Prepared e → y.content ≡ offered_by values tpm → (held_values h.device ≡ values) × (l.emulator.tpm ≡ Some tpm)
held once size h l y e values tpm fit fit_too stands placed at_stage content =
    let host = subst (λ (s : MoveStage). model_of s h l.emulator y ≡ y) at_stage stands.host in
    let all = ap (λ (g : HostState). g.content) host ∙ content in
    let keeps = subst (λ (s : MoveStage). HasRecord s h.record_bytes h.device) at_stage placed.keeps in
    let ready = subst (λ (s : MoveStage). IsReady s l.emulator) at_stage stands.ready in
    let same : encode_record (held_values h.device) ≡ encode_record values = sym keeps.spelled ∙ ap (λ (c : Parts). c.record_bytes) all in
    let p : encode_blob kind.Permanent ready.0 ≡ encode_blob kind.Permanent tpm = sym (ap (encode_blob_if_any kind.Permanent) ready.1) ∙ ap (λ (c : Parts). c.permanent) all in
    let v : encode_blob kind.Volatile ready.0 ≡ encode_blob kind.Volatile tpm = sym (ap (encode_blob_if_any kind.Volatile) ready.1) ∙ ap (λ (c : Parts). c.volatile) all in
    let z : encode_blob kind.Saved ready.0 ≡ encode_blob kind.Saved tpm = sym (ap (encode_blob_if_any kind.Saved) ready.1) ∙ ap (λ (c : Parts). c.saved) all in
    let mine = once.blobs ready.0 ready.2 in
    let theirs =
    subst (λ (x : List ℕ). IsAssembled x (encode_blob kind.Volatile ready.0) (encode_blob kind.Saved ready.0) tpm) (sym p)
    (subst (λ (x : List ℕ). IsAssembled (encode_blob kind.Permanent tpm) x (encode_blob kind.Saved ready.0) tpm) (sym v)
    (subst (λ (x : List ℕ). IsAssembled (encode_blob kind.Permanent tpm) (encode_blob kind.Volatile tpm) x tpm) (sym z) (once.blobs tpm fit_too))) in
    (once.records (held_values h.device) values keeps.fit fit same, ready.1 ∙ ap Some (once.assembled _ _ _ ready.0 tpm mine theirs))
