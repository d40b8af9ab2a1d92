-- When a delivery has nothing to refuse. (Own definitions.)
use Rattle.std.specs.Prelude.{◌≡◌, ◌≤◌, ℕ, false, List, length, take, Some, None}
use Rattle.vt_base.specs.declared.types.Kind.{Kind}
use Rattle.vt_base.specs.declared.types.Kind.TheVariants as kind
use Rattle.vt_base.specs.declared.types.Malformed.{Malformed}
use Rattle.tpm_core.specs.declared.parts.TpmParts.{TpmParts}
use Rattle.tpm_core.specs.Steps.{IsValid}
use Rattle.state_blobs.specs.Encodings.{encode_blob}
use Rattle.state_blobs.specs.Refusals.{IsRefused}
use Rattle.state_blobs.specs.Assembly.{IsFault}
use Rattle.state_blobs.specs.declared.types.BlobFault.{BlobFault}
use Rattle.crb_machine.specs.Values.{DeviceValues, AreValid}
use Rattle.device_record.specs.Records.{encode_record}
use Rattle.device_record.specs.Layouts.{IsRefused as IsRefusedRecord}
use Rattle.ctrl_model.specs.Emulator.{EmulatorState}
use Rattle.move_codec.specs.declared.message.Body.{Body}
use Rattle.move_codec.specs.declared.message.Body.TheVariants as body
use Rattle.move_codec.specs.declared.names.Part.{Part}
use Rattle.move_core.specs.declared.answers.Delivered.{Delivered}
use Rattle.move_core.specs.declared.answers.Delivered.TheVariants as delivers
use Rattle.move_core.specs.declared.stage.MoveStage.{MoveStage}
use Rattle.move_core.specs.declared.stage.MoveStage.TheVariants.{Offering, Filling}
use Rattle.move_core.specs.Model.{HostModel}
use Rattle.move_core.specs.Sides.{is_active, first_bad}
use Rattle.hand_over.specs.Parts.{Parts, PieceSizes, part_of, lengths, slice, filled}
use Rattle.ctrl_client.specs.Schedules.{fails_within}
use Rattle.ctrl_model.specs.Link.{Link}
use Rattle.move_core.specs.Requests.{WiresView}
use Rattle.hand_over.specs.Host.{After}
use Rattle.hand_over.specs.Bridge.{port_state, gathered, StandsFor}

-- what is known of records and blobs
pub record PieceLaws : Type 0 where
  pub fronts : (k : Kind) (t : TpmParts) (n : ℕ) (f : Malformed) → IsValid t → IsRefused k f (take n (encode_blob k t)) → ⊥
  pub assembles : (t : TpmParts) (f : BlobFault) → IsValid t → IsFault (encode_blob kind.Permanent t) (encode_blob kind.Volatile t) (encode_blob kind.Saved t) f → ⊥
  pub records : (v : DeviceValues) (f : Malformed) → AreValid v → IsRefusedRecord f (encode_record v) → ⊥

-- what a source with these values offers
abbrev pub offered_by : DeviceValues → TpmParts → Parts
offered_by v t = port_state (encode_record v) (Some t)

-- a host that fills has the start of what a source offers, and this piece is the next slice of it
pub record HasSlice {P : Type 0} (totals : List ℕ) (next : Part) (place : ℕ) (bytes : List ℕ) (h : HostModel P) (d : EmulatorState) : Type 0 where
  pub values : DeviceValues
  pub tpm : TpmParts
  pub fit : AreValid values
  pub fit_too : IsValid tpm
  pub totals_are : totals ≡ lengths (offered_by values tpm)
  pub prefix : gathered h.record_bytes d.gathers ≡ filled (offered_by values tpm) next place
  pub piece : bytes ≡ slice (part_of (offered_by values tpm) next) place (length bytes)

-- a source whose TPM has blobs as long as was offered
pub record HasParts {P : Type 0} (totals : List ℕ) (h : HostModel P) (d : EmulatorState) : Type 0 where
  pub tpm : TpmParts
  pub is_tpm : d.tpm ≡ Some tpm
  pub totals_are : totals ≡ lengths (port_state h.record_bytes d.tpm)
  pub least : 1 ≤ d.piece
  pub most : d.piece ≤ 4096

abbrev pub IsFineFor : {P : Type 0} → Body → MoveStage → HostModel P → EmulatorState → Type 0
IsFineFor (body.Offer totals) s h d = (is_active s ≡ false) × (first_bad totals ≡ None)
IsFineFor (body.Need part offset) (Offering e totals) h d = HasParts totals h d
IsFineFor (body.Piece part offset bytes) (Filling e totals next place) h d = HasSlice totals next place bytes h d
IsFineFor _ s h d = Unit {0}

abbrev pub IsNotRefused : Delivered → Type 0
IsNotRefused (delivers.Refused m) = ⊥
IsNotRefused (delivers.Wires f) = ⊥
IsNotRefused _ = Unit {0}

-- a step of the host is this step of the model, in which nothing is refused
pub record IsSureStep {P Schedule : Type 0} (size : PieceSizes) (after : After) (v : WiresView Schedule) (answer : Delivered) (new : HostModel P) : Type 0 where
  pub link : Link
  pub is_link : v.link ≡ Some link
  pub stands : StandsFor size new link after.host
  pub answer_is : answer ≡ after.answer

-- no call on the wires is to fail
pub record IsUndisturbed {Schedule : Type 0} (w : WiresView Schedule) : Type 0 where
  pub none : (n : ℕ) → fails_within w.fails w.later n w.schedule ≡ false
