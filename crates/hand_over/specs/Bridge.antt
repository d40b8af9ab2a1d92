-- A host over its link, and the host of the model that it stands for. (Own definitions.)
use Rattle.std.specs.Prelude.{◌≡◌, ◌<◌, ◌^◌, ℕ, true, false, List, [], length, Option, Some}
use Rattle.vt_base.specs.declared.types.Kind.{Kind}
use Rattle.vt_base.specs.declared.types.Kind.TheVariants as kind
use Rattle.tpm_core.specs.declared.parts.TpmParts.{TpmParts}
use Rattle.tpm_core.specs.Steps.{IsValid}
use Rattle.state_blobs.specs.Encodings.{encode_blob}
use Rattle.ctrl_model.specs.Emulator.{EmulatorState, Gathers, no_gathers}
use Rattle.ctrl_model.specs.Link.{Link}
use Rattle.ctrl_client.specs.Exchange.{IsQuiet}
use Rattle.ctrl_client.specs.Pieces.{encode_blob_if_any}
use Rattle.move_codec.specs.declared.names.Part.{Part}
use Rattle.move_codec.specs.declared.names.Part.TheVariants.{Record, Permanent, Volatile, Saved}
use Rattle.move_core.specs.declared.answers.Delivered.{Delivered}
use Rattle.move_core.specs.Model.{HostModel}
use Rattle.move_core.specs.declared.stage.MoveStage.{MoveStage}
use Rattle.move_core.specs.declared.stage.MoveStage.TheVariants.{Empty, Running, Draining, Offering, Released, Filling, Prepared}
use Rattle.move_core.specs.declared.side.Side.TheVariants as side
use Rattle.move_core.specs.Sides.{total_of}
use Rattle.move_core.specs.Requests.{WiresView}
use Rattle.hand_over.specs.Parts.{Parts, PieceSizes}
use Rattle.move_codec.specs.declared.message.Message.{Message}
use Rattle.hand_over.specs.Host.{HostState, After, Refusal, with_content, offering, offer_message}

-- the record and the blobs of the TPM, if there is one
abbrev pub port_state : List ℕ → Option TpmParts → Parts
port_state bytes tpm = record {
  record_bytes = bytes;
  permanent = encode_blob_if_any kind.Permanent tpm;
  volatile = encode_blob_if_any kind.Volatile tpm;
  saved = encode_blob_if_any kind.Saved tpm;
}

-- the start of a record, and the blobs that were gathered
abbrev pub gathered : List ℕ → Gathers → Parts
gathered bytes g = record { record_bytes = bytes; permanent = g.permanent; volatile = g.volatile; saved = g.saved }

-- The host of the model, by where the host stands. What its side doesn't need is that of another.
abbrev pub model_of : {P : Type 0} → MoveStage → HostModel P → EmulatorState → HostState → HostState
model_of Empty h d g = record g { side = side.Empty; top = h.top }
model_of Running h d g = record g { side = side.Running; top = h.top }
model_of Draining h d g = record g { side = side.Draining; top = h.top }
model_of (Offering e totals) h d g = record g { side = side.Offering e; top = h.top; content = port_state h.record_bytes d.tpm; totals = totals }
model_of (Released e) h d g = record g { side = side.Released e; top = h.top }
model_of (Filling e totals part place) h d g = record { side = side.Filling e; top = h.top; content = gathered h.record_bytes d.gathers; totals = totals; next = part; place = place }
model_of (Prepared e) h d g = record g { side = side.Prepared e; top = h.top; content = port_state h.record_bytes d.tpm }

-- how much of the volatile blob is there while a part comes
abbrev pub HasVolatile : Part → ℕ → List ℕ → List ℕ → Type 0
HasVolatile Record place totals bytes = bytes ≡ []
HasVolatile Permanent place totals bytes = bytes ≡ []
HasVolatile Volatile place totals bytes = length bytes ≡ place
HasVolatile Saved place totals bytes = length bytes ≡ total_of totals Volatile

-- an emulator whose TPM was just switched on: its volatile state wasn't stored, and nothing is gathered
pub record HasStarted (d : EmulatorState) : Type 0 where
  pub on : d.on ≡ true
  pub stored : d.stored ≡ false
  pub gathers : d.gathers ≡ no_gathers

-- the emulator behind a host that offers has a TPM, whose blobs have lengths that fit; behind one that fills it is off; and
-- behind one that is prepared it was switched on with a TPM whose values can be
abbrev pub IsReady : MoveStage → EmulatorState → Type 0
IsReady (Offering e totals) d = (t : TpmParts) × (d.tpm ≡ Some t) × ((k : Kind) → length (encode_blob k t) < 2 ^ 32)
IsReady (Filling e totals part place) d = (d.on ≡ false) × HasVolatile part place totals d.gathers.volatile
IsReady (Prepared e) d = (t : TpmParts) × (d.tpm ≡ Some t) × IsValid t × HasStarted d
IsReady _ d = Unit {0}

-- the host over this link stands for this host of the model, with pieces of this size
pub record StandsFor {P : Type 0} (size : PieceSizes) (h : HostModel P) (l : Link) (g : HostState) : Type 0 where
  pub host : model_of h.stage h l.emulator g ≡ g
  pub quiet : IsQuiet l
  pub ready : IsReady h.stage l.emulator
  pub record_pieces : h.piece ≡ size.of_record
  pub blob_pieces : l.emulator.piece ≡ size.of_blob

-- a step of the host is this step of the model, by what the emulator or the record answered
pub record IsStep {P Schedule : Type 0} (size : PieceSizes) (row : Option Refusal → After) (v : WiresView Schedule) (answer : Delivered) (new : HostModel P) : Type 0 where
  pub refusal : Option Refusal
  pub link : Link
  pub is_link : v.link ≡ Some link
  pub stands : StandsFor size new link (row refusal).host
  pub answer_is : answer ≡ (row refusal).answer

-- a host that offered stands for the model's, which holds its record and the blobs of its TPM
pub record IsOffer {P : Type 0} (size : PieceSizes) (h new : HostModel P) (l : Link) (after : Option Link) (g : HostState) (m : Message) : Type 0 where
  pub link : after ≡ Some l
  pub stands : StandsFor size new l (offering (with_content g (port_state new.record_bytes l.emulator.tpm)))
  pub said : m ≡ offer_message h.name (with_content g (port_state new.record_bytes l.emulator.tpm))
