-- A move from hand to hand that nothing disturbs: what stands before each message to the target. (Own definitions.)
use Rattle.std.specs.Prelude.{◌≡◌, ◌≤◌, ◌<◌, ℕ, true, [], length, Option, Some, None, IsSomeAnd}
use Rattle.tpm_core.specs.declared.parts.TpmParts.{TpmParts}
use Rattle.tpm_core.specs.Steps.{IsValid}
use Rattle.crb_machine.specs.Values.{DeviceValues, AreValid, held_values}
use Rattle.crb_machine.specs.Over.{IsConsistentDevice, GoesOn}
use Rattle.ctrl_model.specs.Link.{Link}
use Rattle.vt_base.specs.declared.types.HostName.{HostName}
use Rattle.move_codec.specs.declared.names.Part.{Part}
use Rattle.move_codec.specs.declared.message.Message.{Message}
use Rattle.move_codec.specs.declared.message.Body.TheVariants as body
use Rattle.move_core.specs.Model.{HostModel}
use Rattle.move_core.specs.declared.stage.MoveStage.TheVariants as stage
use Rattle.move_core.specs.declared.side.Side.TheVariants.{Offering, Released, Filling, Prepared}
use Rattle.move_core.specs.Hosts.{IsConsistentHost}
use Rattle.move_core.specs.Requests.{WiresView}
use Rattle.hand_over.specs.Parts.{Parts, PieceSizes, size_for, part_of, lengths, slice, filled}
use Rattle.hand_over.specs.Host.{HostState, other, message_from}
use Rattle.hand_over.specs.Bridge.{HasStarted, StandsFor}
use Rattle.hand_over.specs.Fine.{IsUndisturbed, offered_by}
use Rattle.hand_over.specs.Counts.{blob_piece, tpm_behind}
use Rattle.hand_over.specs.Ends.{IsCalm}
use Rattle.crb_port.specs.Views.{PortView}

-- a host that fills
abbrev pub fills : ℕ → Parts → Part → ℕ → HostState
fills e parts part place = record { side = Filling e; top = e; content = filled parts part place; totals = lengths parts; next = part; place = place }

-- a source that offers these parts
pub record IsSource (e : ℕ) (parts : Parts) (x : HostState) : Type 0 where
  pub side : x.side ≡ Offering e
  pub content : x.content ≡ parts
  pub totals : x.totals ≡ lengths parts

-- the next message to the target: the next piece, or the commit
pub data ToTarget (size : PieceSizes) (e : ℕ) (parts : Parts) (n : HostName) (x y : HostState) (m : Message) : Type 0 where
  PieceComes : (part : Part) (place : ℕ) → IsSource e parts x → y ≡ fills e parts part place → place < length (part_of parts part)
      → m ≡ message_from n e (body.Piece part place (slice (part_of parts part) place (size_for size part))) → ToTarget size e parts n x y m
  CommitComes : x.side ≡ Released e → y.side ≡ Prepared e → y.content ≡ parts → m ≡ message_from n e body.Commit → ToTarget size e parts n x y m

-- the next message to the source
pub data ToSource (e : ℕ) (parts : Parts) (k : HostName) (x y : HostState) (m : Message) : Type 0 where
  NeedComes : (part : Part) (place : ℕ) → IsSource e parts x → y ≡ fills e parts part place → place < length (part_of parts part)
      → m ≡ message_from k e (body.Need part place) → ToSource e parts k x y m
  PreparedComes : IsSource e parts x → y.side ≡ Prepared e → y.content ≡ parts → m ≡ message_from k e body.Prepared → ToSource e parts k x y m

-- two hosts in a move of what a source with these values offers
pub record AreMoving {P Schedule : Type 0} (port_view : P → PortView) (Turn : PieceSizes → ℕ → Parts → HostName → HostName → HostState → HostState → Type 0)
    (source : HostModel P) (w : WiresView Schedule) (target : HostModel P) (v : WiresView Schedule) : Type 0 where
  pub size : PieceSizes
  pub their : PieceSizes
  pub epoch : ℕ
  pub values : DeviceValues
  pub tpm : TpmParts
  pub fit : AreValid values
  pub fit_too : IsValid tpm
  pub least : (p : Part) → 1 ≤ size_for size p
  pub most : (p : Part) → size_for size p ≤ 4096
  pub x : HostState
  pub y : HostState
  pub from : Link
  pub to : Link
  pub from_is : w.link ≡ Some from
  pub to_is : v.link ≡ Some to
  pub from_fine : IsUndisturbed w
  pub to_fine : IsUndisturbed v
  pub source_stands : StandsFor size source from x
  pub target_stands : StandsFor their target to y
  pub source_consistent : IsConsistentHost port_view source
  pub target_consistent : IsConsistentHost port_view target
  pub names : target.name ≡ other source.name
  pub held : held_values source.device ≡ values
  pub has : from.emulator.tpm ≡ Some tpm
  pub turn : Turn size epoch (offered_by values tpm) source.name target.name x y

-- what is known where this message comes to the target, and to the source
abbrev pub to_target : Message → PieceSizes → ℕ → Parts → HostName → HostName → HostState → HostState → Type 0
to_target m size e parts n k x y = ToTarget size e parts n x y m

abbrev pub to_source : Message → PieceSizes → ℕ → Parts → HostName → HostName → HostState → HostState → Type 0
to_source m size e parts n k x y = ToSource e parts k x y m

-- the same host in a move: only its side, its record and its device may be others
pub record IsSameTarget {P : Type 0} (h new : HostModel P) : Type 0 where
  pub rest : new ≡ record h { stage = new.stage; record_bytes = new.record_bytes; device = new.device }
  pub port : new.device.port ≡ h.device.port

-- The Commit was taken: the target's device, which had the values of the source's, goes on, and the TPM there is the source's.
pub record IsHandedOver {P Schedule : Type 0} (port_view : P → PortView) (source : HostModel P) (w : WiresView Schedule) (target new : HostModel P) (v : WiresView Schedule) : Type 0 where
  pub rest : new ≡ record target { stage = stage.Running; record_bytes = []; device = new.device }
  pub epoch : ℕ
  pub released : source.stage ≡ stage.Released epoch
  pub prepared : target.stage ≡ stage.Prepared epoch
  pub values : held_values target.device ≡ held_values source.device
  pub held : target.device.held ≡ true
  pub consistent : IsConsistentDevice port_view target.device
  pub goes_on : GoesOn port_view target.device new.device
  pub calm : IsCalm (blob_piece v.link) v
  pub tpm : tpm_behind v.link ≡ tpm_behind w.link
  pub started : IsSomeAnd v.link (λ l. HasStarted l.emulator)

-- the target asks for more, or the move is done
abbrev pub TargetGoes : {P Schedule : Type 0} → (P → PortView) → HostModel P → WiresView Schedule → HostModel P → HostModel P → WiresView Schedule → Option Message → Type 0
TargetGoes port_view source w target new v (Some reply) = AreMoving port_view (to_source reply) source w new v × IsSameTarget target new
TargetGoes port_view source w target new v None = IsHandedOver port_view source w target new v
