-- How a move from hand to hand begins. (Own definitions.)
use Rattle.std.specs.Prelude.{◌≡◌, ◌≢◌, ◌≤◌, ◌<◌, ◌-◌, ◌^◌, ℕ, true, false, [], Some, None, IfSome}
use Rattle.tpm_core.specs.declared.parts.TpmParts.{TpmParts}
use Rattle.tpm_core.specs.Steps.{IsValid}
use Rattle.vt_base.specs.declared.types.HostName.{HostName}
use Rattle.move_codec.specs.declared.message.Message.{Message}
use Rattle.move_codec.specs.declared.message.Body.TheVariants as body
use Rattle.move_core.specs.Model.{HostModel}
use Rattle.move_core.specs.Sides.{is_active}
use Rattle.move_core.specs.Requests.{WiresView}
use Rattle.hand_over.specs.Parts.{Parts, PieceSizes, lengths}
use Rattle.hand_over.specs.Host.{HostState, other, message_from}
use Rattle.hand_over.specs.Host as model
use Rattle.hand_over.specs.Moving.{IsSource}
use Rattle.hand_over.specs.Counts.{blob_piece, tpm_behind}
use Rattle.hand_over.specs.Ends.{IsCalm}
use Rattle.move_core.specs.declared.stage.MoveStage.TheVariants.{Empty, Running}
use Rattle.crb_regs.specs.Registers.{is_lost}
use Rattle.crb_machine.specs.State.Slot.{Claimed}
use Rattle.crb_machine.specs.Steps.{collected}
use Rattle.crb_machine.specs.Over.{state_of}
use Rattle.crb_machine.specs.Model.{DeviceModel}
use Rattle.crb_port.specs.Views.{PortView}

-- the first message to the target: an offer that is new to it
pub record OfferComes (e : ℕ) (parts : Parts) (n : HostName) (x y : HostState) (m : Message) : Type 0 where
  pub source : IsSource e parts x
  pub rests : model.is_active y.side ≡ false
  pub newer : y.top < e
  pub says : m ≡ message_from n e (body.Offer (lengths parts))

abbrev pub to_begin : Message → PieceSizes → ℕ → Parts → HostName → HostName → HostState → HostState → Type 0
to_begin m size e parts n k x y = OfferComes e parts n x y m

-- a device that a stop brings back, and that isn't lost then: by what stands in its port, where that is decoded
pub record CanStop {P : Type 0} (port_view : P → PortView) (d : DeviceModel P) : Type 0 where
  pub known_state : IfSome (state_of port_view d) (λ s. (s.slot ≢ Claimed) × (is_lost (collected s).regs.phase ≡ false))
  pub unknown_state : state_of port_view d ≡ None → ((port_view d.port).is_free ≡ true) × (is_lost d.regs.phase ≡ false)

-- The premises of a move. The source runs, nothing of its device's is claimed, and it isn't lost; there is a TPM behind its wires; the target neither runs
-- nor offers, and has seen no later epoch. No call on the wires is to fail, nothing waits on their control channels, and these are open.
pub record CanMove {P Schedule : Type 0} (port_view : P → PortView) (source : HostModel P) (w : WiresView Schedule) (target : HostModel P) (v : WiresView Schedule) : Type 0 where
  pub names : target.name ≡ other source.name
  pub runs : source.stage ≡ Running
  pub rests : is_active target.stage ≡ false
  pub device : CanStop port_view source.device
  pub below : target.top ≤ source.top
  pub not_last : source.top < 2 ^ 64 - 1
  pub tpm : TpmParts
  pub tpm_is : tpm_behind w.link ≡ Some tpm
  pub possible : IsValid tpm
  pub least : 1 ≤ blob_piece w.link
  pub most : blob_piece w.link ≤ 4096
  pub source_wires : IsCalm (blob_piece w.link) w
  pub target_wires : IsCalm (blob_piece v.link) v

-- the host with nothing of a move: what an offer that it takes makes of it
abbrev pub emptied : {P : Type 0} → HostModel P → HostModel P
emptied h = record h { stage = Empty; record_bytes = [] }
