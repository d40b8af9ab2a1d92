-- How a move ends. (Own definitions.)
use Rattle.std.specs.Prelude.{◌≡◌, ◌+◌, ℕ, Bool, true, false, [], Option, Some, Ok, IsSomeAnd}
use Rattle.tpm_core.specs.declared.parts.TpmParts.{TpmParts}
use Rattle.crb_port.specs.Views.{PortView}
use Rattle.crb_machine.specs.Values.{held_values}
use Rattle.crb_machine.specs.Over.{IsConsistentDevice, Stops, GoesOn}
use Rattle.crb_machine.specs.Model.{DeviceModel}
use Rattle.ctrl_model.specs.Link.{Link}
use Rattle.ctrl_client.specs.Exchange.{IsQuiet}
use Rattle.move_core.specs.declared.stage.MoveStage.{MoveStage}
use Rattle.move_core.specs.declared.stage.MoveStage.TheVariants.{Empty, Running, Released}
use Rattle.move_core.specs.Model.{HostModel}
use Rattle.move_core.specs.Requests.{WiresView}
use Rattle.hand_over.specs.Bridge.{HasStarted}
use Rattle.hand_over.specs.Fine.{IsUndisturbed}
use Rattle.hand_over.specs.Counts.{tpm_behind, pieces_from}
use Rattle.hand_over.specs.Arrival.{arrives, loses}

-- a host after a move in which it had this part, of this epoch
abbrev pub host_as : {P : Type 0} → MoveStage → ℕ → DeviceModel P → HostModel P → HostModel P
host_as stage top device h = record h { stage = stage; top = top; record_bytes = []; device = device }

-- The guest runs at the target: its device goes on with the values of the source's stopped device, and the TPM there is the source's, just switched
-- on. The source has let go of it.
pub record Arrives {P Schedule : Type 0} (port_view : P → PortView) (source : HostModel P) (stopped : DeviceModel P) (tpm : Option TpmParts) (target : HostModel P) (epoch : ℕ)
    (new_source new_target : HostModel P) (v : WiresView Schedule) : Type 0 where
  pub source_is : new_source ≡ host_as (Released epoch) epoch stopped source
  pub target_is : new_target ≡ host_as Running epoch new_target.device target
  pub filled : DeviceModel P
  pub values : held_values filled ≡ held_values stopped
  pub port : filled.port ≡ target.device.port
  pub held : filled.held ≡ true
  pub consistent : IsConsistentDevice port_view filled
  pub goes_on : GoesOn port_view filled new_target.device
  pub tpm_is : tpm_behind v.link ≡ tpm
  pub started : IsSomeAnd v.link (λ l. HasStarted l.emulator)

-- The guest runs on at the source: its stopped device goes on.
pub record RunsOn {P : Type 0} (port_view : P → PortView) (source : HostModel P) (stopped : DeviceModel P) (epoch : ℕ) (new : HostModel P) : Type 0 where
  pub source_is : new ≡ host_as Running epoch new.device source
  pub goes_on : GoesOn port_view stopped new.device

-- the target is as it was before the move, or has nothing of it
abbrev pub IsLeft : {P : Type 0} → Bool → HostModel P → ℕ → HostModel P → Type 0
IsLeft true target epoch new = new ≡ target
IsLeft false target epoch new = (new ≡ host_as Empty epoch new.device target) × (new.device.port ≡ target.device.port)

-- The guest runs on at the source, and the target, which had taken the Offer, has nothing of it.
abbrev pub IsTakenBack : {P : Type 0} → (P → PortView) → HostModel P → DeviceModel P → HostModel P → ℕ → HostModel P → HostModel P → Type 0
IsTakenBack port_view source stopped target epoch new_source new_target = RunsOn port_view source stopped epoch new_source × IsLeft false target epoch new_target

-- where the target took the Offer: by whether the guest gets there
abbrev pub Ends : {P Schedule : Type 0} → Bool → (P → PortView) → HostModel P → DeviceModel P → Option TpmParts → HostModel P → ℕ → HostModel P → HostModel P → WiresView Schedule → Type 0
Ends true port_view source stopped tpm target epoch new_source new_target v = Arrives port_view source stopped tpm target epoch new_source new_target v
Ends false port_view source stopped tpm target epoch new_source new_target v = IsTakenBack port_view source stopped target epoch new_source new_target

-- by whether the guest gets to the target, and whether the Offer is lost
abbrev pub MoveEnds : {P Schedule : Type 0} → Bool → Bool → (P → PortView) → HostModel P → DeviceModel P → Option TpmParts → HostModel P → ℕ → HostModel P → HostModel P → WiresView Schedule → Type 0
MoveEnds true first port_view source stopped tpm target epoch new_source new_target v = Arrives port_view source stopped tpm target epoch new_source new_target v
MoveEnds false first port_view source stopped tpm target epoch new_source new_target v = RunsOn port_view source stopped epoch new_source × IsLeft first target epoch new_target

-- What a move of which this message is lost makes of two hosts. The source's device was stopped for it, and its record and the blobs of its TPM make the pieces.
pub record HasMoved {P Schedule : Type 0} (port_view : P → PortView) (source : HostModel P) (w : WiresView Schedule) (target : HostModel P) (lost : Option ℕ)
    (new_source new_target : HostModel P) (v : WiresView Schedule) : Type 0 where
  pub consistent : IsConsistentDevice port_view source.device
  pub runs : source.device.held ≡ false
  pub stopped : DeviceModel P
  pub stops : Stops port_view source.device (Ok tt) stopped
  pub ends : MoveEnds (arrives (pieces_from (record source { device = stopped }) w.link) lost) (loses lost 1) port_view source stopped (tpm_behind w.link) target (source.top + 1)
      new_source new_target v

-- what a move makes of two hosts for which the source has no memory: it gave up
pub record IsGivenUp {P : Type 0} (port_view : P → PortView) (source target new_source new_target : HostModel P) : Type 0 where
  pub consistent : IsConsistentDevice port_view source.device
  pub runs : source.device.held ≡ false
  pub stopped : DeviceModel P
  pub stops : Stops port_view source.device (Ok tt) stopped
  pub taken_back : IsTakenBack port_view source stopped target (source.top + 1) new_source new_target

-- The wires can serve a next move: nothing waits on the control channel, it is open, and no call is to fail; pieces of blobs have this size.
pub record IsCalm {Schedule : Type 0} (piece : ℕ) (w : WiresView Schedule) : Type 0 where
  pub link : Link
  pub is_link : w.link ≡ Some link
  pub quiet : IsQuiet link
  pub pieces : link.emulator.piece ≡ piece
  pub undisturbed : IsUndisturbed w
