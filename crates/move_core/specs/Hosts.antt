-- What holds of every host. (Own definitions.)
use Rattle.std.specs.Prelude.{◌≡◌, ◌≤◌, ◌<◌, ◌-◌, ◌^◌, ℕ, false, List, [], length, Some, Result, Ok, Err}
use Rattle.vt_base.specs.declared.types.Malformed.{Malformed}
use Rattle.vt_base.specs.declared.types.HostName.{HostName}
use Rattle.move_codec.specs.declared.names.Part.{Part}
use Rattle.move_codec.specs.declared.names.Part.TheVariants as part
use Rattle.crb_port.specs.Views.{PortView}
use Rattle.crb_machine.specs.Values.{DeviceValues, held_values}
use Rattle.vt_base.specs.Buffer.{zeros}
use Rattle.crb_regs.specs.Registers.{reset_regs}
use Rattle.crb_machine.specs.Over.{IsConsistentDevice, OwnParts, own_parts}
use Rattle.crb_machine.specs.Model.{DeviceModel}
use Rattle.device_record.specs.Records.{IsRecord}
use Rattle.device_record.specs.Layouts.{IsRefused}
use Rattle.move_core.specs.declared.stage.MoveStage.{MoveStage}
use Rattle.move_core.specs.declared.stage.MoveStage.TheVariants.{Empty, Running, Draining, Offering, Released, Filling, Prepared}
use Rattle.move_core.specs.Model.{HostModel}
use Rattle.move_core.specs.Sides.{holds_device, total_of}

-- the lengths of an offer that may be taken: 1 to 4096 bytes for each of the four parts
pub record AreTotals (totals : List ℕ) : Type 0 where
  pub four : length totals ≡ 4
  pub some : (p : Part) → 0 < total_of totals p
  pub most : (p : Part) → total_of totals p ≤ 4096

-- the record while a part is asked for: as many bytes as have come, or all of the device's
abbrev pub HasPrefix : {P : Type 0} → Part → ℕ → List ℕ → DeviceModel P → Type 0
HasPrefix part.Record place bytes d = length bytes ≡ place
HasPrefix _ place bytes d = IsRecord bytes (held_values d)

-- the bytes of the record at a side: those of the held device, a prefix of those that come, or none
abbrev pub HasRecord : {P : Type 0} → MoveStage → List ℕ → DeviceModel P → Type 0
HasRecord (Offering e totals) bytes d = (total_of totals part.Record ≡ length bytes) × IsRecord bytes (held_values d)
HasRecord (Prepared e) bytes d = IsRecord bytes (held_values d)
HasRecord (Filling e totals p place) bytes d = AreTotals totals × (place < total_of totals p) × HasPrefix p place bytes d
HasRecord _ bytes d = bytes ≡ []

-- the epoch of the side is the greatest one seen, and a draining host has an epoch left
abbrev pub IsAtTop : MoveStage → ℕ → Type 0
IsAtTop Empty top = Unit {0}
IsAtTop Running top = Unit {0}
IsAtTop Draining top = top < 2 ^ 64 - 1
IsAtTop (Offering e totals) top = e ≡ top
IsAtTop (Released e) top = e ≡ top
IsAtTop (Filling e totals p place) top = e ≡ top
IsAtTop (Prepared e) top = e ≡ top

-- The device is held exactly where the guest neither runs nor drains, and the bytes of the record are those that the side needs.
pub record MatchesSide {P : Type 0} (h : HostModel P) : Type 0 where
  pub held : h.device.held ≡ holds_device h.stage
  pub least : 1 ≤ h.piece
  pub most : h.piece ≤ 4096
  pub at_top : IsAtTop h.stage h.top
  pub keeps : HasRecord h.stage h.record_bytes h.device

-- what holds of every host
pub record IsConsistentHost {P : Type 0} (port_view : P → PortView) (h : HostModel P) : Type 0 where
  pub matches_side : MatchesSide h
  pub device : IsConsistentDevice port_view h.device

-- the held device, with these values
abbrev pub restored : {P : Type 0} → DeviceValues → DeviceModel P → DeviceModel P
restored v d = record d {
  regs = record { granted = v.granted; cancel = v.cancel; phase = v.phase };
  number = v.number;
  own_buffer = Some v.content;
  cancelled = v.cancelled;
}

-- the bytes as a record: the values that they encode, or why they are none
abbrev pub Decodes : List ℕ → Result DeviceValues Malformed → Type 0
Decodes bytes (Ok v) = IsRecord bytes v
Decodes bytes (Err fault) = IsRefused fault bytes

-- a new device over this port
abbrev pub new_device : {P : Type 0} → P → DeviceModel P
new_device port = record { regs = reset_regs; number = 0; own_buffer = Some (zeros 3968); held = false; cancelled = false; port = port }

-- what a host is beside its port
pub record HostRest : Type 0 where
  pub name : HostName
  pub piece : ℕ
  pub top : ℕ
  pub stage : MoveStage
  pub record_bytes : List ℕ
  pub device : OwnParts

abbrev pub host_rest : {P : Type 0} → HostModel P → HostRest
host_rest h = record { name = h.name; piece = h.piece; top = h.top; stage = h.stage; record_bytes = h.record_bytes; device = own_parts h.device }
