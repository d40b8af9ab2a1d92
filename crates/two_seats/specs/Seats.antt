-- What is so of the seat of one of two hosts, by its side. (Own definitions.)
use Rattle.std.specs.Prelude.{◌≡◌, ℕ, false, List, [], take, None}
use Rattle.crb_port.specs.declared.job.PortState.{PortState}
use Rattle.crb_machine.specs.Values.{DeviceValues, held_values}
use Rattle.crb_machine.specs.Over.{plain_device}
use Rattle.crb_machine.specs.Model.{DeviceModel}
use Rattle.crb_worker.specs.declared.progress.Progress.{Progress}
use Rattle.crb_worker.specs.declared.progress.Progress.TheVariants.{Free}
use Rattle.ctrl_model.specs.Emulator.{Gathers, no_gathers}
use Rattle.ctrl_model.specs.Link.{Link, empty_channel}
use Rattle.ctrl_client.specs.Exchange.{IsQuiet}
use Rattle.crb_history.specs.Snapshot.{Snapshot, IsValidSnapshot}
use Rattle.crb_history.specs.Event.{History}
use Rattle.vt_base.specs.declared.types.HostName.{HostName}
use Rattle.move_codec.specs.declared.names.Part.{Part}
use Rattle.move_codec.specs.declared.names.Part.TheVariants.{Record, Permanent, Volatile, Saved}
use Rattle.move_core.specs.declared.stage.MoveStage.{MoveStage}
use Rattle.move_core.specs.declared.stage.MoveStage.TheVariants as stage
use Rattle.two_hosts.specs.Parts.{part_bytes}
use Rattle.two_hosts.specs.Hosts.{HostState}
use Rattle.vt_seat.specs.Follows.{RefinesAt, IsEmulator, IsInjected}
use Rattle.vt_seat.specs.State.{SeatState}

-- nothing is under way: the worker has no job, and no byte waits on a channel
pub record IsIdle (progress : Progress) (l : Link) : Type 0 where
  pub free : progress ≡ Free
  pub quiet : IsQuiet l
  pub channel : l.commands ≡ empty_channel
  pub none : l.emulator.held ≡ None

-- a held device and its emulator, which is on, have these values
pub record HasValues (v : Snapshot) (d : DeviceModel PortState) (l : Link) : Type 0 where
  pub fit : IsValidSnapshot v
  pub device : held_values d ≡ v.device
  pub emulator : IsEmulator l.emulator v.tpm None

abbrev pub gathered : List ℕ → List ℕ → List ℕ → Gathers
gathered p v z = record { permanent = p; volatile = v; saved = z }

-- so much of the parts came: the record so far, or the device's values; and of the blobs what the emulator gathered
abbrev pub Comes : Snapshot → Part → ℕ → List ℕ → DeviceValues → Gathers → Type 0
Comes v Record place bytes d g = (bytes ≡ take place (part_bytes v Record)) × (g ≡ no_gathers)
Comes v Permanent place bytes d g = (d ≡ v.device) × (g ≡ gathered (take place (part_bytes v Permanent)) [] [])
Comes v Volatile place bytes d g = (d ≡ v.device) × (g ≡ gathered (part_bytes v Permanent) (take place (part_bytes v Volatile)) [])
Comes v Saved place bytes d g = (d ≡ v.device) × (g ≡ gathered (part_bytes v Permanent) (part_bytes v Volatile) (take place (part_bytes v Saved)))

-- a host that fills: its emulator is off
pub record HasFilled (v : Snapshot) (part : Part) (place : ℕ) (bytes : List ℕ) (d : DeviceModel PortState) (l : Link) : Type 0 where
  pub fit : IsValidSnapshot v
  pub off : l.emulator.on ≡ false
  pub come : Comes v part place bytes (held_values d) l.emulator.gathers

-- what a side says of its host, worker and emulator
abbrev pub AtStage : Snapshot → History → (ℕ → Snapshot) → MoveStage → SeatState PortState → Type 0
AtStage b p offered stage.Running s = RefinesAt b p (plain_device s.host.device) s.progress s.link
AtStage b p offered stage.Draining s = RefinesAt b p (plain_device s.host.device) s.progress s.link
AtStage b p offered (stage.Offering e totals) s = IsIdle s.progress s.link × HasValues (offered e) s.host.device s.link × (s.host.record_bytes ≡ part_bytes (offered e) Record)
AtStage b p offered (stage.Filling e totals part place) s = IsIdle s.progress s.link × HasFilled (offered e) part place s.host.record_bytes s.host.device s.link
AtStage b p offered (stage.Prepared e) s = IsIdle s.progress s.link × HasValues (offered e) s.host.device s.link
AtStage b p offered stage.Empty s = IsIdle s.progress s.link
AtStage b p offered (stage.Released e) s = IsIdle s.progress s.link

-- a seat is where this is known of its host
pub record IsSeat (b : Snapshot) (piece : ℕ) (p : History) (offered : ℕ → Snapshot) (name : HostName) (h : HostState) (s : SeatState PortState) : Type 0 where
  pub name_is : s.host.name ≡ name
  pub piece_is : s.host.piece ≡ piece
  pub pieces : s.link.emulator.piece ≡ piece
  pub stage_is : s.host.stage ≡ h.side.stage
  pub top_is : s.host.top ≡ h.side.top
  pub calls_to_fault : IsInjected h.injected_fault h.calls s.calls_to_fault
  pub stands : AtStage b p offered h.side.stage s
