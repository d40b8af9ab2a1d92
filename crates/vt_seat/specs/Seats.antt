-- A seat: a host, its worker, and the wires to its emulator. (Own definitions.)
use Rattle.std.specs.Prelude.{◌≡◌, ℕ, Option, Some, None}
use Rattle.crb_port.specs.declared.job.PortState.{PortState}
use Rattle.crb_worker.specs.declared.progress.Progress.TheVariants.{Free}
use Rattle.vt_base.specs.declared.types.HostName.{HostName}
use Rattle.move_core.specs.Model.{HostModel}
use Rattle.move_core.specs.Requests.{WiresView, wires_view}
use Rattle.move_core.specs.declared.stage.MoveStage.TheVariants.{Empty, Running}
use Rattle.vt_seat.specs.Wires.{WiresState, fresh_wires, fails_next, after_call}
use Rattle.vt_seat.specs.State.{WorldState, SeatState}

-- its wires
abbrev pub wires_of : {P : Type 0} → SeatState P → WiresState
wires_of s = record { link = s.link; calls_to_fault = s.calls_to_fault; faults = s.faults }

-- a host with these wires, and a worker that has nothing in hand
abbrev pub new_seat : {P : Type 0} → HostModel P → WiresState → SeatState P
new_seat host wires = record { host = host; progress = Free; link = wires.link; calls_to_fault = wires.calls_to_fault; faults = wires.faults }

-- its wires as its host sees them
abbrev pub view_of : {P : Type 0} → SeatState P → WiresView (Option ℕ)
view_of s = wires_view fails_next after_call (Some s.link) s.calls_to_fault s.faults None

-- what its guest sees, where the port shows what is in it
abbrev pub world_of : SeatState PortState → WorldState
world_of s = record { device = s.host.device; progress = s.progress; link = s.link; calls_to_fault = s.calls_to_fault; faults = s.faults }

-- A host of this name runs that never took part in a move, and a piece of its record or of a blob has at most so many bytes. No call on its wires is to
-- fail, and none has failed.
pub record StartsAs (name : HostName) (piece : ℕ) (s : SeatState PortState) : Type 0 where
  pub name_is : s.host.name ≡ name
  pub runs : s.host.stage ≡ Running
  pub top : s.host.top ≡ 0
  pub record_piece : s.host.piece ≡ piece
  pub blob_piece : s.link.emulator.piece ≡ piece
  pub free : s.progress ≡ Free
  pub calls_to_fault : s.calls_to_fault ≡ None
  pub faults : s.faults ≡ 0

-- a host of this name has no guest and never took part in a move, over an emulator without a TPM
pub record IsEmptySeat (name : HostName) (piece : ℕ) (s : SeatState PortState) : Type 0 where
  pub name_is : s.host.name ≡ name
  pub rests : s.host.stage ≡ Empty
  pub top : s.host.top ≡ 0
  pub record_piece : s.host.piece ≡ piece
  pub wires : wires_of s ≡ fresh_wires None piece
  pub free : s.progress ≡ Free
