-- What lets the guest of two hosts be moved. (Own definitions.)
use Rattle.std.specs.Prelude.{◌≡◌, ◌≤◌, ℕ, false, None}
use Rattle.crb_port.specs.declared.job.PortState.{PortState}
use Rattle.crb_machine.specs.Over.{plain_device}
use Rattle.crb_machine.specs.Steps.{collected}
use Rattle.crb_machine.specs.Values.{DeviceValues, values_at}
use Rattle.device_record.specs.Records.{encode_record}
use Rattle.crb_worker.specs.declared.progress.Progress.TheVariants.{Free}
use Rattle.ctrl_client.specs.Exchange.{IsQuiet}
use Rattle.ctrl_model.specs.Link.{empty_channel}
use Rattle.move_core.specs.declared.stage.MoveStage.TheVariants.{Running}
use Rattle.move_core.specs.Sides.{other, is_active}
use Rattle.hand_over.specs.Bridge.{port_state}
use Rattle.hand_over.specs.Counts.{pieces_of}
use Rattle.vt_seat.specs.State.{WorldState, SeatState}
use Rattle.vt_world.specs.State.{PairState, seat_of}
use Rattle.vt_world.specs.Placement.{Placement, IsPlaced}

-- a piece of its record or of a blob has at most so many bytes
pub record HasPieces (piece : ℕ) (s : SeatState PortState) : Type 0 where
  pub of_record : s.host.piece ≡ piece
  pub of_blobs : s.link.emulator.piece ≡ piece

-- a seat that has no pending command, and none of whose calls on the wires is to fail
pub record IsIdleSeat (s : SeatState PortState) : Type 0 where
  pub free : s.progress ≡ Free
  pub calls_to_fault : s.calls_to_fault ≡ None
  pub quiet : IsQuiet s.link
  pub held : s.link.emulator.held ≡ None
  pub lane : s.link.commands ≡ empty_channel

-- the guest that runs at one seat can be moved to the other one, as far as its own moment allows it
pub record IsMovableTo (piece : ℕ) (source target : SeatState PortState) : Type 0 where
  pub names : target.host.name ≡ other source.host.name
  pub runs : source.host.stage ≡ Running
  pub rests : is_active target.host.stage ≡ false
  pub below : target.host.top ≤ source.host.top
  pub source_pieces : HasPieces piece source
  pub target_pieces : HasPieces piece target
  pub idle : IsIdleSeat target

-- the guest of the two hosts is there, and can be moved from there as far as its own moment allows it
pub record IsMovable (piece : ℕ) (s : Placement) (w : PairState PortState) : Type 0 where
  pub placed : IsPlaced s w
  pub least : 1 ≤ piece
  pub most : piece ≤ 4096
  pub seats : IsMovableTo piece (seat_of s.running w) (seat_of (other s.running) w)

-- ---- how many pieces a move has

-- the values that a stop leaves in a guest's device: an answer that stood was taken back
abbrev pub values_in : WorldState → DeviceValues
values_in w = values_at (collected (plain_device w.device))

-- the pieces of a move of this guest, each of at most so many bytes: its record, and the three blobs of its TPM
abbrev pub pieces_at : ℕ → WorldState → ℕ
pieces_at piece w = pieces_of (record { of_record = piece; of_blob = piece }) (port_state (encode_record (values_in w)) w.link.emulator.tpm)
