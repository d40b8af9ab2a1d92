-- Where drive lines leave the guest. (Own definitions.)
use Rattle.std.specs.Prelude.{◌≡◌, ℕ, List, [], ◌∷◌, Some, None}
use Rattle.crb_port.specs.declared.job.PortState.{PortState}
use Rattle.tpm_core.specs.declared.parts.TpmParts.{TpmParts}
use Rattle.tpm_core.specs.Answers.{values_after}
use Rattle.vt_script.specs.declared.drive.DriveLine.{DriveLine}
use Rattle.vt_script.specs.declared.drive.DriveLine.TheVariants.{Cmd, Move, MoveFail}
use Rattle.vt_world.specs.State.{PairState, seat_of}
use Rattle.vt_world.specs.Placement.{Placement, first_placement, moved, pieces_by, IsPlaced}
use Rattle.script_run.specs.Driven.{past_of}
use Rattle.script_run.specs.Start.{base_of}
use Rattle.script_run.specs.declared.start.Start.{Start}

-- the pieces of a move with this TPM, each of at most so many bytes: of a record of 23 bytes, in which no command is prepared, and of the three blobs
abbrev pub pieces_of_move : ℕ → TpmParts → ℕ
pieces_of_move piece t = pieces_by piece 23 t

-- where a line leaves the guest, by the pieces of a move before it
abbrev pub placed_by : DriveLine → ℕ → Placement → Placement
placed_by (Cmd command) pieces s = s
placed_by Move pieces s = moved pieces None s
placed_by (MoveFail message) pieces s = moved pieces (Some message) s

-- the TPM after these lines, the latest of which comes first
abbrev pub tpm_after : Start → List DriveLine → TpmParts
tpm_after start lines = values_after (base_of start).tpm (past_of lines)

-- where these lines leave the guest, the latest of which comes first
abbrev pub placed : Start → List DriveLine → Placement
placed start [] = first_placement
placed start (line ∷ lines) = placed_by line (pieces_of_move start.piece (tpm_after start lines)) (placed start lines)

-- The two hosts after these lines: one of them runs, both have seen the epochs of the moves, and the TPM behind the wires of the running one executed
-- the commands.
pub record HaveDriven (start : Start) (lines : List DriveLine) (pair : PairState PortState) : Type 0 where
  pub placement : IsPlaced (placed start lines) pair
  pub tpm : (seat_of (placed start lines).running pair).link.emulator.tpm ≡ Some (tpm_after start lines)
