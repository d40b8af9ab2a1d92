-- What a run hands out. (Own definitions.)
use Rattle.std.specs.Prelude.{◌≡◌, ℕ, List, length}
use Rattle.vt_base.specs.declared.status.Status.{Status}
use Rattle.vt_base.specs.declared.status.Status.TheVariants.{Ok}
use Rattle.vt_script.specs.Drive.{drive_of}
use Rattle.vt_script.specs.declared.drive.DriveLine.{DriveLine}
use Rattle.bulk_lines.specs.Generator.{bulk_lines}
use Rattle.crb_port.specs.declared.job.PortState.{PortState}
use Rattle.crb_history.specs.Snapshot.{Snapshot}
use Rattle.vt_transcript.specs.Replies.{Transcript}
use Rattle.two_hosts.specs.Hosts.{hosts_after}
use Rattle.two_seats.specs.Both.{TwoSeats, FollowsBoth}
use Rattle.vt_script.specs.Script.{lines_of}
use Rattle.vt_world.specs.State.{PairState}
use Rattle.script_run.specs.Calls.{HasDriven}
use Rattle.script_run.specs.Placed.{HaveDriven}
use Rattle.script_run.specs.Run.{IsRunOf, meanings, in_order, spelled, latest_first}
use Rattle.script_run.specs.Saved.{Resumption}
use Rattle.script_run.specs.Start.{base_of, default_start}
use Rattle.script_run.specs.declared.start.Start.{Start}
use Rattle.script_run.specs.declared.action.Action.{Action}
use Rattle.script_run.specs.declared.action.Action.TheVariants.{Replay, Drive, Suspend, Resume, Check}
use Rattle.script_run.specs.declared.ran.End.{End}
use Rattle.script_run.specs.declared.ran.End.TheVariants.{Nothing, World, Pair}

-- this is handed out where a run ended well, and else nothing
abbrev pub end_by : Status → End → End
end_by Ok end = end
end_by _ end = Nothing

-- where a run ends well it hands out hosts of which this is so, and else nothing
abbrev pub HandsOut : (End → Type 0) → Status → End → Type 0
HandsOut Hands Ok end = Hands end
HandsOut Hands _ end = end ≡ Nothing

-- The two hosts that did all drive lines: they are placed so, and the guest waits for its next command. So a caller can have a driver do
-- one, or move the guest.
pub record HandsPair (start : Start) (AreAll : List DriveLine → Type 0) (end : End) : Type 0 where
  pub lines : List DriveLine
  pub pair : PairState PortState
  pub is : end ≡ Pair pair
  pub all : AreAll lines
  pub driven : HaveDriven start lines pair
  pub waits : HasDriven start lines pair

-- The world that did all lines of a script from these values on: each of its two hosts and the messages between them are where the
-- one run of these lines leads.
pub record HandsWorld (b : Snapshot) (piece : ℕ) (script : List ℕ) (end : End) : Type 0 where
  pub transcript : Transcript
  pub world : TwoSeats
  pub is : end ≡ World world
  pub run : IsRunOf b piece script transcript
  pub all : length transcript ≡ length (lines_of script)
  pub follows : FollowsBoth b piece (hosts_after b piece transcript) world

-- the world of a run that goes on from a saved stream
pub record HandsResumed (piece : ℕ) (input : List ℕ) (end : End) : Type 0 where
  pub from : Resumption input
  pub hands : HandsWorld from.base piece from.script end

-- these are all lines of a script, the latest first
abbrev pub AreDriveLines : List ℕ → List DriveLine → Type 0
AreDriveLines script lines = in_order spelled lines ≡ meanings drive_of script

-- what an action hands out
abbrev pub EndOf : Action → List ℕ → Status → End → Type 0
EndOf (Replay start) input status end = HandsOut (HandsWorld (base_of start) start.piece input) status end
EndOf (Resume piece) input status end = HandsOut (HandsResumed piece input) status end
EndOf (Drive start) input status end = HandsOut (HandsPair start (AreDriveLines input)) status end
EndOf (Suspend start) input status end = end ≡ Nothing
EndOf Check input status end = end ≡ Nothing

abbrev pub IsWorld : End → Type 0
IsWorld end = (world : TwoSeats) × (end ≡ World world)

abbrev pub IsPair : End → Type 0
IsPair end = (pair : PairState PortState) × (end ≡ Pair pair)

-- whatever the input, an action hands out hosts exactly where it ends well, and of its own kind
abbrev pub HasEnd : Action → Status → End → Type 0
HasEnd (Replay start) status end = HandsOut IsWorld status end
HasEnd (Resume piece) status end = HandsOut IsWorld status end
HasEnd (Drive start) status end = HandsOut IsPair status end
HasEnd (Suspend start) status end = end ≡ Nothing
HasEnd Check status end = end ≡ Nothing

-- what `bulk` hands out
abbrev pub BulkEnd : ℕ → ℕ → Status → End → Type 0
BulkEnd seed count status end = HandsOut (HandsPair default_start (λ lines. lines ≡ latest_first (bulk_lines seed count))) status end
