-- Where the loops over the lines stand.
use Rattle.std.specs.Prelude.{◌≡◌, ◌≢◌, ◌⊎◌, ℕ, Bool, List, [], ◌++◌, map, Option, Some, IsTrue}
use Rattle.vt_base.specs.declared.status.Status.{Status}
use Rattle.vt_base.specs.declared.status.Status.TheVariants.{Ok, Memory, NotYet}
use Rattle.crb_port.specs.declared.job.PortState.{PortState}
use Rattle.vt_base.specs.declared.types.HostName.TheVariants.{A}
use Rattle.crb_history.specs.Event.{History}
use Rattle.crb_history.specs.Snapshot.{Snapshot}
use Rattle.vt_transcript.specs.Replies.{Transcript, IsRun, line_of}
use Rattle.vt_script.specs.Drive.{drive_of}
use Rattle.vt_script.specs.Script.{event_of}
use Rattle.vt_script.specs.declared.drive.DriveLine.{DriveLine}
use Rattle.vt_script.specs.declared.event.Event.{Event as Line}
use Rattle.vt_transcript.specs.OneHost.{one_of_transcript}
use Rattle.vt_transcript.specs.Plain.{ArePlain}
use Rattle.script_run.specs.Saved.{plain_event_of, not_yet_text}
use Rattle.script_run.specs.Calls.{HasDriven}
use Rattle.script_run.specs.Driven.{driven as driven_text}
use Rattle.script_run.specs.Start.{base_of}
use Rattle.script_run.specs.declared.start.Start.{Start}
use Rattle.script_run.specs.declared.replay.Replayer.{Replayer}
use Rattle.script_run.specs.declared.drive.DrivenPair.{DrivenPair}
use Rattle.script_run.specs.declared.suspend.SuspendedWorld.{SuspendedWorld}
use Rattle.vt_world.specs.State.{PairState}
use Rattle.two_hosts.specs.Hosts.{TwoHosts, first_hosts}
use Rattle.two_seats.specs.Both.{TwoSeats, FollowsBoth, RunsTo, one_of, running_of}
use Rattle.vt_seat.specs.Follows.{Refines}
use Rattle.vt_seat.specs.Seats.{world_of}
use Rattle.vt_seat.specs.Saving.{Saves}
use Rattle.vt_seat.specs.declared.saving.Saved.TheVariants as saved
use Rattle.script_run.specs.Output.{SinkView, Finishes, FinishesAlone}
use Rattle.script_run.specs.Run.{in_order, spelled, texts}

-- replies were given to these lines, and they lead the world here
pub record HasReplied (b : Snapshot) (piece : ℕ) (lines : List (List ℕ)) (output : List ℕ) (world : TwoSeats) : Type 0 where
  pub transcript : Transcript
  pub are : map event_of lines ≡ in_order line_of transcript
  pub runs : RunsTo b piece transcript world
  pub said : output ≡ texts transcript

-- whatever values the host began with
abbrev pub Replies : Replayer → List (List ℕ) → List ℕ → Replayer → Type 0
Replies first lines output now = (b : Snapshot) (piece : ℕ) → FollowsBoth b piece (first_hosts b) first.world → HasReplied b piece lines output now.world

-- the commands of these lines were executed, and their responses were given
pub record HasResponded (start : Start) (lines : List (List ℕ)) (output : List ℕ) (pair : PairState PortState) : Type 0 where
  pub done : List DriveLine
  pub are : map drive_of lines ≡ in_order spelled done
  pub driven : HasDriven start done pair
  pub said : output ≡ driven_text (base_of start).tpm done

abbrev pub Drives : DrivenPair → List (List ℕ) → List ℕ → DrivenPair → Type 0
Drives first lines output now = (now.start ≡ first.start) × HasResponded first.start lines output now.pair

-- These lines are done, which are the guest's alone: host A is where their history leads, and both hosts are where the same is known of A.
pub record HasSuspended (start : Start) (lines : List (List ℕ)) (world : TwoSeats) : Type 0 where
  pub done : List Line
  pub transcript : Transcript
  pub are : map plain_event_of lines ≡ in_order Some done
  pub plain : ArePlain done
  pub same : map line_of transcript ≡ map Some done
  pub run : IsRun (base_of start) transcript
  pub follows : Refines (base_of start) transcript (world_of world.a)
  pub hosts : TwoHosts
  pub same_host : one_of hosts A ≡ one_of_transcript (base_of start) transcript
  pub both : FollowsBoth (base_of start) start.piece hosts world
  pub here : running_of world ≡ Some A

abbrev pub Suspends : SuspendedWorld → List (List ℕ) → List ℕ → SuspendedWorld → Type 0
Suspends first lines output now = (now.start ≡ first.start) × (output ≡ []) × HasSuspended first.start lines now.world

-- ---- the end of a suspension

-- the saved stream is written, or the number of the command that is claimed and unfinished, or for lack of memory nothing
abbrev pub WritesSaved : Snapshot → History → Status → SinkView → SinkView → Type 0
WritesSaved b p status old new =
    ((stream : List ℕ) × Saves b p saved.Whole [] stream × Finishes Ok (stream ++ []) status old new)
    ⊎ (((number : ℕ) × (stream : List ℕ) × Saves b p (saved.NotYet number) [] stream × FinishesAlone NotYet (not_yet_text number) status old new)
    ⊎ ((status ≡ Memory) × (new ≡ old)))
