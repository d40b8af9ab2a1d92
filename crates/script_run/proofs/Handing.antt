-- What a run hands out.
use Rattle.std.proofs.Common.{◌≡◌, ◌≢◌, ℕ, List, [], ◌++◌, length, refl, ap, sym, ◌∙◌, Some, inl, inr}
use Rattle.std.proofs.lemmas.List.{append-nil}
use Rattle.vt_base.specs.declared.status.Status.{Status}
use Rattle.vt_base.specs.declared.status.Status.TheVariants.{Ok, Script, ReadFault, WriteFault, Memory, Limit, Refused}
use Rattle.tpm_core.specs.Answers.{values_after}
use Rattle.vt_script.specs.Drive.{drive_of}
use Rattle.vt_script.specs.declared.drive.DriveLine.{DriveLine}
use Rattle.vt_seat.specs.State.{WorldState}
use Rattle.vt_world.specs.Pairs.{running_world}
use Rattle.vt_world.specs.State.{PairState}
use Rattle.crb_port.specs.declared.job.PortState.{PortState}
use Rattle.crb_history.specs.Snapshot.{Snapshot}
use Rattle.vt_transcript.specs.Replies.{Transcript, line_of}
use Rattle.vt_script.specs.Script.{event_of, lines_of}
use Rattle.two_seats.specs.Both.{TwoSeats}
use Rattle.script_run.specs.Ends.{HandsOut, HandsPair, AreDriveLines, HandsWorld, HandsResumed, EndOf, HasEnd, IsWorld, IsPair, end_by}
use Rattle.script_run.specs.Saved.{Resumption}
use Rattle.script_run.specs.Placed.{HaveDriven, placed}
use Rattle.script_run.specs.Calls.{HasDriven}
use Rattle.script_run.specs.Loop.{HasReplied}
use Rattle.script_run.specs.Output.{SinkView, Finishes, FinishesAlone}
use Rattle.script_run.specs.Run.{in_order, meanings, spelled}
use Rattle.script_run.specs.Start.{base_of}
use Rattle.script_run.specs.declared.start.Start.{Start}
use Rattle.script_run.specs.declared.action.Action.{Action}
use Rattle.script_run.specs.declared.action.Action.TheVariants.{Replay, Drive, Suspend, Resume, Check}
use Rattle.script_run.proofs.Guests.{world-of-running, tpm-known}
use Rattle.script_run.proofs.Prefixes.{are-first, all-first}
use Rattle.script_run.specs.declared.ran.End.{End}
use Rattle.script_run.specs.declared.ran.End.TheVariants.{Nothing, World, Pair}

-- a run that didn't end well hands out nothing
pub early-out : (Hands : End → Type 0) (status : Status) (end : End) → status ≢ Ok → HandsOut Hands status (end_by status end)
early-out Hands Ok end not_ok = absurd (not_ok refl)
early-out Hands _ end not_ok = refl

-- a run that did all lines hands out its hosts where it ended well
pub all-out : (Hands : End → Type 0) (status : Status) (end : End) → Hands end → HandsOut Hands status (end_by status end)
all-out Hands Ok end hands = hands
all-out Hands _ end hands = refl

-- nothing is handed out where a run didn't end well
pub nothing-out : (Hands : End → Type 0) (status : Status) → status ≢ Ok → HandsOut Hands status Nothing
nothing-out Hands Ok not_ok = absurd (not_ok refl)
nothing-out Hands _ not_ok = refl

-- less is known of what is handed out
hands-less : (More Less : End → Type 0) (status : Status) (end : End) → ((e : End) → More e → Less e) → HandsOut More status end → HandsOut Less status end
hands-less More Less Ok end less hands = less end hands
hands-less More Less _ end less none = none

-- the hosts that did these lines are those that are handed out
pub have-driven : (start : Start) (lines : List DriveLine) (pair : PairState PortState) → HasDriven start lines pair → HaveDriven start lines pair
have-driven start lines pair driven =
    let placement = driven.waits.movable.placed in
    let same = world-of-running pair (placed start lines).running placement.running in
    record {
      placement = placement;
      tpm = ap (λ (w : WorldState). w.link.emulator.tpm) (sym same) ∙ tpm-known (base_of start) driven.history (running_world pair) driven.waits.rest ∙ ap (λ past. Some (values_after (base_of start).tpm past)) driven.past;
    }

pub hands-pair : (start : Start) (AreAll : List DriveLine → Type 0) (lines : List DriveLine) (pair : PairState PortState) → AreAll lines → HasDriven start lines pair → HandsPair start AreAll (Pair pair)
hands-pair start AreAll lines pair all driven = record { lines = lines; pair = pair; is = refl; all = all; driven = have-driven start lines pair driven; waits = driven }

-- ---- a world

-- the world that did all lines is the one that is handed out
pub hands-world : (b : Snapshot) (piece : ℕ) (script : List ℕ) (lines : List (List ℕ)) (output : List ℕ) (world : TwoSeats) → lines ≡ lines_of script → HasReplied b piece lines output world → HandsWorld b piece script (World world)
hands-world b piece script lines output world is d =
    let all = all-first script lines is in
    let first = are-first event_of line_of script lines d.transcript (length (lines_of script)) all.0 all.1 d.are in
    record {
      transcript = d.transcript;
      world = world;
      is = refl;
      run = record { lines = first.0; run = d.runs.run };
      all = first.1;
      follows = d.runs.follows;
    }

-- what goes on from the start of an input
pub resumed-hands : (piece : ℕ) (input : List ℕ) (from : Resumption input) (status : Status) (end : End) → HandsOut (HandsWorld from.base piece from.script) status end → HandsOut (HandsResumed piece input) status end
resumed-hands piece input from Ok end hands = record { from = from; hands = hands }
resumed-hands piece input from _ end none = none

-- a refusal hands out nothing
pub refused-hands : (piece : ℕ) (input : List ℕ) (text : List ℕ) (status : Status) (a b : SinkView) → FinishesAlone Refused text status a b → HandsOut (HandsResumed piece input) status Nothing
refused-hands piece input text status a b (inl (is, same)) = rw is refl
refused-hands piece input text status a b (inr (inl (is, wrote))) = rw is refl
refused-hands piece input text status a b (inr (inr (is, broken))) = rw is refl
