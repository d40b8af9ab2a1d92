-- One more line that is done, and what the lines so far give.
use Rattle.std.proofs.Common.{◌≡◌, ℕ, List, [], ◌∷◌, ◌++◌, length, take, map, refl, ap, sym, subst, ◌∙◌, append_assoc, Some, None, arith}
use Rattle.std.specs.Prelude.{Option}
use Rattle.std.proofs.lemmas.Grind.{common_steps}
use Rattle.std.proofs.lemmas.List.{length-map, take-map, map-append, take_all}
use Rattle.vt_script.specs.declared.drive.DriveLine.{DriveLine}
use Rattle.vt_script.specs.declared.event.Event.{Event as Line}
use Rattle.vt_script.specs.declared.reply.Reply.{Reply}
use Rattle.vt_script.specs.Drive.{drive_of}
use Rattle.vt_script.specs.Script.{lines_of, event_of}
use Rattle.vt_script.specs.Replies.{reply_text}
use Rattle.tpm_core.specs.Answers.{Entry, values_after}
use Rattle.crb_history.specs.Snapshot.{Snapshot}
use Rattle.vt_transcript.specs.Replies.{Transcript, line_of, exchange}
use Rattle.vt_transcript.specs.OneHost.{one_of_transcript}
use Rattle.script_run.specs.Calls.{HasDriven, IsWaiting, Responds}
use Rattle.script_run.specs.Driven.{driven as driven_text, past_of, past_with, written_for}
use Rattle.script_run.specs.Placed.{pieces_of_move, placed_by, placed}
use Rattle.vt_seat.specs.Follows.{Refines}
use Rattle.two_hosts.specs.Hosts.{hosts_after}
use Rattle.two_seats.specs.Both.{TwoSeats, StepsBoth, RunsTo}
use Rattle.vt_world.specs.Pairs.{running_world}
use Rattle.vt_world.specs.State.{PairState}
use Rattle.vt_world.specs.Placement.{first_placement}
use Rattle.vt_world.specs.Movable.{IsMovable}
use Rattle.crb_port.specs.declared.job.PortState.{PortState}
use Rattle.script_run.specs.Start.{base_of}
use Rattle.script_run.specs.declared.start.Start.{Start}
use Rattle.script_run.specs.Run.{meanings, in_order, spelled, texts, RepliesTo, Responses}
use Rattle.script_run.specs.Loop.{HasReplied, HasResponded}

length-in_order : {A B : Type 0} (f : A → B) (t : List A) → length (in_order f t) ≡ length t
length-in_order f [] = refl
length-in_order f (x ∷ t) = grind (arith, common_steps, length-in_order f t)

-- ---- lines in a grammar

module _ {A L : Type 0} (grammar : List ℕ → Option L) (line : A → Option L) where
  -- one more
  pub are-more : (lines : List (List ℕ)) (t : List A) (text : List ℕ) (x : A) → map grammar lines ≡ in_order line t → grammar text ≡ line x → map grammar (lines ++ text ∷ []) ≡ in_order line (x ∷ t)
  are-more lines t text x are is = map-append grammar lines (text ∷ []) ∙ ap (λ ls. ls ++ grammar text ∷ []) are ∙ ap (λ l. in_order line t ++ l ∷ []) is

  pub are-many : (lines : List (List ℕ)) (t : List A) → map grammar lines ≡ in_order line t → length t ≡ length lines
  are-many lines t are = sym (length-in_order line t) ∙ sym (ap length are) ∙ length-map lines grammar

  -- the first of a script
  pub are-first : (script : List ℕ) (lines : List (List ℕ)) (t : List A) (n : ℕ) → lines ≡ take n (lines_of script) → length lines ≡ n → map grammar lines ≡ in_order line t
      → (in_order line t ≡ take (length t) (meanings grammar script)) × (length t ≡ n)
  are-first script lines t n is count are =
      let size : length t ≡ n = are-many lines t are ∙ count in
      (sym are ∙ ap (map grammar) is ∙ sym (take-map grammar n (lines_of script)) ∙ ap (λ k. take k (meanings grammar script)) (sym size), size)

-- all of them
pub all-first : (script : List ℕ) (lines : List (List ℕ)) → lines ≡ lines_of script → (lines ≡ take (length (lines_of script)) (lines_of script)) × (length lines ≡ length (lines_of script))
all-first script lines is = (is ∙ sym (take_all (length (lines_of script)) (lines_of script) (omega arith)), ap length is)

-- ---- replies

pub replied-start : (b : Snapshot) (piece : ℕ) (world : TwoSeats) → RunsTo b piece [] world → HasReplied b piece [] [] world
replied-start b piece world runs = record { transcript = []; are = refl; runs = runs; said = refl }

-- one more line of a replay
pub replied-more : (b : Snapshot) (piece : ℕ) (lines : List (List ℕ)) (output : List ℕ) (old new : TwoSeats) (text : List ℕ) (line : Line) (reply : Reply) (d : HasReplied b piece lines output old) → event_of text ≡ Some line
    → StepsBoth b piece (hosts_after b piece d.transcript) line reply new → HasReplied b piece (lines ++ text ∷ []) (output ++ reply_text reply) new
replied-more b piece lines output old new text line reply d is steps = record {
  transcript = exchange line reply ∷ d.transcript;
  are = are-more event_of line_of lines d.transcript text (exchange line reply) d.are is;
  runs = record { run = record { legal = steps.legal d.runs.run.legal; in_turn = (d.runs.run.in_turn, steps.answers) }; follows = steps.follows };
  said = ap (λ o. o ++ reply_text reply) d.said;
}

-- what the lines so far give
pub replied-gives : (b : Snapshot) (piece : ℕ) (script : List ℕ) (lines : List (List ℕ)) (output : List ℕ) (world : TwoSeats) (n : ℕ) → lines ≡ take n (lines_of script) → length lines ≡ n → HasReplied b piece lines output world → RepliesTo b piece script n output
replied-gives b piece script lines output world n is count d =
    let first = are-first event_of line_of script lines d.transcript n is count d.are in
    (d.transcript, record { lines = first.0; run = d.runs.run }, first.1, d.said)

-- ---- responses

pub responded-gives : (start : Start) (script : List ℕ) (lines : List (List ℕ)) (output : List ℕ) (pair : PairState PortState) (n : ℕ) → lines ≡ take n (lines_of script) → length lines ≡ n → HasResponded start lines output pair → Responses start script n output
responded-gives start script lines output pair n is count d =
    let first = are-first drive_of spelled script lines d.done n is count d.are in
    (d.done, first.0, first.1, d.said)

pub driven-start : (start : Start) (pair : PairState PortState) → Refines (base_of start) [] (running_world pair) → IsMovable start.piece first_placement pair → HasDriven start [] pair
unfolding base_of
driven-start start pair follows movable = record {
  history = [];
  waits = record {
    rest = record { after = record { host = one_of_transcript (base_of start) []; follows = follows; unordered = refl; same = refl; legal = tt }; idle = refl };
    movable = movable;
  };
  past = refl;
}

pub responded-start : (start : Start) (pair : PairState PortState) → HasDriven start [] pair → HasResponded start [] [] pair
responded-start start pair first = record { done = []; are = refl; driven = first; said = refl }

-- one more line, and what is written for it
pub record DrivenOn (start : Start) (lines : List DriveLine) (line : DriveLine) (was now : List ℕ) (pair : PairState PortState) : Type 0 where
  pub driven : HasDriven start (line ∷ lines) pair
  pub appended : now ≡ was ++ written_for (base_of start).tpm (past_of lines) line

pub driven-more : (start : Start) (lines : List DriveLine) (old new : PairState PortState) (line : DriveLine) (was now : List ℕ) (has : HasDriven start lines old) → Responds start has.history (placed start lines) line was now new → DrivenOn start lines line was now new
driven-more start lines old new line was now has responds = record {
  driven = record {
    history = responds.history;
    waits = subst (λ (past : List Entry). IsWaiting start responds.history (placed_by line (pieces_of_move start.piece (values_after (base_of start).tpm past)) (placed start lines)) new) has.past responds.waits;
    past = responds.past ∙ ap (past_with line) has.past;
  };
  appended = responds.appended ∙ ap (λ past. was ++ written_for (base_of start).tpm past line) has.past;
}

-- one more drive line
pub responded-more : (start : Start) (lines : List (List ℕ)) (output : List ℕ) (old new : PairState PortState) (text : List ℕ) (line : DriveLine) (was now : List ℕ) (d : HasResponded start lines output old) → drive_of text ≡ Some line
    → Responds start d.driven.history (placed start d.done) line was now new
    → (added : List ℕ) × (now ≡ was ++ added) × (added ≡ written_for (base_of start).tpm (past_of d.done) line) × HasResponded start (lines ++ text ∷ []) (output ++ added) new
responded-more start lines output old new text line was now d is responds =
    let on = driven-more start d.done old new line was now d.driven responds in (
      written_for (base_of start).tpm (past_of d.done) line,
      on.appended,
      refl,
      record {
        done = line ∷ d.done;
        are = are-more drive_of spelled lines d.done text line d.are is;
        driven = on.driven;
        said = ap (λ o. o ++ written_for (base_of start).tpm (past_of d.done) line) d.said;
      },
    )
