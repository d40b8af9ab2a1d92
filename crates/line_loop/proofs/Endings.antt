-- What is written when the loop over the lines ends.
use Rattle.std.proofs.Common.{◌≡◌, ℕ, ◌+◌, true, false, List, [], ◌++◌, refl, ap, sym, subst, ◌∙◌, append_assoc, inl, inr, Option}
use Rattle.std.proofs.lemmas.List.{append-nil}
use Rattle.vt_base.specs.declared.status.Status.{Status}
use Rattle.vt_base.specs.declared.status.Status.TheVariants.{Script, ReadFault, WriteFault, Memory, Limit}
use lib.Chars.{codes}
use Rattle.vt_script.specs.Replies.{numbered}
use Rattle.line_loop.specs.Output.{SinkView, Wrote, Breaks, Finishes, Flushes, FinishesBehind, HasWritten}
use Rattle.line_loop.specs.Inputs.{InputReading, PrintsFault, Leaves}
use Rattle.line_loop.proofs.Writing.{wrote-nothing, wrote-more, breaks-longer, breaks-behind}

-- an error is no success
pub failed : false ≡ true → ⊥
failed is = cc

-- a text that wasn't written, wherever the writing ended
pub finishes-first : (status : Status) (a b : SinkView) (pending text : List ℕ) → Breaks a b pending → Finishes status (pending ++ text) WriteFault a b
finishes-first status a b pending text broken = inr (refl, breaks-longer a b pending text broken)

pub finishes-next : (status : Status) (a b c : SinkView) (pending text : List ℕ) → Wrote a b pending → Breaks b c text → Finishes status (pending ++ text) WriteFault a c
finishes-next status a b c pending text first broken = inr (refl, breaks-behind a b c pending text first broken)

-- nothing was begun
pub leaves-nothing : (a : SinkView) (r : InputReading) (left : Option (List ℕ)) → Leaves Memory r left a a
leaves-nothing a r left = ([], wrote-nothing a, inl refl)

-- what is written so far, and what is written then
written-more : (a b c : SinkView) (pending text output : List ℕ) (w : HasWritten a b pending output) → Wrote b c (pending ++ text) → Wrote a c (output ++ text)
written-more a b c pending text output w more =
    let joined : w.written ++ (pending ++ text) ≡ output ++ text = sym (append_assoc w.written pending text) ∙ ap (λ z. z ++ text) w.parts in
    subst (λ (z : List ℕ). Wrote a c z) joined (wrote-more a b c w.written (pending ++ text) w.wrote more)

written-prefix : (a b c : SinkView) (pending text output : List ℕ) (w : HasWritten a b pending output) → Breaks b c (pending ++ text) → Breaks a c (output ++ text)
written-prefix a b c pending text output w broken =
    let joined : w.written ++ (pending ++ text) ≡ output ++ text = sym (append_assoc w.written pending text) ∙ ap (λ z. z ++ text) w.parts in
    subst (λ (z : List ℕ). Breaks a c z) joined (breaks-behind a b c w.written (pending ++ text) w.wrote broken)

-- the first n lines gave this output, of which some is pending
module _ (r : InputReading) (left : Option (List ℕ)) (a b c : SinkView) (n : ℕ) (pending output : List ℕ) (gives : r.Gives n output) (w : HasWritten a b pending output) where
  -- what is pending can't be written
  leaves-broken : Breaks b c (pending ++ []) → Leaves WriteFault r left a c
  leaves-broken broken =
      let all = written-prefix a b c pending [] output w broken in
      (output ++ [], inl (n, rw (append-nil output) gives), all)

  -- lack of memory
  pub leaves-memory : (result : Status) → Finishes Memory (pending ++ []) result b c → Leaves result r left a c
  leaves-memory result (inl (is, more)) = rw is (output ++ [], written-more a b c pending [] output w more, inr (n, rw (append-nil output) gives))
  leaves-memory result (inr (is, broken)) = rw is (leaves-broken broken)

  -- a line isn't in the grammar
  pub leaves-bad : (number : ℕ) (result : Status) → r.IsBad n → number ≡ n + 1 → FinishesBehind Script pending (numbered (codes "bad line ") number) result b c → Leaves result r left a c
  leaves-bad number result bad count (inl finishes) = leaves-memory result finishes
  leaves-bad number result bad count (inr (inl (is, more))) =
      rw is (
        output ++ numbered (codes "bad line ") number,
        written-more a b c pending (numbered (codes "bad line ") number) output w more,
        (n, output, gives, bad, ap (λ m. output ++ numbered (codes "bad line ") m) count),
      )
  leaves-bad number result bad count (inr (inr (is, broken))) =
      let all = written-prefix a b c pending (numbered (codes "bad line ") number) output w broken in
      rw is (
        output ++ numbered (codes "bad line ") number,
        inr (inl (n, output, gives, bad, ap (λ m. output ++ numbered (codes "bad line ") m) count)),
        all,
      )

  -- a limit is passed
  pub leaves-passed : (text : List ℕ) (result : Status) → r.PassesLimit n text → Finishes Limit (pending ++ text) result b c → Leaves result r left a c
  leaves-passed text result passes (inl (is, more)) = rw is (output ++ text, written-more a b c pending text output w more, (n, output, text, gives, passes, refl))
  leaves-passed text result passes (inr (is, broken)) =
      let all = written-prefix a b c pending text output w broken in
      rw is (output ++ text, inr (inr (inl (n, output, text, gives, passes, refl))), all)

  pub leaves-limit : (text : List ℕ) (result : Status) → r.PassesLimit n text → FinishesBehind Limit pending text result b c → Leaves result r left a c
  leaves-limit text result passes (inl finishes) = leaves-memory result finishes
  leaves-limit text result passes (inr finishes) = leaves-passed text result passes finishes

  -- a read failed
  pub leaves-fault : (result : Status) → PrintsFault r left output → Finishes ReadFault (pending ++ []) result b c → Leaves result r left a c
  leaves-fault result faults (inl (is, more)) = rw is (output ++ [], written-more a b c pending [] output w more, rw (append-nil output) faults)
  leaves-fault result faults (inr (is, broken)) = rw is (leaves-broken broken)

  -- what is pending can't be written while lines go on
  pub leaves-unflushed : Breaks b c pending → Leaves WriteFault r left a c
  leaves-unflushed broken =
      let all = breaks-behind a b c w.written pending w.wrote broken in
      (output, inl (n, gives), subst (λ (z : List ℕ). Breaks a c z) w.parts all)

-- one more text is pending
pub pends-more : (a b : SinkView) (pending now text output : List ℕ) → HasWritten a b pending output → now ≡ pending ++ text → HasWritten a b now (output ++ text)
pends-more a b pending now text output w more = record {
  written = w.written;
  wrote = w.wrote;
  parts = ap (λ z. w.written ++ z) more ∙ sym (append_assoc w.written pending text) ∙ ap (λ z. z ++ text) w.parts;
}

-- what was pending is written, but for what is pending still
pub pends-less : (a b c : SinkView) (pending after output : List ℕ) → HasWritten a b pending output → Flushes b c pending after → HasWritten a c after output
pends-less a b c pending after output w flushes = record {
  written = w.written ++ flushes.0;
  wrote = wrote-more a b c w.written flushes.0 w.wrote flushes.1;
  parts = append_assoc w.written flushes.0 after ∙ ap (λ z. w.written ++ z) flushes.2 ∙ w.parts;
}

-- nothing is pending where nothing was to be written
pub nothing-written : (a : SinkView) → HasWritten a a [] []
nothing-written a = record { written = []; wrote = wrote-nothing a; parts = refl }

-- what was written is all, where nothing is pending
pub all-written : (a b : SinkView) (pending output : List ℕ) → pending ≡ [] → HasWritten a b pending output → Wrote a b output
all-written a b pending output none w = subst (λ (z : List ℕ). Wrote a b z) (sym (append-nil w.written) ∙ ap (λ z. w.written ++ z) (sym none) ∙ w.parts) w.wrote
