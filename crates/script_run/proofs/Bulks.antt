-- The lines of `bulk`, one after the other.
use Rattle.std.proofs.Common.{◌≡◌, ℕ, zero, suc, ◌+◌, ◌≤◌, List, [], ◌∷◌, ◌++◌, length, refl, ap, sym, subst, ◌∙◌, append_assoc, arith}
use Rattle.std.proofs.lemmas.Grind.{common_steps}
use Rattle.std.proofs.lemmas.List.{length-append, append-nil}
use Rattle.vt_script.specs.declared.drive.DriveLine.{DriveLine}
use Rattle.vt_script.specs.declared.drive.DriveLine.TheVariants.{Cmd, Move, MoveFail}
use Rattle.bulk_lines.specs.Generator.{bulk_lines, drawn_lines, state_after}
use Rattle.bulk_lines.specs.Summaries.{IsSummaryOf, commands_of, moves_of, command_count, move_count}
use Rattle.bulk_lines.specs.declared.summary.Summary.{Summary}
use Rattle.vt_world.specs.State.{PairState}
use Rattle.crb_port.specs.declared.job.PortState.{PortState}
use Rattle.script_run.specs.Driven.{driven, past_of, written_for}
use Rattle.script_run.specs.Start.{base_of}
use Rattle.script_run.specs.declared.start.Start.{Start}
use Rattle.script_run.proofs.Prefixes.{DrivenOn}
use Rattle.script_run.specs.Run.{latest_first}

length-latest_first : {A : Type 0} (xs : List A) → length (latest_first xs) ≡ length xs
length-latest_first [] = refl
length-latest_first (x ∷ xs) = length-append (latest_first xs) (x ∷ []) ∙ grind (arith, common_steps, length-latest_first xs)

-- a list whose last entry is put first
latest-behind : {A : Type 0} (xs : List A) (x : A) → latest_first (xs ++ x ∷ []) ≡ x ∷ latest_first xs
latest-behind [] x = refl
latest-behind (y ∷ xs) x = ap (λ zs. zs ++ y ∷ []) (latest-behind xs x)

latest-twice : {A : Type 0} (xs : List A) → latest_first (latest_first xs) ≡ xs
latest-twice [] = refl
latest-twice (x ∷ xs) = latest-behind (latest_first xs) x ∙ ap (λ zs. x ∷ zs) (latest-twice xs)

-- one more is done
pub done-one : (all done left rest : List DriveLine) (line : DriveLine) → all ≡ latest_first done ++ left → left ≡ line ∷ rest → all ≡ latest_first (line ∷ done) ++ rest
done-one all done left rest line is cut = is ∙ ap (λ ls. latest_first done ++ ls) cut ∙ sym (append_assoc (latest_first done) (line ∷ []) rest)

-- none is left
pub done-all : (all done left : List DriveLine) → all ≡ latest_first done ++ left → left ≡ [] → done ≡ latest_first all
done-all all done left is none = sym (ap latest_first (is ∙ ap (λ ls. latest_first done ++ ls) none ∙ append-nil (latest_first done)) ∙ latest-twice done)

-- each line is counted
pub counts-is : (lines : List DriveLine) → command_count lines + move_count lines ≡ length lines
counts-is [] = refl
counts-is (Cmd bytes ∷ lines) = omega (arith, counts-is lines)
counts-is (Move ∷ lines) = omega (arith, counts-is lines)
counts-is (MoveFail message ∷ lines) = omega (arith, counts-is lines)

-- so the counts are small
pub counts-small : (all done left : List DriveLine) → all ≡ latest_first done ++ left → length all ≤ 100001 → command_count done + move_count done ≤ 100001
counts-small all done left is within_limit = omega (arith, within_limit, counts-is done, length-latest_first done, ap length is ∙ length-append (latest_first done) left)

length-drawn : (count at state : ℕ) → length (drawn_lines count at state) ≡ count
length-drawn zero at state = refl
length-drawn (suc count) at state = omega (arith, length-drawn count (at + 1) (state_after state))

pub length-bulk : (seed count : ℕ) → length (bulk_lines seed count) ≡ count + 1
length-bulk seed count = omega (arith, length-drawn count 1 seed)

-- one more line is summed up with what is written for it
pub summed-more : (start : Start) (done : List DriveLine) (line : DriveLine) (was now text : List ℕ) (pair : PairState PortState) (sum : Summary) → was ≡ [] → text ≡ now → (on : DrivenOn start done line was now pair)
    → IsSummaryOf sum (command_count done + commands_of line) (move_count done + moves_of line) (driven (base_of start).tpm done ++ text) → IsSummaryOf sum (command_count (line ∷ done)) (move_count (line ∷ done)) (driven (base_of start).tpm (line ∷ done))
summed-more start done line was now text pair sum none same on summed =
    let output : driven (base_of start).tpm done ++ text ≡ driven (base_of start).tpm (line ∷ done) = ap (λ t. driven (base_of start).tpm done ++ t) (same ∙ on.appended ∙ ap (λ w. w ++ written_for (base_of start).tpm (past_of done) line) none) in
    subst (λ (o : List ℕ). IsSummaryOf sum (command_count done + commands_of line) (move_count done + moves_of line) o) output summed
