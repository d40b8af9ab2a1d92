-- How far the epochs are after so many lines.
use Rattle.std.proofs.Common.{◌≡◌, ◌≤◌, ◌<◌, ◌+◌, ◌-◌, ◌^◌, ℕ, suc, Bool, true, false, List, [], ◌∷◌, length, refl, arith}
use Rattle.std.specs.Prelude.{Option, Some, None, if◌then◌else◌}
use Rattle.crb_port.specs.declared.job.PortState.{PortState}
use Rattle.vt_base.specs.declared.types.HostName.{HostName}
use Rattle.vt_base.specs.declared.types.HostName.TheVariants.{A, B}
use Rattle.hand_over.specs.Arrival.{loses}
use Rattle.vt_script.specs.declared.drive.DriveLine.{DriveLine}
use Rattle.vt_script.specs.declared.drive.DriveLine.TheVariants.{Cmd, Move, MoveFail}
use Rattle.vt_world.specs.State.{PairState}
use Rattle.vt_world.specs.Placement.{Placement, moved, top_of}
use Rattle.script_run.specs.Calls.{CanRespond, HasDriven}
use Rattle.script_run.specs.Placed.{placed, pieces_of_move, tpm_after}
use Rattle.script_run.specs.declared.start.Start.{Start}

record IsWithin (s : Placement) (k : ℕ) : Type 0 where
  pub a : s.top_a ≤ k
  pub b : s.top_b ≤ k

moved-within : (n : ℕ) (lost : Option ℕ) (s : Placement) (k : ℕ) → IsWithin s k → IsWithin (moved n lost s) (suc k)
moved-within n lost s k within = by s.running refl
  where
    seen : (first : Bool) (kept other : ℕ) → kept ≤ k → other ≤ k → (if first then kept else other + 1) ≤ suc k
    seen true kept other kept_small other_small = omega (arith, kept_small)
    seen false kept other kept_small other_small = omega (arith, other_small)

    by : (running : HostName) → s.running ≡ running → IsWithin (moved n lost s) (suc k)
    by A is = record { a = rw is (omega (arith, within.a)); b = rw is (seen (loses lost 1) s.top_b s.top_a within.b within.a) }
    by B is = record { a = rw is (seen (loses lost 1) s.top_a s.top_b within.a within.b); b = rw is (omega (arith, within.b)) }

placed-within : (start : Start) (lines : List DriveLine) → IsWithin (placed start lines) (length lines)
placed-within start [] = record { a = omega arith; b = omega arith }
placed-within start (Cmd command ∷ lines) = let within = placed-within start lines in record { a = omega (arith, within.a); b = omega (arith, within.b) }
placed-within start (Move ∷ lines) = moved-within (pieces_of_move start.piece (tpm_after start lines)) None (placed start lines) (length lines) (placed-within start lines)
placed-within start (MoveFail message ∷ lines) = moved-within (pieces_of_move start.piece (tpm_after start lines)) (Some message) (placed start lines) (length lines) (placed-within start lines)

-- so a further line can be done
pub can-respond : (start : Start) (lines : List DriveLine) (pair : PairState PortState) → HasDriven start lines pair → length lines < 2 ^ 64 - 1 → CanRespond pair
can-respond start lines pair driven within_limit = record {
  start = start;
  history = driven.history;
  placement = placed start lines;
  waits = driven.waits;
  more = by (placed start lines).running;
}
  where
    by : (name : HostName) → top_of name (placed start lines) < 2 ^ 64 - 1
    by A = omega (arith, within_limit, (placed-within start lines).a)
    by B = omega (arith, within_limit, (placed-within start lines).b)
