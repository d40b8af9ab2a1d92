-- How many lines there are.
use Rattle.std.proofs.Common.{◌≡◌, ℕ, zero, suc, ◌+◌, List, [], ◌∷◌, length, refl, arith}
use Rattle.vt_script.specs.declared.drive.DriveLine.{DriveLine}
use Rattle.vt_script.specs.declared.drive.DriveLine.TheVariants.{Cmd, Move, MoveFail}
use Rattle.bulk_lines.specs.Generator.{state_after, drawn_lines, bulk_lines}
use Rattle.bulk_lines.specs.Summaries.{commands_of, moves_of, command_count, move_count}

one_kind : (line : DriveLine) → commands_of line + moves_of line ≡ 1
one_kind (Cmd bytes) = refl
one_kind Move = refl
one_kind (MoveFail message) = refl

pub counted-once : (lines : List DriveLine) → command_count lines + move_count lines ≡ length lines
counted-once [] = refl
counted-once (line ∷ lines) =
    let before : command_count lines + move_count lines ≡ length lines = counted-once lines in
    let one : commands_of line + moves_of line ≡ 1 = one_kind line in
    omega arith

drawn-length : (count at state : ℕ) → length (drawn_lines count at state) ≡ count
drawn-length zero at state = refl
drawn-length (suc count) at state =
    let rest : length (drawn_lines count (at + 1) (state_after state)) ≡ count = drawn-length count (at + 1) (state_after state) in
    omega arith

pub bulk-length : (seed count : ℕ) → length (bulk_lines seed count) ≡ count + 1
bulk-length seed count =
    let rest : length (drawn_lines count 1 seed) ≡ count = drawn-length count 1 seed in
    omega arith
