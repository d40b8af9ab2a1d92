-- The lines of `bulk N COUNT`. (Own definitions.)
use Rattle.std.specs.Prelude.{ℕ, zero, suc, ◌+◌, ◌*◌, ◌/◌, ◌%◌, ◌^◌, ◌==◌, if◌then◌else◌, List, [], ◌∷◌}
use Rattle.vt_base.specs.Numbers.{long}
use Rattle.sha2.specs.Sha256.{sha256}
use Rattle.vt_script.specs.declared.drive.DriveLine.{DriveLine}
use Rattle.vt_script.specs.declared.drive.DriveLine.TheVariants.{Cmd, Move, MoveFail}
use Rattle.bulk_lines.specs.Numbers.{multiplier, increment}
use Rattle.bulk_lines.specs.Commands.{startup, get_random, pcr_read, pcr_extend}

-- the state after one draw
abbrev pub state_after : ℕ → ℕ
state_after state = (state * multiplier + increment) % 2 ^ 64

-- the value that a draw gives, by the state after it
abbrev pub drawn : ℕ → ℕ
drawn state = state / 2 ^ 33

-- a move, of which a message is lost or not
abbrev pub moving_line : ℕ → DriveLine
moving_line quotient = if quotient % 2 == 0 then Move else MoveFail (1 + quotient / 2 % 12)

-- the line of this number, by the remainder and the quotient of the value drawn for it by 4; an extend has the digest of the number
abbrev pub line_by : ℕ → ℕ → ℕ → DriveLine
line_by at remainder quotient =
    if remainder == 0 then Cmd (pcr_extend (quotient % 16) (sha256 (long at)))
    else (if remainder == 1 then Cmd (pcr_read (quotient % 24))
    else (if remainder == 2 then Cmd (get_random (quotient % 40))
    else moving_line quotient))

-- the line of this number, by the value drawn for it
unfoldable pub drawn_line : ℕ → ℕ → DriveLine
drawn_line at value = line_by at (value % 4) (value / 4)

-- so many lines from a number and a state on
abbrev pub drawn_lines : ℕ → ℕ → ℕ → List DriveLine
drawn_lines zero at state = []
drawn_lines (suc count) at state = drawn_line at (drawn (state_after state)) ∷ drawn_lines count (at + 1) (state_after state)

-- line 0
unfoldable pub first_line : DriveLine
first_line = Cmd startup

-- all lines: line 0, and then as many as are drawn, from the seed on
abbrev pub bulk_lines : ℕ → ℕ → List DriveLine
bulk_lines seed count = first_line ∷ drawn_lines count 1 seed

-- the lines that are left where the next has this number
abbrev pub lines_left : ℕ → ℕ → ℕ → List DriveLine
lines_left at count state = if at == 0 then bulk_lines state count else drawn_lines count at state
