-- Which of the calls to come are to fail, where it is known. A schedule is theirs: `fails` says of it whether the next call is
-- to fail, and `later` gives the schedule after that call. (Own definitions.)
use Rattle.std.specs.Prelude.{ℕ, zero, suc, Bool, false, ◌||◌, if◌then◌else◌}

-- whether one of so many next calls is to fail
abbrev pub fails_within : {P : Type 0} → (P → Bool) → (P → P) → ℕ → P → Bool
fails_within fails later zero schedule = false
fails_within fails later (suc calls) schedule = fails schedule || fails_within fails later calls (later schedule)

-- the schedule after so many calls, or after the first of them that failed
abbrev pub schedule_after : {P : Type 0} → (P → Bool) → (P → P) → ℕ → P → P
schedule_after fails later zero schedule = schedule
schedule_after fails later (suc calls) schedule = if fails schedule then later schedule else schedule_after fails later calls (later schedule)
