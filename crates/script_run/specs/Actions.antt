-- What each action makes of its input.
use Rattle.std.specs.Prelude.{ℕ, List}
use Rattle.script_run.specs.declared.action.Action.{Action}
use Rattle.script_run.specs.declared.action.Action.TheVariants.{Replay, Drive, Suspend, Resume, Check}
use Rattle.script_run.specs.Run.{InputReading, replayed, driven_by}
use Rattle.script_run.specs.Saved.{suspended, resumed, checked}

-- the input as the action reads it
abbrev pub reading_of : Action → List ℕ → InputReading
reading_of (Replay start) input = replayed start input
reading_of (Drive start) input = driven_by start input
reading_of (Suspend start) input = suspended start input
reading_of (Resume piece) input = resumed piece input
reading_of Check input = checked input
