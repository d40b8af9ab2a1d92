use Rattle.std.proofs.Common.{◌≡◌, ◌++◌, List, length}
use Rattle.vt_script.specs.declared.drive.DriveLine.{DriveLine}
use Rattle.bulk_lines.specs.Summaries.{IsSummaryOf, command_count, move_count}
use Rattle.script_run.specs.Driven.{driven}
use Rattle.script_run.specs.Calls.{HasDriven}
use Rattle.script_run.specs.Run.{latest_first}
use Rattle.script_run.specs.Start.{base_of, default_start}
use Rattle.script_run.proofs.bulk.do_lines.Given as goal

-- the lines so far are done and summed up
abbrev pub invariant-loop-line : goal.invariant-loop-line
invariant-loop-line l = record {
  done : (done : List DriveLine) × (l.fn.lines ≡ latest_first done ++ l.lines) × HasDriven default_start done l.pair × IsSummaryOf l.summary (command_count done) (move_count done) (driven (base_of default_start).tpm done);
}

abbrev pub decreases-loop-line : goal.decreases-loop-line
decreases-loop-line l = length l.lines
