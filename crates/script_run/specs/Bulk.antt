-- What `bulk` writes. (Own definitions.)
use Rattle.std.specs.Prelude.{ℕ, List}
use Rattle.bulk_lines.specs.Generator.{bulk_lines}
use Rattle.bulk_lines.specs.Summaries.{bulk_text}
use Rattle.vt_script.specs.declared.drive.DriveLine.{DriveLine}
use Rattle.script_run.specs.Driven.{driven}
use Rattle.script_run.specs.Run.{latest_first}
use Rattle.script_run.specs.Start.{base_of, default_start}

-- the summary of the lines of `bulk`: how many send commands, how many move, and a digest of what `drive` writes for them
abbrev pub summary_of : List DriveLine → List ℕ
summary_of lines = bulk_text lines (driven (base_of default_start).tpm lines)

-- the same by the two numbers of its words
abbrev pub bulk_summary : ℕ → ℕ → List ℕ
bulk_summary seed count = summary_of (latest_first (bulk_lines seed count))
