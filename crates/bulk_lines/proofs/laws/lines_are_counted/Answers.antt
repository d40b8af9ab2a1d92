use Rattle.bulk_lines.proofs.Counts.{counted-once, bulk-length}
use Rattle.bulk_lines.proofs.laws.lines_are_counted.Goals as goal

pub returns-clause-once : goal.returns-clause-once
returns-clause-once c = counted-once

pub returns-clause-all : goal.returns-clause-all
returns-clause-all c = bulk-length
