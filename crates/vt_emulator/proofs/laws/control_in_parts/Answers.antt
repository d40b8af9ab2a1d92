use Rattle.vt_emulator.proofs.Parts.{control_joins, control_ends}
use Rattle.vt_emulator.proofs.laws.control_in_parts.Goals as goal

pub returns-clause-joins : goal.returns-clause-joins
returns-clause-joins c = control_joins

pub returns-clause-ends : goal.returns-clause-ends
returns-clause-ends c = control_ends
