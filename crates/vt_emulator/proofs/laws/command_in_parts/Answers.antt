use Rattle.vt_emulator.proofs.Parts.{command_joins, command_ends}
use Rattle.vt_emulator.proofs.laws.command_in_parts.Goals as goal

pub returns-clause-joins : goal.returns-clause-joins
returns-clause-joins c = command_joins

pub returns-clause-ends : goal.returns-clause-ends
returns-clause-ends c = command_ends
