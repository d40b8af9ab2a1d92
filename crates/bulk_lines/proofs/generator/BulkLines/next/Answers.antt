use Rattle.std.proofs.Common.{arith}
use Rattle.bulk_lines.proofs.Lines.{line_zero, line_drawn}
use Rattle.bulk_lines.proofs.generator.BulkLines.next.Goals as goal

pub returns-then-self-eq0-clause-line : goal.returns-then-self-eq0-clause-line
returns-then-self-eq0-clause-line c =
    line_zero c.self.inside.number c.self.inside.left c.self.inside.state c.in_ok-line.line c.args.self.now c.self.view_is c.if-self-eq0.true c.in_ok-line.ensures.line

pub returns-clause-line : goal.returns-clause-line
returns-clause-line c =
    line_drawn c.self.inside.number c.self.inside.left c.self.inside.state c.state_after-state.result c.in_ok-line-2.line c.args.self.now c.self.view_is c.if-self-eq0.false (omega arith)
    c.state_after-state.ensures (rw c.drawn.ensures at c.in_ok-line-2.ensures.line)
