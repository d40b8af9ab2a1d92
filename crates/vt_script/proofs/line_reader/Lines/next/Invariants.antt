use Rattle.std.proofs.Common.{◌≡◌, ◌-◌, length}
use Rattle.std.specs.Prelude.{IsTrue}
use Rattle.std.specs.Io.KnownBytes.{prepend_known, Keeps}
use Rattle.vt_script.specs.Reading.{has_line}
use Rattle.vt_script.proofs.line_reader.Lines.next.Given as goal

-- no line was given, and no byte was lost
abbrev pub invariant-loop-next : goal.invariant-loop-next
invariant-loop-next g l = record {
  known : Keeps (prepend_known l.fn.self.pending (g.S.Source.left l.fn.source)) (prepend_known l.self.pending (g.S.Source.left l.source));
  number : l.self.number ≡ l.fn.self.number;
  unread : IsTrue (has_line l.fn.self.pending) → (l.source ≡ l.fn.source) × (l.self.pending ≡ l.fn.self.pending);
  same : g.S.Source.faults l.source ≡ g.S.Source.faults l.fn.source;
  never_fails : IsTrue (g.S.Source.never_fails l.fn.source) → IsTrue (g.S.Source.never_fails l.source);
}

abbrev pub decreases-loop-next : goal.decreases-loop-next
decreases-loop-next g l = 8257 - length l.self.pending
