use Rattle.std.proofs.Common.{◌≡◌, ◌-◌}
use Rattle.std.specs.Prelude.{IsTrue}
use Rattle.std.specs.Io.KnownBytes.{prepend_known}
use Rattle.line_loop.specs.Output.{seen}
use Rattle.line_loop.specs.Actors.{HasDone}
use Rattle.line_loop.proofs.lines.each_line.Given as goal

-- some lines are done, and what they give is written, or pending
abbrev pub invariant-loop-pending : goal.invariant-loop-pending
invariant-loop-pending g l = record {
  done : HasDone g.A.Actor.goes l.fn.actor l.actor l.lines.number (g.S.Source.left l.fn.source) (prepend_known l.lines.pending (g.S.Source.left l.source))
      (seen (g.K.Sink.written l.fn.sink) (g.K.Sink.room l.fn.sink) (g.K.Sink.faults l.fn.sink)) (seen (g.K.Sink.written l.sink) (g.K.Sink.room l.sink) (g.K.Sink.faults l.sink)) l.pending.items;
  reads : g.S.Source.faults l.source ≡ g.S.Source.faults l.fn.source;
  never_fails : IsTrue (g.S.Source.never_fails l.fn.source) → IsTrue (g.S.Source.never_fails l.source);
}

abbrev pub decreases-loop-pending : goal.decreases-loop-pending
decreases-loop-pending g l = 1000000 - l.lines.number
