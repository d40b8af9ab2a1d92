use Rattle.std.proofs.Common.{◌≡◌, ◌≤◌, ◌-◌, length}
use Rattle.std.specs.Prelude.{IsTrue}
use Rattle.script_run.specs.Fronts.{IsFront}
use Rattle.script_run.proofs.saved.read_front.Given as goal

-- what was read so far, never more than was wanted
abbrev pub invariant-loop-chunk : goal.invariant-loop-chunk
invariant-loop-chunk g l = record {
  front : IsFront (g.S.Source.left l.fn.source) (g.S.Source.left l.source) l.front.items;
  at_most : length l.front.items ≤ 15973;
  reads : g.S.Source.faults l.source ≡ g.S.Source.faults l.fn.source;
  never_fails : IsTrue (g.S.Source.never_fails l.fn.source) → IsTrue (g.S.Source.never_fails l.source);
}

abbrev pub decreases-loop-chunk : goal.decreases-loop-chunk
decreases-loop-chunk g l = 15973 - length l.front.items
