use Rattle.std.proofs.Common.{◌≡◌, ◌-◌, ◌≤◌, ◌++◌, length, take}
use Rattle.vt_base.specs.Parsing.{IsTight}
use Rattle.vt_base.proofs.byte_buf.ByteBuf.feed.Given as goal

abbrev pub invariant-loop-end : goal.invariant-loop-end
invariant-loop-end g l = record {
  used : l.used ≤ length l.piece;
  taken : l.self ≡ l.initial.self ++ take l.used l.piece;
  tight : IsTight (g.G.Grammar.layout l.grammar) l.self;
}

abbrev pub decreases-loop-end : goal.decreases-loop-end
decreases-loop-end g l = length l.piece - l.used
