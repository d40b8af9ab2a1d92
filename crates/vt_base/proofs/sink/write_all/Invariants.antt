use Rattle.std.proofs.Common.{◌≡◌, ◌≤◌, ◌+◌, ◌++◌, ℕ, List, length}
use Rattle.std.specs.Io.KnownBytes.{Appends}
use Rattle.vt_base.proofs.sink.write_all.Given as goal

-- a prefix of the bytes is written, and the rest is to come
abbrev pub invariant-loop-rest : goal.invariant-loop-rest
invariant-loop-rest g l = record {
  parts : (prefix : List ℕ) × (prefix ++ l.rest ≡ l.bytes) × Appends (g.K.Sink.written l.fn.sink) (g.K.Sink.written l.sink) prefix;
  same : g.K.Sink.faults l.sink ≡ g.K.Sink.faults l.fn.sink;
  succeeds_if_promised : length l.bytes ≤ g.K.Sink.room l.fn.sink → (length l.rest ≤ g.K.Sink.room l.sink) × (g.K.Sink.room l.sink + length l.bytes ≡ g.K.Sink.room l.fn.sink + length l.rest);
}

abbrev pub decreases-loop-rest : goal.decreases-loop-rest
decreases-loop-rest g l = length l.rest
