use Rattle.std.proofs.Common.{◌≡◌, ◌+◌, ◌-◌, ◌<◌, ◌≤◌, [], length}
use Rattle.std.specs.Prelude.{IsTrue}
use Rattle.vt_emulator.specs.Emulator.{EmulatorSteps}
use Rattle.emulator_server.specs.Serving.{ServesSoFar}
use Rattle.emulator_server.proofs.serve.serve_emulator.Given as goal

-- the messages so far were answered, and these bytes of the last read are to come
abbrev pub invariant-loop-rest : goal.invariant-loop-rest
invariant-loop-rest g l = record {
  below : l.messages < 1000000;
  few : length l.rest ≤ 4096;
  so_far : EmulatorSteps (ServesSoFar l.chan (g.S.Source.left l.fn.source) (g.S.Source.left l.source) (g.K.Sink.written l.fn.sink) (g.K.Sink.written l.sink) l.messages l.begun (l.counter + 1) l.rest) (g.D.Desk.state l.fn.desk) (g.D.Desk.state l.desk);
  writes : g.K.Sink.faults l.fn.sink ≤ g.K.Sink.faults l.sink;
}

abbrev pub decreases-loop-rest : goal.decreases-loop-rest
decreases-loop-rest g l = 1000000 - l.messages

abbrev pub invariant-loop : goal.invariant-loop
invariant-loop g l = record {
  below : l.messages < 1000000;
  size : length l.chunk ≡ 4096;
  so_far : EmulatorSteps (ServesSoFar l.chan (g.S.Source.left l.fn.source) (g.S.Source.left l.source) (g.K.Sink.written l.fn.sink) (g.K.Sink.written l.sink) l.messages l.begun l.counter []) (g.D.Desk.state l.fn.desk) (g.D.Desk.state l.desk);
  reads : g.S.Source.faults l.fn.source ≡ g.S.Source.faults l.source;
  writes : g.K.Sink.faults l.fn.sink ≤ g.K.Sink.faults l.sink;
  never_fails : IsTrue (g.S.Source.never_fails l.fn.source) → IsTrue (g.S.Source.never_fails l.source);
}
