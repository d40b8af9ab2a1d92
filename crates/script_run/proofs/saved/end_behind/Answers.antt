use Rattle.std.proofs.Common.{◌≡◌, ◌<◌, [], length, take, ap, arith}
use Rattle.script_run.specs.Output.{seen}
use Rattle.script_run.proofs.Resuming.{read-none, read-more}
use Rattle.script_run.proofs.saved.end_behind.Goals as goal

pub returns-in-Ok-eq0-clause-writes : goal.returns-in-Ok-eq0-clause-writes
returns-in-Ok-eq0-clause-writes g c = λ front b is count.
    let nothing : take c.in-Ok-eq0.field-0 c.read.new.into ≡ [] = ap (λ n. take n c.read.new.into) c.in-Ok-eq0.field-0-test in
    let ended = c.in-Ok-eq0.ensures.bytes.1 c.in-Ok-eq0.field-0-test (omega (arith, c.read.auto.into)) in
    read-none (g.S.Source.left c.args.source.now) (g.S.Source.left c.read.new.self) (take c.in-Ok-eq0.field-0 c.read.new.into) front b c.args.size c.whole.result
    (seen (g.K.Sink.written c.args.sink.now) (g.K.Sink.room c.args.sink.now) (g.K.Sink.faults c.args.sink.now)) (seen (g.K.Sink.written c.whole.new.sink) (g.K.Sink.room c.whole.new.sink) (g.K.Sink.faults c.whole.new.sink))
    c.in-Ok-eq0.ensures.bytes.0 nothing ended is count c.whole.ensures.says

pub returns-in-Ok-clause-writes : goal.returns-in-Ok-clause-writes
returns-in-Ok-clause-writes g c = λ front b is count.
    let some : 0 < length (take c.in-Ok.field-0 c.read.new.into) = omega (arith, c.in-Ok.field-0-test.1, c.in-Ok.ensures.bound.1) in
    read-more (g.S.Source.left c.args.source.now) (g.S.Source.left c.read.new.self) (take c.in-Ok.field-0 c.read.new.into) front b c.args.size c.refused.result
    (seen (g.K.Sink.written c.args.sink.now) (g.K.Sink.room c.args.sink.now) (g.K.Sink.faults c.args.sink.now)) (seen (g.K.Sink.written c.refused.new.sink) (g.K.Sink.room c.refused.new.sink) (g.K.Sink.faults c.refused.new.sink))
    c.in-Ok.ensures.bytes.0 some is count c.refused.ensures.says
