use Rattle.std.proofs.Common.{refl, Some}
use Rattle.script_run.specs.Output.{seen}
use Rattle.script_run.specs.Start.{base_of}
use Rattle.script_run.proofs.Endings.{loop-causes}
use Rattle.script_run.proofs.Suspending.{suspended-start, suspended-stops, suspended-ends, saved-causes, can_save}
use Rattle.script_run.proofs.suspend.suspend.Goals as goal

pub each_line-end-requires : goal.each_line-end-requires
each_line-end-requires g c = record { begins = (refl, refl, suspended-start c.args.start c.in-Ok.world c.in-Ok.ensures) }

pub returns-in-Some : goal.returns-in-Some
returns-in-Some g c = record {
  writes = suspended-stops (record { start = c.args.start; world = c.in-Ok.world }) c.each_line-end.new.actor (g.S.Source.left c.each_line-end.new.source)
      (seen (g.K.Sink.written c.args.sink.now) (g.K.Sink.room c.args.sink.now) (g.K.Sink.faults c.args.sink.now)) (seen (g.K.Sink.written c.each_line-end.new.sink) (g.K.Sink.room c.each_line-end.new.sink) (g.K.Sink.faults c.each_line-end.new.sink)) (g.S.Source.left c.args.source.now) c.in-Some.status c.in-Some.ensures.not_ok c.in-Some.ensures.stopped;
  causes = loop-causes (Some c.in-Some.status) (g.S.Source.never_fails c.args.source.now) (g.S.Source.left c.each_line-end.new.source) (g.S.Source.faults c.args.source.now) (g.S.Source.faults c.each_line-end.new.source) (g.K.Sink.faults c.args.sink.now) (g.K.Sink.faults c.each_line-end.new.sink)
      tt c.in-Some.ensures.read_fault c.in-Some.ensures.write_fault c.in-Some.ensures.reads_if_promised c.in-Some.ensures.not_ok c.in-Some.ensures.not_usage;
}

pub save-requires : goal.save-requires
save-requires g c =
    let d = c.in_default-end.ensures.done.goes_here.2 in
    let laws = c.plain_runs_are_one.ensures in
    record {
      can_save = (base_of c.args.start, c.args.start.piece, d.hosts, can_save c.args.start c.in_default-end.ensures.done.lines c.each_line-end.new.actor.world d laws.run laws.unordered laws.working);
    }

pub returns : goal.returns
returns g c =
    let e = c.in_default-end.ensures.done in
    let d = e.goes_here.2 in
    let laws = c.plain_runs_are_one.ensures in
    let writes = c.save.ensures.writes (base_of c.args.start) c.args.start.piece d.hosts d.both in
    record {
      writes = suspended-ends (record { start = c.args.start; world = c.in-Ok.world }) c.each_line-end.new.actor (g.S.Source.left c.each_line-end.new.source)
          (seen (g.K.Sink.written c.args.sink.now) (g.K.Sink.room c.args.sink.now) (g.K.Sink.faults c.args.sink.now)) (seen (g.K.Sink.written c.each_line-end.new.sink) (g.K.Sink.room c.each_line-end.new.sink) (g.K.Sink.faults c.each_line-end.new.sink)) (g.S.Source.left c.args.source.now) e (seen (g.K.Sink.written c.save.new.sink) (g.K.Sink.room c.save.new.sink) (g.K.Sink.faults c.save.new.sink)) c.save.result
          (laws.run (base_of c.args.start) d.done d.transcript d.plain d.same d.run) writes;
      causes = saved-causes (base_of c.args.start) d.hosts.history c.save.result (seen (g.K.Sink.written c.each_line-end.new.sink) (g.K.Sink.room c.each_line-end.new.sink) (g.K.Sink.faults c.each_line-end.new.sink))
          (seen (g.K.Sink.written c.save.new.sink) (g.K.Sink.room c.save.new.sink) (g.K.Sink.faults c.save.new.sink)) (g.S.Source.never_fails c.args.source.now) (g.S.Source.left c.each_line-end.new.source)
          (g.S.Source.faults c.args.source.now) (g.S.Source.faults c.each_line-end.new.source) (g.K.Sink.faults c.args.sink.now) c.in_default-end.ensures.read_to_end e.wrote.faults writes;
    }
