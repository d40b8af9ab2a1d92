use Rattle.std.proofs.Common.{◌∙◌}
use Rattle.std.specs.Io.KnownBytes.{prepend_known}
use Rattle.line_loop.specs.Output.{seen}
use Rattle.line_loop.proofs.Loop.{done-flushed, done-more, done-unflushed, done-ends, no-line, if-none, none-at-end, ended-done, ended-stopped, says-line, counts-line, counts-no-fault, ends-read-fault, ends-write-fault, ends-reads, ends-not-ok, ends-not-usage}
use Rattle.line_loop.proofs.lines.each_line.Goals as goal

pub returns-in_default-flush_before_read-clause-stopped : goal.returns-in_default-flush_before_read-clause-stopped
returns-in_default-flush_before_read-clause-stopped g c =
    done-unflushed g.A.Actor.goes g.A.Actor.outside c.args.actor.now c.loop-pending.actor c.loop-pending.lines.number (g.S.Source.left c.args.source.now)
    (prepend_known c.loop-pending.lines.pending (g.S.Source.left c.loop-pending.source)) (g.S.Source.left c.loop-pending.source) _ _ _ c.loop-pending.pending.items c.loop-pending.invariant.done c.in_default-flush_before_read.ensures.err

pub returns-in_default-next-2 : goal.returns-in_default-next-2
returns-in_default-next-2 g c =
    let done = done-flushed g.A.Actor.goes g.A.Actor.outside c.args.actor.now c.loop-pending.actor c.loop-pending.lines.number (g.S.Source.left c.args.source.now)
    (prepend_known c.loop-pending.lines.pending (g.S.Source.left c.loop-pending.source)) _ _ (seen (g.K.Sink.written c.flush_before_read.new.sink) (g.K.Sink.room c.flush_before_read.new.sink) (g.K.Sink.faults c.flush_before_read.new.sink)) c.loop-pending.pending.items c.flush_before_read.new.pending.items c.loop-pending.invariant.done c.in-Ok-flush_before_read.ensures.ok in
    let ends = rw c.deref-in_default-next-2.ensures.value at c.end_at.ensures.ends in
    let ended = no-line g.A.Actor.goes g.A.Actor.outside c.args.actor.now c.in-Ok-next.next c.loop-pending.actor c.loop-pending.lines.number (g.S.Source.left c.args.source.now)
    (prepend_known c.loop-pending.lines.pending (g.S.Source.left c.loop-pending.source)) (g.S.Source.left c.next.new.source) c.next.new.self.line c.next.new.self.pending _ _
    (seen (g.K.Sink.written c.end_at.new.sink) (g.K.Sink.room c.end_at.new.sink) (g.K.Sink.faults c.end_at.new.sink)) c.flush_before_read.new.pending.items c.end_at.result done c.in-Ok-next.ensures.says c.in-Ok-next.ensures.no_line ends in
    record {
      done = ended-done g.A.Actor.goes g.A.Actor.outside c.args.actor.now (g.S.Source.left c.args.source.now) (g.S.Source.left c.next.new.source) c.loop-pending.actor _ _ c.end_at.result ended;
      stopped = ended-stopped g.A.Actor.goes g.A.Actor.outside c.args.actor.now (g.S.Source.left c.args.source.now) (g.S.Source.left c.next.new.source) c.loop-pending.actor _ _ c.end_at.result ended;
      read_to_end = if-none c.end_at.result _ _ (none-at-end c.in-Ok-next.next c.flush_before_read.new.pending.items c.end_at.result _ _ ends) c.in-Ok-next.ensures.ended;
      read_fault = ends-read-fault c.in-Ok-next.next c.flush_before_read.new.pending.items c.end_at.result _ _ ends (g.S.Source.faults c.loop-pending.source) (g.S.Source.faults c.next.new.source) (g.S.Source.faults c.args.source.now) c.loop-pending.invariant.reads c.in-Ok-next.ensures.counts_faults;
      write_fault = ends-write-fault c.in-Ok-next.next c.flush_before_read.new.pending.items c.end_at.result _ _ ends (g.K.Sink.faults c.args.sink.now) done.written.wrote.faults;
      reads_if_promised = λ sure. ends-reads c.in-Ok-next.next c.flush_before_read.new.pending.items c.end_at.result _ _ ends (c.in-Ok-next.ensures.never_fails (c.loop-pending.invariant.never_fails sure));
      not_ok = ends-not-ok c.in-Ok-next.next c.flush_before_read.new.pending.items c.end_at.result _ _ ends;
      not_usage = ends-not-usage c.in-Ok-next.next c.flush_before_read.new.pending.items c.end_at.result _ _ ends;
    }

pub returns-in-Some-clause-stopped : goal.returns-in-Some-clause-stopped
returns-in-Some-clause-stopped g c =
    let done = done-flushed g.A.Actor.goes g.A.Actor.outside c.args.actor.now c.loop-pending.actor c.loop-pending.lines.number (g.S.Source.left c.args.source.now)
    (prepend_known c.loop-pending.lines.pending (g.S.Source.left c.loop-pending.source)) _ _ (seen (g.K.Sink.written c.flush_before_read.new.sink) (g.K.Sink.room c.flush_before_read.new.sink) (g.K.Sink.faults c.flush_before_read.new.sink)) c.loop-pending.pending.items c.flush_before_read.new.pending.items c.loop-pending.invariant.done c.in-Ok-flush_before_read.ensures.ok in
    let says = says-line c.in-Ok-next.next c.loop-pending.lines.number (prepend_known c.loop-pending.lines.pending (g.S.Source.left c.loop-pending.source)) c.next.new.self.line c.line.result.now (prepend_known c.next.new.self.pending (g.S.Source.left c.next.new.source)) c.in-Line.is c.line.ensures c.in-Ok-next.ensures.says in
    let count = counts-line c.in-Ok-next.next c.loop-pending.lines.number c.next.new.self.number c.in-Line.is c.in-Ok-next.ensures.counts_lines in
    done-ends g.A.Actor.goes g.A.Actor.outside c.args.actor.now c.loop-pending.actor c.do_line-end.new.actor c.loop-pending.lines.number c.number.result (g.S.Source.left c.args.source.now)
    (prepend_known c.loop-pending.lines.pending (g.S.Source.left c.loop-pending.source)) c.line.result.now (prepend_known c.next.new.self.pending (g.S.Source.left c.next.new.source)) (g.S.Source.left c.next.new.source) _ _
    (seen (g.K.Sink.written c.do_line-end.new.sink) (g.K.Sink.room c.do_line-end.new.sink) (g.K.Sink.faults c.do_line-end.new.sink)) c.flush_before_read.new.pending.items c.in-Some.status done says (c.number.ensures.value ∙ count) c.in-Some.ensures.ends

pub loop-pending-preserved : goal.loop-pending-preserved
loop-pending-preserved g c =
    let done = done-flushed g.A.Actor.goes g.A.Actor.outside c.args.actor.now c.loop-pending.actor c.loop-pending.lines.number (g.S.Source.left c.args.source.now)
    (prepend_known c.loop-pending.lines.pending (g.S.Source.left c.loop-pending.source)) _ _ (seen (g.K.Sink.written c.flush_before_read.new.sink) (g.K.Sink.room c.flush_before_read.new.sink) (g.K.Sink.faults c.flush_before_read.new.sink)) c.loop-pending.pending.items c.flush_before_read.new.pending.items c.loop-pending.invariant.done c.in-Ok-flush_before_read.ensures.ok in
    let says = says-line c.in-Ok-next.next c.loop-pending.lines.number (prepend_known c.loop-pending.lines.pending (g.S.Source.left c.loop-pending.source)) c.next.new.self.line c.line.result.now (prepend_known c.next.new.self.pending (g.S.Source.left c.next.new.source)) c.in-Line.is c.line.ensures c.in-Ok-next.ensures.says in
    let count = counts-line c.in-Ok-next.next c.loop-pending.lines.number c.next.new.self.number c.in-Line.is c.in-Ok-next.ensures.counts_lines in
    record {
      done = done-more g.A.Actor.goes g.A.Actor.outside c.args.actor.now c.loop-pending.actor c.do_line-end.new.actor c.loop-pending.lines.number c.next.new.self.number (g.S.Source.left c.args.source.now)
          (prepend_known c.loop-pending.lines.pending (g.S.Source.left c.loop-pending.source)) c.line.result.now (prepend_known c.next.new.self.pending (g.S.Source.left c.next.new.source)) _ _
          (seen (g.K.Sink.written c.do_line-end.new.sink) (g.K.Sink.room c.do_line-end.new.sink) (g.K.Sink.faults c.do_line-end.new.sink)) c.flush_before_read.new.pending.items c.do_line-end.new.pending.items done says count c.in_default-end.ensures.goes_on;
      reads = counts-no-fault c.in-Ok-next.next (g.S.Source.faults c.loop-pending.source) (g.S.Source.faults c.next.new.source) c.in-Line.is c.in-Ok-next.ensures.counts_faults ∙ c.loop-pending.invariant.reads;
      never_fails = λ sure. c.next.ensures.stays (c.loop-pending.invariant.never_fails sure);
    }
