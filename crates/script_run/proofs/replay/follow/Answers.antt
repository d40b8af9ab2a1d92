use Rattle.std.proofs.Common.{refl}
use Rattle.script_run.specs.Ends.{IsWorld}
use Rattle.script_run.specs.Output.{seen}
use Rattle.script_run.proofs.Endings.{loop-causes}
use Rattle.script_run.proofs.Handing.{all-out}
use Rattle.script_run.proofs.Looped.{followed-leaves, followed-hands}
use Rattle.script_run.proofs.Prefixes.{replied-start}
use Rattle.script_run.proofs.replay.follow.Goals as goal

pub each_line-end-requires : goal.each_line-end-requires
each_line-end-requires g c = record { begins = λ b piece follows. replied-start b piece c.args.first (c.steps_make_runs.ensures.first b piece c.args.first follows) }

pub returns-clause-writes : goal.returns-clause-writes
returns-clause-writes g c = λ b piece follows.
    rw (c.on_hosts.ensures.status, c.status_of.ensures) (followed-leaves b piece (record { world = c.args.first }) c.each_line-end.new.actor (g.S.Source.left c.each_line-end.new.source)
    (seen (g.K.Sink.written c.args.sink.now) (g.K.Sink.room c.args.sink.now) (g.K.Sink.faults c.args.sink.now)) (seen (g.K.Sink.written c.each_line-end.new.sink) (g.K.Sink.room c.each_line-end.new.sink) (g.K.Sink.faults c.each_line-end.new.sink)) follows (g.S.Source.left c.args.source.now) c.each_line-end.result c.each_line-end.ensures.done c.each_line-end.ensures.stopped)

pub returns-clause-hands_out : goal.returns-clause-hands_out
returns-clause-hands_out g c = λ b piece follows.
    rw (c.on_hosts.ensures.status, c.on_hosts.ensures.hosts, c.status_of.ensures) (followed-hands b piece (record { world = c.args.first }) c.each_line-end.new.actor (g.S.Source.left c.each_line-end.new.source)
    (seen (g.K.Sink.written c.args.sink.now) (g.K.Sink.room c.args.sink.now) (g.K.Sink.faults c.args.sink.now)) (seen (g.K.Sink.written c.each_line-end.new.sink) (g.K.Sink.room c.each_line-end.new.sink) (g.K.Sink.faults c.each_line-end.new.sink)) follows (g.S.Source.left c.args.source.now) c.each_line-end.result c.each_line-end.ensures.done c.each_line-end.ensures.not_ok)

pub returns-clause-of_world : goal.returns-clause-of_world
returns-clause-of_world g c = rw (c.on_hosts.ensures.status, c.on_hosts.ensures.hosts) (all-out IsWorld c.status_of.result _ (c.each_line-end.new.actor.world, refl))

pub returns-clause-causes : goal.returns-clause-causes
returns-clause-causes g c =
    rw (c.on_hosts.ensures.status, c.status_of.ensures) (loop-causes c.each_line-end.result (g.S.Source.never_fails c.args.source.now) (g.S.Source.left c.each_line-end.new.source) (g.S.Source.faults c.args.source.now) (g.S.Source.faults c.each_line-end.new.source) (g.K.Sink.faults c.args.sink.now) (g.K.Sink.faults c.each_line-end.new.sink)
    c.each_line-end.ensures.read_to_end c.each_line-end.ensures.read_fault c.each_line-end.ensures.write_fault c.each_line-end.ensures.reads_if_promised c.each_line-end.ensures.not_ok c.each_line-end.ensures.not_usage)
