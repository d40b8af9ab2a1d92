use Rattle.std.proofs.Common.{List, ℕ, refl, subst}
use Rattle.std.specs.Prelude.{IsTrue}
use Rattle.vt_base.specs.Numbers.{IsBytes}
use Rattle.vt_base.specs.declared.status.Status.TheVariants.{Refused}
use Rattle.vt_world.specs.Saving.{Loads}
use Rattle.script_run.specs.Output.{seen}
use Rattle.vt_world.specs.declared.saving.Loaded.TheVariants.{World, Bad}
use Rattle.script_run.specs.Ends.{IsWorld}
use Rattle.script_run.specs.Saved.{refused_text}
use Rattle.script_run.proofs.Endings.{told-causes}
use Rattle.script_run.proofs.Handing.{nothing-out}
use Rattle.script_run.proofs.Resuming.{front-resumed, front-hands, resumed-refused, resumed-in-front, early-front, early-hands, front-causes, causes-behind, not-ok-told, refused-ok}
use Rattle.script_run.proofs.saved.resume.Goals as goal

pub returns-in-Some : goal.returns-in-Some
returns-in-Some g c =
    let has = c.in-Some.ensures.front in
    let early = early-front c.in-Some.status (g.S.Source.left c.args.source.now) (g.S.Source.left c.read_front.new.source) c.read_front.new.front.items has in
    record {
      writes = resumed-in-front c.args.piece c.in-Some.status (g.S.Source.left c.args.source.now) (g.S.Source.left c.read_front.new.source) c.read_front.new.front.items (seen (g.K.Sink.written c.args.sink.now) (g.K.Sink.room c.args.sink.now) (g.K.Sink.faults c.args.sink.now)) has;
      hands_out = early-hands c.args.piece c.in-Some.status (g.S.Source.left c.args.source.now) early;
      of_world = nothing-out IsWorld c.in-Some.status early;
      causes = front-causes c.in-Some.status (g.S.Source.left c.args.source.now) (g.S.Source.left c.read_front.new.source) c.read_front.new.front.items (g.S.Source.never_fails c.args.source.now) (g.S.Source.left c.read_front.new.source)
          (g.S.Source.faults c.args.source.now) (g.S.Source.faults c.read_front.new.source) (g.K.Sink.faults c.args.sink.now) has c.in-Some.ensures.faults (λ sure. (c.in-Some.ensures.reads_if_promised sure).0);
    }

pub returns-in-Ok-World : goal.returns-in-Ok-World
returns-in-Ok-World g c =
    let f = c.in_default.ensures.front.0 in
    let promises : IsTrue (g.S.Source.never_fails c.args.source.now) → IsTrue (g.S.Source.never_fails c.read_front.new.source) = λ sure. (c.in_default.ensures.reads_if_promised sure).1 in
    let same = c.in_default.ensures.counts (λ e. cc) in
    let loads = subst (λ (bytes : List ℕ). Loads c.args.piece bytes (World c.in-Ok-World.world)) c.deref.ensures.value (subst (Loads c.args.piece c.deref.result.now) c.in-Ok-World.field-0-is c.in-Ok-World.ensures.loads) in
    record {
      writes = front-resumed c.args.piece (g.S.Source.left c.args.source.now) (g.S.Source.left c.read_front.new.source) (g.S.Source.left c.follow.new.source) c.read_front.new.front.items loads.0 c.follow.result.status
          (seen (g.K.Sink.written c.args.sink.now) (g.K.Sink.room c.args.sink.now) (g.K.Sink.faults c.args.sink.now)) (seen (g.K.Sink.written c.follow.new.sink) (g.K.Sink.room c.follow.new.sink) (g.K.Sink.faults c.follow.new.sink))
          f.taken loads.1 (c.follow.ensures.writes loads.0 c.args.piece loads.2);
      hands_out = front-hands c.args.piece (g.S.Source.left c.args.source.now) (g.S.Source.left c.read_front.new.source) c.read_front.new.front.items loads.0 c.follow.result.status c.follow.result.end f.taken loads.1 (c.follow.ensures.hands_out loads.0 c.args.piece loads.2);
      of_world = c.follow.ensures.of_world;
      causes = causes-behind c.follow.result.status (g.S.Source.never_fails c.args.source.now) (g.S.Source.never_fails c.read_front.new.source) (g.S.Source.left c.follow.new.source) (g.S.Source.faults c.args.source.now) (g.S.Source.faults c.read_front.new.source)
          (g.S.Source.faults c.follow.new.source) (g.K.Sink.faults c.args.sink.now) (g.K.Sink.faults c.follow.new.sink) same promises c.follow.ensures.causes;
    }

pub returns-in-Ok-Bad : goal.returns-in-Ok-Bad
returns-in-Ok-Bad g c =
    let f = c.in_default.ensures.front in
    let promises : IsTrue (g.S.Source.never_fails c.args.source.now) → IsTrue (g.S.Source.never_fails c.read_front.new.source) = λ sure. (c.in_default.ensures.reads_if_promised sure).1 in
    let same = c.in_default.ensures.counts (λ e. cc) in
    let bad = subst (λ (bytes : List ℕ). Loads c.args.piece bytes (Bad c.in-Ok-Bad.fault)) c.deref.ensures.value (subst (Loads c.args.piece c.deref.result.now) c.in-Ok-Bad.field-0-is c.in-Ok-Bad.ensures.loads) in
    let bytes = subst IsBytes c.deref.ensures.value c.in-Ok-Bad.ensures.bytes in
    record {
      writes = resumed-refused c.wanted_bytes_are_enough.ensures.refused c.args.piece (g.S.Source.left c.args.source.now) (g.S.Source.left c.read_front.new.source) c.read_front.new.front.items c.in-Ok-Bad.fault c.refused.result
          (seen (g.K.Sink.written c.args.sink.now) (g.K.Sink.room c.args.sink.now) (g.K.Sink.faults c.args.sink.now)) (seen (g.K.Sink.written c.refused.new.sink) (g.K.Sink.room c.refused.new.sink) (g.K.Sink.faults c.refused.new.sink))
          bytes f.0 f.1 bad c.refused.ensures.says;
      hands_out = early-hands c.args.piece c.refused.result (g.S.Source.left c.args.source.now) (not-ok-told Refused (refused_text c.in-Ok-Bad.fault) c.refused.result
          (seen (g.K.Sink.written c.args.sink.now) (g.K.Sink.room c.args.sink.now) (g.K.Sink.faults c.args.sink.now)) (seen (g.K.Sink.written c.refused.new.sink) (g.K.Sink.room c.refused.new.sink) (g.K.Sink.faults c.refused.new.sink)) (λ e. refused-ok e) c.refused.ensures.says);
      of_world = nothing-out IsWorld c.refused.result (not-ok-told Refused (refused_text c.in-Ok-Bad.fault) c.refused.result
          (seen (g.K.Sink.written c.args.sink.now) (g.K.Sink.room c.args.sink.now) (g.K.Sink.faults c.args.sink.now)) (seen (g.K.Sink.written c.refused.new.sink) (g.K.Sink.room c.refused.new.sink) (g.K.Sink.faults c.refused.new.sink)) (λ e. refused-ok e) c.refused.ensures.says);
      causes = causes-behind c.refused.result (g.S.Source.never_fails c.args.source.now) (g.S.Source.never_fails c.read_front.new.source) (g.S.Source.left c.read_front.new.source) (g.S.Source.faults c.args.source.now) (g.S.Source.faults c.read_front.new.source)
          (g.S.Source.faults c.read_front.new.source) (g.K.Sink.faults c.args.sink.now) (g.K.Sink.faults c.refused.new.sink) same promises
          (told-causes Refused c.refused.result (refused_text c.in-Ok-Bad.fault) (seen (g.K.Sink.written c.args.sink.now) (g.K.Sink.room c.args.sink.now) (g.K.Sink.faults c.args.sink.now)) (seen (g.K.Sink.written c.refused.new.sink) (g.K.Sink.room c.refused.new.sink) (g.K.Sink.faults c.refused.new.sink))
          (g.S.Source.never_fails c.read_front.new.source) (g.S.Source.left c.read_front.new.source) (g.S.Source.faults c.read_front.new.source) (g.S.Source.faults c.read_front.new.source) (g.K.Sink.faults c.args.sink.now) tt (λ e. refused-ok e) refl c.refused.ensures.says);
    }
