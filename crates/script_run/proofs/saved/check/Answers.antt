use Rattle.std.proofs.Common.{List, ℕ, length, refl, ap, subst, arith}
use Rattle.std.specs.Prelude.{IsTrue}
use Rattle.vt_base.specs.Numbers.{IsBytes}
use Rattle.vt_base.specs.declared.status.Status.TheVariants.{Refused}
use Rattle.vt_world.specs.Saving.{Loads}
use Rattle.vt_world.specs.declared.saving.Loaded.TheVariants.{World, Bad}
use Rattle.script_run.specs.Output.{seen}
use Rattle.script_run.specs.Saved.{refused_text}
use Rattle.script_run.proofs.Endings.{told-causes}
use Rattle.script_run.proofs.Resuming.{checked-refused, checked-in-front, checked-behind, front-causes, causes-behind, refused-ok}
use Rattle.script_run.proofs.saved.check.Goals as goal

pub returns-in-Some : goal.returns-in-Some
returns-in-Some g c =
    let has = c.in-Some.ensures.front in
    record {
      writes = checked-in-front c.in-Some.status (g.S.Source.left c.args.source.now) (g.S.Source.left c.read_front.new.source) c.read_front.new.front.items (seen (g.K.Sink.written c.args.sink.now) (g.K.Sink.room c.args.sink.now) (g.K.Sink.faults c.args.sink.now)) has;
      causes = front-causes c.in-Some.status (g.S.Source.left c.args.source.now) (g.S.Source.left c.read_front.new.source) c.read_front.new.front.items (g.S.Source.never_fails c.args.source.now) (g.S.Source.left c.read_front.new.source)
          (g.S.Source.faults c.args.source.now) (g.S.Source.faults c.read_front.new.source) (g.K.Sink.faults c.args.sink.now) has c.in-Some.ensures.faults (λ sure. (c.in-Some.ensures.reads_if_promised sure).0);
    }

pub returns-in-Ok-World : goal.returns-in-Ok-World
returns-in-Ok-World g c =
    let f = c.in_default.ensures.front.0 in
    let promises : IsTrue (g.S.Source.never_fails c.args.source.now) → IsTrue (g.S.Source.never_fails c.read_front.new.source) = λ sure. (c.in_default.ensures.reads_if_promised sure).1 in
    let same = c.in_default.ensures.counts (λ e. cc) in
    let loads = subst (λ (bytes : List ℕ). Loads 4096 bytes (World c.in-Ok-World.world)) c.deref.ensures.value (subst (Loads 4096 c.deref.result.now) c.in-Ok-World.field-0-is c.in-Ok-World.ensures.loads) in
    record {
      writes = checked-behind (g.S.Source.left c.args.source.now) (g.S.Source.left c.read_front.new.source) (g.S.Source.left c.end_behind.new.source) c.read_front.new.front.items loads.0 c.end_behind.result
          (seen (g.K.Sink.written c.args.sink.now) (g.K.Sink.room c.args.sink.now) (g.K.Sink.faults c.args.sink.now)) (seen (g.K.Sink.written c.end_behind.new.sink) (g.K.Sink.room c.end_behind.new.sink) (g.K.Sink.faults c.end_behind.new.sink))
          f.taken (c.end_behind.ensures.writes c.read_front.new.front.items loads.0 loads.1 (omega (arith, c.len.ensures, c.deref.ensures.len, ap length c.deref.ensures.value)));
      causes = causes-behind c.end_behind.result (g.S.Source.never_fails c.args.source.now) (g.S.Source.never_fails c.read_front.new.source) (g.S.Source.left c.end_behind.new.source) (g.S.Source.faults c.args.source.now) (g.S.Source.faults c.read_front.new.source)
          (g.S.Source.faults c.end_behind.new.source) (g.K.Sink.faults c.args.sink.now) (g.K.Sink.faults c.end_behind.new.sink) same promises c.end_behind.ensures.causes;
    }

pub end_behind-requires : goal.end_behind-requires
end_behind-requires g c = omega (arith, c.in_default.ensures.at_most, c.len.ensures)

pub returns-in-Ok-Bad : goal.returns-in-Ok-Bad
returns-in-Ok-Bad g c =
    let f = c.in_default.ensures.front in
    let promises : IsTrue (g.S.Source.never_fails c.args.source.now) → IsTrue (g.S.Source.never_fails c.read_front.new.source) = λ sure. (c.in_default.ensures.reads_if_promised sure).1 in
    let same = c.in_default.ensures.counts (λ e. cc) in
    let bad = subst (λ (bytes : List ℕ). Loads 4096 bytes (Bad c.in-Ok-Bad.fault)) c.deref.ensures.value (subst (Loads 4096 c.deref.result.now) c.in-Ok-Bad.field-0-is c.in-Ok-Bad.ensures.loads) in
    let bytes = subst IsBytes c.deref.ensures.value c.in-Ok-Bad.ensures.bytes in
    record {
      writes = checked-refused c.wanted_bytes_are_enough.ensures.refused (g.S.Source.left c.args.source.now) (g.S.Source.left c.read_front.new.source) c.read_front.new.front.items c.in-Ok-Bad.fault c.refused.result
          (seen (g.K.Sink.written c.args.sink.now) (g.K.Sink.room c.args.sink.now) (g.K.Sink.faults c.args.sink.now)) (seen (g.K.Sink.written c.refused.new.sink) (g.K.Sink.room c.refused.new.sink) (g.K.Sink.faults c.refused.new.sink))
          bytes f.0 f.1 bad c.refused.ensures.says;
      causes = causes-behind c.refused.result (g.S.Source.never_fails c.args.source.now) (g.S.Source.never_fails c.read_front.new.source) (g.S.Source.left c.read_front.new.source) (g.S.Source.faults c.args.source.now) (g.S.Source.faults c.read_front.new.source)
          (g.S.Source.faults c.read_front.new.source) (g.K.Sink.faults c.args.sink.now) (g.K.Sink.faults c.refused.new.sink) same promises
          (told-causes Refused c.refused.result (refused_text c.in-Ok-Bad.fault) (seen (g.K.Sink.written c.args.sink.now) (g.K.Sink.room c.args.sink.now) (g.K.Sink.faults c.args.sink.now)) (seen (g.K.Sink.written c.refused.new.sink) (g.K.Sink.room c.refused.new.sink) (g.K.Sink.faults c.refused.new.sink))
          (g.S.Source.never_fails c.read_front.new.source) (g.S.Source.left c.read_front.new.source) (g.S.Source.faults c.read_front.new.source) (g.S.Source.faults c.read_front.new.source) (g.K.Sink.faults c.args.sink.now) tt (λ e. refused-ok e) refl c.refused.ensures.says);
    }
