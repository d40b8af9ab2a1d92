use Rattle.std.proofs.Common.{◌≡◌, ◌≤◌, ◌∙◌, ◌++◌, List, ℕ, length, take, ap, sym, subst, arith}
use Rattle.std.proofs.lemmas.Grind.{common_steps}
use Rattle.std.proofs.lemmas.List.{length-append, length-take, take-append-le}
use Rattle.vt_base.proofs.CallsInARow.{Consumes-more}
use Rattle.saved_stream.specs.Headers.{wanted_after}
use Rattle.script_run.specs.Fronts.{IsFront}
use Rattle.script_run.proofs.saved.read_front.Goals as goal

pub loop-chunk-preserved : goal.loop-chunk-preserved
loop-chunk-preserved g c =
    let front = c.loop-chunk.front.items in
    let part = take c.in-Ok.count c.read.new.into in
    let grown : c.extend_from_slice.new.self.items ≡ front ++ part = grind (arith, common_steps, c.extend_from_slice.ensures.items, c.is_err.ensures.negation, take-append-le) in
    let few : length part ≤ wanted_after front =
    omega (arith, c.in-Ok.ensures.bound.1, c.in-Ok.ensures.bound.0, c.read.auto.into, length-take c.min-room.result c.loop-chunk.chunk, c.min-room.ensures, c.wanted-wanted.ensures.wanted ∙ ap wanted_after c.deref.ensures.value) in
    let taken = Consumes-more (g.S.Source.left c.args.source.now) (g.S.Source.left c.loop-chunk.source) (g.S.Source.left c.read.new.self) front part c.loop-chunk.invariant.front.taken c.in-Ok.ensures.bytes.0 in
    let none = c.wanted_bytes_are_enough.ensures.more front part c.loop-chunk.invariant.front.none_inside few in
    record {
      front = subst (λ (t : List ℕ). IsFront (g.S.Source.left c.args.source.now) (g.S.Source.left c.read.new.self) t) (sym grown) (record { taken = taken; none_inside = none });
      at_most = omega (arith, ap length grown, length-append front part, few, c.wanted_bytes_are_enough.ensures.few front (omega (arith, c.if-wanted-eq0.false, c.wanted-wanted.ensures.wanted ∙ ap wanted_after c.deref.ensures.value)));
      reads = c.in-Ok.ensures.counts ∙ c.loop-chunk.invariant.reads;
      never_fails = λ sure. c.read.ensures.stays (c.loop-chunk.invariant.never_fails sure);
    }
