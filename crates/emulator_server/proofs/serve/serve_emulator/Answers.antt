use Rattle.std.proofs.Common.{◌≡◌, ◌+◌, ◌≤◌, ◌<◌, inl, inr, ℕ, List, [], length, take, drop, refl, subst, arith, rules}
use Rattle.std.specs.Io.KnownBytes.{Consumes}
use Rattle.vt_emulator.specs.Emulator.{EmulatorSteps}
use Rattle.emulator_server.specs.Messages.{IsFreshChannel}
use Rattle.emulator_server.specs.Serving.{ServesSoFar, Serves, AdvancesTo, end_with_part}
use Rattle.emulator_server.specs.declared.serve.MessageProgress.TheVariants as progress
use Rattle.emulator_server.specs.declared.served.Served.TheVariants.{Memory, Closed, WriteFault, Turns}
use Rattle.emulator_server.proofs.Knowing.{no_step, steps_imply, steps_join}
use Rattle.emulator_server.proofs.Connections.{so_far_start, so_far_short, so_far_read, so_far_kept, so_far_answered, so_far_ends, serves_memory, serves_end, serves_closed, serves_shut, serves_unwritten, serves_turns, nil_of}
use Rattle.emulator_server.proofs.serve.serve_emulator.Goals.{else-loop-rest-test, then-loop-rest-test+in-Ok-answer_next+in-Part}
use Rattle.emulator_server.proofs.serve.serve_emulator.Goals as goal

pub returns-in_default-clause-served : goal.returns-in_default-clause-served
returns-in_default-clause-served g c =
    let left = g.S.Source.left c.args.source.now in
    let was = g.K.Sink.written c.args.sink.now in
    no_step (IsFreshChannel c.args.chan) (Serves c.args.chan left left was was Memory) (g.D.Desk.state c.args.desk.now) c.requires.fresh
    (λ e fresh. serves_memory c.args.chan left was e fresh)

pub loop-init : goal.loop-init
loop-init g c =
    let left = g.S.Source.left c.args.source.now in
    let was = g.K.Sink.written c.args.sink.now in
    record {
      below = omega arith;
      size = refl;
      so_far = no_step (IsFreshChannel c.args.chan) (ServesSoFar c.args.chan left left was was 0 0 0 []) (g.D.Desk.state c.args.desk.now) c.requires.fresh (λ e fresh. so_far_start c.args.chan left was e fresh);
      reads = refl;
      writes = omega arith;
      never_fails = λ is. is;
    }

pub returns-then-count-eq0-clause-served : goal.returns-then-count-eq0-clause-served
returns-then-count-eq0-clause-served g c =
    let left = g.S.Source.left c.args.source.now in
    let now = g.S.Source.left c.loop.source in
    let later = g.S.Source.left c.read.new.self in
    let was = g.K.Sink.written c.args.sink.now in
    let written = g.K.Sink.written c.loop.sink in
    let none : c.in-Ok-read.count ≡ 0 = search rules in
    let size : length c.read.new.into ≡ 4096 = search rules in
    let gone : Consumes now later [] = subst (λ (n : ℕ). Consumes now later (take n c.read.new.into)) none c.in-Ok-read.ensures.bytes.0 in
    rw c.end_of_input.ensures (steps_imply (ServesSoFar c.args.chan left now was written c.loop.messages c.loop.begun c.loop.counter []) (Serves c.args.chan left later was written (end_with_part c.loop.begun)) (g.D.Desk.state c.args.desk.now) (g.D.Desk.state c.loop.desk)
    c.loop.invariant.so_far (λ e f _ _ so.
    serves_end c.args.chan left later was written c.loop.messages c.loop.begun c.loop.counter e f (so_far_read c.args.chan left now was written c.loop.messages c.loop.begun c.loop.counter e f later [] c.loop.counter so gone (omega arith)) c.loop.invariant.below
    (c.in-Ok-read.ensures.bytes.1 none (omega (arith, size)))))

pub returns-in_default-answer_next-clause-served : goal.returns-in_default-answer_next-clause-served
returns-in_default-answer_next-clause-served g c =
    let left = g.S.Source.left c.args.source.now in
    let later = g.S.Source.left c.read.new.self in
    let was = g.K.Sink.written c.args.sink.now in
    let written = g.K.Sink.written c.loop-rest.sink in
    let after = g.K.Sink.written c.answer_next.new.sink in
    steps_join (ServesSoFar c.args.chan left later was written c.loop-rest.messages c.loop-rest.begun (c.loop.counter + 1) c.loop-rest.rest.now) _ (Serves c.args.chan left later was after WriteFault) (g.D.Desk.state c.args.desk.now) (g.D.Desk.state c.loop-rest.desk) (g.D.Desk.state c.answer_next.new.desk)
    c.loop-rest.invariant.so_far c.in_default-answer_next.ensures.step (λ e m f _ _ so advanced.
    serves_unwritten c.args.chan left later was written c.loop-rest.messages c.loop-rest.begun (c.loop.counter + 1) e m after c.loop-rest.rest.now advanced.0 advanced.1 f so advanced.2 c.loop-rest.invariant.below advanced.3)

pub returns-in-Closed-clause-served : goal.returns-in-Closed-clause-served
returns-in-Closed-clause-served g c =
    let left = g.S.Source.left c.args.source.now in
    let later = g.S.Source.left c.read.new.self in
    let was = g.K.Sink.written c.args.sink.now in
    let written = g.K.Sink.written c.loop-rest.sink in
    let after = g.K.Sink.written c.answer_next.new.sink in
    let some : 0 < length c.loop-rest.rest.now = search rules in
    steps_join (ServesSoFar c.args.chan left later was written c.loop-rest.messages c.loop-rest.begun (c.loop.counter + 1) c.loop-rest.rest.now) (λ e f. AdvancesTo progress.Closed c.args.chan c.loop-rest.rest.now e f written after) (Serves c.args.chan left later was after Closed) (g.D.Desk.state c.args.desk.now) (g.D.Desk.state c.loop-rest.desk) (g.D.Desk.state c.answer_next.new.desk)
    c.loop-rest.invariant.so_far (rw c.in-Closed.is at c.in-Ok-answer_next.ensures.step) (λ e m f _ _ so advanced.
    elim advanced [
      | inl now ↦ serves_closed c.args.chan left later was written c.loop-rest.messages c.loop-rest.begun (c.loop.counter + 1) e m after c.loop-rest.rest.now now.0 now.1 f so now.2 c.loop-rest.invariant.below some now.3 now.4
      | inr shut ↦ serves_shut c.args.chan left later was written c.loop-rest.messages c.loop-rest.begun (c.loop.counter + 1) e m after c.loop-rest.rest.now f so c.loop-rest.invariant.below some shut.0 shut.1 shut.2
    ])

pub returns-then-messages-eq-MOST_MESSAGES-clause-served : goal.returns-then-messages-eq-MOST_MESSAGES-clause-served
returns-then-messages-eq-MOST_MESSAGES-clause-served g c =
    let left = g.S.Source.left c.args.source.now in
    let later = g.S.Source.left c.read.new.self in
    let was = g.K.Sink.written c.args.sink.now in
    let written = g.K.Sink.written c.loop-rest.sink in
    let after = g.K.Sink.written c.answer_next.new.sink in
    let used = c.in-Answered.used in
    let all : c.loop-rest.messages + 1 ≡ 1000000 = search rules in
    steps_join (ServesSoFar c.args.chan left later was written c.loop-rest.messages c.loop-rest.begun (c.loop.counter + 1) c.loop-rest.rest.now) (λ e f. AdvancesTo (progress.Answered used) c.args.chan c.loop-rest.rest.now e f written after) (Serves c.args.chan left later was after Turns) (g.D.Desk.state c.args.desk.now) (g.D.Desk.state c.loop-rest.desk) (g.D.Desk.state c.answer_next.new.desk)
    c.loop-rest.invariant.so_far (rw c.in-Answered.is at c.in-Ok-answer_next.ensures.step) (λ e m f _ _ so advanced.
    serves_turns c.args.chan left later was after (c.loop-rest.messages + 1) 0 (c.loop.counter + 1) e f (drop used c.loop-rest.rest.now)
    (so_far_answered c.args.chan left later was written c.loop-rest.messages c.loop-rest.begun (c.loop.counter + 1) e m after c.loop-rest.rest.now used advanced.0 f so advanced.1 advanced.2 advanced.3) all)

pub loop-rest-preserved : goal.loop-rest-preserved
loop-rest-preserved g c =
    let left = g.S.Source.left c.args.source.now in
    let later = g.S.Source.left c.read.new.self in
    let was = g.K.Sink.written c.args.sink.now in
    let written = g.K.Sink.written c.loop-rest.sink in
    let after = g.K.Sink.written c.answer_next.new.sink in
    let used = c.in-Answered.used in
    record {
      below = search rules;
      few = search rules;
      so_far = rw c.split_at-in-loop-rest.ensures.back (steps_join (ServesSoFar c.args.chan left later was written c.loop-rest.messages c.loop-rest.begun (c.loop.counter + 1) c.loop-rest.rest.now) (λ e f. AdvancesTo (progress.Answered used) c.args.chan c.loop-rest.rest.now e f written after) (ServesSoFar c.args.chan left later was after (c.loop-rest.messages + 1) 0 (c.loop.counter + 1) (drop used c.loop-rest.rest.now)) (g.D.Desk.state c.args.desk.now) (g.D.Desk.state c.loop-rest.desk) (g.D.Desk.state c.answer_next.new.desk)
          c.loop-rest.invariant.so_far (rw c.in-Answered.is at c.in-Ok-answer_next.ensures.step) (λ e m f _ _ so advanced.
          so_far_answered c.args.chan left later was written c.loop-rest.messages c.loop-rest.begun (c.loop.counter + 1) e m after c.loop-rest.rest.now used advanced.0 f so advanced.1 advanced.2 advanced.3));
      writes = search rules;
    }

pub loop-preserved : goal.loop-preserved
loop-preserved g c =
    let left = g.S.Source.left c.args.source.now in
    let later = g.S.Source.left c.read.new.self in
    let was = g.K.Sink.written c.args.sink.now in
    let written = g.K.Sink.written c.loop-rest.sink in
    let rest = c.loop-rest.rest.now in
    let a = g.D.Desk.state c.args.desk.now in
    elim c.loop-rest-test.branch [
      | else-loop-rest-test w ↦
          let none : length rest ≡ 0 = search rules in
          record {
            below = c.loop-rest.invariant.below;
            size = search rules;
            so_far = rw (w.desk-is, w.sink-is, w.begun-is) (subst (λ (r : List ℕ). EmulatorSteps (ServesSoFar c.args.chan left later was written c.loop-rest.messages c.loop-rest.begun (c.loop.counter + 1) r) a (g.D.Desk.state c.loop-rest.desk)) (nil_of rest none) c.loop-rest.invariant.so_far);
            reads = search rules;
            writes = search rules;
            never_fails = search rules;
          }
      | then-loop-rest-test+in-Ok-answer_next+in-Part w ↦
          let after = g.K.Sink.written w.answer_next.new.sink in
          record {
            below = c.loop-rest.invariant.below;
            size = search rules;
            so_far = rw (w.desk-is, w.sink-is) (steps_join (ServesSoFar c.args.chan left later was written c.loop-rest.messages c.loop-rest.begun (c.loop.counter + 1) rest) (λ e f. AdvancesTo progress.Part c.args.chan rest e f written after) (ServesSoFar c.args.chan left later was after c.loop-rest.messages c.loop-rest-test.begun (c.loop.counter + 1) []) a (g.D.Desk.state c.loop-rest.desk) (g.D.Desk.state w.answer_next.new.desk)
                c.loop-rest.invariant.so_far (rw w.in-Part.is at w.in-Ok-answer_next.ensures.step) (λ e m f _ _ so advanced.
                let short : c.loop-rest.begun ≤ 4112 = so_far_short c.args.chan left later was written c.loop-rest.messages c.loop-rest.begun (c.loop.counter + 1) e m rest so in
                let few : length rest ≤ 4096 = c.loop-rest.invariant.few in
                let sum : c.loop-rest-test.begun ≡ c.loop-rest.begun + length rest = omega (arith, w.begun-is, w.saturating_add-begun.ensures, short, few) in
                rw sum (so_far_kept c.args.chan left later was written c.loop-rest.messages c.loop-rest.begun (c.loop.counter + 1) e m after rest f so advanced.0 advanced.1 advanced.2)));
            reads = search rules;
            writes = search rules;
            never_fails = search rules;
          }
    ]

pub returns-clause-served : goal.returns-clause-served
returns-clause-served g c =
    let left = g.S.Source.left c.args.source.now in
    let now = g.S.Source.left c.loop.source in
    let was = g.K.Sink.written c.args.sink.now in
    let written = g.K.Sink.written c.loop.sink in
    steps_imply (ServesSoFar c.args.chan left now was written c.loop.messages c.loop.begun c.loop.counter []) (Serves c.args.chan left now was written Turns) (g.D.Desk.state c.args.desk.now) (g.D.Desk.state c.loop.desk)
    c.loop.invariant.so_far (λ e f _ _ so.
    let few = so_far_ends c.args.chan left now was written c.loop.messages c.loop.begun c.loop.counter e f so c.loop.invariant.below in
    absurd (omega (arith, few, c.loop-test.false)))
