use Rattle.std.proofs.Common.{◌≡◌, ◌∙◌, ◌++◌, ap, take, true, rules}
use Rattle.vt_base.specs.declared.types.Chan.TheVariants.{Data}
use Rattle.ctrl_model.specs.Emulator.{EmulatorState, holding}
use Rattle.vt_emulator.specs.Emulator.{Feeds, Runs}
use Rattle.emulator_server.specs.Messages.{AwaitsBytes, uncancelled}
use Rattle.emulator_server.proofs.Knowing.{steps_join}
use Rattle.emulator_server.proofs.Progressing.{command_is_answered, ran_is_dropped}
use Rattle.emulator_server.proofs.serve.answer_command.Goals as goal

pub returns-in_default-clause-step : goal.returns-in_default-clause-step
returns-in_default-clause-step g c =
    let whole : c.data-took.result.whole ≡ true = search rules in
    steps_join (Feeds c.args.bytes.now c.data-took.result.used true) (Runs c.run_held-size.result c.args.buf.now c.run_held-size.new.into) _ (g.D.Desk.state c.args.desk.now) (g.D.Desk.state c.data-took.new.self) (g.D.Desk.state c.run_held-size.new.self)
    (rw whole at c.data-took.ensures.step) c.run_held-size.ensures.step (λ e m f is _ feeds runs.
    let awaits : AwaitsBytes Data e = rw is at c.requires in (
      c.data-took.result.used,
      take c.run_held-size.result c.run_held-size.new.into,
      command_is_answered c.args.bytes.now c.data-took.result.used e m c.run_held-size.result c.args.buf.now c.run_held-size.new.into f awaits feeds runs,
      rw c.bytes.ensures.value at c.in_default.ensures.all,
    ))

pub returns-clause-step : goal.returns-clause-step
returns-clause-step g c =
    let whole : c.data-took.result.whole ≡ true = search rules in
    steps_join (Feeds c.args.bytes.now c.data-took.result.used true) (Runs c.run_held-size.result c.args.buf.now c.run_held-size.new.into) _ (g.D.Desk.state c.args.desk.now) (g.D.Desk.state c.data-took.new.self) (g.D.Desk.state c.run_held-size.new.self)
    (rw whole at c.data-took.ensures.step) c.run_held-size.ensures.step (λ e m f is _ feeds runs.
    let awaits : AwaitsBytes Data e = rw is at c.requires in
    let answered = command_is_answered c.args.bytes.now c.data-took.result.used e m c.run_held-size.result c.args.buf.now c.run_held-size.new.into f awaits feeds runs in
    let command = e.command ++ take c.data-took.result.used c.args.bytes.now in (
      take c.run_held-size.result c.run_held-size.new.into,
      answered,
      ap (λ (d : EmulatorState). d.held) answered.answers.after ∙ ran_is_dropped (uncancelled command) (holding command e.emulator),
      rw c.bytes.ensures.value at c.in-Ok.ensures.all,
    ))
