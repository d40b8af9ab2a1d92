use Rattle.std.proofs.Common.{length, ap, arith}
use Rattle.vt_base.specs.declared.types.Chan.TheVariants.{Ctrl}
use Rattle.vt_emulator.specs.Emulator.{Controls}
use Rattle.emulator_server.specs.Messages.{AwaitsBytes}
use Rattle.emulator_server.proofs.Knowing.{steps_imply}
use Rattle.emulator_server.proofs.Progressing.{request_is_answered}
use Rattle.emulator_server.proofs.serve.answer_request.Goals as goal

-- a write of nothing doesn't fail
pub returns-in_default-clause-step : goal.returns-in_default-clause-step
returns-in_default-clause-step g c =
    steps_imply (Controls c.args.bytes.now c.control-heard.result.used c.control-heard.new.out) _ (g.D.Desk.state c.args.desk.now) (g.D.Desk.state c.control-heard.new.self) c.control-heard.ensures.step (λ e f is _ step.
    let awaits : AwaitsBytes Ctrl e = rw is at c.requires in (
      c.control-heard.result.used,
      c.control-heard.new.out,
      request_is_answered c.args.bytes.now c.control-heard.result.used c.control-heard.new.out e f awaits step
          (λ none. let never = c.in_default.ensures.succeeds_if_promised (omega (arith, ap length c.bytes.ensures.bytes, ap length none)) in absurd cc),
      rw c.bytes.ensures.bytes at c.in_default.ensures.all,
    ))
