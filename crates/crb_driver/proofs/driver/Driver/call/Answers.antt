use Rattle.std.proofs.Common.{refl}
use Rattle.std.proofs.lemmas.Result.{IfOk-weaker, IfErr-weaker}
use Rattle.crb_driver.proofs.Running.{answers, fails, times_out}
use Rattle.crb_driver.proofs.driver.Driver.call.Goals as goal

pub returns-then-not-wait-clause-err : goal.returns-then-not-wait-clause-err
returns-then-not-wait-clause-err g c =
    (refl, times_out g.B.Bus.step c.args.bus.now c.start.new.bus c.wait.new.bus c.args.command.now c.args.polls c.in_ok-start.ensures.ok c.if-not-wait.ensures.waits)

pub returns-clause-ok : goal.returns-clause-ok
returns-clause-ok g c =
    IfOk-weaker _ _ _ (λ n. answers g.B.Bus.step c.args.bus.now c.start.new.bus c.wait.new.bus c.finish.new.bus c.args.command.now c.args.polls _ c.in_ok-start.ensures.ok c.if-not-wait.ensures.waits) c.finish.ensures.ok

pub returns-clause-err : goal.returns-clause-err
returns-clause-err g c =
    IfErr-weaker _ _ _ (λ fault. fails g.B.Bus.step c.args.bus.now c.start.new.bus c.wait.new.bus c.finish.new.bus c.args.command.now c.args.polls _ fault c.in_ok-start.ensures.ok c.if-not-wait.ensures.waits) c.finish.ensures.err
