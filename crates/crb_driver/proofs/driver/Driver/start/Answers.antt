use Rattle.std.proofs.Common.{rules}
use Rattle.crb_driver.specs.Bus.{Reaches}
use Rattle.crb_driver.specs.Accesses.{ready_accesses, send_accesses}
use Rattle.crb_driver.proofs.Reaching.{reaches-append}
use Rattle.crb_driver.proofs.driver.Driver.start.Goals as goal

pub returns-clause-ok : goal.returns-clause-ok
returns-clause-ok g c =
    let step = g.B.Bus.step in
    let loc_sts = c.read_register-access.result in
    let ctrl_sts = c.read_register-state.result in
    let middle = c.read_register-state.new.bus in
    let readied : Reaches step c.args.bus.now (ready_accesses loc_sts ctrl_sts) middle = search rules in
    record {
      loc_sts = loc_sts;
      ctrl_sts = ctrl_sts;
      granted = c.if-access-eq0.false;
      ready = search rules;
      reaches = reaches-append step c.args.bus.now middle c.send.new.bus (ready_accesses loc_sts ctrl_sts) (send_accesses c.args.command.now) readied c.send.ensures.steps;
    }
