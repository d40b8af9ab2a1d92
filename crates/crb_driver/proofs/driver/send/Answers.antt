use Rattle.std.proofs.Common.{[], ◌∷◌}
use Rattle.crb_regs.specs.declared.registers.TheConstants.{CTRL_CANCEL, CTRL_START, DATA_BUFFER, NO_CANCEL, START}
use Rattle.crb_driver.specs.Accesses.{byte_writes, register_write}
use Rattle.crb_driver.proofs.Reaching.{reaches-append, reaches-cons}
use Rattle.crb_driver.proofs.driver.send.Goals as goal

pub returns-clause-steps : goal.returns-clause-steps
returns-clause-steps g c =
    let step = g.B.Bus.step in
    let new = c.write_register-2.new.bus in
    let written = reaches-append step c.write_register.new.bus c.write_bytes.new.bus new (byte_writes DATA_BUFFER c.args.command.now) (register_write CTRL_START START ∷ []) c.write_bytes.ensures.steps c.write_register-2.ensures.steps in
    reaches-cons step c.args.bus.now c.write_register.new.bus new (register_write CTRL_CANCEL NO_CANCEL) _ c.write_register.ensures.steps written
