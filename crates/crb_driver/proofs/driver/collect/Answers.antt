use Rattle.std.proofs.Common.{[], ◌∷◌}
use Rattle.crb_regs.specs.declared.registers.TheConstants.{CTRL_REQ, LOC_CTRL, DATA_BUFFER, GO_IDLE, RELINQUISH}
use Rattle.crb_driver.specs.Accesses.{byte_reads, register_write}
use Rattle.crb_driver.proofs.Reaching.{reaches-append, reaches-cons}
use Rattle.crb_driver.proofs.driver.collect.Goals as goal

pub returns-clause-steps : goal.returns-clause-steps
returns-clause-steps g c =
    let step = g.B.Bus.step in
    let new = c.write_register-2.new.bus in
    let left = reaches-cons step c.read_bytes.new.bus c.write_register.new.bus new (register_write CTRL_REQ GO_IDLE) (register_write LOC_CTRL RELINQUISH ∷ []) c.write_register.ensures.steps c.write_register-2.ensures.steps in
    reaches-append step c.args.bus.now c.read_bytes.new.bus new (byte_reads DATA_BUFFER c.read_bytes.new.into) _ c.read_bytes.ensures.steps left
