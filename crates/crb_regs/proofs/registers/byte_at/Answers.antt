use Rattle.crb_regs.proofs.Shifts.{shift_byte}
use Rattle.crb_regs.proofs.registers.byte_at.Goals as goal

pub returns : goal.returns
returns c = shift_byte c.args.number c.args.k
