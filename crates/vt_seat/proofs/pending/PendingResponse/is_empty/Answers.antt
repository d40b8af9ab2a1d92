use Rattle.std.proofs.Common.{ap, ◌∙◌, arith}
use Rattle.ctrl_model.specs.Emulator.{is_nil}
use Rattle.vt_seat.proofs.Waits.{none_between}
use Rattle.vt_seat.proofs.pending.PendingResponse.is_empty.Goals as goal

pub returns : goal.returns
returns c = none_between c.self.inside.from c.self.inside.to c.self.inside.buf c.self.invariant.0 (omega (arith, c.self.invariant.1, c.self.invariant.2)) ∙ ap is_nil c.self.view_is
