use Rattle.std.proofs.Common.{length, ap, ◌∙◌}
use Rattle.std.specs.Prelude.{◌==◌}
use Rattle.ctrl_model.specs.Emulator.{is_nil}
use Rattle.vt_seat.proofs.Waits.{none_left}
use Rattle.vt_seat.proofs.pending.PendingReply.is_empty.Goals as goal

pub returns : goal.returns
returns c = ap (λ n. c.self.inside.from == n) (ap length c.bytes.ensures.bytes) ∙ none_left c.self.inside.from c.self.inside.out c.self.invariant ∙ ap is_nil c.self.view_is
