use Rattle.std.proofs.Common.{[], ap, sym, subst, ◌∙◌}
use Rattle.vt_base.specs.Faults.{IsCounted}
use Rattle.crb_port.specs.declared.job.PortState.{PortState}
use Rattle.vt_seat.specs.Seats.{world_of}
use Rattle.vt_seat.specs.State.{SeatState}
use Rattle.vt_seat.specs.Follows.{RefinesOneHost}
use Rattle.vt_seat.proofs.Asks.{ask-steps, ask_failed-steps}
use Rattle.vt_seat.proofs.Counted.{follows_any, steps_any, ask_counted}
use Rattle.vt_seat.proofs.Piece.{commands_piece}
use Rattle.vt_seat.proofs.seat.Seat+PlainPort.ask.Goals.{in-Ok, in-Err}
use Rattle.vt_seat.proofs.seat.Seat+PlainPort.ask.Goals as goal

pub returns-clause-steps : goal.returns-clause-steps
returns-clause-steps c = λ b t follows.
    let here = follows_any b t _ _ _ _ _ 0 (subst (λ s. RefinesOneHost b t (world_of s)) (sym c.self.view_is) follows) in
    elim c.match-cancel.branch [
      | in-Ok w ↦ rw w.result-is (steps_any b t _ _ _ _ _ _ 0 _ (ask-steps b t c.self.inside.host.device c.self.inside.worker c.self.inside.wires.link c.cancel.new.wires.link c.self.inside.wires.calls_to_fault c.cancel.new.wires.calls_to_fault here (w.in-Ok.ensures.exact here.stands.quiet)))
      | in-Err w ↦ rw w.result-is (steps_any b t _ _ _ _ _ _ 0 _ (ask_failed-steps b t c.self.inside.host.device c.self.inside.worker c.self.inside.wires.link c.cancel.new.wires.link c.self.inside.wires.calls_to_fault c.cancel.new.wires.calls_to_fault _ here (w.in-Err.ensures.exact here.stands.quiet)))
    ]

pub returns-clause-faults : goal.returns-clause-faults
returns-clause-faults c = λ b t follows.
    let here = follows_any b t _ _ _ _ _ 0 (subst (λ s. RefinesOneHost b t (world_of s)) (sym c.self.view_is) follows) in
    let was = ap (λ (s : SeatState PortState). s.faults) c.self.view_is in
    elim c.match-cancel.branch [
      | in-Ok w ↦ rw w.result-is (w.in-Ok.ensures.counts ∙ was)
      | in-Err w ↦ rw w.result-is (subst (λ n. IsCounted n c.cancel.new.wires.faults) was (ask_counted c.self.inside.wires.link c.cancel.new.wires.link c.self.inside.wires.calls_to_fault c.cancel.new.wires.calls_to_fault _ _ _ (w.in-Err.ensures.exact here.stands.quiet) w.in-Err.ensures.counts))
    ]

pub returns-clause-piece : goal.returns-clause-piece
returns-clause-piece c = λ b t follows.
    let here = follows_any b t _ _ _ _ _ 0 (subst (λ s. RefinesOneHost b t (world_of s)) (sym c.self.view_is) follows) in
    commands_piece _ _ _ [] c.self.inside.wires.link c.cancel.new.wires.link c.self.inside.wires.calls_to_fault _ c.cancel.new.wires.calls_to_fault tt (c.cancel.ensures.exact here.stands.quiet) ∙ ap (λ (s : SeatState PortState). s.link.emulator.piece) c.self.view_is
