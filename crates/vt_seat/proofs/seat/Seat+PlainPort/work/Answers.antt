use Rattle.std.proofs.Common.{ap, sym, subst, ◌∙◌}
use Rattle.move_core.specs.Hosts.{HostRest}
use Rattle.crb_port.specs.declared.job.PortState.{PortState}
use Rattle.vt_seat.specs.Seats.{world_of}
use Rattle.vt_seat.specs.State.{SeatState}
use Rattle.vt_seat.specs.Follows.{RefinesOneHost, CountsFault, said}
use Rattle.vt_seat.proofs.Steps.{work-steps}
use Rattle.vt_seat.proofs.Counted.{follows_any, steps_any, work_counted}
use Rattle.vt_seat.proofs.Piece.{work_piece}
use Rattle.vt_seat.proofs.seat.Seat+PlainPort.work.Goals as goal

pub returns-clause-steps : goal.returns-clause-steps
returns-clause-steps c = λ b t follows.
    rw c.reply_of.ensures.said (steps_any b t _ _ _ _ _ _ 0 _ (work-steps b t c.self.inside.host.device c.step-step.new.port.device c.self.inside.worker c.step-step.new.self c.self.inside.wires.link c.step-step.new.wires.link
    c.self.inside.wires.calls_to_fault c.step-step.new.wires.calls_to_fault c.self.inside.wires.faults c.step-step.new.wires.faults c.step-step.result
    (follows_any b t _ _ _ _ _ 0 (subst (λ s. RefinesOneHost b t (world_of s)) (sym c.self.view_is) follows)) c.side-side.ensures.consistent.device.port (ap (λ (r : HostRest × Unit {0}). r.0.device) c.step-step.ensures.rest_unchanged) c.step-step.ensures.works))

pub returns-clause-faults : goal.returns-clause-faults
returns-clause-faults c = λ b t follows.
    rw c.reply_of.ensures.said (subst (λ n. CountsFault (said c.step-step.result) n c.step-step.new.wires.faults) (ap (λ (s : SeatState PortState). s.faults) c.self.view_is)
    (work_counted b t c.self.inside.host.device c.self.inside.worker c.step-step.new.self c.self.inside.wires.link c.step-step.new.wires.link
    c.self.inside.wires.calls_to_fault c.step-step.new.wires.calls_to_fault c.self.inside.wires.faults c.step-step.new.wires.faults c.step-step.result _ _
    (follows_any b t _ _ _ _ _ 0 (subst (λ s. RefinesOneHost b t (world_of s)) (sym c.self.view_is) follows)) c.step-step.ensures.works))

pub returns-clause-piece : goal.returns-clause-piece
returns-clause-piece c = λ b t follows.
    work_piece b t c.self.inside.host.device c.self.inside.worker c.step-step.new.self c.self.inside.wires.link c.step-step.new.wires.link
    c.self.inside.wires.calls_to_fault c.step-step.new.wires.calls_to_fault c.self.inside.wires.faults c.step-step.new.wires.faults c.step-step.result _ _
    (follows_any b t _ _ _ _ _ 0 (subst (λ s. RefinesOneHost b t (world_of s)) (sym c.self.view_is) follows)) c.step-step.ensures.works ∙ ap (λ (s : SeatState PortState). s.link.emulator.piece) c.self.view_is
