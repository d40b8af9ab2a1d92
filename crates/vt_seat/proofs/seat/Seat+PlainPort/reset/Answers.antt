use Rattle.std.proofs.Common.{rules, ◌≡◌, ◌≢◌, [], ap, sym, subst, ◌∙◌}
use Rattle.std.specs.Prelude.{Ok}
use Rattle.crb_regs.specs.declared.phase.Phase.TheVariants.{Lost}
use Rattle.crb_machine.specs.Over.{plain_device}
use Rattle.crb_machine.specs.Steps.{reset_reply}
use Rattle.vt_base.specs.Faults.{IsCounted}
use Rattle.crb_port.specs.declared.job.PortState.{PortState}
use Rattle.vt_seat.specs.Seats.{world_of}
use Rattle.vt_seat.specs.State.{SeatState}
use Rattle.vt_seat.specs.Follows.{RefinesOneHost}
use Rattle.vt_seat.proofs.Resets.{done_by, lost_device-steps, reset-steps, reset_lost-steps}
use Rattle.vt_seat.proofs.Steps.{the_same}
use Rattle.vt_seat.proofs.Counted.{follows_any, steps_any, reset_counted}
use Rattle.vt_seat.proofs.Piece.{commands_piece}
use Rattle.vt_seat.proofs.seat.Seat+PlainPort.reset.Goals as goal

pub returns-in-Lost-clause-steps : goal.returns-in-Lost-clause-steps
returns-in-Lost-clause-steps c = λ b t follows.
    let done : reset_reply (plain_device c.self.inside.host.device) ≡ Ok tt = sym c.reset.ensures.exact_result ∙ done_by c.reset.result (sym c.if-is_err.ensures.value) in
    steps_any b t _ _ _ _ _ _ 0 _ (lost_device-steps b t c.self.inside.host.device c.reset.new.self.device c.self.inside.worker c.self.inside.wires.link c.self.inside.wires.calls_to_fault
    (follows_any b t _ _ _ _ _ 0 (subst (λ s. RefinesOneHost b t (world_of s)) (sym c.self.view_is) follows)) (the_same _ _ c.reset.ensures.exact) done (sym c.in-Lost.ensures))

pub returns-in-Ok : goal.returns-in-Ok
returns-in-Ok c = record {
  steps = λ b t follows.
      let here = follows_any b t _ _ _ _ _ 0 (subst (λ s. RefinesOneHost b t (world_of s)) (sym c.self.view_is) follows) in
      let done : reset_reply (plain_device c.self.inside.host.device) ≡ Ok tt = sym c.reset.ensures.exact_result ∙ done_by c.reset.result (sym c.if-is_err.ensures.value) in
      let working : c.reset.new.self.device.regs.phase ≢ Lost = λ lost. c.in_default.not-Lost (c.phase.ensures ∙ lost) in
      steps_any b t _ _ _ _ _ _ 0 _ (reset-steps b t c.self.inside.host.device c.reset.new.self.device c.self.inside.worker c.self.inside.wires.link c.init.new.wires.link c.self.inside.wires.calls_to_fault c.init.new.wires.calls_to_fault
      here (the_same _ _ c.reset.ensures.exact) done working (c.in-Ok.ensures.exact here.stands.quiet));
  faults = λ b t follows. c.in-Ok.ensures.counts ∙ ap (λ (s : SeatState PortState). s.faults) c.self.view_is;
  piece = λ b t follows.
      let here = follows_any b t _ _ _ _ _ 0 (subst (λ s. RefinesOneHost b t (world_of s)) (sym c.self.view_is) follows) in
      commands_piece _ _ _ [] c.self.inside.wires.link c.init.new.wires.link c.self.inside.wires.calls_to_fault _ c.init.new.wires.calls_to_fault tt (c.init.ensures.exact here.stands.quiet) ∙ ap (λ (s : SeatState PortState). s.link.emulator.piece) c.self.view_is;
  others = search rules;
  printable = tt;
}

pub returns-in-Err : goal.returns-in-Err
returns-in-Err c = record {
  steps = λ b t follows.
      let here = follows_any b t _ _ _ _ _ 0 (subst (λ s. RefinesOneHost b t (world_of s)) (sym c.self.view_is) follows) in
      let done : reset_reply (plain_device c.self.inside.host.device) ≡ Ok tt = sym c.reset.ensures.exact_result ∙ done_by c.reset.result (sym c.if-is_err.ensures.value) in
      let working : c.reset.new.self.device.regs.phase ≢ Lost = λ lost. c.in_default.not-Lost (c.phase.ensures ∙ lost) in
      steps_any b t _ _ _ _ _ _ 0 _ (reset_lost-steps b t c.self.inside.host.device c.reset.new.self.device c.fail.new.self.device c.self.inside.worker c.self.inside.wires.link c.init.new.wires.link c.self.inside.wires.calls_to_fault c.init.new.wires.calls_to_fault _
      here (the_same _ _ c.reset.ensures.exact) done working (the_same _ _ c.fail.ensures.exact) (c.in-Err.ensures.exact here.stands.quiet));
  faults = λ b t follows.
      let here = follows_any b t _ _ _ _ _ 0 (subst (λ s. RefinesOneHost b t (world_of s)) (sym c.self.view_is) follows) in
      let done : reset_reply (plain_device c.self.inside.host.device) ≡ Ok tt = sym c.reset.ensures.exact_result ∙ done_by c.reset.result (sym c.if-is_err.ensures.value) in
      let working : c.reset.new.self.device.regs.phase ≢ Lost = λ lost. c.in_default.not-Lost (c.phase.ensures ∙ lost) in
      subst (λ n. IsCounted n c.init.new.wires.faults) (ap (λ (s : SeatState PortState). s.faults) c.self.view_is)
      (reset_counted b t c.self.inside.host.device c.reset.new.self.device c.self.inside.worker c.self.inside.wires.link c.init.new.wires.link c.self.inside.wires.calls_to_fault c.init.new.wires.calls_to_fault _ _ _
      here (the_same _ _ c.reset.ensures.exact) done working (c.in-Err.ensures.exact here.stands.quiet) c.in-Err.ensures.counts);
  piece = λ b t follows.
      let here = follows_any b t _ _ _ _ _ 0 (subst (λ s. RefinesOneHost b t (world_of s)) (sym c.self.view_is) follows) in
      commands_piece _ _ _ [] c.self.inside.wires.link c.init.new.wires.link c.self.inside.wires.calls_to_fault _ c.init.new.wires.calls_to_fault tt (c.init.ensures.exact here.stands.quiet) ∙ ap (λ (s : SeatState PortState). s.link.emulator.piece) c.self.view_is;
  others = search rules;
  printable = tt;
}
