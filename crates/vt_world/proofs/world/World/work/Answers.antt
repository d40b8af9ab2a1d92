use Rattle.std.proofs.Common.{◌≡◌, refl, sym, subst, ap, ◌∙◌, Some, List}
use Rattle.crb_port.specs.declared.job.PortState.{PortState}
use Rattle.crb_worker.specs.declared.progress.Progress.{Progress}
use Rattle.vt_base.specs.declared.types.HostName.TheVariants.{A, B}
use Rattle.move_codec.specs.declared.message.Message.{Message}
use Rattle.move_core.specs.Sides.{holds_device}
use Rattle.two_hosts.specs.Hosts.{bag_size}
use Rattle.vt_script.specs.declared.event.Event.TheVariants.{Work}
use Rattle.vt_script.specs.declared.reply.Reply.{Reply}
use Rattle.vt_seat.specs.Follows.{CountsFault}
use Rattle.vt_seat.specs.State.{SeatState}
use Rattle.two_seats.specs.Both.{TwoSeats, FollowsBoth, StepsBoth, CountsBoth, one_of, draining_of, bag_drained}
use Rattle.two_seats.proofs.Lines.{Went, room_is}
use Rattle.two_seats.proofs.Seating.{steps_any}
use Rattle.vt_world.proofs.CountedDrains.{drained_counts}
use Rattle.vt_world.proofs.Drained.{drains_here, drains_along, drained_counted}
use Rattle.vt_world.proofs.Worked.{drained_steps, drained_by}
use Rattle.vt_world.proofs.world.World.work.Goals as goal

pub returns-in-None-clause-steps : goal.returns-in-None-clause-steps
returns-in-None-clause-steps c = c.guest.ensures.steps (λ work none. sym c.draining.ensures.draining ∙ c.in-None.is)

pub returns-in-None-clause-faults : goal.returns-in-None-clause-faults
returns-in-None-clause-faults c = c.guest.ensures.faults (λ work none. sym c.draining.ensures.draining ∙ c.in-None.is)

pub returns-in_ok-reserve-in-Some-A-clause-steps : goal.returns-in_ok-reserve-in-Some-A-clause-steps
returns-in_ok-reserve-in-Some-A-clause-steps c = λ b piece t f.
    let w : TwoSeats = record { a = c.self.inside.a; b = c.self.inside.b; bag = c.self.inside.bag.items } in
    let here : FollowsBoth b piece t w = subst (FollowsBoth b piece t) (sym c.self.view_is) f in
    let drains = drains_here w A (ap draining_of c.self.view_is ∙ sym c.draining.ensures.draining ∙ c.in-Some-A.is ∙ ap Some c.in-Some-A.field-0-is) in
    let mid : SeatState PortState = c.work-step.new.self in
    let went : Went b piece t w A Work c.work-step.result mid = record { follows = here; works = ap holds_device drains; steps = c.work-step.ensures.steps b (one_of t A); others = c.work-step.ensures.others; piece_is = c.work-step.ensures.piece b (one_of t A) } in
    let x : SeatState PortState = c.drained-answer.new.self in
    let said = c.reply_to_drained.ensures.said in
    let steps = drained_steps b piece t w A c.work-step.result mid went drains c.drained-answer.ensures.consistent c.stopped_devices_go_on.ensures.same c.drained-answer.result x said.0 said.1 c.drained-answer.ensures.drains
    (λ m is. said.4 bag_size t.sent m room_is (c.in_ok-reserve-in-Some-A.ensures.items ∙ here.bag_is) is) in
    let bag_is : c.reply_to_drained.new.bag.items ≡ bag_drained c.drained-answer.result said.1 w.bag = said.3 ∙ ap (bag_drained c.drained-answer.result said.1) c.in_ok-reserve-in-Some-A.ensures.items in
    subst (λ (p : Progress). StepsBoth b piece t Work c.reply_to_drained.result (record { a = record { host = x.host; progress = p; link = x.link; calls_to_fault = x.calls_to_fault; faults = x.faults }; b = w.b; bag = c.reply_to_drained.new.bag.items })) (sym c.drained-answer.ensures.progress)
    (subst (λ (bag : List Message). StepsBoth b piece t Work c.reply_to_drained.result (record { a = record mid { host = x.host; link = x.link; calls_to_fault = x.calls_to_fault; faults = x.faults }; b = w.b; bag = bag })) (sym bag_is)
    (subst (λ (r : Reply). StepsBoth b piece t Work r (record { a = record mid { host = x.host; link = x.link; calls_to_fault = x.calls_to_fault; faults = x.faults }; b = w.b; bag = bag_drained c.drained-answer.result said.1 w.bag })) (sym said.2)
    (steps_any b piece t Work _ (record { a = record mid { host = x.host; link = x.link; calls_to_fault = x.calls_to_fault }; b = w.b; bag = bag_drained c.drained-answer.result said.1 w.bag }) x.faults w.b.faults steps)))

pub returns-in_ok-reserve-in-Some-A-clause-faults : goal.returns-in_ok-reserve-in-Some-A-clause-faults
returns-in_ok-reserve-in-Some-A-clause-faults c = λ b piece t f.
    let w : TwoSeats = record { a = c.self.inside.a; b = c.self.inside.b; bag = c.self.inside.bag.items } in
    let here : FollowsBoth b piece t w = subst (FollowsBoth b piece t) (sym c.self.view_is) f in
    let drains = drains_here w A (ap draining_of c.self.view_is ∙ sym c.draining.ensures.draining ∙ c.in-Some-A.is ∙ ap Some c.in-Some-A.field-0-is) in
    let mid : SeatState PortState = c.work-step.new.self in
    let went : Went b piece t w A Work c.work-step.result mid = record { follows = here; works = ap holds_device drains; steps = c.work-step.ensures.steps b (one_of t A); others = c.work-step.ensures.others; piece_is = c.work-step.ensures.piece b (one_of t A) } in
    let x : SeatState PortState = c.drained-answer.new.self in
    let said = c.reply_to_drained.ensures.said in
    let by = drained_by b piece t w A c.work-step.result mid went drains c.drained-answer.ensures.consistent c.stopped_devices_go_on.ensures.same c.drained-answer.result x c.drained-answer.ensures.drains in
    let counts = drained_counts c.work-step.result c.drained-answer.result said.0 w.a.faults mid.faults x.faults by (c.work-step.ensures.faults b (one_of t A) (drains_along b piece t w A here drains)) c.drained-answer.ensures.counts in
    subst (λ (old : TwoSeats). CountsBoth t Work c.reply_to_drained.result old (record { a = x; b = w.b; bag = c.reply_to_drained.new.bag.items })) c.self.view_is
    (drained_counted b piece t w (record { a = x; b = w.b; bag = c.reply_to_drained.new.bag.items }) A c.reply_to_drained.result here drains (subst (λ (r : Reply). CountsFault r w.a.faults x.faults) (sym said.2) counts) refl)

pub returns-in_ok-reserve-in-Some-B-clause-steps : goal.returns-in_ok-reserve-in-Some-B-clause-steps
returns-in_ok-reserve-in-Some-B-clause-steps c = λ b piece t f.
    let w : TwoSeats = record { a = c.self.inside.a; b = c.self.inside.b; bag = c.self.inside.bag.items } in
    let here : FollowsBoth b piece t w = subst (FollowsBoth b piece t) (sym c.self.view_is) f in
    let drains = drains_here w B (ap draining_of c.self.view_is ∙ sym c.draining.ensures.draining ∙ c.in-Some-B.is ∙ ap Some c.in-Some-B.field-0-is) in
    let mid : SeatState PortState = c.work-step-in-Some-B.new.self in
    let went : Went b piece t w B Work c.work-step-in-Some-B.result mid = record { follows = here; works = ap holds_device drains; steps = c.work-step-in-Some-B.ensures.steps b (one_of t B); others = c.work-step-in-Some-B.ensures.others; piece_is = c.work-step-in-Some-B.ensures.piece b (one_of t B) } in
    let x : SeatState PortState = c.drained-answer-in-Some-B.new.self in
    let said = c.reply_to_drained-in-Some-B.ensures.said in
    let steps = drained_steps b piece t w B c.work-step-in-Some-B.result mid went drains c.drained-answer-in-Some-B.ensures.consistent c.stopped_devices_go_on.ensures.same c.drained-answer-in-Some-B.result x said.0 said.1 c.drained-answer-in-Some-B.ensures.drains
    (λ m is. said.4 bag_size t.sent m room_is (c.in_ok-reserve-in-Some-B.ensures.items ∙ here.bag_is) is) in
    let bag_is : c.reply_to_drained-in-Some-B.new.bag.items ≡ bag_drained c.drained-answer-in-Some-B.result said.1 w.bag = said.3 ∙ ap (bag_drained c.drained-answer-in-Some-B.result said.1) c.in_ok-reserve-in-Some-B.ensures.items in
    subst (λ (p : Progress). StepsBoth b piece t Work c.reply_to_drained-in-Some-B.result (record { a = w.a; b = record { host = x.host; progress = p; link = x.link; calls_to_fault = x.calls_to_fault; faults = x.faults }; bag = c.reply_to_drained-in-Some-B.new.bag.items })) (sym c.drained-answer-in-Some-B.ensures.progress)
    (subst (λ (bag : List Message). StepsBoth b piece t Work c.reply_to_drained-in-Some-B.result (record { a = w.a; b = record mid { host = x.host; link = x.link; calls_to_fault = x.calls_to_fault; faults = x.faults }; bag = bag })) (sym bag_is)
    (subst (λ (r : Reply). StepsBoth b piece t Work r (record { a = w.a; b = record mid { host = x.host; link = x.link; calls_to_fault = x.calls_to_fault; faults = x.faults }; bag = bag_drained c.drained-answer-in-Some-B.result said.1 w.bag })) (sym said.2)
    (steps_any b piece t Work _ (record { a = w.a; b = record mid { host = x.host; link = x.link; calls_to_fault = x.calls_to_fault }; bag = bag_drained c.drained-answer-in-Some-B.result said.1 w.bag }) w.a.faults x.faults steps)))

pub returns-in_ok-reserve-in-Some-B-clause-faults : goal.returns-in_ok-reserve-in-Some-B-clause-faults
returns-in_ok-reserve-in-Some-B-clause-faults c = λ b piece t f.
    let w : TwoSeats = record { a = c.self.inside.a; b = c.self.inside.b; bag = c.self.inside.bag.items } in
    let here : FollowsBoth b piece t w = subst (FollowsBoth b piece t) (sym c.self.view_is) f in
    let drains = drains_here w B (ap draining_of c.self.view_is ∙ sym c.draining.ensures.draining ∙ c.in-Some-B.is ∙ ap Some c.in-Some-B.field-0-is) in
    let mid : SeatState PortState = c.work-step-in-Some-B.new.self in
    let went : Went b piece t w B Work c.work-step-in-Some-B.result mid = record { follows = here; works = ap holds_device drains; steps = c.work-step-in-Some-B.ensures.steps b (one_of t B); others = c.work-step-in-Some-B.ensures.others; piece_is = c.work-step-in-Some-B.ensures.piece b (one_of t B) } in
    let x : SeatState PortState = c.drained-answer-in-Some-B.new.self in
    let said = c.reply_to_drained-in-Some-B.ensures.said in
    let by = drained_by b piece t w B c.work-step-in-Some-B.result mid went drains c.drained-answer-in-Some-B.ensures.consistent c.stopped_devices_go_on.ensures.same c.drained-answer-in-Some-B.result x c.drained-answer-in-Some-B.ensures.drains in
    let counts = drained_counts c.work-step-in-Some-B.result c.drained-answer-in-Some-B.result said.0 w.b.faults mid.faults x.faults by (c.work-step-in-Some-B.ensures.faults b (one_of t B) (drains_along b piece t w B here drains)) c.drained-answer-in-Some-B.ensures.counts in
    subst (λ (old : TwoSeats). CountsBoth t Work c.reply_to_drained-in-Some-B.result old (record { a = w.a; b = x; bag = c.reply_to_drained-in-Some-B.new.bag.items })) c.self.view_is
    (drained_counted b piece t w (record { a = w.a; b = x; bag = c.reply_to_drained-in-Some-B.new.bag.items }) B c.reply_to_drained-in-Some-B.result here drains (subst (λ (r : Reply). CountsFault r w.b.faults x.faults) (sym said.2) counts) refl)
