use Rattle.std.proofs.Common.{◌≡◌, refl, sym, subst, ap, ◌∙◌, Some, List}
use Rattle.crb_worker.specs.declared.progress.Progress.{Progress}
use Rattle.crb_port.specs.declared.job.PortState.{PortState}
use Rattle.vt_base.specs.declared.types.HostName.TheVariants.{A, B}
use Rattle.move_codec.specs.declared.message.Message.{Message}
use Rattle.two_hosts.specs.Hosts.{bag_size}
use Rattle.vt_script.specs.declared.event.Event.TheVariants.{Offer}
use Rattle.vt_script.specs.declared.reply.Reply.{Reply}
use Rattle.vt_seat.specs.State.{SeatState}
use Rattle.two_seats.specs.Both.{TwoSeats, FollowsBoth, StepsBoth, CountsBoth, running_of, bag_offer}
use Rattle.two_seats.proofs.Counting.{offer_counted}
use Rattle.two_seats.proofs.Lines.{runs_here, room_is}
use Rattle.two_seats.proofs.Seating.{steps_any}
use Rattle.two_seats.proofs.Offering.{offer_any, offer_by_link}
use Rattle.vt_world.proofs.world.World.offer.Goals as goal

pub returns-in-Some-A-clause-steps : goal.returns-in-Some-A-clause-steps
returns-in-Some-A-clause-steps c = λ b piece t f.
    let w : TwoSeats = record { a = c.self.inside.a; b = c.self.inside.b; bag = c.self.inside.bag.items } in
    let here : FollowsBoth b piece t w = subst (FollowsBoth b piece t) (sym c.self.view_is) f in
    let on = runs_here w A (sym c.running.ensures.running ∙ c.in-Some-A.is ∙ ap Some c.in-Some-A.field-0-is) in
    let x : SeatState PortState = c.offer-answer.new.self in
    let said = c.reply_to_offer.ensures.said in
    let steps = offer_any b piece t w A here c.offer-answer.ensures.consistent c.stopped_devices_go_on.ensures.same c.offer-answer.result x.host x.link x.calls_to_fault w.a.faults x.faults said.0 said.1 on c.offer-answer.ensures.offers
    (λ m is. said.4 bag_size t.sent m room_is (c.in_ok-reserve.ensures.items ∙ here.bag_is) is) in
    let bag_is : c.reply_to_offer.new.bag.items ≡ bag_offer c.offer-answer.result said.1 w.bag = said.3 ∙ ap (bag_offer c.offer-answer.result said.1) c.in_ok-reserve.ensures.items in
    subst (λ (p : Progress). StepsBoth b piece t Offer c.reply_to_offer.result (record { a = record { host = x.host; progress = p; link = x.link; calls_to_fault = x.calls_to_fault; faults = x.faults }; b = w.b; bag = c.reply_to_offer.new.bag.items })) (sym c.offer-answer.ensures.progress)
    (subst (λ (bag : List Message). StepsBoth b piece t Offer c.reply_to_offer.result (record { a = record w.a { host = x.host; link = x.link; calls_to_fault = x.calls_to_fault; faults = x.faults }; b = w.b; bag = bag })) (sym bag_is)
    (subst (λ (r : Reply). StepsBoth b piece t Offer r (record { a = record w.a { host = x.host; link = x.link; calls_to_fault = x.calls_to_fault; faults = x.faults }; b = w.b; bag = bag_offer c.offer-answer.result said.1 w.bag })) (sym said.2)
    (steps_any b piece t Offer _ (record { a = record w.a { host = x.host; link = x.link; calls_to_fault = x.calls_to_fault }; b = w.b; bag = bag_offer c.offer-answer.result said.1 w.bag }) x.faults w.b.faults steps)))

pub returns-in-Some-B-clause-steps : goal.returns-in-Some-B-clause-steps
returns-in-Some-B-clause-steps c = λ b piece t f.
    let w : TwoSeats = record { a = c.self.inside.a; b = c.self.inside.b; bag = c.self.inside.bag.items } in
    let here : FollowsBoth b piece t w = subst (FollowsBoth b piece t) (sym c.self.view_is) f in
    let on = runs_here w B (sym c.running.ensures.running ∙ c.in-Some-B.is ∙ ap Some c.in-Some-B.field-0-is) in
    let x : SeatState PortState = c.offer-answer-in-Some-B.new.self in
    let said = c.reply_to_offer-in-Some-B.ensures.said in
    let steps = offer_any b piece t w B here c.offer-answer-in-Some-B.ensures.consistent c.stopped_devices_go_on.ensures.same c.offer-answer-in-Some-B.result x.host x.link x.calls_to_fault w.b.faults x.faults said.0 said.1 on c.offer-answer-in-Some-B.ensures.offers
    (λ m is. said.4 bag_size t.sent m room_is (c.in_ok-reserve.ensures.items ∙ here.bag_is) is) in
    let bag_is : c.reply_to_offer-in-Some-B.new.bag.items ≡ bag_offer c.offer-answer-in-Some-B.result said.1 w.bag = said.3 ∙ ap (bag_offer c.offer-answer-in-Some-B.result said.1) c.in_ok-reserve.ensures.items in
    subst (λ (p : Progress). StepsBoth b piece t Offer c.reply_to_offer-in-Some-B.result (record { a = w.a; b = record { host = x.host; progress = p; link = x.link; calls_to_fault = x.calls_to_fault; faults = x.faults }; bag = c.reply_to_offer-in-Some-B.new.bag.items })) (sym c.offer-answer-in-Some-B.ensures.progress)
    (subst (λ (bag : List Message). StepsBoth b piece t Offer c.reply_to_offer-in-Some-B.result (record { a = w.a; b = record w.b { host = x.host; link = x.link; calls_to_fault = x.calls_to_fault; faults = x.faults }; bag = bag })) (sym bag_is)
    (subst (λ (r : Reply). StepsBoth b piece t Offer r (record { a = w.a; b = record w.b { host = x.host; link = x.link; calls_to_fault = x.calls_to_fault; faults = x.faults }; bag = bag_offer c.offer-answer-in-Some-B.result said.1 w.bag })) (sym said.2)
    (steps_any b piece t Offer _ (record { a = w.a; b = record w.b { host = x.host; link = x.link; calls_to_fault = x.calls_to_fault }; bag = bag_offer c.offer-answer-in-Some-B.result said.1 w.bag }) w.a.faults x.faults steps)))

pub returns-in-Some-A-clause-faults : goal.returns-in-Some-A-clause-faults
returns-in-Some-A-clause-faults c = λ b piece t f.
    let w : TwoSeats = record { a = c.self.inside.a; b = c.self.inside.b; bag = c.self.inside.bag.items } in
    let here : FollowsBoth b piece t w = subst (FollowsBoth b piece t) (sym c.self.view_is) f in
    let found : running_of w ≡ Some A = sym c.running.ensures.running ∙ c.in-Some-A.is ∙ ap Some c.in-Some-A.field-0-is in
    let x : SeatState PortState = c.offer-answer.new.self in
    let by = offer_by_link b piece t w A here c.offer-answer.ensures.consistent c.stopped_devices_go_on.ensures.same c.offer-answer.result x.host x.link x.calls_to_fault w.a.faults x.faults c.offer-answer.ensures.offers in
    subst (λ (old : TwoSeats). CountsBoth t Offer c.reply_to_offer.result old (record { a = x; b = w.b; bag = c.reply_to_offer.new.bag.items })) c.self.view_is
    (offer_counted b piece t w (record { a = x; b = w.b; bag = c.reply_to_offer.new.bag.items }) A c.offer-answer.result c.reply_to_offer.ensures.said.0 c.reply_to_offer.result here found c.reply_to_offer.ensures.said.2 by c.offer-answer.ensures.counts refl)

pub returns-in-Some-B-clause-faults : goal.returns-in-Some-B-clause-faults
returns-in-Some-B-clause-faults c = λ b piece t f.
    let w : TwoSeats = record { a = c.self.inside.a; b = c.self.inside.b; bag = c.self.inside.bag.items } in
    let here : FollowsBoth b piece t w = subst (FollowsBoth b piece t) (sym c.self.view_is) f in
    let found : running_of w ≡ Some B = sym c.running.ensures.running ∙ c.in-Some-B.is ∙ ap Some c.in-Some-B.field-0-is in
    let x : SeatState PortState = c.offer-answer-in-Some-B.new.self in
    let by = offer_by_link b piece t w B here c.offer-answer-in-Some-B.ensures.consistent c.stopped_devices_go_on.ensures.same c.offer-answer-in-Some-B.result x.host x.link x.calls_to_fault w.b.faults x.faults c.offer-answer-in-Some-B.ensures.offers in
    subst (λ (old : TwoSeats). CountsBoth t Offer c.reply_to_offer-in-Some-B.result old (record { a = w.a; b = x; bag = c.reply_to_offer-in-Some-B.new.bag.items })) c.self.view_is
    (offer_counted b piece t w (record { a = w.a; b = x; bag = c.reply_to_offer-in-Some-B.new.bag.items }) B c.offer-answer-in-Some-B.result c.reply_to_offer-in-Some-B.ensures.said.0 c.reply_to_offer-in-Some-B.result here found c.reply_to_offer-in-Some-B.ensures.said.2 by c.offer-answer-in-Some-B.ensures.counts refl)
