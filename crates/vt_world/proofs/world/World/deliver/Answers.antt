use Rattle.std.proofs.Common.{rules, ◌≡◌, length, sym, subst, ap, ◌∙◌, List, refl}
use Rattle.crb_worker.specs.declared.progress.Progress.{Progress}
use Rattle.crb_port.specs.declared.job.PortState.{PortState}
use Rattle.vt_base.specs.declared.types.HostName.TheVariants.{A, B}
use Rattle.move_codec.specs.declared.message.Message.{Message}
use Rattle.two_hosts.specs.Hosts.{bag_size}
use Rattle.vt_script.specs.declared.event.Event.TheVariants.{Deliver}
use Rattle.vt_script.specs.declared.reply.Reply.{Reply}
use Rattle.vt_script.specs.declared.reply.Reply.TheVariants as reply
use Rattle.two_hosts.proofs.InvariantKept.{in_bag_sent}
use Rattle.vt_seat.specs.State.{SeatState}
use Rattle.two_seats.specs.Both.{TwoSeats, FollowsBoth, StepsBoth, CountsBoth, bag_delivery}
use Rattle.two_seats.proofs.Counting.{delivery_counted}
use Rattle.two_seats.proofs.Lines.{room_is}
use Rattle.two_seats.proofs.Seating.{steps_any}
use Rattle.two_seats.proofs.Deliveries.{has_bytes, deliver_at, delivered_by_link_at, found_in, none_in, none_delivered}
use Rattle.vt_world.proofs.world.World.deliver.Goals as goal

pub returns-then-at-len-clause-steps : goal.returns-then-at-len-clause-steps
returns-then-at-len-clause-steps c = λ b piece t f.
    let w : TwoSeats = record { a = c.self.inside.a; b = c.self.inside.b; bag = c.self.inside.bag.items } in
    let here : FollowsBoth b piece t w = subst (FollowsBoth b piece t) (sym c.self.view_is) f in
    let len : c.len.result ≡ length c.reserve.new.self.items = search rules in
    let none = none_in t.sent c.reserve.new.self.items c.args.number c.len.result (c.in_ok-reserve.ensures.items ∙ here.bag_is) c.requires.least len c.if-at-len.true in
    subst (λ (bag : List Message). StepsBoth b piece t (Deliver c.args.number) reply.NoMessage (record { a = w.a; b = w.b; bag = bag })) (sym c.in_ok-reserve.ensures.items) (none_delivered b piece t w c.args.number here none)

pub returns-then-not-has_bytes-clause-steps : goal.returns-then-not-has_bytes-clause-steps
returns-then-not-has_bytes-clause-steps c = λ b piece t f.
    let w : TwoSeats = record { a = c.self.inside.a; b = c.self.inside.b; bag = c.self.inside.bag.items } in
    let here : FollowsBoth b piece t w = subst (FollowsBoth b piece t) (sym c.self.view_is) f in
    let len : c.len.result ≡ length c.reserve.new.self.items = search rules in
    let found = found_in t.sent c.reserve.new.self.items c.args.number c.len.result c.index-m.result.now (c.in_ok-reserve.ensures.items ∙ here.bag_is) c.requires.least len c.if-at-len.false c.index-m.ensures in
    absurd (c.has_bytes.ensures.none c.if-not-has_bytes.true (has_bytes c.index-m.result.now.body (here.some c.index-m.result.now (in_bag_sent t.sent c.args.number c.index-m.result.now found))))

pub returns-in_ok-answer-in-A-clause-steps : goal.returns-in_ok-answer-in-A-clause-steps
returns-in_ok-answer-in-A-clause-steps c = λ b piece t f.
    let w : TwoSeats = record { a = c.self.inside.a; b = c.self.inside.b; bag = c.self.inside.bag.items } in
    let here : FollowsBoth b piece t w = subst (FollowsBoth b piece t) (sym c.self.view_is) f in
    let len : c.len.result ≡ length c.reserve.new.self.items = search rules in
    let found = found_in t.sent c.reserve.new.self.items c.args.number c.len.result c.index-m.result.now (c.in_ok-reserve.ensures.items ∙ here.bag_is) c.requires.least len c.if-at-len.false c.index-m.ensures in
    let x : SeatState PortState = c.deliver.new.self in
    let answer = c.in_ok-answer-in-A.answer in
    let said = c.reply_to_delivery.ensures.said in
    let steps = deliver_at b piece t w c.args.number c.index-m.result.now here A c.in-A.is c.deliver.ensures.consistent found answer x.host x.link x.calls_to_fault w.a.faults x.faults said.0 said.1 c.in_ok-answer-in-A.ensures.row (said.4 bag_size t.sent room_is (c.in_ok-reserve.ensures.items ∙ here.bag_is)) in
    let bag_is : c.reply_to_delivery.new.bag.items ≡ bag_delivery answer said.1 w.bag = said.3 ∙ ap (bag_delivery answer said.1) c.in_ok-reserve.ensures.items in
    subst (λ (q : Progress). StepsBoth b piece t (Deliver c.args.number) c.reply_to_delivery.result (record { a = record { host = x.host; progress = q; link = x.link; calls_to_fault = x.calls_to_fault; faults = x.faults }; b = w.b; bag = c.reply_to_delivery.new.bag.items })) (sym c.deliver.ensures.progress)
    (subst (λ (bag : List Message). StepsBoth b piece t (Deliver c.args.number) c.reply_to_delivery.result (record { a = record w.a { host = x.host; link = x.link; calls_to_fault = x.calls_to_fault; faults = x.faults }; b = w.b; bag = bag })) (sym bag_is)
    (subst (λ (r : Reply). StepsBoth b piece t (Deliver c.args.number) r (record { a = record w.a { host = x.host; link = x.link; calls_to_fault = x.calls_to_fault; faults = x.faults }; b = w.b; bag = bag_delivery answer said.1 w.bag })) (sym said.2)
    (steps_any b piece t (Deliver c.args.number) _ (record { a = record w.a { host = x.host; link = x.link; calls_to_fault = x.calls_to_fault }; b = w.b; bag = bag_delivery answer said.1 w.bag }) x.faults w.b.faults steps)))

pub returns-in_ok-answer-in-B-clause-steps : goal.returns-in_ok-answer-in-B-clause-steps
returns-in_ok-answer-in-B-clause-steps c = λ b piece t f.
    let w : TwoSeats = record { a = c.self.inside.a; b = c.self.inside.b; bag = c.self.inside.bag.items } in
    let here : FollowsBoth b piece t w = subst (FollowsBoth b piece t) (sym c.self.view_is) f in
    let len : c.len.result ≡ length c.reserve.new.self.items = search rules in
    let found = found_in t.sent c.reserve.new.self.items c.args.number c.len.result c.index-m.result.now (c.in_ok-reserve.ensures.items ∙ here.bag_is) c.requires.least len c.if-at-len.false c.index-m.ensures in
    let x : SeatState PortState = c.deliver-in-B.new.self in
    let answer = c.in_ok-answer-in-B.answer in
    let said = c.reply_to_delivery-in-B.ensures.said in
    let steps = deliver_at b piece t w c.args.number c.index-m.result.now here B c.in-B.is c.deliver-in-B.ensures.consistent found answer x.host x.link x.calls_to_fault w.b.faults x.faults said.0 said.1 c.in_ok-answer-in-B.ensures.row (said.4 bag_size t.sent room_is (c.in_ok-reserve.ensures.items ∙ here.bag_is)) in
    let bag_is : c.reply_to_delivery-in-B.new.bag.items ≡ bag_delivery answer said.1 w.bag = said.3 ∙ ap (bag_delivery answer said.1) c.in_ok-reserve.ensures.items in
    subst (λ (q : Progress). StepsBoth b piece t (Deliver c.args.number) c.reply_to_delivery-in-B.result (record { a = w.a; b = record { host = x.host; progress = q; link = x.link; calls_to_fault = x.calls_to_fault; faults = x.faults }; bag = c.reply_to_delivery-in-B.new.bag.items })) (sym c.deliver-in-B.ensures.progress)
    (subst (λ (bag : List Message). StepsBoth b piece t (Deliver c.args.number) c.reply_to_delivery-in-B.result (record { a = w.a; b = record w.b { host = x.host; link = x.link; calls_to_fault = x.calls_to_fault; faults = x.faults }; bag = bag })) (sym bag_is)
    (subst (λ (r : Reply). StepsBoth b piece t (Deliver c.args.number) r (record { a = w.a; b = record w.b { host = x.host; link = x.link; calls_to_fault = x.calls_to_fault; faults = x.faults }; bag = bag_delivery answer said.1 w.bag })) (sym said.2)
    (steps_any b piece t (Deliver c.args.number) _ (record { a = w.a; b = record w.b { host = x.host; link = x.link; calls_to_fault = x.calls_to_fault }; bag = bag_delivery answer said.1 w.bag }) w.a.faults x.faults steps)))

pub returns-in_ok-answer-in-A-clause-faults : goal.returns-in_ok-answer-in-A-clause-faults
returns-in_ok-answer-in-A-clause-faults c = λ b piece t f.
    let w : TwoSeats = record { a = c.self.inside.a; b = c.self.inside.b; bag = c.self.inside.bag.items } in
    let here : FollowsBoth b piece t w = subst (FollowsBoth b piece t) (sym c.self.view_is) f in
    let len : c.len.result ≡ length c.reserve.new.self.items = search rules in
    let found = found_in t.sent c.reserve.new.self.items c.args.number c.len.result c.index-m.result.now (c.in_ok-reserve.ensures.items ∙ here.bag_is) c.requires.least len c.if-at-len.false c.index-m.ensures in
    let x : SeatState PortState = c.deliver.new.self in
    let answer = c.in_ok-answer-in-A.answer in
    let said = c.reply_to_delivery.ensures.said in
    let by = delivered_by_link_at b piece t w c.args.number c.index-m.result.now here A c.in-A.is c.deliver.ensures.consistent found answer x.host x.link x.calls_to_fault w.a.faults x.faults said.0 said.1 c.in_ok-answer-in-A.ensures.row (said.4 bag_size t.sent room_is (c.in_ok-reserve.ensures.items ∙ here.bag_is)) in
    subst (λ (old : TwoSeats). CountsBoth t (Deliver c.args.number) c.reply_to_delivery.result old (record { a = x; b = w.b; bag = c.reply_to_delivery.new.bag.items })) c.self.view_is
    (delivery_counted t w (record { a = x; b = w.b; bag = c.reply_to_delivery.new.bag.items }) A c.args.number c.index-m.result.now answer said.0 c.reply_to_delivery.result found c.in-A.is said.2 by c.in_ok-answer-in-A.ensures.counts refl)

pub returns-in_ok-answer-in-B-clause-faults : goal.returns-in_ok-answer-in-B-clause-faults
returns-in_ok-answer-in-B-clause-faults c = λ b piece t f.
    let w : TwoSeats = record { a = c.self.inside.a; b = c.self.inside.b; bag = c.self.inside.bag.items } in
    let here : FollowsBoth b piece t w = subst (FollowsBoth b piece t) (sym c.self.view_is) f in
    let len : c.len.result ≡ length c.reserve.new.self.items = search rules in
    let found = found_in t.sent c.reserve.new.self.items c.args.number c.len.result c.index-m.result.now (c.in_ok-reserve.ensures.items ∙ here.bag_is) c.requires.least len c.if-at-len.false c.index-m.ensures in
    let x : SeatState PortState = c.deliver-in-B.new.self in
    let answer = c.in_ok-answer-in-B.answer in
    let said = c.reply_to_delivery-in-B.ensures.said in
    let by = delivered_by_link_at b piece t w c.args.number c.index-m.result.now here B c.in-B.is c.deliver-in-B.ensures.consistent found answer x.host x.link x.calls_to_fault w.b.faults x.faults said.0 said.1 c.in_ok-answer-in-B.ensures.row (said.4 bag_size t.sent room_is (c.in_ok-reserve.ensures.items ∙ here.bag_is)) in
    subst (λ (old : TwoSeats). CountsBoth t (Deliver c.args.number) c.reply_to_delivery-in-B.result old (record { a = w.a; b = x; bag = c.reply_to_delivery-in-B.new.bag.items })) c.self.view_is
    (delivery_counted t w (record { a = w.a; b = x; bag = c.reply_to_delivery-in-B.new.bag.items }) B c.args.number c.index-m.result.now answer said.0 c.reply_to_delivery-in-B.result found c.in-B.is said.2 by c.in_ok-answer-in-B.ensures.counts refl)
