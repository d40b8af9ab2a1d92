use Rattle.std.proofs.Common.{◌≡◌, sym, subst, ap, ◌∙◌, Some, None, List}
use Rattle.crb_port.specs.Plain.{plain}
use Rattle.crb_port.specs.declared.job.PortState.{PortState}
use Rattle.vt_base.specs.declared.types.HostName.TheVariants.{A, B}
use Rattle.move_codec.specs.declared.message.Message.{Message}
use Rattle.move_core.specs.Calls.{GivesUp}
use Rattle.move_core.specs.Model.{HostModel}
use Rattle.move_core.specs.declared.answers.Gave.{Gave}
use Rattle.move_core.specs.declared.answers.Gave.TheVariants as gave
use Rattle.two_hosts.specs.Hosts.{bag_size, is_leaving}
use Rattle.vt_script.specs.declared.event.Event.TheVariants.{GiveUp}
use Rattle.vt_script.specs.declared.reply.Reply.TheVariants as reply
use Rattle.vt_seat.specs.State.{SeatState}
use Rattle.two_seats.specs.Both.{TwoSeats, FollowsBoth, StepsBoth, bag_give_up}
use Rattle.two_seats.proofs.Lines.{none_gives_up, room_is, found_a, found_b, found_none, gave_none}
use Rattle.vt_world.proofs.GivingUp.{gives_any, gave_nothing, leaving}
use Rattle.vt_world.proofs.world.World.give_up.Goals as goal

pub returns-in-Some-clause-steps : goal.returns-in-Some-clause-steps
returns-in-Some-clause-steps c = λ b piece t f.
    let w : TwoSeats = record { a = c.self.inside.a; b = c.self.inside.b; bag = c.self.inside.bag.items } in
    let here : FollowsBoth b piece t w = subst (FollowsBoth b piece t) (sym c.self.view_is) f in
    let said = c.reply_to_give_up.ensures.said in
    let is = sym c.in-Some.is ∙ said.2 in
    let gives = c.give_up-answer.ensures.gives_up in
    let bag_is = said.3 ∙ ap (bag_give_up c.give_up-answer.result said.1) c.in_ok-reserve.ensures.items in
    subst (λ (s : SeatState PortState). StepsBoth b piece t GiveUp c.in-Some.reply (record { a = s; b = w.b; bag = c.reply_to_give_up.new.bag.items })) (sym c.give_up-answer.ensures.others)
    (subst (λ (bag : List Message). StepsBoth b piece t GiveUp c.in-Some.reply (record { a = record w.a { host = c.give_up-answer.new.self.host }; b = w.b; bag = bag })) (sym bag_is)
    (gives_any b piece t w A here c.give_up-answer.ensures.consistent c.give_up-answer.new.self.host said.0 said.1 c.give_up-answer.result c.in-Some.reply is
    (λ m same. said.4 bag_size t.sent m room_is (c.in_ok-reserve.ensures.items ∙ here.bag_is) same)
    (found_a b piece t w is_leaving here (leaving w.a.host c.give_up-answer.new.self.host c.give_up-answer.result said.0 c.in-Some.reply is gives)) gives))

pub returns-in-Some-reply_to_give_up-clause-steps : goal.returns-in-Some-reply_to_give_up-clause-steps
returns-in-Some-reply_to_give_up-clause-steps c = λ b piece t f.
    let w : TwoSeats = record { a = c.self.inside.a; b = c.self.inside.b; bag = c.self.inside.bag.items } in
    let here : FollowsBoth b piece t w = subst (FollowsBoth b piece t) (sym c.self.view_is) f in
    let nothing : c.give_up-answer.result ≡ gave.NotOffering = gave_nothing c.give_up-answer.result c.in_default.ensures.said.0 c.in_default.ensures.said.2 in
    let not_a : GivesUp plain w.a.host gave.NotOffering c.give_up-answer.new.self.host = subst (λ (g : Gave). GivesUp plain w.a.host g c.give_up-answer.new.self.host) nothing c.give_up-answer.ensures.gives_up in
    let none = gave_none w.a.host.stage w.a.host c.give_up-answer.new.self.host not_a in
    let same : c.give_up-answer.new.self ≡ w.a = c.give_up-answer.ensures.others ∙ ap (λ (h : HostModel PortState). record w.a { host = h }) none.1 in
    let bag_before : c.reply_to_give_up.new.bag.items ≡ w.bag = ap (λ v. v.items) (c.in_default.ensures.room nothing) ∙ c.in_ok-reserve.ensures.items in
    let said = c.reply_to_give_up-2.ensures.said in
    let is = sym c.in-Some-reply_to_give_up.is ∙ said.2 in
    let gives = c.give_up-answer-2.ensures.gives_up in
    let bag_is = said.3 ∙ ap (bag_give_up c.give_up-answer-2.result said.1) bag_before in
    subst (λ (s : SeatState PortState). StepsBoth b piece t GiveUp c.in-Some-reply_to_give_up.reply (record { a = s; b = c.give_up-answer-2.new.self; bag = c.reply_to_give_up-2.new.bag.items })) (sym same)
    (subst (λ (s : SeatState PortState). StepsBoth b piece t GiveUp c.in-Some-reply_to_give_up.reply (record { a = w.a; b = s; bag = c.reply_to_give_up-2.new.bag.items })) (sym c.give_up-answer-2.ensures.others)
    (subst (λ (bag : List Message). StepsBoth b piece t GiveUp c.in-Some-reply_to_give_up.reply (record { a = w.a; b = record w.b { host = c.give_up-answer-2.new.self.host }; bag = bag })) (sym bag_is)
    (gives_any b piece t w B here c.give_up-answer-2.ensures.consistent c.give_up-answer-2.new.self.host said.0 said.1 c.give_up-answer-2.result c.in-Some-reply_to_give_up.reply is
    (λ m same. said.4 bag_size t.sent m room_is (bag_before ∙ here.bag_is) same)
    (found_b b piece t w is_leaving here none.0 (leaving w.b.host c.give_up-answer-2.new.self.host c.give_up-answer-2.result said.0 c.in-Some-reply_to_give_up.reply is gives)) gives)))

pub returns-clause-steps : goal.returns-clause-steps
returns-clause-steps c = λ b piece t f.
    let w : TwoSeats = record { a = c.self.inside.a; b = c.self.inside.b; bag = c.self.inside.bag.items } in
    let here : FollowsBoth b piece t w = subst (FollowsBoth b piece t) (sym c.self.view_is) f in
    let nothing_a : c.give_up-answer.result ≡ gave.NotOffering = gave_nothing c.give_up-answer.result c.in_default.ensures.said.0 c.in_default.ensures.said.2 in
    let not_a : GivesUp plain w.a.host gave.NotOffering c.give_up-answer.new.self.host = subst (λ (g : Gave). GivesUp plain w.a.host g c.give_up-answer.new.self.host) nothing_a c.give_up-answer.ensures.gives_up in
    let none_a = gave_none w.a.host.stage w.a.host c.give_up-answer.new.self.host not_a in
    let same_a : c.give_up-answer.new.self ≡ w.a = c.give_up-answer.ensures.others ∙ ap (λ (h : HostModel PortState). record w.a { host = h }) none_a.1 in
    let nothing_b : c.give_up-answer-2.result ≡ gave.NotOffering = gave_nothing c.give_up-answer-2.result c.in_default-reply_to_give_up.ensures.said.0 c.in_default-reply_to_give_up.ensures.said.2 in
    let not_b : GivesUp plain w.b.host gave.NotOffering c.give_up-answer-2.new.self.host = subst (λ (g : Gave). GivesUp plain w.b.host g c.give_up-answer-2.new.self.host) nothing_b c.give_up-answer-2.ensures.gives_up in
    let none_b = gave_none w.b.host.stage w.b.host c.give_up-answer-2.new.self.host not_b in
    let same_b : c.give_up-answer-2.new.self ≡ w.b = c.give_up-answer-2.ensures.others ∙ ap (λ (h : HostModel PortState). record w.b { host = h }) none_b.1 in
    let bag_is : c.reply_to_give_up-2.new.bag.items ≡ w.bag = ap (λ v. v.items) (c.in_default-reply_to_give_up.ensures.room nothing_b ∙ c.in_default.ensures.room nothing_a) ∙ c.in_ok-reserve.ensures.items in
    subst (λ (s : SeatState PortState). StepsBoth b piece t GiveUp reply.NotOffering (record { a = s; b = c.give_up-answer-2.new.self; bag = c.reply_to_give_up-2.new.bag.items })) (sym same_a)
    (subst (λ (s : SeatState PortState). StepsBoth b piece t GiveUp reply.NotOffering (record { a = w.a; b = s; bag = c.reply_to_give_up-2.new.bag.items })) (sym same_b)
    (subst (λ (bag : List Message). StepsBoth b piece t GiveUp reply.NotOffering (record { a = w.a; b = w.b; bag = bag })) (sym bag_is)
    (none_gives_up b piece t w here (found_none b piece t w is_leaving here none_a.0 none_b.0))))
