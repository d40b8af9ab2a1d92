use Rattle.std.proofs.Common.{◌≡◌, sym, subst, ◌∙◌, Some, None, List}
use Rattle.vt_base.specs.declared.types.HostName.TheVariants.{A, B}
use Rattle.move_codec.specs.declared.message.Message.{Message}
use Rattle.move_core.specs.Calls.{said_again}
use Rattle.two_hosts.specs.Hosts.{bag_size, is_prepared}
use Rattle.vt_script.specs.declared.event.Event.TheVariants.{Again}
use Rattle.vt_script.specs.declared.reply.Reply.TheVariants as reply
use Rattle.two_seats.specs.Both.{TwoSeats, FollowsBoth, StepsBoth}
use Rattle.two_seats.proofs.Lines.{again_steps, none_again, room_is, found_a, found_b, found_none, said_some, said_none}
use Rattle.vt_world.proofs.world.World.again.Goals as goal

pub returns-in-Some-clause-steps : goal.returns-in-Some-clause-steps
returns-in-Some-clause-steps c = λ b piece t f.
    let w : TwoSeats = record { a = c.self.inside.a; b = c.self.inside.b; bag = c.self.inside.bag.items } in
    let here : FollowsBoth b piece t w = subst (FollowsBoth b piece t) (sym c.self.view_is) f in
    let said : Some c.in-Some.m ≡ said_again w.a.host.stage w.a.host = c.in-Some.ensures in
    again_steps b piece t w A here c.in-Some.m c.keep.result c.keep.new.bag.items (c.keep.ensures.keeps bag_size t.sent room_is (c.in_ok-reserve.ensures.items ∙ here.bag_is))
    (found_a b piece t w is_prepared here (said_some w.a.host.stage w.a.host c.in-Some.m said)) said

pub returns-in-Some-again-clause-steps : goal.returns-in-Some-again-clause-steps
returns-in-Some-again-clause-steps c = λ b piece t f.
    let w : TwoSeats = record { a = c.self.inside.a; b = c.self.inside.b; bag = c.self.inside.bag.items } in
    let here : FollowsBoth b piece t w = subst (FollowsBoth b piece t) (sym c.self.view_is) f in
    let none : None ≡ said_again w.a.host.stage w.a.host = c.in_default.ensures in
    let said : Some c.in-Some-again.m ≡ said_again w.b.host.stage w.b.host = c.in-Some-again.ensures in
    again_steps b piece t w B here c.in-Some-again.m c.keep-in-Some-again.result c.keep-in-Some-again.new.bag.items (c.keep-in-Some-again.ensures.keeps bag_size t.sent room_is (c.in_ok-reserve.ensures.items ∙ here.bag_is))
    (found_b b piece t w is_prepared here (said_none w.a.host.stage w.a.host none) (said_some w.b.host.stage w.b.host c.in-Some-again.m said)) said

pub returns-clause-steps : goal.returns-clause-steps
returns-clause-steps c = λ b piece t f.
    let w : TwoSeats = record { a = c.self.inside.a; b = c.self.inside.b; bag = c.self.inside.bag.items } in
    let here : FollowsBoth b piece t w = subst (FollowsBoth b piece t) (sym c.self.view_is) f in
    let none_a : None ≡ said_again w.a.host.stage w.a.host = c.in_default.ensures in
    let none_b : None ≡ said_again w.b.host.stage w.b.host = c.in_default-again.ensures in
    subst (λ (bag : List Message). StepsBoth b piece t Again reply.NotPrepared (record { a = w.a; b = w.b; bag = bag })) (sym c.in_ok-reserve.ensures.items)
    (none_again b piece t w here (found_none b piece t w is_prepared here (said_none w.a.host.stage w.a.host none_a) (said_none w.b.host.stage w.b.host none_b)))
