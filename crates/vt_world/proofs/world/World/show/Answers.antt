use Rattle.std.proofs.Common.{rules, ◌≡◌, length, sym, subst, ap, ◌∙◌}
use Rattle.move_codec.specs.Encoding.{encode_message}
use Rattle.two_hosts.specs.Replies.{show_reply}
use Rattle.vt_script.specs.declared.reply.Reply.TheVariants as reply
use Rattle.two_hosts.proofs.InvariantKept.{in_bag_sent}
use Rattle.two_seats.specs.Both.{FollowsBoth}
use Rattle.two_seats.proofs.Lines.{show_steps}
use Rattle.two_seats.proofs.Deliveries.{found_in, none_in}
use Rattle.vt_world.proofs.world.World.show.Goals as goal

pub returns-then-at-len-clause-steps : goal.returns-then-at-len-clause-steps
returns-then-at-len-clause-steps c = λ b piece t f.
    let here : FollowsBoth b piece t (record { a = c.self.inside.a; b = c.self.inside.b; bag = c.self.inside.bag.items }) = subst (FollowsBoth b piece t) (sym c.self.view_is) f in
    let len : c.len.result ≡ length c.self.inside.bag.items = search rules in
    let none = none_in t.sent c.self.inside.bag.items c.args.number c.len.result here.bag_is c.requires.least len c.if-at-len.true in
    show_steps b piece t c.args.self.now c.args.number reply.NoMessage f (sym (ap show_reply none))

pub returns-then-not-can_be_written-clause-steps : goal.returns-then-not-can_be_written-clause-steps
returns-then-not-can_be_written-clause-steps c = λ b piece t f.
    let here : FollowsBoth b piece t (record { a = c.self.inside.a; b = c.self.inside.b; bag = c.self.inside.bag.items }) = subst (FollowsBoth b piece t) (sym c.self.view_is) f in
    let len : c.len.result ≡ length c.self.inside.bag.items = search rules in
    let found = found_in t.sent c.self.inside.bag.items c.args.number c.len.result c.index-m.result.now here.bag_is c.requires.least len c.if-at-len.false c.index-m.ensures in
    absurd (c.can_be_written.ensures.none c.if-not-can_be_written.true (here.some c.index-m.result.now (in_bag_sent t.sent c.args.number c.index-m.result.now found)))

pub returns-clause-steps : goal.returns-clause-steps
returns-clause-steps c = λ b piece t f.
    let here : FollowsBoth b piece t (record { a = c.self.inside.a; b = c.self.inside.b; bag = c.self.inside.bag.items }) = subst (FollowsBoth b piece t) (sym c.self.view_is) f in
    let len : c.len.result ≡ length c.self.inside.bag.items = search rules in
    let found = found_in t.sent c.self.inside.bag.items c.args.number c.len.result c.index-m.result.now here.bag_is c.requires.least len c.if-at-len.false c.index-m.ensures in
    let bytes : c.in_ok-from_slice.field-0 ≡ encode_message c.index-m.result.now = search rules in
    show_steps b piece t c.args.self.now c.args.number (reply.Shown c.in_ok-from_slice.field-0) f (ap reply.Shown bytes ∙ sym (ap show_reply found))
