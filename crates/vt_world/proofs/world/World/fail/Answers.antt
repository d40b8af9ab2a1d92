use Rattle.std.proofs.Common.{◌≡◌, sym, subst, ap, ◌∙◌, Some}
use Rattle.std.specs.Prelude.{◌-◌, ℕ}
use Rattle.crb_port.specs.declared.job.PortState.{PortState}
use Rattle.vt_base.specs.declared.types.HostName.{HostName}
use Rattle.vt_base.specs.declared.types.HostName.TheVariants.{A, B}
use Rattle.vt_script.specs.declared.event.Event.TheVariants.{Fail}
use Rattle.vt_script.specs.declared.reply.Reply.TheVariants as reply
use Rattle.vt_seat.specs.State.{SeatState}
use Rattle.two_seats.specs.Both.{TwoSeats, FollowsBoth, StepsBoth}
use Rattle.two_seats.proofs.Lines.{order_steps}
use Rattle.vt_world.proofs.world.World.fail.Goals.{in-A, in-B}
use Rattle.vt_world.proofs.world.World.fail.Goals as goal

pub returns-clause-steps : goal.returns-clause-steps
returns-clause-steps c = λ b piece t f.
    let w : TwoSeats = record { a = c.self.inside.a; b = c.self.inside.b; bag = c.self.inside.bag.items } in
    let here : FollowsBoth b piece t w = subst (FollowsBoth b piece t) (sym c.self.view_is) f in
    elim c.match-host.branch [
      | in-A x ↦
          subst (λ (new : TwoSeats). StepsBoth b piece t (Fail c.args.host c.args.call) reply.Accepted new)
          (sym (x.self-is ∙ ap (λ (s : SeatState PortState). record w { a = s }) (x.fail_at.ensures.calls_to_fault ∙ ap (λ (k : ℕ). record w.a { calls_to_fault = Some (k - 1) }) x.from.ensures)))
          (subst (λ (n : HostName). StepsBoth b piece t (Fail n c.args.call) reply.Accepted (record w { a = record w.a { calls_to_fault = Some (c.args.call - 1) } })) (sym x.in-A.is) (order_steps b piece t w A c.args.call here))
      | in-B x ↦
          subst (λ (new : TwoSeats). StepsBoth b piece t (Fail c.args.host c.args.call) reply.Accepted new)
          (sym (x.self-is ∙ ap (λ (s : SeatState PortState). record w { b = s }) (x.fail_at-in-B.ensures.calls_to_fault ∙ ap (λ (k : ℕ). record w.b { calls_to_fault = Some (k - 1) }) x.from-in-B.ensures)))
          (subst (λ (n : HostName). StepsBoth b piece t (Fail n c.args.call) reply.Accepted (record w { b = record w.b { calls_to_fault = Some (c.args.call - 1) } })) (sym x.in-B.is) (order_steps b piece t w B c.args.call here))
    ]
