use Rattle.std.proofs.Common.{◌≡◌, refl, sym, subst, ap, ◌∙◌, Some}
use Rattle.vt_base.specs.declared.types.HostName.TheVariants.{A, B}
use Rattle.two_hosts.proofs.InvariantKept.{running_free}
use Rattle.two_seats.specs.Both.{TwoSeats, FollowsBoth, CountsBoth, one_of, running_of}
use Rattle.two_seats.proofs.Counting.{guest_counts, stopped_counts}
use Rattle.two_seats.proofs.Lines.{guest_steps, stopped_steps, none_works, follows_one, runs_here}
use Rattle.two_seats.proofs.Seating.{running-same, draining-same}
use Rattle.vt_world.proofs.Keeping.{others_at_a, others_at_b, others_stopped}
use Rattle.vt_world.specs.Worlds.{KeepsOthers}
use Rattle.vt_world.proofs.world.World.guest.Goals as goal

pub returns-in-Some-A-clause-steps : goal.returns-in-Some-A-clause-steps
returns-in-Some-A-clause-steps c = λ apart b piece t f.
    guest_steps b piece t (record { a = c.self.inside.a; b = c.self.inside.b; bag = c.self.inside.bag.items }) A c.args.line.now c.step.result c.step.new.self c.requires.plain (record {
      follows = subst (FollowsBoth b piece t) (sym c.self.view_is) f;
      works = running_free c.self.inside.a.host.stage (runs_here (record { a = c.self.inside.a; b = c.self.inside.b; bag = c.self.inside.bag.items }) A (ap running_of c.self.view_is ∙ sym c.running.ensures.running ∙ c.in-Some-A.is ∙ ap Some c.in-Some-A.field-0-is));
      steps = c.step.ensures.steps b (one_of t A);
      others = c.step.ensures.others;
      piece_is = c.step.ensures.piece b (one_of t A);
    }) (runs_here (record { a = c.self.inside.a; b = c.self.inside.b; bag = c.self.inside.bag.items }) A (ap running_of c.self.view_is ∙ sym c.running.ensures.running ∙ c.in-Some-A.is ∙ ap Some c.in-Some-A.field-0-is))

pub returns-in-Some-B-clause-steps : goal.returns-in-Some-B-clause-steps
returns-in-Some-B-clause-steps c = λ apart b piece t f.
    guest_steps b piece t (record { a = c.self.inside.a; b = c.self.inside.b; bag = c.self.inside.bag.items }) B c.args.line.now c.step-in-Some-B.result c.step-in-Some-B.new.self c.requires.plain (record {
      follows = subst (FollowsBoth b piece t) (sym c.self.view_is) f;
      works = running_free c.self.inside.b.host.stage (runs_here (record { a = c.self.inside.a; b = c.self.inside.b; bag = c.self.inside.bag.items }) B (ap running_of c.self.view_is ∙ sym c.running.ensures.running ∙ c.in-Some-B.is ∙ ap Some c.in-Some-B.field-0-is));
      steps = c.step-in-Some-B.ensures.steps b (one_of t B);
      others = c.step-in-Some-B.ensures.others;
      piece_is = c.step-in-Some-B.ensures.piece b (one_of t B);
    }) (runs_here (record { a = c.self.inside.a; b = c.self.inside.b; bag = c.self.inside.bag.items }) B (ap running_of c.self.view_is ∙ sym c.running.ensures.running ∙ c.in-Some-B.is ∙ ap Some c.in-Some-B.field-0-is))

pub returns-in-None-clause-steps : goal.returns-in-None-clause-steps
returns-in-None-clause-steps c = λ apart b piece t f.
    let none = sym c.running.ensures.running ∙ c.in-None.is in
    stopped_steps b piece t c.args.self.now c.args.line.now c.requires.plain f (sym (running-same b piece t c.args.self.now f) ∙ none) (λ work. sym (draining-same b piece t c.args.self.now f) ∙ apart work none)

pub returns-in-None-clause-faults : goal.returns-in-None-clause-faults
returns-in-None-clause-faults c = λ apart b piece t f.
    let none = sym c.running.ensures.running ∙ c.in-None.is in
    stopped_counts b piece t c.args.self.now c.args.self.now c.args.line.now c.requires.plain f none
    (λ work. none_works t (sym (running-same b piece t c.args.self.now f) ∙ none) (sym (draining-same b piece t c.args.self.now f) ∙ apart work none)) refl refl

pub returns-in-Some-A-clause-faults : goal.returns-in-Some-A-clause-faults
returns-in-Some-A-clause-faults c = λ apart b piece t f.
    let w : TwoSeats = record { a = c.self.inside.a; b = c.self.inside.b; bag = c.self.inside.bag.items } in
    let here : FollowsBoth b piece t w = subst (FollowsBoth b piece t) (sym c.self.view_is) f in
    let on : running_of w ≡ Some A = ap running_of c.self.view_is ∙ sym c.running.ensures.running ∙ c.in-Some-A.is ∙ ap Some c.in-Some-A.field-0-is in
    subst (λ (old : TwoSeats). CountsBoth t c.args.line.now c.step.result old (record { a = c.step.new.self; b = w.b; bag = w.bag })) c.self.view_is
    (guest_counts b piece t w A c.args.line.now c.step.result c.step.new.self c.requires.plain here on (c.step.ensures.faults b (one_of t A) (follows_one b piece t w A here (runs_here w A on))))

pub returns-in-Some-B-clause-faults : goal.returns-in-Some-B-clause-faults
returns-in-Some-B-clause-faults c = λ apart b piece t f.
    let w : TwoSeats = record { a = c.self.inside.a; b = c.self.inside.b; bag = c.self.inside.bag.items } in
    let here : FollowsBoth b piece t w = subst (FollowsBoth b piece t) (sym c.self.view_is) f in
    let on : running_of w ≡ Some B = ap running_of c.self.view_is ∙ sym c.running.ensures.running ∙ c.in-Some-B.is ∙ ap Some c.in-Some-B.field-0-is in
    subst (λ (old : TwoSeats). CountsBoth t c.args.line.now c.step-in-Some-B.result old (record { a = w.a; b = c.step-in-Some-B.new.self; bag = w.bag })) c.self.view_is
    (guest_counts b piece t w B c.args.line.now c.step-in-Some-B.result c.step-in-Some-B.new.self c.requires.plain here on (c.step-in-Some-B.ensures.faults b (one_of t B) (follows_one b piece t w B here (runs_here w B on))))

pub returns-in-Some-A-clause-others : goal.returns-in-Some-A-clause-others
returns-in-Some-A-clause-others c =
    let w : TwoSeats = record { a = c.self.inside.a; b = c.self.inside.b; bag = c.self.inside.bag.items } in
    let on : running_of w ≡ Some A = ap running_of c.self.view_is ∙ sym c.running.ensures.running ∙ c.in-Some-A.is ∙ ap Some c.in-Some-A.field-0-is in
    subst (λ (old : TwoSeats). KeepsOthers old (record w { a = c.step.new.self })) c.self.view_is (others_at_a w c.step.new.self on c.step.ensures.others)

pub returns-in-Some-B-clause-others : goal.returns-in-Some-B-clause-others
returns-in-Some-B-clause-others c =
    let w : TwoSeats = record { a = c.self.inside.a; b = c.self.inside.b; bag = c.self.inside.bag.items } in
    let on : running_of w ≡ Some B = ap running_of c.self.view_is ∙ sym c.running.ensures.running ∙ c.in-Some-B.is ∙ ap Some c.in-Some-B.field-0-is in
    subst (λ (old : TwoSeats). KeepsOthers old (record w { b = c.step-in-Some-B.new.self })) c.self.view_is (others_at_b w c.step-in-Some-B.new.self on c.step-in-Some-B.ensures.others)

pub returns-in-None-clause-others : goal.returns-in-None-clause-others
returns-in-None-clause-others c = others_stopped c.args.self.now (sym c.running.ensures.running ∙ c.in-None.is)
