use Rattle.std.proofs.Common.{◌≡◌, ◌∙◌, sym, subst, ap, ◌++◌, ℕ, List}
use Rattle.vt_base.specs.declared.types.HostName.TheVariants.{A}
use Rattle.vt_seat.specs.Saving as seat
use Rattle.two_seats.specs.Both.{TwoSeats, FollowsBoth, one_of}
use Rattle.two_seats.proofs.Lines.{runs_here}
use Rattle.vt_world.proofs.Behind.{saved-behind}
use Rattle.vt_world.proofs.Keeping.{Can, can_any, seat_can, save_keeps}
use Rattle.vt_world.proofs.world.World.save.Goals as goal

pub save-requires : goal.save-requires
save-requires c =
    let w : TwoSeats = record { a = c.self.inside.a; b = c.self.inside.b; bag = c.self.inside.bag.items } in
    let can : Can w = subst Can (sym c.self.view_is) c.requires.can_save in
    record { runs = runs_here w A can.3.runs; can = (can.0, one_of can.2 A, seat_can can.0 can.1 can.2 w can.3) }

pub returns-in_err-saved-clause-follows : goal.returns-in_err-saved-clause-follows
returns-in_err-saved-clause-follows c = λ b piece t f.
    let w : TwoSeats = record { a = c.self.inside.a; b = c.self.inside.b; bag = c.self.inside.bag.items } in
    save_keeps w c.save.new.self (subst Can (sym c.self.view_is) c.requires.can_save) c.save.ensures.goes_on c.save.ensures.others b piece t (subst (FollowsBoth b piece t) (sym c.self.view_is) f)

pub returns-in_err-extend_from_slice-clause-follows :
    goal.returns-in_err-extend_from_slice-clause-follows
returns-in_err-extend_from_slice-clause-follows c = λ b piece t f.
    let w : TwoSeats = record { a = c.self.inside.a; b = c.self.inside.b; bag = c.self.inside.bag.items } in
    save_keeps w c.save.new.self (subst Can (sym c.self.view_is) c.requires.can_save) c.save.ensures.goes_on c.save.ensures.others b piece t (subst (FollowsBoth b piece t) (sym c.self.view_is) f)

pub returns-clause-follows : goal.returns-clause-follows
returns-clause-follows c = λ b piece t f.
    let w : TwoSeats = record { a = c.self.inside.a; b = c.self.inside.b; bag = c.self.inside.bag.items } in
    save_keeps w c.save.new.self (subst Can (sym c.self.view_is) c.requires.can_save) c.save.ensures.goes_on c.save.ensures.others b piece t (subst (FollowsBoth b piece t) (sym c.self.view_is) f)

pub returns-clause-saves : goal.returns-clause-saves
returns-clause-saves c = λ b piece t f.
    let w : TwoSeats = record { a = c.self.inside.a; b = c.self.inside.b; bag = c.self.inside.bag.items } in
    let can = can_any w (subst Can (sym c.self.view_is) c.requires.can_save) b piece t (subst (FollowsBoth b piece t) (sym c.self.view_is) f) in
    let apart = c.in_ok-saved.ensures.saves b (one_of t A) (seat_can b piece t w can) in
    let appended : c.extend_from_slice.new.self.items ≡ c.args.into.now.items ++ c.save.new.into.items = c.in_ok-extend_from_slice.ensures.items ∙ ap (λ (s : List ℕ). c.args.into.now.items ++ s) c.deref.ensures.value in
    saved-behind b t.history c.in_ok-saved.saved c.args.into.now.items c.save.new.into.items c.extend_from_slice.new.self.items (subst (λ (s : List ℕ). seat.Saves b t.history c.in_ok-saved.saved s c.save.new.into.items) c.new-stream.ensures.items apart) appended
