use Rattle.std.proofs.Common.{rules, ap, ◌∙◌}
use Rattle.crb_shared.specs.declared.rule.SeatView.{SeatView}
use Rattle.crb_shared.proofs.GuestSteps.{joins_own_note, first_view}
use Rattle.crb_shared.proofs.steps.join_own_note.Goals as goal

pub join_seat-requires : goal.join_seat-requires
join_seat-requires c = let note = c.requires.note in let came = c.into_seat.ensures in
    (search rules, search rules, search rules, search rules, joins_own_note _ _ _ _ c.requires.me.0 c.requires.me.1 (ap (λ (v : SeatView). v.role) (first_view note.1.0 _ _ _ came.2 note.1.1) ∙ note.1.2))
