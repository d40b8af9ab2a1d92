use Rattle.std.proofs.Common.{rules, ap, ◌∙◌}
use Rattle.crb_shared.specs.declared.rule.SeatView.{SeatView}
use Rattle.crb_shared.proofs.WorkerSteps.{claimed_jobs}
use Rattle.crb_shared.proofs.GuestSteps.{first_view, same_table}
use Rattle.crb_shared.proofs.WorkerSteps.{joins_queued_note, adds_claimed}
use Rattle.crb_shared.proofs.steps.add_claimed.Goals as goal

pub join_seat-requires : goal.join_seat-requires
join_seat-requires c = let note = c.requires.note in let came = c.into_seat.ensures in
    (search rules, came.0 ∙ same_table _ _ (note.0 ∙ c.requires.table_name), search rules, search rules, joins_queued_note _ _ _ _ c.requires.me.0 c.requires.me.1 (ap (λ (v : SeatView). v.role) (first_view c.args.seat.now.me.0 _ _ _ came.2 note.1.1)))

pub load-requires : goal.load-requires
load-requires c = (search rules, search rules, adds_claimed _ _ _ c.requires.id.2 (search rules) (search rules))

pub returns-clause-me : goal.returns-clause-me
returns-clause-me c = let note = c.requires.note in let came = c.into_seat.ensures in let seen = first_view c.args.seat.now.me.0 _ _ _ came.2 note.1.1 in (
  (search rules, search rules, search rules, search rules, claimed_jobs c.args.seat.now.me.0.table_name c.args.seat.now.me.0 _ c.load.new.seat.me.0 note.1.0 c.args.job seen (search rules), search rules),
  search rules,
)
