use Rattle.std.proofs.Common.{rules, ◌∙◌, true, false}
use Rattle.crb_shared.proofs.GuestSteps.{queue_store, splits_queued_note, cancelled_word}
use Rattle.crb_shared.proofs.steps.queue.Goals as goal
use Rattle.crb_shared.proofs.steps.queue.Goals.{then-job, else-job}

pub split_seat-requires : goal.split_seat-requires
split_seat-requires c = (search rules, search rules, splits_queued_note _ _ (search rules) (search rules))

pub store-requires : goal.store-requires
store-requires c = let split = c.split_seat.ensures in let badge = c.into_badge-note.ensures in (
  search rules,
  search rules,
  queue_store _ _ _ c.args.seat.now.me.0 c.args.job c.into_badge-note.result c.if-job.word
      (elim c.if-job.branch [ then-job w ↦ w.word-is ∙ cancelled_word c.args.job true (search rules) | else-job w ↦ w.word-is ∙ cancelled_word c.args.job false (search rules) ])
      c.requires.id.2 c.requires.me.0 (search rules) (search rules) (search rules),
)
