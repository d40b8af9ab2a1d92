use Rattle.std.proofs.Common.{rules}
use Rattle.crb_shared.proofs.WorkerSteps.{post_store, splits_posted_note}
use Rattle.crb_shared.proofs.steps.post.Goals as goal

pub split_seat-requires : goal.split_seat-requires
split_seat-requires c = (search rules, search rules, splits_posted_note _ _ (search rules) (search rules))

pub store-requires : goal.store-requires
store-requires c = (search rules, search rules, post_store _ _ _ c.args.seat.now.me.0 c.args.answer c.into_badge-note.result c.requires.id.2 c.requires.me.0 (search rules) (search rules) (search rules))
