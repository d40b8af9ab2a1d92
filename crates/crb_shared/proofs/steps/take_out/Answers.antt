use Rattle.std.proofs.Common.{rules, sym, ◌∙◌}
use Rattle.crb_shared.proofs.GuestSteps.{frees_as, holds_slot, not_word}
use Rattle.crb_port.specs.declared.job.PortStage.TheVariants.{Free, Claimed}
use Rattle.crb_shared.proofs.steps.take_out.Goals as goal

pub compare_exchange-word-requires : goal.compare_exchange-word-requires
compare_exchange-word-requires c = let is = c.word_of_stage-old_word.ensures in
    (search rules, search rules, frees_as _ _ _ _ c.requires.id.2 c.requires.me.0 c.requires.me.1 c.requires.me.2 (λ e. c.requires.old.0 (not_word c.args.old Free (sym is ∙ e))) (λ e. c.requires.old.1 (not_word c.args.old Claimed (sym is ∙ e))))

pub exchange-requires : goal.exchange-requires
exchange-requires c = let table_name = (c.compare_exchange-word.ensures.2.0 c.if-word-old_word.true).1 in (search rules, (table_name.0, holds_slot _ table_name.0 table_name.1))
