use Rattle.std.proofs.Common.{rules, ◌≡◌, true, sym, ◌∙◌}
use Rattle.vt_base.specs.Memory.{is_to_fail}
use Rattle.vt_base.proofs.Failing.{next_is_sure}
use Rattle.vt_base.proofs.fault_schedule.FaultSchedule.call.Goals as goal

pub returns-then-contains-clause-succeeds_if_promised : goal.returns-then-contains-clause-succeeds_if_promised
returns-then-contains-clause-succeeds_if_promised c = λ never_fails.
    let due : true ≡ is_to_fail c.args.self.now = search rules in
    sym (next_is_sure c.args.self.now never_fails) ∙ sym due
