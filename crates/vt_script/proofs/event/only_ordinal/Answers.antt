use Rattle.std.proofs.Common.{sym}
use Rattle.vt_script.proofs.Cuts.{only_ordinal-more}
use Rattle.vt_script.proofs.event.only_ordinal.Goals as goal

pub returns-in-Some-clause-value : goal.returns-in-Some-clause-value
returns-in-Some-clause-value c =
    let parts = rw c.in-Some.is at c.first_part.ensures.parts in
    rw parts (sym (only_ordinal-more c.first_part.result.0.now c.in-Some.field-0.now))
