use Rattle.std.proofs.Common.{sym}
use Rattle.vt_script.proofs.Cuts.{fail_of-more}
use Rattle.vt_script.proofs.event.parse_fail.Goals as goal

pub returns-in-Some : goal.returns-in-Some
returns-in-Some c =
    let one = rw c.in_ok-rest.was at c.first_part.ensures.parts in
    let two = rw c.in-Some.is at c.first_part-2.ensures.parts in
    rw (one, two) (sym (fail_of-more c.first_part.result.0.now c.first_part-2.result.0.now c.in-Some.field-0.now))
