use Rattle.std.proofs.Common.{sym}
use Rattle.vt_script.proofs.Cuts.{write_of-more}
use Rattle.vt_script.proofs.event.parse_write.Goals as goal

pub returns-in-Some : goal.returns-in-Some
returns-in-Some c =
    let one = rw c.in_ok-rest.was at c.first_part.ensures.parts in
    let two = rw c.in_ok-rest-2.was at c.first_part-2.ensures.parts in
    let three = rw c.in-Some.is at c.first_part-3.ensures.parts in
    rw (one, two, three) (sym (write_of-more c.first_part.result.0.now c.first_part-2.result.0.now c.first_part-3.result.0.now c.in-Some.field-0.now))
