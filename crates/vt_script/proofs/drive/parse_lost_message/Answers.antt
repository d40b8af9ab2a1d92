use Rattle.std.proofs.Common.{sym}
use Rattle.vt_script.proofs.Cuts.{lost_message_of-more}
use Rattle.vt_script.proofs.drive.parse_lost_message.Goals as goal

pub returns-in-Some-clause-line : goal.returns-in-Some-clause-line
returns-in-Some-clause-line c =
    let parts = rw c.in-Some.is at c.first_part.ensures.parts in
    rw parts (sym (lost_message_of-more c.first_part.result.0.now c.in-Some.field-0.now))
