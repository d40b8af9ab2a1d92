use Rattle.vt_script.specs.Drive.{drive_of}
use Rattle.vt_script.proofs.Cuts.{drive_of_words-more}
use Rattle.vt_script.proofs.drive.parse_drive.Goals as goal

pub returns-in-Some-clause-line : goal.returns-in-Some-clause-line
unfolding drive_of
returns-in-Some-clause-line c =
    let parts = rw c.in-Some.is at c.first_part.ensures.parts in
    rw (parts, drive_of_words-more c.first_part.result.0.now c.in-Some.words.now) c.parse_drive_words.ensures.line
