use Rattle.vt_script.proofs.Commands.{drive_of-Some, drive_of-encode_lower}
use Rattle.vt_script.proofs.drive.commands_are_read_as_spelled.Goals as goal

pub returns-clause-spelled : goal.returns-clause-spelled
returns-clause-spelled c = drive_of-Some

pub returns-clause-written : goal.returns-clause-written
returns-clause-written c = drive_of-encode_lower
