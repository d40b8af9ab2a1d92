use Rattle.std.proofs.Common.{◌∙◌, sym}
use Rattle.vt_script.proofs.Commands.{sized_command-None}
use Rattle.vt_script.proofs.drive.command.Goals as goal

pub returns-then-not-is_length-clause-line : goal.returns-then-not-is_length-clause-line
returns-then-not-is_length-clause-line c =
    sym (sized_command-None c.args.digits.now (λ within. cc (sym (c.is_length.ensures.1 within) ∙ c.if-not-is_length.true)))
