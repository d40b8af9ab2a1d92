use Rattle.vt_script.proofs.Digits.{shift_digit}
use Rattle.vt_script.proofs.reply.digit.Goals as goal

pub returns-clause-value : goal.returns-clause-value
returns-clause-value c = shift_digit c.args.value c.args.k
