use Rattle.std.proofs.Common.{◌≡◌, ◌++◌, ◌-◌, take}
use Rattle.vt_script.specs.Replies.{hex_digits}
use Rattle.vt_script.proofs.reply.put_digits.Given as goal

-- the digits so far and those that are left are the whole
abbrev pub invariant-loop-i : goal.invariant-loop-i
invariant-loop-i l = take l.i l.text ++ hex_digits (l.count - l.i) l.value ≡ hex_digits l.count l.value
