use Rattle.std.proofs.Common.{◌≡◌, ◌+◌, ◌-◌, ◌∙◌, ap, arith, take, append-nil}
use Rattle.std.proofs.lemmas.List.{take_more_set}
use Rattle.vt_script.specs.Replies.{hex_digit}
use Rattle.vt_script.proofs.Digits.{digits-more}
use Rattle.vt_script.proofs.reply.put_digits.Goals as goal

pub loop-i-preserved : goal.loop-i-preserved
loop-i-preserved c =
    let left : c.args.count - 1 - c.loop-i.i ≡ c.args.count - c.loop-i.i - 1 = omega arith in
    let fewer : c.args.count - (c.loop-i.i + 1) ≡ c.args.count - c.loop-i.i - 1 = omega arith in
    rw fewer (digits-more (take c.loop-i.i c.loop-i.text) _ _ (c.args.count - c.loop-i.i) c.args.value c.glyph.result (omega arith)
    (c.glyph.ensures ∙ ap hex_digit (rw left at c.digit.ensures.value)) c.loop-i.invariant
    (take_more_set c.loop-i.text c.loop-i.i c.glyph.result (omega arith)))

pub returns-clause-digits : goal.returns-clause-digits
returns-clause-digits c =
    let none : c.args.count - c.loop-i.i ≡ 0 = omega arith in
    let all : c.loop-i.i ≡ c.args.count = omega arith in
    rw (all, append-nil) at (rw none at c.loop-i.invariant)
