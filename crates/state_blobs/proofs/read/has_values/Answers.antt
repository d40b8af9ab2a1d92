use Rattle.std.proofs.Common.{ℕ, eqb, ap, sym, arith}
use Rattle.state_blobs.proofs.Values.{flag_field}
use Rattle.state_blobs.proofs.read.has_values.Goals as goal

pub returns-then-len-gt-FLAG_PLACE : goal.returns-then-len-gt-FLAG_PLACE
returns-then-len-gt-FLAG_PLACE c =
    ap (λ (b : ℕ). eqb b 1) (sym (flag_field c.args.gather.now.kind c.fields.result.now c.args.gather.now.begun c.requires c.fields.ensures.body (omega (arith, c.if-len-gt-FLAG_PLACE.true, c.len.ensures.count))))
