use Rattle.std.proofs.Common.{rules, ◌≤◌, length, take, arith}
use Rattle.std.proofs.lemmas.List.{length-append, length-take}
use Rattle.vt_base.proofs.CallsInARow.{Consumes-more}
use Rattle.vt_base.proofs.source.read_all.Goals as goal

pub returns-then-is_err-clause-gone : goal.returns-then-is_err-clause-gone
returns-then-is_err-clause-gone g c =
    let prefix = c.loop-chunk.bytes.items in
    let last = take c.in-Ok.count c.read.new.into in
    let before : length prefix ≤ c.args.limit = search rules in
    let more : c.in-Ok.count ≤ 4096 = search rules in
    (_, Consumes-more _ _ _ prefix last c.loop-chunk.invariant.prefix c.in-Ok.ensures.bytes.0, omega (arith, before, more, length-append prefix last, length-take c.in-Ok.count c.read.new.into))
