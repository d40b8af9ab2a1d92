use Rattle.std.proofs.Common.{◌≡◌, ◌≤◌, ◌+◌, ◌++◌, [], ◌∷◌, length, take, arith}
use Rattle.std.proofs.lemmas.Grind.{common_steps}
use Rattle.std.proofs.lemmas.List.{length-take-le}
use Rattle.crb_driver.specs.Bus.{writing}
use Rattle.crb_driver.proofs.Reaching.{reaches-more}
use Rattle.crb_driver.proofs.access.write_bytes.Goals as goal

pub loop-i-preserved : goal.loop-i-preserved
loop-i-preserved g c =
    let i = c.loop-i.i in
    let bytes = c.args.bytes.now in
    let byte = c.from.result in
    let within : i ≤ length bytes = omega arith in
    let more : take (i + 1) bytes ≡ take i bytes ++ byte ∷ [] = grind (arith, common_steps) in
    record {
      is_ready = c.write.ensures.stays_ready;
      steps = reaches-more g.B.Bus.step c.args.bus.now c.loop-i.bus c.write.new.bus writing c.args.offset i byte _ _ more (length-take-le i bytes within) c.loop-i.invariant.steps c.write.ensures.steps;
    }
