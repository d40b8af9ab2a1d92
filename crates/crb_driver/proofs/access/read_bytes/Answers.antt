use Rattle.std.proofs.Common.{◌<◌, ◌≤◌, length, arith}
use Rattle.std.proofs.lemmas.Grind.{common_steps}
use Rattle.std.proofs.lemmas.List.{take_more_set, length-take-le}
use Rattle.crb_driver.specs.Bus.{reading}
use Rattle.crb_driver.proofs.Reaching.{bytes-set, reaches-more}
use Rattle.crb_driver.proofs.access.read_bytes.Goals as goal

pub loop-i-preserved : goal.loop-i-preserved
loop-i-preserved g c =
    let i = c.loop-i.i in
    let into = c.loop-i.into in
    let byte = c.read.result in
    let below : i < length into = omega (arith, c.loop-i-test.true, c.loop-i.invariant.room) in
    let within : i ≤ length into = omega (arith, below) in
    record {
      room = grind (arith, common_steps, c.loop-i.invariant.room);
      bytes = bytes-set into i byte below c.read.ensures.fits c.loop-i.invariant.bytes;
      is_ready = c.read.ensures.stays_ready;
      steps = reaches-more g.B.Bus.step c.args.bus.now c.loop-i.bus c.read.new.bus reading c.args.offset i byte _ _ (take_more_set into i byte below) (length-take-le i into within) c.loop-i.invariant.steps c.read.ensures.steps;
    }
