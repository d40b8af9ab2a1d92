use Rattle.crb_driver.proofs.Running.{ends, stays}
use Rattle.crb_driver.proofs.driver.Driver.wait.Goals as goal

pub returns-then-poll-clause-waits : goal.returns-then-poll-clause-waits
returns-then-poll-clause-waits g c =
    ends g.B.Bus.step c.args.bus.now c.args.bus.now c.poll.new.bus c.loop.bus c.loop.counter c.args.polls c.loop.invariant.busy c.loop-test.true c.if-poll.ensures.polls

pub loop-preserved : goal.loop-preserved
loop-preserved g c = record {
  is_ready = c.poll.ensures.stays_ready;
  busy = stays g.B.Bus.step c.args.bus.now c.args.bus.now c.poll.new.bus c.loop.bus c.loop.counter c.loop.invariant.busy c.if-poll.ensures.polls;
}
