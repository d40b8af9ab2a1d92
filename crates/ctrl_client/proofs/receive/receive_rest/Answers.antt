use Rattle.std.proofs.Common.{rules}
use Rattle.ctrl_client.proofs.Passing.{came_behind}
use Rattle.ctrl_client.proofs.receive.receive_rest.Goals as goal

pub loop-done-preserved : goal.loop-done-preserved
loop-done-preserved g c = record {
  within = search rules;
  untouched = search rules;
  came = came_behind c.args.chan c.loop-done.done c.in_ok-count.count c.loop-done.into c.receive.new.into _ (g.W.Wires.traffic c.args.wires.now) _ _ c.loop-done.invariant.within c.in_ok-count.ensures.bound.0
      c.loop-done.invariant.came c.in_ok-count.ensures.traffic;
  unfailed = search rules;
  uncut = search rules;
}
