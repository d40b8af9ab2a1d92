use Rattle.std.proofs.Common.{length, take, ◌-◌, ◌≡◌, ◌≤◌}
use Rattle.ctrl_client.specs.Traffic.{Came}
use Rattle.ctrl_client.proofs.receive.receive_rest.Given as goal

abbrev pub invariant-loop-done : goal.invariant-loop-done
invariant-loop-done g l = record {
  within : l.done ≤ length l.into;
  untouched : length l.into ≡ 0 → l.wires ≡ l.initial.wires;
  came : Came l.chan (take l.done l.into) (g.W.Wires.traffic l.initial.wires) (g.W.Wires.traffic l.wires);
  unfailed : g.W.Wires.faults l.wires ≡ g.W.Wires.faults l.initial.wires;
  uncut : g.W.Wires.cuts l.wires ≡ g.W.Wires.cuts l.initial.wires;
}

abbrev pub decreases-loop-done : goal.decreases-loop-done
decreases-loop-done g l = length l.into - l.done
