use Rattle.std.proofs.Common.{◌≡◌, ◌+◌, ◌*◌, ◌<◌, ◌≤◌, ◌-◌}
use Rattle.std.specs.Prelude.{IfSome}
use Rattle.crb_port.specs.Calls.{KeepsWorker}
use Rattle.move_core.specs.Requests.{wires_view}
use Rattle.hand_over.specs.Counts.{blob_piece, commands_at, pieces_from, messages_left}
use Rattle.hand_over.specs.Moving.{AreMoving, IsSameTarget, to_source}
use Rattle.hand_over.proofs.whole_move.carry_on.Given as goal

abbrev pub invariant-loop-lost : goal.invariant-loop-lost
invariant-loop-lost g l = record {
  moving : AreMoving g.P.PortModel.port_view (to_source l.m)
      l.source (wires_view g.W.Wires.fails g.W.Wires.later (g.W.Wires.link l.from) (g.W.Wires.schedule l.from) (g.W.Wires.faults l.from) (g.W.Wires.traffic l.from))
      l.target (wires_view g.W.Wires.fails g.W.Wires.later (g.W.Wires.link l.to) (g.W.Wires.schedule l.to) (g.W.Wires.faults l.to) (g.W.Wires.traffic l.to));
  source_is : l.source ≡ record l.fn.source { stage = l.source.stage; record_bytes = l.source.record_bytes };
  link : g.W.Wires.link l.from ≡ g.W.Wires.link l.fn.from;
  target_is : IsSameTarget l.fn.target l.target;
  pieces : blob_piece (g.W.Wires.link l.to) ≡ blob_piece (g.W.Wires.link l.fn.to);
  commands : commands_at (g.W.Wires.link l.to) ≡ commands_at (g.W.Wires.link l.fn.to);
  source_worker : KeepsWorker (g.P.PortModel.port_view l.fn.source.device.port) (g.P.PortModel.port_view l.source.device.port);
  source_rest : g.P.PortModel.rest l.source.device.port ≡ g.P.PortModel.rest l.fn.source.device.port;
  target_worker : KeepsWorker (g.P.PortModel.port_view l.fn.target.device.port) (g.P.PortModel.port_view l.target.device.port);
  target_rest : g.P.PortModel.rest l.target.device.port ≡ g.P.PortModel.rest l.fn.target.device.port;
  count : l.number + messages_left l.source (g.W.Wires.link l.from) l.m ≡ 2 * pieces_from l.source (g.W.Wires.link l.from) + 3;
  ahead : IfSome l.lost (λ k. l.number ≤ k);
  small : l.number < 100000;
}

abbrev pub decreases-loop-lost : goal.decreases-loop-lost
decreases-loop-lost g l = 100000 - l.number
