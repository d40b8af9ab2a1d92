use Rattle.std.proofs.Common.{subst}
use Rattle.crb_machine.specs.Over.{Writes}
use Rattle.move_core.specs.Model.{HostModel}
use Rattle.move_core.proofs.host.Host.write.Goals as goal

pub returns-clause-writes : goal.returns-clause-writes
returns-clause-writes g c = subst (λ (h : HostModel g.row.P.Denot). Writes g.P.PortModel.port_view h.device c.args.a.now c.write.new.self.device) c.self.view_is c.write.ensures.writes
