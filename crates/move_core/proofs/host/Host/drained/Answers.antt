use Rattle.move_core.specs.Parts.{model_of}
use Rattle.move_core.proofs.Counting.{drain_counted}
use Rattle.move_core.proofs.host.Host.drained.Goals as goal

pub returns-clause-counts : goal.returns-clause-counts
returns-clause-counts g c = drain_counted g.P.PortModel.port_view (model_of c.self.inside.parts) _ c.drained.result _ (model_of c.drained.new.self) c.drained.ensures.drains
