use Rattle.move_core.specs.Parts.{model_of}
use Rattle.move_core.proofs.Counting.{delivery_counted}
use Rattle.move_core.proofs.host.Host.deliver.Goals as goal

pub returns-clause-counts : goal.returns-clause-counts
returns-clause-counts g c = delivery_counted g.P.PortModel.port_view (model_of c.self.inside.parts) c.args.m.now _ _ c.deliver.result (model_of c.deliver.new.self) c.deliver.ensures.row
