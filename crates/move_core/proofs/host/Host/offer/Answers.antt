use Rattle.move_core.specs.Parts.{model_of}
use Rattle.move_core.proofs.Counting.{offer_counted}
use Rattle.move_core.proofs.host.Host.offer.Goals as goal

pub returns-clause-counts : goal.returns-clause-counts
returns-clause-counts g c = offer_counted g.P.PortModel.port_view (model_of c.self.inside.parts) _ c.offer.result _ (model_of c.offer.new.self) c.offer.ensures.offers
