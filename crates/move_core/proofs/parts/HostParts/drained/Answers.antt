use Rattle.std.proofs.Common.{refl, subst}
use Rattle.move_core.specs.Parts.{model_of}
use Rattle.move_core.specs.Hosts.{IsAtTop}
use Rattle.move_core.specs.declared.stage.MoveStage.{MoveStage}
use Rattle.move_core.proofs.Offers.{undrained_from}
use Rattle.move_core.proofs.parts.HostParts.drained.Goals as goal

pub returns-in-Ok-clause-drains : goal.returns-in-Ok-clause-drains
returns-in-Ok-clause-drains g c =
    record { device = c.stop.new.self; stops = c.in_default.ensures.stops; held = model_of c.offer_held.new.self; offers = c.in-Ok.ensures.offers; ends = refl }

pub returns-in-Err-offer_held-clause-drains : goal.returns-in-Err-offer_held-clause-drains
returns-in-Err-offer_held-clause-drains g c =
    undrained_from g.P.PortModel.port_view (model_of c.args.self.now) _ _ c.in-Err-offer_held.fault _ (model_of c.offer_held.new.self) c.stop.new.self
    (subst (λ (s : MoveStage). IsAtTop s c.args.self.now.top) c.requires.drains c.requires.consistent.matches_side.at_top) c.in_default.ensures.stops c.in-Err-offer_held.ensures.offers
    (record { rest = refl; device = c.go_on.ensures.goes_on })
