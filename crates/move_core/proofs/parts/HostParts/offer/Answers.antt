use Rattle.std.proofs.Common.{refl, sym, ◌∙◌, arith}
use Rattle.move_core.specs.Parts.{model_of}
use Rattle.move_core.specs.Calls.EpochEnds.{Claimed}
use Rattle.move_core.proofs.Offers.{refused_from, runs_at}
use Rattle.move_core.proofs.parts.HostParts.offer.Goals as goal

pub returns-then-self-clause-offers : goal.returns-then-self-clause-offers
returns-then-self-clause-offers g c =
    (runs_at c.args.self.now.stage (sym c.is_running.ensures ∙ c.if-not-is_running.false), Claimed c.in-Err.not_yet.number (let max = c.if-self.true in omega (arith, max)) refl c.in-Err.ensures.stops refl)

pub returns-in-Ok-clause-offers : goal.returns-in-Ok-clause-offers
returns-in-Ok-clause-offers g c = (
  runs_at c.args.self.now.stage (sym c.is_running.ensures ∙ c.if-not-is_running.false),
  record { device = c.stop.new.self; stops = c.in_default.ensures.stops; held = model_of c.offer_held.new.self; offers = c.in-Ok.ensures.offers; ends = refl },
)

pub returns-in-Err-offer_held-clause-offers : goal.returns-in-Err-offer_held-clause-offers
returns-in-Err-offer_held-clause-offers g c =
    refused_from g.P.PortModel.port_view (model_of c.args.self.now) _ _ c.in-Err-offer_held.fault _ (model_of c.offer_held.new.self) c.stop.new.self
    (runs_at c.args.self.now.stage (sym c.is_running.ensures ∙ c.if-not-is_running.false)) c.in_default.ensures.stops c.in-Err-offer_held.ensures.offers
    (record { rest = refl; device = c.go_on.ensures.goes_on })
