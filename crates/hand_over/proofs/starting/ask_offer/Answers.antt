use Rattle.hand_over.proofs.Offering.{offer_is}
use Rattle.hand_over.proofs.Starts.{offers_at_once, offer_comes, offer_begins, offer_link}
use Rattle.hand_over.proofs.starting.ask_offer.Goals as goal

pub unreachable-requires-in-Draining : goal.unreachable-requires-in-Draining
unreachable-requires-in-Draining g c =
    offers_at_once g.P.PortModel.port_view (record { least = c.blobs_are_prefix_free.ensures.least; most = c.blobs_are_prefix_free.ensures.most }) c.args.source.now _ c.args.target.now _
    c.requires.can c.requires.source_consistent c.requires.target_consistent _ _ c.offer.new.self
    (offer_is g.P.PortModel.port_view c.args.source.now _ _ _ _ c.offer.new.self c.in-Draining.is c.in-Ok.ensures.offers)

pub unreachable-requires : goal.unreachable-requires
unreachable-requires g c =
    offer_comes g.P.PortModel.port_view (record { least = c.blobs_are_prefix_free.ensures.least; most = c.blobs_are_prefix_free.ensures.most }) c.args.source.now _ c.args.target.now _
    c.requires.can c.requires.source_consistent c.requires.target_consistent c.stopped_devices_go_on.ensures.stopped c.in-Err.field-0 _ c.offer.new.self c.in-Err.ensures.offers

pub returns-clause-moving : goal.returns-clause-moving
returns-clause-moving g c =
    offer_begins g.P.PortModel.port_view (record { least = c.blobs_are_prefix_free.ensures.least; most = c.blobs_are_prefix_free.ensures.most }) c.args.source.now _ c.args.target.now _
    c.requires.can c.requires.source_consistent c.requires.target_consistent c.offer.new.self _ c.in-Sent.m
    (offer_is g.P.PortModel.port_view c.args.source.now _ _ _ _ c.offer.new.self c.in-Sent.is c.in-Ok.ensures.offers) c.offer.ensures.consistent c.offer.ensures.name

pub returns-clause-link : goal.returns-clause-link
returns-clause-link g c =
    offer_link g.P.PortModel.port_view (record { least = c.blobs_are_prefix_free.ensures.least; most = c.blobs_are_prefix_free.ensures.most }) c.args.source.now _ c.args.target.now _
    c.requires.can c.requires.source_consistent c.requires.target_consistent c.offer.new.self _ c.in-Sent.m
    (offer_is g.P.PortModel.port_view c.args.source.now _ _ _ _ c.offer.new.self c.in-Sent.is c.in-Ok.ensures.offers) c.offer.ensures.consistent c.offer.ensures.name
