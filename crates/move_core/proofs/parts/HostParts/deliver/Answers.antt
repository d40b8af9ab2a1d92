use Rattle.std.proofs.Common.{sym, ◌∙◌}
use Rattle.move_core.proofs.Followed.{delivered_mine, other_follows, consistent_after}
use Rattle.move_core.specs.Parts.{model_of}
use Rattle.move_core.proofs.parts.HostParts.deliver.Goals as goal

pub returns-then-not-is_same-clause-row : goal.returns-then-not-is_same-clause-row
returns-then-not-is_same-clause-row g c = other_follows g.P.PortModel.port_view (model_of c.args.self.now) c.args.m.now _ (sym c.is_same.ensures ∙ c.if-not-is_same.true)

pub returns-clause-row : goal.returns-clause-row
returns-clause-row g c = rw (delivered_mine (model_of c.args.self.now) c.args.m.now (sym c.is_same.ensures ∙ c.if-not-is_same.false)) c.on_message.ensures.row

pub returns-clause-consistent : goal.returns-clause-consistent
returns-clause-consistent g c =
    consistent_after g.P.PortModel.port_view (model_of c.args.self.now) c.args.m.now _ _ (model_of c.on_message.new.self) c.on_message.result c.requires.consistent c.messages_are_in_range.ensures.body
    (sym c.is_same.ensures ∙ c.if-not-is_same.false) c.on_message.ensures.row c.on_message.ensures.same c.on_message.ensures.consistent
