use Rattle.std.proofs.Common.{rules, length, ap, ◌∙◌, cond, Err}
use Rattle.std.specs.Prelude.{option_map}
use Rattle.vt_base.specs.declared.types.Chan.TheVariants.{Ctrl}
use Rattle.ctrl_model.specs.Link.{cut}
use Rattle.ctrl_client.specs.Pieces.{checked_fields, leaves_bytes, BlobFields}
use Rattle.ctrl_client.proofs.Passing.{answers_piece, answers_refusal, no_cut, cut_for_bytes, loses_data}
use Rattle.ctrl_client.proofs.Fetching.{fetch_failed, fetch_given, fetch_refused}
use Rattle.ctrl_client.proofs.pieces.get_piece.Goals as goal

pub returns-then-is_err-clause-exact : goal.returns-then-is_err-clause-exact
returns-then-is_err-clause-exact g c =
    fetch_failed g.W.Wires.fails g.W.Wires.later c.args.kind c.type_of.result c.args.offset (length c.args.into.now) (g.W.Wires.link c.args.wires.now) _ _ c.exchange.new.reply c.args.into.now
    _ _ c.type_of.ensures.kind c.if-is_err.ensures.negation c.exchange.ensures.exact

pub returns-in-Ok-clause-exact : goal.returns-in-Ok-clause-exact
returns-in-Ok-clause-exact g c =
    fetch_given g.W.Wires.fails g.W.Wires.later c.args.kind c.type_of.result c.args.offset (length c.args.into.now) (g.W.Wires.link c.args.wires.now) _ _ _ c.exchange.new.reply c.args.into.now c.receive_data.new.into
    _ _ c.read-fields.result c.check.result c.in-Ok.piece c.receive_data.result _ c.type_of.ensures.kind (search rules) c.if-is_err.ensures.negation c.exchange.ensures.exact
    c.check.ensures.checked c.in-Ok.is c.read-fields.ensures c.receive_data.ensures.exact

pub returns-in-Err-clause-exact : goal.returns-in-Err-clause-exact
returns-in-Err-clause-exact g c =
    fetch_refused g.W.Wires.fails g.W.Wires.later c.args.kind c.type_of.result c.args.offset (length c.args.into.now) (g.W.Wires.link c.args.wires.now) _ _ _ c.exchange.new.reply c.args.into.now
    _ _ c.read-fields.result c.check.result c.in-Err.fault _ c.type_of.ensures.kind (search rules) c.if-is_err.ensures.negation c.exchange.ensures.exact
    c.check.ensures.checked c.in-Err.is c.read-fields.ensures c.forget_rest.ensures.link c.forget_rest.ensures.schedule

pub returns-in-Ok-clause-reply : goal.returns-in-Ok-clause-reply
returns-in-Ok-clause-reply g c =
    answers_piece _ c.args.offset (g.W.Wires.traffic c.args.wires.now) _ _ _ c.exchange.new.reply c.args.into.now c.receive_data.new.into c.check.result c.receive_data.result c.in-Ok.piece
    c.exchange.ensures.size (search rules) (c.check.ensures.checked ∙ ap (λ (f : BlobFields). checked_fields f c.args.offset (length c.args.into.now)) c.read-fields.ensures) c.in-Ok.is
    c.receive_data.ensures.piece c.receive_data.ensures.fault c.receive_data.ensures.came c.receive_data.ensures.rest_unchanged

pub returns-in-Err-clause-reply : goal.returns-in-Err-clause-reply
returns-in-Err-clause-reply g c = λ answered.
    answers_refusal _ c.args.offset (g.W.Wires.traffic c.args.wires.now) _ (g.W.Wires.link c.exchange.new.wires) _ c.exchange.new.reply c.args.into.now c.check.result c.in-Err.fault
    c.exchange.ensures.size (search rules) (c.check.ensures.checked ∙ ap (λ (f : BlobFields). checked_fields f c.args.offset (length c.args.into.now)) c.read-fields.ensures) c.in-Err.is
    (c.forget_rest.ensures.link ∙ ap (λ (f : BlobFields). cond (leaves_bytes (Err c.in-Err.fault) f.size) (option_map (cut Ctrl) (g.W.Wires.link c.exchange.new.wires)) (g.W.Wires.link c.exchange.new.wires)) c.read-fields.ensures)

pub returns-in-Ok-clause-slice : goal.returns-in-Ok-clause-slice
returns-in-Ok-clause-slice g c = λ lost.
    loses_data _ c.args.offset (g.W.Wires.traffic c.args.wires.now) _ _ c.exchange.new.reply c.args.into.now c.receive_data.new.into c.check.result c.receive_data.result c.in-Ok.piece
    c.exchange.ensures.size (search rules) (c.check.ensures.checked ∙ ap (λ (f : BlobFields). checked_fields f c.args.offset (length c.args.into.now)) c.read-fields.ensures) c.in-Ok.is
    c.receive_data.ensures.part c.receive_data.ensures.rest_unchanged lost

pub returns-in-Ok-clause-cuts : goal.returns-in-Ok-clause-cuts
returns-in-Ok-clause-cuts g c =
    no_cut _ c.args.offset (length c.args.into.now) (g.W.Wires.traffic c.args.wires.now) _ _ _ _ c.exchange.new.reply c.receive_data.new.into c.check.result c.receive_data.result c.in-Ok.piece
    c.exchange.ensures.size (search rules) (c.check.ensures.checked ∙ ap (λ (f : BlobFields). checked_fields f c.args.offset (length c.args.into.now)) c.read-fields.ensures) c.in-Ok.is
    c.receive_data.ensures.piece c.receive_data.ensures.fault c.receive_data.ensures.came (c.receive_data.ensures.uncut ∙ c.exchange.ensures.uncut)

pub returns-in-Err-clause-cuts : goal.returns-in-Err-clause-cuts
returns-in-Err-clause-cuts g c = λ answered.
    cut_for_bytes _ c.args.offset (length c.args.into.now) (g.W.Wires.traffic c.args.wires.now) _ _ _ c.exchange.new.reply c.check.result c.in-Err.fault
    c.exchange.ensures.size (search rules) (c.check.ensures.checked ∙ ap (λ (f : BlobFields). checked_fields f c.args.offset (length c.args.into.now)) c.read-fields.ensures) c.in-Err.is
    (λ none. c.forget_rest.ensures.uncut (ap (λ (f : BlobFields). leaves_bytes (Err c.in-Err.fault) f.size) c.read-fields.ensures ∙ none) ∙ c.exchange.ensures.uncut)
