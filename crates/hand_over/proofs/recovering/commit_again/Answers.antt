use Rattle.std.proofs.Common.{◌≡◌, sym, ap, ◌∙◌}
use Rattle.move_codec.specs.declared.message.Body.TheVariants as body
use Rattle.move_core.specs.Requests.{WiresView}
use Rattle.move_core.specs.Table.{message_from}
use Rattle.hand_over.proofs.Losses.{under_way, says_again, commit_comes, moving_again}
use Rattle.hand_over.proofs.Carrying.{let_go_by}
use Rattle.hand_over.proofs.recovering.commit_again.Goals as goal

pub unreachable-requires-in_default-answer : goal.unreachable-requires-in_default-answer
unreachable-requires-in_default-answer g c =
    let a = c.requires.moving.1 in
    let gone = let_go_by c.args.source.now _ c.args.target.now c.requires.moving.0 c.requires.let_go (under_way g.P.PortModel.port_view c.args.source.now _ c.args.target.now _ c.requires.moving.0 a) in
    let prepared : c.in-Some.prepared ≡ message_from c.args.target.now.name gone.epoch body.Prepared = let e = c.in-Some.ensures ∙ says_again c.args.target.now gone.epoch gone.prepared in cc in
    let says = commit_comes g.P.PortModel.port_view c.args.source.now c.deliver.new.self c.args.target.now.name gone.epoch c.in-Some.prepared _ _ c.in-Ok.answer prepared a.names gone.released c.in-Ok.ensures.row in
    c.in_default-answer.not-Sent _ says.answer_is

pub returns : goal.returns
returns g c =
    let a = c.requires.moving.1 in
    let gone = let_go_by c.args.source.now _ c.args.target.now c.requires.moving.0 c.requires.let_go (under_way g.P.PortModel.port_view c.args.source.now _ c.args.target.now _ c.requires.moving.0 a) in
    let prepared : c.in-Some.prepared ≡ message_from c.args.target.now.name gone.epoch body.Prepared = let e = c.in-Some.ensures ∙ says_again c.args.target.now gone.epoch gone.prepared in cc in
    let says = commit_comes g.P.PortModel.port_view c.args.source.now c.deliver.new.self c.args.target.now.name gone.epoch c.in-Some.prepared _ _ c.in-Ok.answer prepared a.names gone.released c.in-Ok.ensures.row in
    let commit : c.in-Sent.commit ≡ message_from c.args.source.now.name gone.epoch body.Commit = let e = sym c.in-Sent.is ∙ says.answer_is in cc in
    record {
      moving = moving_again g.P.PortModel.port_view c.args.source.now c.deliver.new.self _ _ c.args.target.now _ c.requires.moving.0 c.in-Sent.commit a (commit ∙ sym gone.says) says.host_is says.wires;
      same = says.host_is;
      link = ap (λ (s : WiresView g.W.Wires.Schedule). s.link) says.wires;
      source_worker = c.in-Ok.ensures.worker;
      source_rest = c.in-Ok.ensures.rest_unchanged;
    }
