use Rattle.std.proofs.Common.{ap, ◌∙◌}
use Rattle.hand_over.specs.Counts.{blob_piece}
use Rattle.hand_over.proofs.Carrying.{made_good, calm_target, calm_at}
use Rattle.hand_over.proofs.recovering.make_good.Goals as goal

pub returns-in_default : goal.returns-in_default
returns-in_default g c =
    let port_view = g.P.PortModel.port_view in
    let again = c.commit_again-commit.ensures in
    let good = made_good port_view c.args.source.now _ c.args.target.now _ c.requires.moving.0 c.commit_again-commit.new.source _ c.commit_again-commit.result c.ask_target-none.new.target _ c.ask_target-none.result
    c.requires.moving.1 again.moving again.same again.link c.ask_target-none.ensures.goes c.ask_target-none.ensures.count (λ offers. c.in_default.not-Offering _ (c.side.ensures.value ∙ offers)) in
    record {
      ends = good.0;
      link = again.link;
      calm = calm_at _ _ _ (ap blob_piece again.link) (calm_target port_view c.commit_again-commit.new.source _ c.args.target.now _ c.commit_again-commit.result again.moving).0;
      target_calm = calm_at _ _ _ c.ask_target-none.ensures.pieces good.1;
      commands = c.ask_target-none.ensures.commands;
      source_worker = again.source_worker;
      source_rest = again.source_rest;
      target_worker = c.ask_target-none.ensures.target_worker;
      target_rest = c.ask_target-none.ensures.target_rest;
    }
