use Rattle.std.proofs.Common.{◌∙◌, sym}
use Rattle.vt_script.proofs.Cuts.{parts-cut, parts-None}
use Rattle.vt_script.proofs.parts.first_part.Goals as goal

pub returns-in-Some-clause-parts : goal.returns-in-Some-clause-parts
returns-in-Some-clause-parts c =
    parts-cut c.args.separator c.args.bytes.now c.in-Some.at c.split_at.result.0.now c.split_at.result.1.now c.split_at-in-Some.result.1.now
    (sym c.place_of.ensures ∙ c.in-Some.is) c.split_at.ensures.front c.split_at.ensures.back c.split_at-in-Some.ensures.back

pub returns-in-None-clause-parts : goal.returns-in-None-clause-parts
returns-in-None-clause-parts c = parts-None c.args.separator c.args.bytes.now (sym c.place_of.ensures ∙ c.in-None.is)
