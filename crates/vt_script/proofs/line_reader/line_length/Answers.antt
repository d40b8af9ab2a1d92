use Rattle.std.proofs.Common.{sym, ◌∙◌}
use Rattle.vt_script.proofs.Reading.{place_found, none_found}
use Rattle.vt_script.proofs.line_reader.line_length.Goals as goal

pub returns-in-Some : goal.returns-in-Some
returns-in-Some c = place_found c.args.bytes.now c.in-Some.at (sym c.place_of.ensures ∙ c.in-Some.is)

pub returns-in-None : goal.returns-in-None
returns-in-None c = none_found c.args.bytes.now (sym c.place_of.ensures ∙ c.in-None.is)
