use Rattle.std.proofs.Common.{sym, ap, ◌∙◌, length}
use Rattle.move_core.specs.Requests.{fetched}
use Rattle.move_core.proofs.Pieces.{fetched_prefix}
use Rattle.move_core.proofs.asking.fetch.Goals as goal

pub returns-in-Ok-clause-fetches : goal.returns-in-Ok-clause-fetches
returns-in-Ok-clause-fetches g c = record {
  room = _;
  into = c.get.new.into;
  size = ap length (c.as_mut_slice.ensures.value ∙ c.in_ok-bytes.ensures.same);
  piece = c.get.result;
  gets = c.get.ensures;
  answer_is = fetched_prefix c.get.new.into c.in_ok-bytes.bytes c.cut.new.self c.in-Ok.piece c.get.result (c.get.auto.into ∙ ap length c.as_mut_slice.ensures.value) c.cut.ensures.prefix c.in-Ok.is;
}

pub returns-in-Err-clause-fetches : goal.returns-in-Err-clause-fetches
returns-in-Err-clause-fetches g c = record {
  room = _;
  into = c.get.new.into;
  size = ap length (c.as_mut_slice.ensures.value ∙ c.in_ok-bytes.ensures.same);
  piece = c.get.result;
  gets = c.get.ensures;
  answer_is = sym (ap (fetched c.get.new.into) c.in-Err.is);
}
