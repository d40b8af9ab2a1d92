use Rattle.std.proofs.Common.{refl, sym, ap}
use Rattle.move_core.specs.Requests.{fetched, total_in}
use Rattle.move_core.proofs.asking.total.Goals as goal

pub returns-in-Ok : goal.returns-in-Ok
returns-in-Ok g c = record {
  piece = fetched c.get.new.into c.get.result;
  fetches = record { room = _; into = c.get.new.into; size = refl; piece = c.get.result; gets = c.get.ensures; answer_is = refl };
  answer_is = sym (ap (λ r. total_in (fetched c.get.new.into r)) c.in-Ok.is);
}

pub returns-in-Err : goal.returns-in-Err
returns-in-Err g c = record {
  piece = fetched c.get.new.into c.get.result;
  fetches = record { room = _; into = c.get.new.into; size = refl; piece = c.get.result; gets = c.get.ensures; answer_is = refl };
  answer_is = sym (ap (λ r. total_in (fetched c.get.new.into r)) c.in-Err.is);
}
