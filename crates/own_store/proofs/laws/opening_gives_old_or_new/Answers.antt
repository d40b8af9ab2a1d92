use Rattle.own_store.proofs.Openings.{old_or_new}
use Rattle.own_store.proofs.laws.opening_gives_old_or_new.Goals as goal

pub returns : goal.returns
returns c = record { old_or_new = old_or_new }
