use Rattle.vt_base.proofs.Layouts.{one_encoding}
use Rattle.vt_base.proofs.laws.encodings_are_prefix_free.Goals as goal

pub returns : goal.returns
returns g c = record { apart = λ layout d e a b x y p q r. one_encoding layout d e a b x y p q r }
