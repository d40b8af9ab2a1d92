use Rattle.tpm_frame.specs.Frames.{frames}
use Rattle.tpm_frame.proofs.Cuts.{cut_more, one_cut}
use Rattle.tpm_frame.proofs.laws.streams_are_cut_once.Goals as goal

pub returns-clause-grows : goal.returns-clause-grows
returns-clause-grows c = cut_more

pub returns-clause-once : goal.returns-clause-once
returns-clause-once c = one_cut (λ a b x y p q same. (c.encodings_are_prefix_free.ensures.apart frames tt tt a b x y p q same).1)
