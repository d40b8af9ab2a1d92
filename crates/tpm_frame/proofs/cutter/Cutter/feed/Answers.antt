use Rattle.std.proofs.Common.{rules}
use Rattle.tpm_frame.specs.Frames.{IsPartOfFrame}
use Rattle.tpm_frame.proofs.Parts.{part_is_no_frame}
use Rattle.tpm_frame.proofs.cutter.Cutter.feed.Goals as goal

pub returns-clause-kept : goal.returns-clause-kept
returns-clause-kept c = λ frame. let part : IsPartOfFrame c.args.self.now = search rules in absurd (part_is_no_frame c.args.self.now part frame)
