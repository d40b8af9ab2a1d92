use Rattle.tpm_frame.proofs.Parts.{short_is_frame}
use Rattle.tpm_frame.proofs.write_short.Goals as goal

pub returns-clause-response : goal.returns-clause-response
returns-clause-response c = simp (c.to_be_bytes.ensures, c.to_be_bytes-2.ensures, c.short_tag.ensures) at c.hold.ensures

pub returns-clause-frame : goal.returns-clause-frame
returns-clause-frame c = short_is_frame c.args.code
