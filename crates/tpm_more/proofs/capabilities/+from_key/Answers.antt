use Rattle.tpm_more.proofs.Encoding.{found_here}
use Rattle.tpm_more.proofs.capabilities.+from_key.Goals as goal

pub returns-in_default-2-clause-found : goal.returns-in_default-2-clause-found
returns-in_default-2-clause-found t c = found_here c.args.property c.key.result c.args.entries.now c.requires.rising c.in-len1-up.len_at_least c.key.ensures c.if-key-property.false
