use Rattle.std.proofs.Common.{◌∙◌, sym, rules}
use Rattle.state_blobs.proofs.Bodies.{length-started, length-kept_too}
use Rattle.state_blobs.proofs.encode.body_length.Goals as goal

pub returns-in-Volatile-clause-length : goal.returns-in-Volatile-clause-length
returns-in-Volatile-clause-length c = c.volatile_length.ensures ∙ sym (length-started c.args.kind c.args.parts.now c.requires (search rules) (search rules))

pub returns-in-Saved-clause-length : goal.returns-in-Saved-clause-length
returns-in-Saved-clause-length c = c.saved_length.ensures ∙ sym (length-kept_too c.args.kind c.args.parts.now c.requires (search rules) (search rules))
