use Rattle.crb_machine.proofs.parts.DeviceParts.+value_by_bytes.Given as goal

abbrev pub decreases-value_by_bytes : goal.decreases-value_by_bytes
decreases-value_by_bytes g l = l.size
