use Rattle.std.proofs.Common.{◌≡◌}
use Rattle.crb_regs.specs.LittleEndian.{byte_of}
use Rattle.crb_machine.specs.Content.{overwritten}
use Rattle.crb_machine.proofs.bytes.overwrite.Given as goal

-- the bytes so far are written
abbrev pub invariant-loop-k : goal.invariant-loop-k
invariant-loop-k l = l.buf ≡ overwritten l.fn.buf l.at (byte_of l.value) l.k
