use Rattle.std.proofs.Common.{◌≡◌, ◌≤◌, ◌+◌, ◌*◌, ◌++◌, length, take}
use Rattle.std.specs.List.{flat_map}
use Rattle.tpm_core.specs.Answers.{digest_read}
use Rattle.tpm_core.proofs.response.push_digests.Given as goal

abbrev pub invariant-loop-register : goal.invariant-loop-register
invariant-loop-register l = record {
  exact : l.body ≡ l.fn.body ++ flat_map (digest_read l.parts) (take l.register-index l.registers);
  size : length l.body ≤ length l.fn.body + 66 * l.register-index;
}
