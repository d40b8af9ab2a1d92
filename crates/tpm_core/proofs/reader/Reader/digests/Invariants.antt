use Rattle.std.proofs.Common.{◌≡◌, ◌-◌, length}
use Rattle.tpm_core.specs.Reading.{digest_at, many_at}
use Rattle.tpm_core.proofs.Loops.{with_prefix}
use Rattle.tpm_core.proofs.reader.Reader.digests.Given as goal

abbrev pub invariant-loop : goal.invariant-loop
invariant-loop l = record {
  exact : with_prefix l.digests (many_at (digest_at l.banks) (l.count - l.counter) l.self) ≡ many_at (digest_at l.banks) l.count l.fn.self;
  as_many : length l.digests ≡ l.counter;
}
