use Rattle.std.proofs.Common.{◌≡◌, ◌≤◌, length, take}
use Rattle.device_record.specs.Records.{trimmed}
use Rattle.device_record.proofs.writing.trimmed_length.Given as goal

abbrev pub invariant-loop-count : goal.invariant-loop-count
invariant-loop-count l = record {
  within : l.count ≤ length l.bytes;
  same : trimmed (take l.count l.bytes) ≡ trimmed l.bytes;
}

abbrev pub decreases-loop-count : goal.decreases-loop-count
decreases-loop-count l = l.count
