use Rattle.std.proofs.Common.{◌≡◌, ◌≤◌, ◌++◌, take}
use Rattle.state_blobs.specs.Partial.{bytes_read, IsReading}
use Rattle.state_blobs.proofs.reading.read_bytes.Given as goal

abbrev pub invariant-loop-byte : goal.invariant-loop-byte
invariant-loop-byte l = record {
  reading : IsReading l.kind l.reading;
  read : bytes_read l.kind l.reading ≡ bytes_read l.kind l.initial.reading ++ take l.byte-index l.bytes;
  header : 9 ≤ l.initial.reading.place → l.reading.header ≡ l.initial.reading.header;
}
