use Rattle.std.proofs.Common.{arith, rules}
use Rattle.state_blobs.proofs.Places.{length_refused}
use Rattle.state_blobs.proofs.reading.header_after.Goals as goal

pub returns-then-not-is_length-clause-refused : goal.returns-then-not-is_length-clause-refused
returns-then-not-is_length-clause-refused c rest =
    rw c.fault_at-then-not-is_length.ensures
    (length_refused c.args.kind c.args.header c.args.place c.number_with-length.result c.args.byte rest (omega (arith, c.if-place-eq-HEADER_SIZE.true)) c.number_with-length.ensures (search rules) (search rules))
