use Rattle.std.proofs.Common.{arith, rules}
use Rattle.state_blobs.proofs.Places.{within_header, header_byte_read, reads_header}
use Rattle.state_blobs.proofs.reading.read_header_byte.Goals as goal

pub returns-in_err-reading-clause-refused : goal.returns-in_err-reading-clause-refused
returns-in_err-reading-clause-refused c = rw (within_header c.args.kind c.args.reading.now (omega (arith, c.requires.within))) (search rules)

pub returns-clause-ok : goal.returns-clause-ok
returns-clause-ok c =
    reads_header c.args.kind c.args.reading.now c.in_ok-reading.field-0 c.args.byte c.requires.reading c.requires.within (search rules) c.in_ok-reading.ensures.read c.in_ok-reading.ensures.sized

pub returns-clause-read : goal.returns-clause-read
returns-clause-read c = header_byte_read c.args.kind c.args.reading.now c.in_ok-reading.field-0 c.args.byte c.requires.within c.in_ok-reading.ensures.read
