use Rattle.std.proofs.Common.{rules}
use Rattle.state_blobs.proofs.Places.{byte_behind, flag_refused}
use Rattle.state_blobs.proofs.reading.check_body_byte.Goals as goal

pub returns-then-is_whole-clause-refused : goal.returns-then-is_whole-clause-refused
returns-then-is_whole-clause-refused c rest = rw c.fault_at.ensures (byte_behind c.args.kind c.args.reading.now c.args.byte rest c.requires.reading (search rules))

pub returns-then-not-flag_fits-clause-refused : goal.returns-then-not-flag_fits-clause-refused
returns-then-not-flag_fits-clause-refused c rest =
    rw c.fault_at-then-not-flag_fits.ensures (flag_refused c.args.kind c.args.reading.now c.args.byte rest c.requires.reading c.if-reading-eq-FLAG_PLACE.true (search rules))
