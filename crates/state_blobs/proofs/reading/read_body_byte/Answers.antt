use Rattle.std.proofs.Common.{rules}
use Rattle.state_blobs.proofs.Places.{body_room, body_byte_read, reads_body}
use Rattle.state_blobs.proofs.reading.read_body_byte.Goals as goal

pub set_byte-requires-clause-there : goal.set_byte-requires-clause-there
set_byte-requires-clause-there c = body_room c.args.kind c.args.reading.now c.requires.reading c.requires.behind c.in_ok-check_body_byte.ensures.within

pub returns-clause-ok : goal.returns-clause-ok
returns-clause-ok c =
    reads_body c.args.kind c.args.reading.now c.set_byte.new.fields c.args.byte c.requires.reading c.requires.behind c.in_ok-check_body_byte.ensures.within (search rules)
    c.set_byte.ensures.valid c.set_byte.ensures.body c.in_ok-check_body_byte.ensures.flagged

pub returns-clause-read : goal.returns-clause-read
returns-clause-read c =
    body_byte_read c.args.kind c.args.reading.now c.set_byte.new.fields c.args.byte c.requires.reading c.requires.behind c.in_ok-check_body_byte.ensures.within c.set_byte.ensures.body
