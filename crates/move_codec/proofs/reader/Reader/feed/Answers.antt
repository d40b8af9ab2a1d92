use Rattle.std.proofs.Common.{◌≡◌, ◌++◌, length, take}
use Rattle.move_codec.proofs.Decoding.{fed_whole, fed_bad, fed_more}
use Rattle.move_codec.proofs.reader.Reader.feed.Goals as goal

pub returns-clause-whole : goal.returns-clause-whole
returns-clause-whole c = fed_whole c.advance.result (λ used. c.args.self.now.begun ++ take used c.args.piece.now) c.advance.ensures.whole

pub returns-clause-bad : goal.returns-clause-bad
returns-clause-bad c = fed_bad c.advance.result (λ used. c.args.self.now.begun ++ take used c.args.piece.now) c.advance.ensures.bad

pub returns-clause-more : goal.returns-clause-more
returns-clause-more c = fed_more c.advance.result (λ used. used ≡ length c.args.piece.now) (c.args.self.now.begun ++ c.args.piece.now) c.advance.ensures.more
