use Rattle.std.proofs.Common.{sym, subst, lit<}
use Rattle.vt_base.specs.Layout.{IsOpen}
use Rattle.ctrl_codec.specs.Reading.{ReaderState}
use Rattle.ctrl_codec.proofs.progress.Progress.feed.Goals as goal

pub feed-used-requires : goal.feed-used-requires
feed-used-requires g c = (lit< tt, (c.requires.room, subst (λ (r : ReaderState). IsOpen (g.G.Grammar.layout c.args.grammar.now) r.begun) (sym c.self.view_is) c.requires.open))
