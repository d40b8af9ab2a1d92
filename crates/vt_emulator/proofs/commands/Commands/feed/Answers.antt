use Rattle.vt_emulator.proofs.Frames.{fed}
use Rattle.vt_emulator.proofs.commands.Commands.feed.Goals as goal

pub returns-clause-takes : goal.returns-clause-takes
returns-clause-takes c =
    let took = c.feed-took.ensures in
    rw (← c.self.view_is, c.if-self.false) (fed c.self.inside.cutter c.args.bytes.now c.feed-took.new.self c.feed-took.result.used c.feed-took.result.whole took.held took.whole took.all took.part)
