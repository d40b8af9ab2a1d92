use Rattle.std.proofs.Common.{Option, IfSome, sym, subst}
use Rattle.vt_base.specs.Layout.{IsOpen}
use Rattle.ctrl_codec.specs.declared.request_code.RequestCode.{RequestCode}
use Rattle.ctrl_codec.specs.Replies.{replies_to}
use Rattle.ctrl_codec.proofs.Begun.{open_after}
use Rattle.ctrl_codec.proofs.Replies.{first_of_reply}
use Rattle.ctrl_codec.proofs.ReplyReading.{answered}
use Rattle.ctrl_codec.proofs.reply_reader.ReplyReader.feed.Goals as goal

pub invariant_of-self : goal.invariant_of-self
invariant_of-self c =
    let command = c.in-Some.command in
    let so_far = subst (λ (o : Option RequestCode). IfSome o (λ k. IsOpen (replies_to k) c.self.inside.progress.begun)) c.in-Some.is c.self.invariant in
    let then = open_after (replies_to command) c.self.inside.progress c.feed-used.new.self c.args.piece.now c.feed-used.result.0 c.feed-used.result.1 (first_of_reply command) so_far c.feed-used.ensures.exact c.feed-used.ensures.left in
    subst (λ (o : Option RequestCode). IfSome o (λ k. IsOpen (replies_to k) c.feed-used.new.self.begun)) (sym c.in-Some.is) then

pub returns-clause-whole : goal.returns-clause-whole
returns-clause-whole c = (answered c.in-Some.command c.feed-used.result.1 c.answer.result c.self.inside.awaits c.self.inside.progress c.feed-used.new.self c.args.self.now _ c.args.piece.now c.feed-used.result.0 c.in-Some.is c.self.view_is c.answer.ensures.answer c.answer.ensures.awaits c.feed-used.ensures.exact c.feed-used.ensures.left).whole

pub returns-clause-refused : goal.returns-clause-refused
returns-clause-refused c = (answered c.in-Some.command c.feed-used.result.1 c.answer.result c.self.inside.awaits c.self.inside.progress c.feed-used.new.self c.args.self.now _ c.args.piece.now c.feed-used.result.0 c.in-Some.is c.self.view_is c.answer.ensures.answer c.answer.ensures.awaits c.feed-used.ensures.exact c.feed-used.ensures.left).refused

pub returns-clause-more : goal.returns-clause-more
returns-clause-more c = (answered c.in-Some.command c.feed-used.result.1 c.answer.result c.self.inside.awaits c.self.inside.progress c.feed-used.new.self c.args.self.now _ c.args.piece.now c.feed-used.result.0 c.in-Some.is c.self.view_is c.answer.ensures.answer c.answer.ensures.awaits c.feed-used.ensures.exact c.feed-used.ensures.left).more
