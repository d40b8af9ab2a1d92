use Rattle.std.proofs.Common.{◌∙◌, sym, subst}
use Rattle.vt_base.specs.Layout.{IsOpen}
use Rattle.ctrl_codec.specs.Reading.{ReaderState}
use Rattle.ctrl_codec.specs.Requests.{requests}
use Rattle.ctrl_codec.proofs.Begun.{open_after}
use Rattle.ctrl_codec.proofs.RequestReading.{first_of_request, answered}
use Rattle.ctrl_codec.proofs.request_reader.RequestReader.feed.Goals as goal

pub invariant_of-self : goal.invariant_of-self
invariant_of-self c =
    let so_far = subst (λ (r : ReaderState). IsOpen requests r.begun) (sym c.deref_mut.ensures.value) c.self.invariant in
    open_after requests c.deref_mut.result.now c.feed-used.new.self c.args.piece.now c.feed-used.result.0 c.feed-used.result.1 first_of_request so_far c.feed-used.ensures.exact c.feed-used.ensures.left

pub returns-clause-whole : goal.returns-clause-whole
returns-clause-whole c = (answered c.feed-used.result.1 c.answer.result c.deref_mut.result.now c.args.self.now c.feed-used.new.self c.args.piece.now c.feed-used.result.0 (c.deref_mut.ensures.value ∙ c.self.view_is) c.answer.ensures c.feed-used.ensures.exact c.feed-used.ensures.left).whole

pub returns-clause-refused : goal.returns-clause-refused
returns-clause-refused c = (answered c.feed-used.result.1 c.answer.result c.deref_mut.result.now c.args.self.now c.feed-used.new.self c.args.piece.now c.feed-used.result.0 (c.deref_mut.ensures.value ∙ c.self.view_is) c.answer.ensures c.feed-used.ensures.exact c.feed-used.ensures.left).refused

pub returns-clause-more : goal.returns-clause-more
returns-clause-more c = (answered c.feed-used.result.1 c.answer.result c.deref_mut.result.now c.args.self.now c.feed-used.new.self c.args.piece.now c.feed-used.result.0 (c.deref_mut.ensures.value ∙ c.self.view_is) c.answer.ensures c.feed-used.ensures.exact c.feed-used.ensures.left).more
