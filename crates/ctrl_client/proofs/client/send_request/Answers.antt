use Rattle.std.proofs.Common.{◌≡◌, ◌<◌, ◌++◌, length, sym, ap, ◌∙◌, arith}
use Rattle.std.proofs.lemmas.Bool.{eqb-true, eqb-false}
use Rattle.std.proofs.lemmas.List.{take-append-drop, length-drop}
use Rattle.ctrl_codec.specs.Requests.{encode_request}
use Rattle.ctrl_model.specs.Link.{heard_in}
use Rattle.ctrl_client.proofs.Sending.{zeros3, heard_request, heard_head, data_place, send_one, send_two}
use Rattle.ctrl_client.proofs.client.send_request.Goals as goal

pub returns-then-is_empty-clause-exact : goal.returns-then-is_empty-clause-exact
returns-then-is_empty-clause-exact g c =
    let q = c.args.request.now in
    let payload = c.args.payload.now in
    let text = c.bytes-bytes.result.now in
    let is : text ≡ encode_request q zeros3 payload = c.bytes-bytes.ensures.bytes ∙ c.write_request.ensures in
    send_one g.W.Wires.fails g.W.Wires.later q payload text _ _ _ _ _ (eqb-true _ _ (sym c.is_empty.ensures ∙ c.if-is_empty.true)) (heard_request q payload text c.requires.range c.requires.data is)
    c.send.ensures.link c.send.ensures.fails c.send.ensures.schedule

pub returns-clause-exact : goal.returns-clause-exact
returns-clause-exact g c =
    let q = c.args.request.now in
    let payload = c.args.payload.now in
    let text = c.bytes-bytes.result.now in
    let head = c.split_at.result.0.now in
    let tail = c.split_at.result.1.now in
    let is : text ≡ encode_request q zeros3 payload = c.bytes-bytes.ensures.bytes ∙ c.write_request.ensures in
    let none = eqb-false _ _ (sym c.is_empty.ensures ∙ c.if-is_empty.false) in
    let some : 0 < length payload = omega arith in
    let parts : head ++ tail ≡ text = rw (c.split_at.ensures.front, c.split_at.ensures.back) (take-append-drop 16 text) in
    let left : 0 < length tail = omega (arith, ap length is, data_place q payload c.requires.data some, ap length c.split_at.ensures.back, length-drop 16 text) in
    send_two g.W.Wires.fails g.W.Wires.later q payload head tail _ _ _ _ _ _ _ some
    (heard_head q payload text head tail c.requires.range c.requires.data is parts left)
    (ap heard_in parts ∙ heard_request q payload text c.requires.range c.requires.data is)
    c.in_ok-send.ensures.link c.in_ok-send.ensures.fails c.in_ok-send.ensures.schedule
    c.send-3.ensures.link c.send-3.ensures.fails c.send-3.ensures.schedule
