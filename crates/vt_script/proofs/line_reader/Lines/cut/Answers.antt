use Rattle.std.proofs.Common.{◌≡◌, ◌≤◌, ◌+◌, length, arith, ap, ◌∙◌}
use Rattle.std.specs.List.{slice_range}
use Rattle.vt_script.specs.Reading.{line_length, after_line}
use Rattle.vt_script.proofs.Reading.{part_length, part_behind, length_within, feed_within}
use Rattle.vt_script.proofs.line_reader.Lines.cut.Goals as goal

pub overflow_add-self-2 : goal.overflow_add-self-2
overflow_add-self-2 c =
    let s = c.self.inside in
    let fits : s.end ≤ length s.buffer.items = omega (arith, s.buffer.ok.0) in
    let size = part_length s.buffer.items (s.feed + 1) s.end fits in
    let le = length_within (slice_range s.buffer.items (s.feed + 1) s.end) in
    let is : c.line_length.result ≡ line_length (slice_range s.buffer.items (s.feed + 1) s.end) = c.line_length.ensures ∙ ap (λ b. line_length (slice_range b (s.feed + 1) s.end)) c.deref.ensures.value in
    let lt = feed_within s.buffer.items c.args.self.now.pending s.start s.feed s.end fits c.self.invariant.3 (ap (λ v. v.pending) c.self.view_is) c.self.invariant.5 c.requires.whole in
    omega (arith, size, le, is, lt)

pub returns-clause-after : goal.returns-clause-after
returns-clause-after c =
    let s = c.self.inside in
    let fits : s.end ≤ length s.buffer.items = omega (arith, s.buffer.ok.0) in
    let pending : slice_range s.buffer.items s.start s.end ≡ c.args.self.now.pending = ap (λ v. v.pending) c.self.view_is in
    let lt = feed_within s.buffer.items c.args.self.now.pending s.start s.feed s.end fits c.self.invariant.3 pending c.self.invariant.5 c.requires.whole in
    let at = c.self.invariant.5 in
    part_behind s.buffer.items s.start (line_length (slice_range s.buffer.items s.start s.end) + 1) (s.feed + 1) s.end (omega (arith, at)) (omega (arith, lt)) ∙ ap after_line pending
