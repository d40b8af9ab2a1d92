use Rattle.std.proofs.Common.{◌≡◌, ◌≤◌, ◌<◌, length, arith, ap}
use Rattle.std.specs.List.{slice_range}
use Rattle.vt_script.specs.Reading.{line_length}
use Rattle.vt_script.proofs.Reading.{part_length, empty_part, feed_at_end, not_there, says_last_line}
use Rattle.vt_script.proofs.line_reader.Lines.at_end.Goals as goal

pub invariant_of-self : goal.invariant_of-self
invariant_of-self c =
    let s = c.self.inside in
    let fits : s.end ≤ length s.buffer.items = omega (arith, s.buffer.ok.0) in
    let size = part_length s.buffer.items s.start s.end fits in
    let pending : slice_range s.buffer.items s.start s.end ≡ c.args.self.now.pending = ap (λ v. v.pending) c.self.view_is in
    let at = feed_at_end s.buffer.items c.args.self.now.pending s.start s.feed s.end fits c.self.invariant.3 pending c.self.invariant.5 c.requires.no_line in
    let none : line_length (slice_range s.buffer.items s.end s.end) ≡ 0 = ap line_length (empty_part s.buffer.items s.end) in
    let number : s.number ≡ c.args.self.now.number = ap (λ v. v.number) c.self.view_is in
    let some : 0 < length c.args.self.now.pending = omega (arith, size, ap length pending) in
    let more = c.requires.more some in
    (c.self.invariant.0, omega arith, omega arith, omega arith, omega arith, omega (arith, at, none), omega (arith, more, number))

pub returns-clause-says : goal.returns-clause-says
returns-clause-says c =
    let s = c.self.inside in
    let fits : s.end ≤ length s.buffer.items = omega (arith, s.buffer.ok.0) in
    let size = part_length s.buffer.items s.start s.end fits in
    let pending : slice_range s.buffer.items s.start s.end ≡ c.args.self.now.pending = ap (λ v. v.pending) c.self.view_is in
    let some : 0 < length c.args.self.now.pending = omega (arith, size, ap length pending) in
    says_last_line c.args.self.now.number c.args.self.now.pending (slice_range s.buffer.items s.start s.end) (slice_range s.buffer.items s.end s.end)
    pending (empty_part s.buffer.items s.end) (c.requires.more some) (not_there c.args.self.now.pending c.requires.no_line) some c.requires.short
