use Rattle.std.proofs.Common.{◌≡◌, ◌≤◌, ◌<◌, ◌+◌, length, arith, ap}
use Rattle.vt_script.specs.Reading.{line_length}
use Rattle.vt_script.proofs.Reading.{says_line, says_long, says_many, part_length, length_within}
use Rattle.vt_script.proofs.line_reader.Lines.in_buffer.Goals as goal

pub returns-then-self-eq-MOST_LINES-clause-decided : goal.returns-then-self-eq-MOST_LINES-clause-decided
returns-then-self-eq-MOST_LINES-clause-decided c = λ left.
    let s = c.self.inside in
    let fits : s.end ≤ length s.buffer.items = omega (arith, s.buffer.ok.0) in
    let size = part_length s.buffer.items s.start s.end fits in
    let pending = ap (λ v. v.pending) c.self.view_is in
    let number : s.number ≡ c.args.self.now.number = ap (λ v. v.number) c.self.view_is in
    says_many c.args.self.now.number c.args.self.now.pending left c.args.self.now.line (omega arith) (omega (arith, size, ap length pending))

pub returns-then-self-2-clause-decided : goal.returns-then-self-2-clause-decided
returns-then-self-2-clause-decided c = λ left.
    let s = c.self.inside in
    let fits : s.end ≤ length s.buffer.items = omega (arith, s.buffer.ok.0) in
    let size = part_length s.buffer.items s.start s.end fits in
    let pending = ap (λ v. v.pending) c.self.view_is in
    let number : s.number ≡ c.args.self.now.number = ap (λ v. v.number) c.self.view_is in
    let bound : length c.args.self.now.pending ≤ 8257 = omega (arith, size, ap length pending) in
    let lt : line_length c.args.self.now.pending < length c.args.self.now.pending = omega (arith, size, ap length pending, ap line_length pending) in
    says_line c.args.self.now.number c.args.self.now.pending left c.cut.new.self.line c.cut.new.self.pending (omega arith) lt bound c.cut.ensures.line c.cut.ensures.after

pub returns-then-self-gt-LONGEST_LINE-clause-decided : goal.returns-then-self-gt-LONGEST_LINE-clause-decided
returns-then-self-gt-LONGEST_LINE-clause-decided c = λ left.
    let s = c.self.inside in
    let fits : s.end ≤ length s.buffer.items = omega (arith, s.buffer.ok.0) in
    let size = part_length s.buffer.items s.start s.end fits in
    let pending = ap (λ v. v.pending) c.self.view_is in
    let number : s.number ≡ c.args.self.now.number = ap (λ v. v.number) c.self.view_is in
    let none : line_length c.args.self.now.pending ≡ length c.args.self.now.pending =
    (let le = length_within c.args.self.now.pending in omega (arith, size, ap length pending, ap line_length pending)) in
    says_long c.args.self.now.number (s.number + 1) c.args.self.now.pending left c.args.self.now.line (omega arith) (omega arith) none (omega (arith, size, ap length pending))
