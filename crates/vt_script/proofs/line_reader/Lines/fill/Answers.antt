use Rattle.std.proofs.Common.{◌≡◌, ◌≤◌, ◌-◌, ◌+◌, ℕ, length, drop, arith, sym, ap, ◌∙◌}
use Rattle.std.specs.List.{slice_range}
use Rattle.vt_script.specs.Reading.{line_length}
use Rattle.std.proofs.lemmas.List.{length-take}
use Rattle.vt_script.proofs.Reading.{part_length, length_within, not_there, feed_goes_on, keeps_part}
use Rattle.vt_script.proofs.line_reader.Lines.fill.Goals as goal

pub invariant_of-self : goal.invariant_of-self
invariant_of-self g c =
    let s = c.self.inside in
    let fits : s.end ≤ length s.buffer.items = omega (arith, s.buffer.ok.0) in
    let size = part_length s.buffer.items s.start s.end fits in
    let pending : slice_range s.buffer.items s.start s.end ≡ c.args.self.now.pending = ap (λ v. v.pending) c.self.view_is in
    let is : slice_range c.refill-count.new.buffer.items 0 (s.end - s.start) ≡ c.args.self.now.pending = c.refill-count.ensures.kept ∙ pending in
    let none = not_there c.args.self.now.pending c.requires.no_line in (
      c.refill-count.ensures.len ∙ c.self.invariant.0,
      omega arith,
      omega arith,
      omega arith,
      omega arith,
      omega (arith, size, none, ap length pending, ap line_length is),
      c.self.invariant.6,
    )

pub overflow_add-self-2 : goal.overflow_add-self-2
overflow_add-self-2 g c =
    let s = c.self.inside in
    let kept : ℕ = s.end - s.start in
    let within = length_within (slice_range c.deref.result.now (s.end - s.start) (s.end - s.start + c.in_ok-count.count)) in
    let size = length-take (s.end - s.start + c.in_ok-count.count - (s.end - s.start)) (drop (s.end - s.start) c.deref.result.now) in
    omega (arith, within, size, c.line_length.ensures, c.in_ok-count.ensures.fits)

pub invariant_of-self-2 : goal.invariant_of-self-2
invariant_of-self-2 g c =
    let s = c.self.inside in
    let fits : s.end ≤ length s.buffer.items = omega (arith, s.buffer.ok.0) in
    let size = part_length s.buffer.items s.start s.end fits in
    let pending : slice_range s.buffer.items s.start s.end ≡ c.args.self.now.pending = ap (λ v. v.pending) c.self.view_is in
    let is : slice_range c.refill-count.new.buffer.items 0 (s.end - s.start) ≡ c.args.self.now.pending = c.refill-count.ensures.kept ∙ pending in
    let long : length c.args.self.now.pending ≡ s.end - s.start = sym (ap length pending) ∙ size in
    let found : c.line_length.result ≡ line_length (slice_range c.refill-count.new.buffer.items (s.end - s.start) (s.end - s.start + c.in_ok-count.count)) =
    c.line_length.ensures ∙ ap (λ b. line_length (slice_range b (s.end - s.start) (s.end - s.start + c.in_ok-count.count))) c.deref.ensures.value in
    let on = feed_goes_on c.refill-count.new.buffer.items c.args.self.now.pending (s.end - s.start) (s.end - s.start + c.in_ok-count.count) (omega arith) is long c.requires.no_line in
    (c.refill-count.ensures.len ∙ c.self.invariant.0, omega arith, omega arith, omega arith, omega (arith, c.in_ok-count.ensures.fits, c.refill-count.ensures.len), omega (arith, on, found), c.self.invariant.6)

pub returns-clause-known : goal.returns-clause-known
returns-clause-known g c =
    let s = c.self.inside in
    let pending : slice_range s.buffer.items s.start s.end ≡ c.args.self.now.pending = ap (λ v. v.pending) c.self.view_is in
    let is : slice_range c.refill-count.new.buffer.items 0 (s.end - s.start) ≡ c.args.self.now.pending = c.refill-count.ensures.kept ∙ pending in
    keeps_part (g.S.Source.left c.args.source.now) (g.S.Source.left c.refill-count.new.source) c.refill-count.new.buffer.items c.args.self.now.pending (s.end - s.start)
    (s.end - s.start + c.in_ok-count.count) (omega arith) is (c.in_ok-count.ensures.bytes.0)

pub returns-clause-nothing : goal.returns-clause-nothing
returns-clause-nothing g c = λ zero.
    let s = c.self.inside in
    let pending : slice_range s.buffer.items s.start s.end ≡ c.args.self.now.pending = ap (λ v. v.pending) c.self.view_is in
    let all : s.end - s.start + c.in_ok-count.count ≡ s.end - s.start = omega (arith, zero) in
    ap (λ k. slice_range c.refill-count.new.buffer.items 0 k) all ∙ c.refill-count.ensures.kept ∙ pending
