use Rattle.std.proofs.Common.{rules, ◌≡◌, ◌+◌, ◌-◌, ◌≤◌, ◌++◌, length, take, drop, refl, sym, ◌∙◌, Err, ap, append_assoc, arith}
use Rattle.std.proofs.lemmas.List.{length-drop, length-take, append-nil, take_rest}
use Rattle.std.proofs.Math.Seq.{take-add}
use Rattle.vt_base.specs.Parsing.{parsed, missing}
use Rattle.vt_base.proofs.Layouts.{parsed-append-wants, wants_positive, tight_append, tight_open, open_wants, wants_within}
use Rattle.vt_base.proofs.byte_buf.ByteBuf.feed.Goals as goal

pub returns-then-rest-missing-clause-open : goal.returns-then-rest-missing-clause-open
returns-then-rest-missing-clause-open g c =
    let layout = g.G.Grammar.layout c.args.grammar.now in
    let rest = take (length c.args.piece.now - c.loop-end.used) (drop c.loop-end.used c.args.piece.now) in
    let wants : parsed layout c.loop-end.self ≡ Err (missing c.in-Err.field-0.0) = rw (← c.as_slice.ensures.bytes) (sym c.parse.ensures.parsed ∙ c.in-Err.is) in
    let still = parsed-append-wants layout c.loop-end.self rest c.in-Err.field-0.0 wants c.if-rest-missing.true in
    rw c.push.ensures.appended (open_wants layout (c.loop-end.self ++ rest) (c.in-Err.field-0.0 - length rest) still)

pub loop-end-smaller : goal.loop-end-smaller
loop-end-smaller g c =
    let layout = g.G.Grammar.layout c.args.grammar.now in
    let positive = wants_positive layout c.as_slice.result.now c.in-Err.field-0.0 (sym c.parse.ensures.parsed ∙ c.in-Err.is) in
    let rest = drop c.loop-end.used c.args.piece.now in
    omega (arith, positive, c.if-rest-missing.false, length-take (length c.args.piece.now - c.loop-end.used) rest, length-drop c.loop-end.used c.args.piece.now)

pub loop-end-preserved : goal.loop-end-preserved
loop-end-preserved g c =
    let layout = g.G.Grammar.layout c.args.grammar.now in
    let n = c.in-Err.field-0.0 in
    let used = c.loop-end.used in
    let piece = c.args.piece.now in
    let rest = drop used piece in
    let wants : parsed layout c.loop-end.self ≡ Err (missing n) = rw (← c.as_slice.ensures.bytes) (sym c.parse.ensures.parsed ∙ c.in-Err.is) in
    let fits : used + n ≤ length piece = omega (arith, c.if-rest-missing.false, length-take (length piece - used) rest, length-drop used piece) in
    let next : c.push-in-Err.new.self ≡ c.loop-end.self ++ take n rest = c.push-in-Err.ensures.appended ∙ rw (take_rest piece used) refl in
    let le : length (take n rest) ≤ n = omega (arith, length-take n rest) in
    record {
      used = fits;
      taken = next ∙ rw c.loop-end.invariant.taken (append_assoc c.args.self.now (take used piece) (take n rest) ∙ ap (λ x. c.args.self.now ++ x) (sym (take-add used n piece)));
      tight = rw next (tight_append layout c.loop-end.self (take n rest) n wants le);
    }

pub loop-end-init : goal.loop-end-init
loop-end-init g c = record {
  used = omega arith;
  taken = sym (append-nil c.args.self.now);
  tight = tight_open (g.G.Grammar.layout c.args.grammar.now) c.args.self.now c.requires.«open»;
}

pub push-requires : goal.push-requires
push-requires g c =
    let layout = g.G.Grammar.layout c.args.grammar.now in
    let wants : parsed layout c.loop-end.self ≡ Err (missing c.in-Err.field-0.0) = rw (← c.as_slice.ensures.bytes) (sym c.parse.ensures.parsed ∙ c.in-Err.is) in
    let fits = wants_within layout (g.G.Grammar.room c.args.grammar.now) c.loop-end.self c.in-Err.field-0.0 (g.met.G.Grammar.within c.args.grammar.now) wants in
    (search rules, omega (arith, fits, c.requires.room, c.if-rest-missing.true))

pub push-requires-in-Err : goal.push-requires-in-Err
push-requires-in-Err g c =
    let layout = g.G.Grammar.layout c.args.grammar.now in
    let wants : parsed layout c.loop-end.self ≡ Err (missing c.in-Err.field-0.0) = rw (← c.as_slice.ensures.bytes) (sym c.parse.ensures.parsed ∙ c.in-Err.is) in
    let fits = wants_within layout (g.G.Grammar.room c.args.grammar.now) c.loop-end.self c.in-Err.field-0.0 (g.met.G.Grammar.within c.args.grammar.now) wants in
    let rest = take (length c.args.piece.now - c.loop-end.used) (drop c.loop-end.used c.args.piece.now) in
    (search rules, omega (arith, fits, c.requires.room, length-take c.in-Err.field-0.0 rest))
