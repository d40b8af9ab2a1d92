use Rattle.std.proofs.Common.{◌≡◌, ◌-◌, length, sym, ◌∙◌, arith}
use Rattle.std.proofs.lemmas.List.{take_all, take_more_same}
use Rattle.tpm_core.specs.declared.algorithm.Banks.{Banks}
use Rattle.state_blobs.specs.declared.body_fields.Fields.{Fields}
use Rattle.state_blobs.specs.Numbers.{saved_length}
use Rattle.state_blobs.specs.Partial.{kept_in, AreValid}
use Rattle.state_blobs.proofs.Bodies.{saved_width}
use Rattle.state_blobs.proofs.Places.{length-counted_in}
use Rattle.state_blobs.proofs.assembly.first_difference.Goals as goal

length-kept_in : (banks : Banks) (f : Fields) → AreValid f → length (kept_in banks f) ≡ saved_length banks - 1
length-kept_in banks f valid = omega (arith, length-counted_in banks 16 f (omega arith) valid, saved_width banks)

pub kept_byte-requires : goal.kept_byte-requires
kept_byte-requires c = omega (arith, length-kept_in c.args.banks c.args.saved.now c.requires.saved, c.loop-i-test.true, c.saved_length.ensures)

pub kept_byte-requires-in-loop-i : goal.kept_byte-requires-in-loop-i
kept_byte-requires-in-loop-i c = omega (arith, length-kept_in c.args.banks c.args.running.now c.requires.running, c.loop-i-test.true, c.saved_length.ensures)

pub returns-then-kept_byte-clause-place : goal.returns-then-kept_byte-clause-place
returns-then-kept_byte-clause-place c = record {
  there = omega (arith, length-kept_in c.args.banks c.args.saved.now c.requires.saved, c.loop-i-test.true, c.saved_length.ensures);
  named = omega (arith, length-kept_in c.args.banks c.args.running.now c.requires.running, c.loop-i-test.true, c.saved_length.ensures);
  same = c.loop-i.invariant;
  differs = λ e. c.if-kept_byte.true (c.kept_byte.ensures ∙ e ∙ sym c.kept_byte-in-loop-i.ensures);
}

pub loop-i-preserved : goal.loop-i-preserved
loop-i-preserved c =
    take_more_same (kept_in c.args.banks c.args.saved.now) (kept_in c.args.banks c.args.running.now) c.loop-i.i 0
    (omega (arith, length-kept_in c.args.banks c.args.saved.now c.requires.saved, c.loop-i-test.true, c.saved_length.ensures))
    (omega (arith, length-kept_in c.args.banks c.args.running.now c.requires.running, c.loop-i-test.true, c.saved_length.ensures))
    c.loop-i.invariant
    (sym c.kept_byte.ensures ∙ c.if-kept_byte.false ∙ c.kept_byte-in-loop-i.ensures)

pub returns-clause-same : goal.returns-clause-same
returns-clause-same c =
    sym (take_all c.loop-i.i (kept_in c.args.banks c.args.saved.now) (omega (arith, length-kept_in c.args.banks c.args.saved.now c.requires.saved, c.loop-i-test.false, c.saved_length.ensures)))
    ∙ c.loop-i.invariant
    ∙ take_all c.loop-i.i (kept_in c.args.banks c.args.running.now) (omega (arith, length-kept_in c.args.banks c.args.running.now c.requires.running, c.loop-i-test.false, c.saved_length.ensures))
