use Rattle.std.proofs.Common.{◌<◌, ◌∙◌, [], length, arith}
use Rattle.std.proofs.lemmas.List.{length-set}
use Rattle.std.proofs.lemmas.List.Edits.{fill_by_more}
use Rattle.std.proofs.lemmas.List.FromFn.{fill_by_all}
use Rattle.tpm_core.specs.Banks.{each_register, start_value}
use Rattle.tpm_core.proofs.bank.cleared.Goals as goal

pub loop-i-preserved : goal.loop-i-preserved
loop-i-preserved g c =
    let lt : c.loop-i.i < length c.loop-i.bank = omega (arith, c.loop-i.invariant.size, c.loop-i-test.true) in
    record {
      size = length-set c.loop-i.bank c.loop-i.i c.start_value.result ∙ c.loop-i.invariant.size;
      same = rw c.start_value.ensures (fill_by_more (start_value g.row.N) c.loop-i.bank c.loop-i.i [] lt c.loop-i.invariant.same);
    }

pub returns : goal.returns
unfolding each_register
returns g c = fill_by_all (start_value g.row.N) c.loop-i.bank 24 [] c.loop-i.invariant.size (λ k lt. c.loop-i.invariant.same k (omega (arith, lt)))
