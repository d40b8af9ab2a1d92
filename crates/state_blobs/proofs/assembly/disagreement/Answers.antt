use Rattle.std.proofs.Common.{◌≡◌, ◌∙◌, false, eqb, get_or, sym, rules}
use Rattle.vt_base.specs.declared.types.Kind.TheVariants.{Volatile, Saved}
use Rattle.state_blobs.specs.Numbers.{version_of}
use Rattle.state_blobs.proofs.Fields.{started_read}
use Rattle.state_blobs.proofs.Joined.{none_agrees, of_version_there}
use Rattle.state_blobs.proofs.assembly.disagreement.Goals as goal
use Rattle.state_blobs.proofs.assembly.disagreement.Goals.{then-not-has_values-via-then-not-has_values, then-not-has_values-via-else-not-has_values+then-not-has_values-2}

pub returns-then-not-has_values-clause-agrees : goal.returns-then-not-has_values-clause-agrees
returns-then-not-has_values-clause-agrees c v z fit exact fit_too exact_too on =
    elim c.then-not-has_values.branch [
      | then-not-has_values-via-then-not-has_values w ↦
          let flag : eqb (get_or c.args.volatile.now.begun 9 0) 1 ≡ false = search rules in
          let off : v.started ≡ false = sym (started_read v c.args.volatile.now.begun exact) ∙ flag in
          absurd cc
      | then-not-has_values-via-else-not-has_values+then-not-has_values-2 w ↦
          let flag : eqb (get_or c.args.saved.now.begun 9 0) 1 ≡ false = search rules in
          none_agrees v z c.args.saved.now.begun flag exact_too
    ]

pub differing-requires-clause-volatile : goal.differing-requires-clause-volatile
differing-requires-clause-volatile c = of_version_there Volatile (version_of c.args.banks) c.args.volatile.now.begun c.requires.volatile (search rules)

pub differing-requires-clause-saved : goal.differing-requires-clause-saved
differing-requires-clause-saved c = of_version_there Saved (version_of c.args.banks) c.args.saved.now.begun c.requires.saved (search rules)
