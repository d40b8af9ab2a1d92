use Rattle.std.proofs.Common.{◌≡◌, ◌-◌, ◌++◌, ℕ, List, sym, ap, subst, ◌∙◌, length, take, get_or, arith}
use Rattle.std.proofs.lemmas.List.{length-append, length-take}
use Rattle.tpm_core.specs.declared.command.Selection.{Selection}
use Rattle.tpm_core.specs.Selected.{AreThere, selected, registers_of}
use Rattle.tpm_core.specs.Answers.{entry_read}
use Rattle.tpm_core.proofs.Chosen.{no_selection, length-registers_of, entries_turn, registers_turn, none_left, no_entry_left, there_more}
use Rattle.tpm_core.proofs.response.push_entries.Goals as goal

-- the selection and the registers of this turn
abbrev here : goal.After-append → Selection
here c = get_or c.args.selections.now c.loop-selection.selection-index no_selection

mine_is : (c : goal.After-append) → c.chosen-indices.result ≡ take (8 - length c.loop-selection.all) (selected (here c).bits)
mine_is c = c.chosen-indices.ensures.registers ∙ ap (λ (n : ℕ). take (8 - n) (selected (here c).bits)) c.len.ensures.size

body_is : (c : goal.After-append) → c.push_entry.new.body ≡ c.loop-selection.body ++ entry_read ((here c).algorithm, c.chosen-indices.result)
body_is c = c.push_entry.ensures.body ∙ ap (λ (rs : List ℕ). c.loop-selection.body ++ entry_read ((here c).algorithm, rs)) c.as_slice.ensures.items

all_is : (c : goal.After-append) → c.append.new.all ≡ c.loop-selection.all ++ registers_of (here c).algorithm c.chosen-indices.result
all_is c = c.append.ensures ∙ ap (λ (rs : List ℕ). c.loop-selection.all ++ registers_of (here c).algorithm rs) c.as_slice-in-loop-selection.ensures.items

pub loop-selection-preserved : goal.loop-selection-preserved
loop-selection-preserved c = record {
  entries = rw (body_is c) (entries_turn c.loop-selection.body c.loop-selection.all c.append.new.all c.chosen-indices.result c.args.selections.now c.loop-selection.selection-index no_selection c.loop-selection-test.true (mine_is c) (all_is c) ∙ c.loop-selection.invariant.entries);
  registers = registers_turn c.loop-selection.all c.append.new.all c.chosen-indices.result c.args.selections.now c.loop-selection.selection-index no_selection c.loop-selection-test.true (mine_is c) (all_is c) ∙ c.loop-selection.invariant.registers;
  there = subst AreThere (sym (all_is c)) (there_more c.loop-selection.all (here c).algorithm c.chosen-indices.result c.loop-selection.invariant.there c.chosen-indices.ensures.there);
  within_limit = omega (arith, ap length (all_is c), length-append c.loop-selection.all (registers_of (here c).algorithm c.chosen-indices.result), length-registers_of (here c).algorithm c.chosen-indices.result, ap length (mine_is c), length-take (8 - length c.loop-selection.all) (selected (here c).bits), c.loop-selection.invariant.within_limit);
  size = omega (arith, c.push_entry.ensures.size, c.loop-selection.invariant.size);
}

pub returns-clause-body : goal.returns-clause-body
returns-clause-body c = sym (no_entry_left c.loop-selection.body _ c.loop-selection.selection-index c.args.selections.now c.loop-selection-test.false) ∙ c.loop-selection.invariant.entries

pub returns-clause-registers : goal.returns-clause-registers
returns-clause-registers c = sym (none_left c.loop-selection.all _ c.loop-selection.selection-index c.args.selections.now c.loop-selection-test.false) ∙ c.loop-selection.invariant.registers
