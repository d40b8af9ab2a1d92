use Rattle.std.proofs.Common.{sym, subst, List}
use Rattle.std.specs.Prelude.{IsTrue}
use Rattle.tpm_core.specs.Capabilities.{CapabilityEntry}
use Rattle.tpm_more.specs.Entries.{is_rising}
use Rattle.tpm_more.proofs.Rising.{algorithms_rise, commands_rise, selections_rise, properties_rise}
use Rattle.tpm_more.proofs.capabilities.list_of.Goals as goal

abbrev Rises : List CapabilityEntry → Type 0
Rises list = IsTrue (is_rising list)

pub returns-in-0-clause-rising : goal.returns-in-0-clause-rising
returns-in-0-clause-rising c = subst Rises (sym c.algorithms.ensures.list) (algorithms_rise c.args.banks)

pub returns-in-2-clause-rising : goal.returns-in-2-clause-rising
returns-in-2-clause-rising c = subst Rises (sym c.commands.ensures.list) commands_rise

pub returns-in-5-clause-rising : goal.returns-in-5-clause-rising
returns-in-5-clause-rising c = subst Rises (sym c.bank_selections.ensures.list) (selections_rise c.args.banks)

pub returns-in-6-clause-rising : goal.returns-in-6-clause-rising
returns-in-6-clause-rising c = subst Rises (sym c.properties.ensures.list) properties_rise
