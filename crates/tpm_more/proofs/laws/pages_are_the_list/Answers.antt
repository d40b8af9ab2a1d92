use Rattle.tpm_more.proofs.Pages.{whole, few}
use Rattle.tpm_more.proofs.laws.pages_are_the_list.Goals as goal

pub returns-clause-whole : goal.returns-clause-whole
returns-clause-whole c = whole

pub returns-clause-few : goal.returns-clause-few
returns-clause-few c = few
