use Rattle.std.proofs.Common.{◌≡◌, sym, subst, ◌∙◌, ◌∷◌, []}
use Rattle.tpm_core.specs.Answers.{PowerOn, values_after}
use Rattle.tpm_core.specs.Steps.{IsValid}
use Rattle.tpm_core.proofs.Law.{fit-past, values_after-power_on, values_after-more}
use Rattle.tpm_core.proofs.tpm.power_on.Goals as goal

values_is : (c : goal.After-boot) → c.boot.new.parts ≡ values_after c.args.parts.now (PowerOn ∷ [])
values_is c = c.boot.ensures ∙ sym (values_after-power_on c.args.parts.now c.requires)

pub returns-clause-fit : goal.returns-clause-fit
returns-clause-fit c = subst IsValid (sym (values_is c)) (fit-past c.args.parts.now (PowerOn ∷ []) c.requires)

pub returns-clause-past : goal.returns-clause-past
returns-clause-past c = λ b past fit here. values_after-more c.args.parts.now c.boot.new.parts b past PowerOn fit here (values_is c)
