use Rattle.vt_world.proofs.Keeping.{not_work}
use Rattle.vt_world.proofs.world.World.step.Goals as goal

pub returns-in-Access-clause-faults : goal.returns-in-Access-clause-faults
returns-in-Access-clause-faults c = c.guest.ensures.faults (λ work none. absurd (not_work c.args.line.now c.in-Access.is work))

pub returns-in-Work-clause-steps : goal.returns-in-Work-clause-steps
returns-in-Work-clause-steps c = rw c.in-Work.is c.work.ensures.steps

pub returns-in-Work-clause-faults : goal.returns-in-Work-clause-faults
returns-in-Work-clause-faults c = rw c.in-Work.is c.work.ensures.faults

pub returns-in-Offer-clause-steps : goal.returns-in-Offer-clause-steps
returns-in-Offer-clause-steps c = rw c.in-Offer.is c.offer.ensures.steps

pub returns-in-Offer-clause-faults : goal.returns-in-Offer-clause-faults
returns-in-Offer-clause-faults c = rw c.in-Offer.is c.offer.ensures.faults

pub returns-in-Deliver-clause-steps : goal.returns-in-Deliver-clause-steps
returns-in-Deliver-clause-steps c = rw c.in-Deliver.is c.deliver.ensures.steps

pub returns-in-Deliver-clause-faults : goal.returns-in-Deliver-clause-faults
returns-in-Deliver-clause-faults c = rw c.in-Deliver.is c.deliver.ensures.faults

pub returns-in-GiveUp-clause-steps : goal.returns-in-GiveUp-clause-steps
returns-in-GiveUp-clause-steps c = rw c.in-GiveUp.is c.give_up.ensures.steps

pub returns-in-GiveUp-clause-faults : goal.returns-in-GiveUp-clause-faults
returns-in-GiveUp-clause-faults c = rw c.in-GiveUp.is c.give_up.ensures.faults

pub returns-in-Again-clause-steps : goal.returns-in-Again-clause-steps
returns-in-Again-clause-steps c = rw c.in-Again.is c.again.ensures.steps

pub returns-in-Again-clause-faults : goal.returns-in-Again-clause-faults
returns-in-Again-clause-faults c = rw c.in-Again.is c.again.ensures.faults

pub returns-in-Show-clause-steps : goal.returns-in-Show-clause-steps
returns-in-Show-clause-steps c = rw c.in-Show.is c.show.ensures.steps

pub returns-in-Show-clause-faults : goal.returns-in-Show-clause-faults
returns-in-Show-clause-faults c = rw c.in-Show.is c.show.ensures.faults

pub returns-in-Fail-clause-steps : goal.returns-in-Fail-clause-steps
returns-in-Fail-clause-steps c = rw c.in-Fail.is c.fail.ensures.steps

pub returns-in-Fail-clause-faults : goal.returns-in-Fail-clause-faults
returns-in-Fail-clause-faults c = rw c.in-Fail.is c.fail.ensures.faults
