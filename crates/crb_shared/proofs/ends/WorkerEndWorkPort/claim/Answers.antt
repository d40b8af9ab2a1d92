use Rattle.std.proofs.Common.{rules, ap, ◌∙◌, ◌∷◌, [], Some, arith}
use Rattle.std.proofs.lemmas.Grind.{common_steps}
use Rattle.crb_shared.specs.Plays.{is_away}
use Rattle.crb_shared.specs.Ends.{claimed_unless}
use Rattle.crb_shared.proofs.Appending.{last_number-snoc}
use Rattle.crb_shared.proofs.WorkerSteps.{waits_away}
use Rattle.crb_shared.proofs.ends.WorkerEndWorkPort.claim.Goals as goal

pub returns-in-Ok-clause-claims : goal.returns-in-Ok-clause-claims
returns-in-Ok-clause-claims c = let e = c.in-Ok.ensures.result in let went = e.1 in let job = c.in-Ok.job in record {
  guest = search rules;
  was_free = search rules;
  none_claimed = ap (λ b. claimed_unless b c.args.self.now.seat.me.0.jobs) (waits_away c.args.self.now.seat.me.0 c.worker_look-found.result (search rules) c.worker_look-found.ensures.sees);
  claimed_number = (λ i. claimed_unless (is_away (went.2 i)) (went.4 i)) ∙ ap Some (last_number-snoc c.worker_look-found.new.seat.me.0.jobs job);
  stood = search rules;
  state = search rules;
  claimed = grind (arith, common_steps);
  posted = grind (arith, common_steps);
  steps = (c.worker_look-found.result ∷ [], record { state = search rules; looks = grind (arith, common_steps) }, search rules);
}
