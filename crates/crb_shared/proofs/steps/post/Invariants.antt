use Rattle.crb_shared.proofs.steps.post.Given as goal

abbrev pub ghosts-add_posted : goal.ghosts-add_posted
ghosts-add_posted a = record { answer = a._answer.now }
