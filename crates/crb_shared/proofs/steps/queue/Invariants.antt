use Rattle.crb_shared.proofs.steps.queue.Given as goal

abbrev pub ghosts-add_queued : goal.ghosts-add_queued
ghosts-add_queued a = record { job = a._job.now }
