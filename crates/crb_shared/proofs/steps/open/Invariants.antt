use Rattle.crb_shared.proofs.steps.open.Given as goal

abbrev pub ghosts-open_at : goal.ghosts-open_at
ghosts-open_at a = record { table = a.table.now.shared.table_id }
