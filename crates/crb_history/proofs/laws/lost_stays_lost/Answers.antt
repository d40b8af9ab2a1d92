use Rattle.crb_history.proofs.Lost.{phase-Lost, shows-Lost}
use Rattle.crb_history.proofs.laws.lost_stays_lost.Goals as goal

pub returns-clause-phase : goal.returns-clause-phase
returns-clause-phase c = phase-Lost

pub returns-clause-page : goal.returns-clause-page
returns-clause-page c = shows-Lost
