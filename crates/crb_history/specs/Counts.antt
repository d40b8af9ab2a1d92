-- How often something happened.
use Rattle.std.specs.Prelude.{ℕ, ◌+◌, if◌then◌else◌, List, [], ◌∷◌}
use Rattle.crb_port.specs.declared.job.Outcome.TheVariants.{Done}
use Rattle.tpm_core.specs.Answers.{Entry}
use Rattle.tpm_core.specs.Answers.Entry.{Executed}
use Rattle.crb_history.specs.Snapshot.{Snapshot}
use Rattle.crb_history.specs.Event.{History}
use Rattle.crb_history.specs.Event.Event.{Write, Finish}
use Rattle.crb_history.specs.Device.{starts}

-- how many commands were started
abbrev pub start_count : Snapshot → History → ℕ
start_count b [] = 0
start_count b (Write a ∷ p) = if starts b p a then start_count b p + 1 else start_count b p
start_count b (_ ∷ p) = start_count b p

-- how many commands finished as done
abbrev pub done_count : History → ℕ
done_count [] = 0
done_count (Finish Done ∷ p) = done_count p + 1
done_count (_ ∷ p) = done_count p

-- how many commands a TPM executed
abbrev pub execution_count : List Entry → ℕ
execution_count [] = 0
execution_count (Executed command ∷ past) = execution_count past + 1
execution_count (_ ∷ past) = execution_count past
