-- What a source and a sink in memory are, and what they give of failures to come. (Own definitions.)
use Rattle.std.specs.Prelude.{ℕ, List, Bool, length, nat_lt, nat_eq, ◌||◌, ◌&&◌, if◌then◌else◌}
use Rattle.std.specs.List.{list_all, list_any}
use Rattle.vt_base.specs.Faults.{counted}

-- the numbers of the calls that are to fail, from 1 on, how many calls came, and how many faults
pub record Schedule : Type 0 where
  pub failing : List ℕ
  pub calls : ℕ
  pub faults : ℕ

-- a source: the bytes that are left, and its schedule
pub record MemorySource : Type 0 where
  pub left : List ℕ
  pub schedule : Schedule

-- a sink: the bytes that were written, how many more fit, and its schedule
pub record MemorySink : Type 0 where
  pub written : List ℕ
  pub space : ℕ
  pub schedule : Schedule

-- a schedule at its start
abbrev pub scheduled : List ℕ → Schedule
scheduled failing = record { failing = failing; calls = 0; faults = 0 }

-- whether the next call is to fail
abbrev pub is_to_fail : Schedule → Bool
is_to_fail schedule = list_any (λ call. nat_eq call (counted schedule.calls)) schedule.failing

-- whether neither the next call nor a later one is to fail
abbrev pub is_steady : Schedule → Bool
is_steady schedule = list_all (λ call. nat_lt call (counted schedule.calls)) schedule.failing

-- the schedule after one more fault
abbrev pub with_fault : Schedule → Schedule
with_fault schedule = record { failing = schedule.failing; calls = schedule.calls; faults = counted schedule.faults }

-- the schedule after one more call, which failed or did not
abbrev pub called_as : Bool → Schedule → Schedule
called_as failed schedule = record { failing = schedule.failing; calls = counted schedule.calls; faults = if failed then counted schedule.faults else schedule.faults }

-- the schedule after one more call that fails by it alone
abbrev pub called : Schedule → Schedule
called schedule = called_as (is_to_fail schedule) schedule

-- whether a write of these bytes is to fail: by the schedule, or for want of room
abbrev pub is_to_refuse : MemorySink → List ℕ → Bool
is_to_refuse sink bytes = is_to_fail sink.schedule || (nat_eq sink.space 0 && nat_lt 0 (length bytes))

-- the room that a sink is sure of: all of it, once no call is to fail
abbrev pub sure_room : MemorySink → ℕ
sure_room sink = if is_steady sink.schedule then sink.space else 0
