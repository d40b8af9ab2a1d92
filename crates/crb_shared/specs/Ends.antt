-- What a contract sees of the two ends. (Own definitions.)
use Rattle.std.specs.Prelude.{ℕ, List, ◌∷◌, Option, Some, None, Bool, true, false, not}
use Rattle.atomic_table.specs.Seated.{TableId}
use Rattle.crb_port.specs.Views.{PortView}
use Rattle.crb_port.specs.declared.job.Job.{Job}
use Rattle.crb_shared.specs.Agreement.{last_number}
use Rattle.crb_shared.specs.Plays.{is_away}
use Rattle.crb_shared.specs.declared.ends.GuestEnd.{GuestEnd}
use Rattle.crb_shared.specs.declared.ends.WorkerEnd.{WorkerEnd}

-- which table it is, in numbers
abbrev pub id_numbers : TableId → List ℕ
id_numbers z = z.words ∷ z.slots ∷ z.views_name ∷ z.atom ∷ z.block ∷ z.offset ∷ z.slot_names

-- the number of the last job, where the worker holds the slot
abbrev pub claimed_unless : Bool → List Job → Option ℕ
claimed_unless true jobs = None
claimed_unless false jobs = Some (last_number jobs)

-- the guest holds the slot while the port is free
abbrev pub guest_view : GuestEnd → PortView
guest_view e = record {
  which = id_numbers e.seat.table_id;
  is_free = not (is_away e.seat.me.0.phase);
  claimed_number = None;
  state = None;
  looks = Some e.seat.me.0.looks;
  queued = Some e.seat.me.0.jobs;
  collected = Some e.seat.me.0.answers;
  claimed = None;
  posted = None;
}

-- the worker holds the slot while a job is claimed
abbrev pub worker_view : WorkerEnd → PortView
worker_view e = record {
  which = id_numbers e.seat.table_id;
  is_free = false;
  claimed_number = claimed_unless (is_away e.seat.me.0.phase) e.seat.me.0.jobs;
  state = None;
  looks = Some e.seat.me.0.looks;
  queued = None;
  collected = None;
  claimed = Some e.seat.me.0.jobs;
  posted = Some e.seat.me.0.answers;
}
