-- A world as the bus of a driver: each access is one of the guest, and the worker takes a step after each read of START.
-- (Own definitions.)
use Rattle.std.specs.Prelude.{◌≡◌, ℕ, Bool, ◌&&◌, ◌==◌, if◌then◌else◌, ◌∷◌, Option, Some, None, is_none}
use Rattle.crb_regs.specs.Access.{Access}
use Rattle.crb_regs.specs.Numbers.{ctrl_start}
use Rattle.crb_driver.specs.Bus.{Relation}
use Rattle.crb_history.specs.Snapshot.{Snapshot}
use Rattle.crb_history.specs.Event.{Event, History}
use Rattle.crb_history.specs.Event.Event.{Read, Write}
use Rattle.crb_history.specs.Legal.{Legal}
use Rattle.vt_transcript.specs.Replies.{with_event, worker_reply, none_fails}
use Rattle.vt_transcript.specs.OneHost.{OneHost}
use Rattle.vt_script.specs.declared.event.Event.TheVariants.{Work}
use Rattle.vt_seat.specs.Follows.{RefinesOneHost}
use Rattle.vt_seat.specs.State.{WorldState}

-- the world stands where this history of one device over one TPM leads, and no call is ordered to fail
pub record IsBusAfter (b : Snapshot) (p : History) (w : WorldState) : Type 0 where
  pub host : OneHost
  pub follows : RefinesOneHost b host w
  pub unordered : host.injected_fault ≡ None
  pub same : host.history ≡ p
  pub legal : Legal b p

-- the event by whether the access writes: a read gives a value, a write carries its own
abbrev pub event_by : Option ℕ → Access → ℕ → Event
event_by None a value = Read a value
event_by (Some written) a value = Write a

-- the event of an access that read or wrote this value
abbrev pub event_of_access : Access → ℕ → Event
event_of_access a value = event_by a.write a value

-- whether the access reads START
abbrev pub reads_start : Access → Bool
reads_start a = is_none a.write && a.offset == ctrl_start

-- the history after a step of the worker, none of whose calls fails
abbrev pub after_turn : Snapshot → History → History
after_turn b p = with_event (Some Work) (worker_reply b p none_fails) none_fails p

-- the history after an access
abbrev pub after_access : Snapshot → History → Access → ℕ → History
after_access b p a value =
    if reads_start a then after_turn b (event_of_access a value ∷ p)
    else event_of_access a value ∷ p

-- the world stands after some history
abbrev pub IsReady : WorldState → Type 0
IsReady w = (b : Snapshot) × (p : History) × IsBusAfter b p w

-- after whatever history the old world stands, the new one stands after that history and the access
abbrev pub Leads : Relation WorldState
Leads old a value new = (b : Snapshot) (p : History) → IsBusAfter b p old → IsBusAfter b (after_access b p a value) new
