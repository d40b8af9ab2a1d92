-- What is seen of wires, and what the calls of one step do to it. (Own definitions.)
use Rattle.std.specs.Prelude.{◌≡◌, ◌≤◌, ◌<◌, ℕ, Bool, true, false, not, List, length, take, Option, Some, IfSome}
use Rattle.std.specs.Bool.{OnTrue, OnFalse}
use Rattle.vt_base.specs.Faults.{IsCounted}
use Rattle.vt_base.specs.declared.types.Chan.TheVariants.{Data}
use Rattle.ctrl_model.specs.Link.{Link, LinkSteps, SentBy, received, receivable}
use Rattle.ctrl_client.specs.Traffic.{Traffic, Went, Came}

-- Wires: their link, where it is known; the schedule of their calls, whether the next is to fail by it, and the schedule after
-- that one; how many calls have failed; and all bytes that were sent and received, where they keep them.
pub record WorkerWires (Schedule : Type 0) : Type 0 where
  pub link : Option Link
  pub schedule : Schedule
  pub fails : Bool
  pub later : Schedule
  pub faults : ℕ
  pub traffic : Option Traffic

abbrev pub worker_wires : {Schedule : Type 0} → (Schedule → Bool) → (Schedule → Schedule) → Option Link → Schedule → ℕ → Option Traffic → WorkerWires Schedule
worker_wires fails later link schedule faults traffic = record { link = link; schedule = schedule; fails = fails schedule; later = later schedule; faults = faults; traffic = traffic }

-- a call that failed was counted once, and any other left the count
abbrev pub CountsCall : {Schedule : Type 0} → Bool → WorkerWires Schedule → WorkerWires Schedule → Type 0
CountsCall true w v = v.faults ≡ w.faults
CountsCall false w v = IsCounted w.faults v.faults

-- one send of a command, by whether it succeeded
pub record SendsCommand {Schedule : Type 0} (ok : Bool) (command : List ℕ) (w v : WorkerWires Schedule) : Type 0 where
  pub counts : CountsCall ok w v
  pub link : LinkSteps (SentBy ok Data command) w.link v.link
  pub answers : IfSome w.link (λ _. ok ≡ not w.fails)
  pub schedule : IfSome w.link (λ _. v.schedule ≡ w.later)
  pub went : OnTrue ok (Went Data command w.traffic v.traffic)
  pub nothing : OnFalse ok (v.traffic ≡ w.traffic)

-- one receive of so many bytes of a response, over a known link
pub record ReceivesOnce {Schedule : Type 0} (ok : Bool) (count : ℕ) (l : Link) (w v : WorkerWires Schedule) : Type 0 where
  pub link : v.link ≡ Some (received ok Data count l)
  pub answers : ok ≡ not w.fails
  pub schedule : v.schedule ≡ w.later

-- where the link is known and so many bytes of a response are at hand
abbrev pub WithReceivable : {Schedule : Type 0} → ℕ → WorkerWires Schedule → (Link → Type 0) → Type 0
WithReceivable count w fact = IfSome w.link (λ l. count ≤ length (receivable Data l) → fact l)

-- as many bytes as were asked for, or fewer where a receive failed
abbrev pub IsPartOfReceive : Bool → ℕ → ℕ → Type 0
IsPartOfReceive true n count = n ≡ count
IsPartOfReceive false n count = n < count

-- So many bytes of a response were received, or a receive failed behind a part of them, and nothing was sent. Those at hand
-- are received at once.
pub record Receives {Schedule : Type 0} (ok : Bool) (count : ℕ) (w v : WorkerWires Schedule) : Type 0 where
  pub counts : CountsCall ok w v
  pub came : (part : List ℕ) × IsPartOfReceive ok (length part) count × Came Data part w.traffic v.traffic
  pub exact : WithReceivable count w (λ l. ReceivesOnce ok count l w v)

-- these are the next bytes of a response: they were received, and no others
pub record AreNext {Schedule : Type 0} (bytes : List ℕ) (count : ℕ) (w v : WorkerWires Schedule) : Type 0 where
  pub size : length bytes ≡ count
  pub exact : WithReceivable count w (λ l. bytes ≡ take count (receivable Data l))
  pub came : Came Data bytes w.traffic v.traffic
