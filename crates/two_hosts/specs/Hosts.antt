-- Two hosts after lines and their replies: the history of one device over one TPM, the side of each host with its injected
-- fault, and the messages that were sent. (Own definitions.)
use Rattle.std.specs.Prelude.{ℕ, zero, suc, ◌+◌, ◌==◌, Bool, true, false, not, nat_lt, if◌then◌else◌, List, [], ◌∷◌, ◌++◌, length, slice_get, Option, Some, None}
use Rattle.vt_script.specs.declared.event.Event.{Event}
use Rattle.vt_script.specs.declared.event.Event.TheVariants.{Access, Work, Ask, Reset, Offer, Deliver, GiveUp, Again, Show, Fail}
use Rattle.vt_script.specs.declared.reply.Reply.{Reply}
use Rattle.crb_history.specs.Snapshot.{Snapshot}
use Rattle.crb_history.specs.Event.{History}
use Rattle.crb_history.specs.Continued.{snapshot_after}
use Rattle.vt_transcript.specs.Replies.{Transcript, is_fault, reaches, with_event, injected_fault_after, count_after, response_length}
use Rattle.vt_base.specs.declared.types.HostName.{HostName}
use Rattle.vt_base.specs.declared.types.HostName.TheVariants.{A, B}
use Rattle.move_codec.specs.declared.message.Message.{Message}
use Rattle.move_codec.specs.declared.message.Body.TheVariants as body
use Rattle.move_core.specs.declared.stage.MoveStage.{MoveStage}
use Rattle.move_core.specs.declared.stage.MoveStage.TheVariants.{Empty, Running, Draining, Offering, Released, Filling, Prepared}
use Rattle.move_core.specs.declared.answers.Delivered.{Delivered}
use Rattle.move_core.specs.declared.answers.Delivered.TheVariants as delivers
use Rattle.move_core.specs.Sides.{is_running, holds_device}
use Rattle.move_core.specs.Messages.{message_from}
use Rattle.vt_script.specs.declared.reply.Reply.TheVariants as reply
use Rattle.two_hosts.specs.Parts.{totals_of}
use Rattle.two_hosts.specs.Deliveries.{SideState, Outcome, DeliveryContext, delivered, calls_of_delivery}

-- a host: its side, the number of the call on its wires that is to fail, and the calls since the line that injected it
pub record HostState : Type 0 where
  pub side : SideState
  pub injected_fault : Option ℕ
  pub calls : ℕ

pub record TwoHosts : Type 0 where
  pub history : History
  pub a : HostState
  pub b : HostState
  pub sent : List Message  -- every message that was sent, the first one first
  pub offered : ℕ → Snapshot  -- the values that were offered in each epoch

-- the first of two for A, the second for B
abbrev pub pick : {T : Type 0} → HostName → T → T → T
pick A a b = a
pick B a b = b

abbrev pub host_of : TwoHosts → HostName → HostState
host_of t n = pick n t.a t.b

abbrev pub with_host : TwoHosts → HostName → HostState → TwoHosts
with_host t n h = record t { a = pick n h t.a; b = pick n t.b h }

-- ---- the hosts that lines act on

abbrev pub stage_at : TwoHosts → HostName → MoveStage
stage_at t n = (host_of t n).side.stage

abbrev pub is_offering : MoveStage → Bool
is_offering (Offering e totals) = true
is_offering _ = false

-- whether the host has stopped its guest and may take that back
abbrev pub is_leaving : MoveStage → Bool
is_leaving Draining = true
is_leaving (Offering e totals) = true
is_leaving _ = false

-- whether the worker may take a step
abbrev pub is_working : MoveStage → Bool
is_working s = not (holds_device s)

abbrev pub is_prepared : MoveStage → Bool
is_prepared (Prepared e) = true
is_prepared _ = false

-- the host whose stage passes the test, A before B
abbrev pub host_where : (MoveStage → Bool) → TwoHosts → Option HostName
host_where test t = if test t.a.side.stage then Some A else (if test t.b.side.stage then Some B else None)

-- the host whose guest runs
abbrev pub running_host : TwoHosts → Option HostName
running_host t = host_where is_running t

-- the host whose worker goes on: its guest runs, or it drains
abbrev pub working_host : TwoHosts → Option HostName
working_host t = host_where is_working t

abbrev pub host_at : MoveStage → HostState → HostState
host_at stage h = record h { side = record h.side { stage = stage } }

abbrev pub running_again : HostState → HostState
running_again h = host_at Running h

-- ---- the bag

-- The bag holds the first so many messages that were sent. A message that is sent when the bag is full is lost.
unfoldable pub bag_size : ℕ
bag_size = 16384

-- the message of this number, from 1
abbrev pub message_at : List Message → ℕ → Option Message
message_at sent zero = None
message_at sent (suc k) = if nat_lt k bag_size then slice_get sent k else None

-- the number of the message that is sent next; 0 where the bag is full
abbrev pub next_number : List Message → ℕ
next_number sent = if nat_lt (length sent) bag_size then length sent + 1 else 0

-- ---- injected faults

-- whether one of so many next calls is to fail on the wires of a host
abbrev pub fails_at : HostState → ℕ → Bool
fails_at h calls = reaches h.injected_fault (h.calls + calls)

-- these calls were made; an injected fault that occurred is over
abbrev pub counted : Reply → ℕ → HostState → HostState
counted r calls h = record h { injected_fault = if is_fault r then None else h.injected_fault; calls = h.calls + calls }

-- ---- lines of the guest

-- a host after a line that acts on it, or that injects a fault into its wires
abbrev pub host_after_guest : Snapshot → History → Event → Reply → HostState → HostState
host_after_guest b p line r h = record h { injected_fault = injected_fault_after (Some line) r h.injected_fault; calls = count_after (Some line) r (response_length b p) h.calls }

abbrev pub guest_line_on : Snapshot → TwoHosts → HostName → Event → Reply → TwoHosts
guest_line_on b t n line r = with_host (record t { history = with_event (Some line) r (fails_at (host_of t n)) t.history }) n (host_after_guest b t.history line r (host_of t n))

-- where no host runs nothing happens
abbrev pub guest_line_on_any : Snapshot → TwoHosts → Option HostName → Event → Reply → TwoHosts
guest_line_on_any b t None line r = t
guest_line_on_any b t (Some n) line r = guest_line_on b t n line r

-- ---- offer

-- the values that were offered, with those of this epoch
abbrev pub with_offer : (ℕ → Snapshot) → ℕ → Snapshot → ℕ → Snapshot
with_offer offered epoch values e = if e == epoch then values else offered e

-- A host offers these values. The nine calls fetch the lengths of the three blobs, each by one GET of three calls.
abbrev pub offering_host : Snapshot → HostState → HostState
offering_host values h = record h { side = record { stage = Offering (h.side.top + 1) (totals_of values); top = h.side.top + 1 }; calls = h.calls + 9 }

abbrev pub offer_message : HostName → Snapshot → HostState → Message
offer_message n values h = message_from n (h.side.top + 1) (body.Offer (totals_of values))

abbrev pub offered_by : Snapshot → TwoHosts → HostName → TwoHosts
offered_by values t n =
    record (with_host t n (offering_host values (host_of t n))) {
      sent = t.sent ++ offer_message n values (host_of t n) ∷ [];
      offered = with_offer t.offered ((host_of t n).side.top + 1) values;
    }

-- The host that runs offers the values at the end of the history, or its offer is refused. While a command is claimed it drains.
abbrev pub after_offer : Snapshot → TwoHosts → Option HostName → Reply → TwoHosts
after_offer b t None r = t
after_offer b t (Some n) (reply.Offered epoch message) = offered_by (snapshot_after b t.history) t n
after_offer b t (Some n) (reply.Draining number) = with_host t n (host_at Draining (host_of t n))
after_offer b t (Some n) r = with_host t n (counted r 0 (host_of t n))

-- ---- work

-- what a reply says of the worker's own step
abbrev pub worker_part : Reply → Reply
worker_part (reply.DoneOffered number epoch message) = reply.Done number
worker_part (reply.DoneLink number) = reply.Done number
worker_part (reply.CancelledOffered number epoch message) = reply.Cancelled number
worker_part (reply.CancelledLink number) = reply.Cancelled number
worker_part r = r

-- What follows that step on a host that drains: once the response is there it offers. Where the response is lost, or a call for
-- the offer failed, its guest runs again.
abbrev pub after_drained : Snapshot → TwoHosts → HostName → Reply → TwoHosts
after_drained b t n (reply.DoneOffered number epoch message) = offered_by (snapshot_after b t.history) t n
after_drained b t n (reply.CancelledOffered number epoch message) = offered_by (snapshot_after b t.history) t n
after_drained b t n (reply.DoneLink number) = with_host t n (running_again (counted reply.Link 0 (host_of t n)))
after_drained b t n (reply.CancelledLink number) = with_host t n (running_again (counted reply.Link 0 (host_of t n)))
after_drained b t n (reply.Lost number) = with_host t n (running_again (host_of t n))
after_drained b t n r = t

abbrev pub after_work_at : Snapshot → TwoHosts → HostName → MoveStage → Reply → TwoHosts
after_work_at b t n Draining r = after_drained b (guest_line_on b t n Work (worker_part r)) n r
after_work_at b t n stage r = guest_line_on b t n Work r

abbrev pub after_work : Snapshot → TwoHosts → Option HostName → Reply → TwoHosts
after_work b t None r = t
after_work b t (Some n) r = after_work_at b t n (stage_at t n) r

-- ---- deliver

abbrev pub message_in : Delivered → List Message
message_in (delivers.Sent m) = m ∷ []
message_in (delivers.Refused m) = m ∷ []
message_in delivers.Ignored = []
message_in delivers.Took = []
message_in delivers.Runs = []
message_in delivers.Resumed = []
message_in (delivers.Wires fault) = []

-- a delivery to this host, with or without a failed call
abbrev pub context_for : ℕ → TwoHosts → HostName → Bool → DeliveryContext
context_for piece t n fails = record { me = n; piece = piece; offered = t.offered; fails = fails }

abbrev pub with_outcome : TwoHosts → HostName → HostState → Outcome → TwoHosts
with_outcome t n h after = record (with_host t n (record h { side = after.side })) { sent = t.sent ++ message_in after.answer }

abbrev pub after_message : ℕ → TwoHosts → Message → Reply → TwoHosts
after_message piece t m r =
    let h = host_of t m.to in
    let x = context_for piece t m.to (is_fault r) in
    with_outcome t m.to (counted r (calls_of_delivery x h.side m.epoch m.body) h) (delivered x h.side m.epoch m.body)

abbrev pub after_delivery : ℕ → TwoHosts → Option Message → Reply → TwoHosts
after_delivery piece t None r = t
after_delivery piece t (Some m) r = after_message piece t m r

-- ---- giveup and again

-- the epoch of the move in which a host takes part
abbrev pub epoch_of : MoveStage → ℕ
epoch_of (Offering e totals) = e
epoch_of (Released e) = e
epoch_of (Filling e totals part place) = e
epoch_of (Prepared e) = e
epoch_of Empty = 0
epoch_of Running = 0
epoch_of Draining = 0

-- a host that offered says so by an Abort
abbrev pub aborts_in : HostName → MoveStage → List Message
aborts_in n (Offering e totals) = message_from n e body.Abort ∷ []
aborts_in n _ = []

abbrev pub after_give_up : TwoHosts → Option HostName → TwoHosts
after_give_up t None = t
after_give_up t (Some n) = record (with_host t n (running_again (host_of t n))) { sent = t.sent ++ aborts_in n (stage_at t n) }

abbrev pub after_again : TwoHosts → Option HostName → TwoHosts
after_again t None = t
after_again t (Some n) = record t { sent = t.sent ++ message_from n (epoch_of (stage_at t n)) body.Prepared ∷ [] }

-- ---- line by line

-- A fault is injected into the wires of the host that its line names. The other lines of the guest act on the host that runs, and
-- `work` also on one that drains.
abbrev pub after_line : Snapshot → ℕ → TwoHosts → Event → Reply → TwoHosts
after_line b piece t (Access access) r = guest_line_on_any b t (running_host t) (Access access) r
after_line b piece t Work r = after_work b t (working_host t) r
after_line b piece t Ask r = guest_line_on_any b t (running_host t) Ask r
after_line b piece t Reset r = guest_line_on_any b t (running_host t) Reset r
after_line b piece t (Fail host call) r = guest_line_on b t host (Fail host call) r
after_line b piece t Offer r = after_offer b t (running_host t) r
after_line b piece t (Deliver k) r = after_delivery piece t (message_at t.sent k) r
after_line b piece t GiveUp r = after_give_up t (host_where is_leaving t)
after_line b piece t Again r = after_again t (host_where is_prepared t)
after_line b piece t (Show k) r = t

-- at first A runs, B is empty, no call is to fail, and nothing was sent
abbrev pub first_hosts : Snapshot → TwoHosts
first_hosts b = record {
  history = [];
  a = record { side = record { stage = Running; top = 0 }; injected_fault = None; calls = 0 };
  b = record { side = record { stage = Empty; top = 0 }; injected_fault = None; calls = 0 };
  sent = [];
  offered = λ epoch. b;
}

abbrev pub after_exchange : Snapshot → ℕ → TwoHosts → Option Event → Reply → TwoHosts
after_exchange b piece t None r = t
after_exchange b piece t (Some line) r = after_line b piece t line r

-- the two hosts after these lines and replies
abbrev pub hosts_after : Snapshot → ℕ → Transcript → TwoHosts
hosts_after b piece [] = first_hosts b
hosts_after b piece (x ∷ t) = after_exchange b piece (hosts_after b piece t) x.line x.reply
