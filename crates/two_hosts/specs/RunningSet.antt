-- Which hosts run, by the replies alone. (Own definitions.)
use Rattle.std.specs.Prelude.{Bool, true, false, not, ◌||◌, if◌then◌else◌, [], ◌∷◌}
use Rattle.vt_base.specs.declared.types.HostName.{HostName}
use Rattle.vt_base.specs.declared.types.HostName.TheVariants.{A, B}
use Rattle.move_core.specs.Sides.{other}
use Rattle.vt_script.specs.declared.event.Event.{Event}
use Rattle.vt_script.specs.declared.event.Event.TheVariants.{Access, Work, Ask, Reset, Offer, Deliver, GiveUp, Again, Show, Fail}
use Rattle.vt_script.specs.declared.reply.Reply.{Reply}
use Rattle.vt_script.specs.declared.reply.Reply.TheVariants as reply
use Rattle.vt_transcript.specs.Replies.{Transcript}

-- the hosts that run or drain, whether one drains, and the source of the latest offer
pub record RunningSet : Type 0 where
  pub a : Bool
  pub b : Bool
  pub drains : Bool
  pub source : HostName

abbrev pub contains : RunningSet → HostName → Bool
contains r A = r.a
contains r B = r.b

abbrev pub is_empty : RunningSet → Bool
is_empty r = not (r.a || r.b)

abbrev pub insert : HostName → RunningSet → RunningSet
insert A r = record r { a = true }
insert B r = record r { b = true }

-- the host that ran leaves the set, and is the source
abbrev pub without_source : RunningSet → RunningSet
without_source r = record { a = false; b = false; drains = false; source = if r.a then A else B }

abbrev pub drained : RunningSet → RunningSet
drained r = record r { drains = false }

-- a host that drained is still in the set
abbrev pub resumed : RunningSet → RunningSet
resumed r = if r.drains then drained r else insert r.source r

-- An offer that was sent takes the source out, also where it comes behind the end of a command. Where it is given up or refused the
-- source is in again, and where it is committed the other host is. A host drains until its command ends, or until it resumes.
abbrev pub after_reply : Reply → RunningSet → RunningSet
after_reply (reply.Offered epoch message) r = without_source r
after_reply (reply.DoneOffered number epoch message) r = without_source r
after_reply (reply.CancelledOffered number epoch message) r = without_source r
after_reply (reply.Draining number) r = record r { drains = true }
after_reply (reply.DoneLink number) r = drained r
after_reply (reply.CancelledLink number) r = drained r
after_reply reply.Resumed r = resumed r
after_reply (reply.ResumedSent message) r = insert r.source r
after_reply reply.Running r = insert (other r.source) r
after_reply (reply.Value value size) r = r
after_reply reply.Accepted r = r
after_reply reply.Idle r = r
after_reply (reply.Claim number) r = r
after_reply (reply.Sent number) r = r
after_reply (reply.Exec number) r = r
after_reply (reply.Done number) r = drained r
after_reply (reply.Cancelled number) r = drained r
after_reply (reply.Lost number) r = drained r
after_reply reply.Link r = r
after_reply reply.Asked r = r
after_reply reply.FailedDevice r = r
after_reply reply.NotYet r = r
after_reply reply.Reset r = r
after_reply reply.Stopped r = r
after_reply reply.EpochEnd r = r
after_reply reply.NoMessage r = r
after_reply reply.Ignored r = r
after_reply reply.Took r = r
after_reply (reply.SentMessage message) r = r
after_reply (reply.RefusedSent why message) r = r
after_reply reply.NotOffering r = r
after_reply reply.NotPrepared r = r
after_reply (reply.Shown bytes) r = r

-- the set after these replies; at first A runs
abbrev pub running_set : Transcript → RunningSet
running_set [] = record { a = true; b = false; drains = false; source = A }
running_set (x ∷ t) = after_reply x.reply (running_set t)

-- whether a line acts on the host that runs
abbrev pub needs_running : Event → Bool
needs_running (Access access) = true
needs_running Work = true
needs_running Ask = true
needs_running Reset = true
needs_running (Fail host call) = false
needs_running Offer = true
needs_running (Deliver message) = false
needs_running GiveUp = false
needs_running Again = false
needs_running (Show message) = false

-- whether a line waits while a host drains: the worker alone goes on
abbrev pub waits_for_drain : Event → Bool
waits_for_drain Work = false
waits_for_drain line = needs_running line

abbrev pub is_stopped : Reply → Bool
is_stopped reply.Stopped = true
is_stopped _ = false
