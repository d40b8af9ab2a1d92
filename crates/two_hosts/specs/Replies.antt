-- The one reply that each line may have. (Own definitions.)
use Rattle.std.specs.Prelude.{◌≡◌, ℕ, ◌+◌, ◌-◌, ◌==◌, ◌^◌, ◌&&◌, Bool, false, nat_lt, if◌then◌else◌, List, [], ◌∷◌, Option, Some, None, ⊤}
use Rattle.crb_regs.specs.Registers.{is_lost}
use Rattle.vt_script.specs.declared.event.Event.{Event}
use Rattle.vt_script.specs.declared.event.Event.TheVariants.{Access, Work, Ask, Reset, Offer, Deliver, GiveUp, Again, Show, Fail}
use Rattle.vt_script.specs.declared.reply.Reply.{Reply}
use Rattle.crb_history.specs.Snapshot.{Snapshot}
use Rattle.crb_history.specs.Device.{phase_of, number_of}
use Rattle.crb_history.specs.Legal.{Legal}
use Rattle.vt_transcript.specs.Replies.{IsReplyTo, worker_reply, is_under_way, Transcript}
use Rattle.vt_base.specs.declared.types.HostName.{HostName}
use Rattle.vt_base.specs.declared.types.Reason.{Reason}
use Rattle.vt_base.specs.declared.types.Reason.TheVariants.{Busy}
use Rattle.move_codec.specs.declared.message.Message.{Message}
use Rattle.move_codec.specs.declared.message.Body.{Body}
use Rattle.move_codec.specs.declared.message.Body.TheVariants as body
use Rattle.move_codec.specs.Encoding.{encode_message}
use Rattle.move_core.specs.declared.stage.MoveStage.{MoveStage}
use Rattle.move_core.specs.declared.stage.MoveStage.TheVariants.{Draining}
use Rattle.move_core.specs.declared.answers.Delivered.{Delivered}
use Rattle.move_core.specs.declared.answers.Delivered.TheVariants as delivers
use Rattle.vt_script.specs.declared.reply.Reply.TheVariants as reply
use Rattle.two_hosts.specs.Deliveries.{delivered, calls_of_delivery}
use Rattle.two_hosts.specs.Hosts.{TwoHosts, HostState, hosts_after, host_of, stage_at, host_where, running_host, working_host, is_leaving, is_prepared, message_at, next_number, fails_at, context_for, host_after_guest}

-- ---- offer

-- the reply of a host that runs, by its tests in their order: the device is lost, no greater epoch is left, the command of this
-- number is claimed and unfinished, a call fails
abbrev pub offer_reply_at : Bool → Bool → ℕ → TwoHosts → HostState → Reply
offer_reply_at lost under_way number t h =
    if lost then reply.FailedDevice
    else (if h.side.top == 2 ^ 64 - 1 then reply.EpochEnd
    else (if under_way then reply.Draining number
    else (if fails_at h 9 then reply.Link
    else reply.Offered (h.side.top + 1) (next_number t.sent))))

abbrev pub offer_reply : Snapshot → TwoHosts → Option HostName → Reply
offer_reply b t None = reply.Stopped
offer_reply b t (Some n) = offer_reply_at (is_lost (phase_of b t.history)) (is_under_way b t.history) (number_of b t.history) t (host_of t n)

-- ---- work

-- what a host that drains adds to the reply by which its command ends: the offer, or the call of it that failed
abbrev pub drained_reply : TwoHosts → HostState → Reply → Reply
drained_reply t h (reply.Done number) = if fails_at h 9 then reply.DoneLink number else reply.DoneOffered number (h.side.top + 1) (next_number t.sent)
drained_reply t h (reply.Cancelled number) = if fails_at h 9 then reply.CancelledLink number else reply.CancelledOffered number (h.side.top + 1) (next_number t.sent)
drained_reply t h r = r

-- the reply of a host that drains: that to the worker's step, and what follows it after the calls of that step
abbrev pub draining_reply : Snapshot → TwoHosts → HostName → Reply → Reply
draining_reply b t n r = drained_reply t (host_after_guest b t.history Work r (host_of t n)) r

abbrev pub AnswersWorkAt : Snapshot → TwoHosts → HostName → MoveStage → Reply → Type 0
AnswersWorkAt b t n Draining r = r ≡ draining_reply b t n (worker_reply b t.history (fails_at (host_of t n)))
AnswersWorkAt b t n stage r = IsReplyTo b t.history (fails_at (host_of t n)) (Some Work) r

abbrev pub AnswersWork : Snapshot → TwoHosts → Option HostName → Reply → Type 0
AnswersWork b t None r = r ≡ reply.Stopped
AnswersWork b t (Some n) r = AnswersWorkAt b t n (stage_at t n) r

-- ---- deliver

abbrev pub reason_in : Body → Reason
reason_in (body.Refuse why value) = why
reason_in _ = Busy

-- the reply for the answer to a delivery
abbrev pub delivery_reply : List Message → Delivered → Reply
delivery_reply sent delivers.Ignored = reply.Ignored
delivery_reply sent delivers.Took = reply.Took
delivery_reply sent (delivers.Sent m) = reply.SentMessage (next_number sent)
delivery_reply sent delivers.Runs = reply.Running
delivery_reply sent delivers.Resumed = reply.Resumed
delivery_reply sent (delivers.Refused m) = reply.RefusedSent (reason_in m.body) (next_number sent)
delivery_reply sent (delivers.Wires fault) = reply.Link

-- whether the injected fault occurs in a delivery: the receiver makes calls, and these bring its count to the number
abbrev pub meets_fault : ℕ → TwoHosts → Message → Bool
meets_fault piece t m =
    let h = host_of t m.to in
    let calls = calls_of_delivery (context_for piece t m.to false) h.side m.epoch m.body in
    nat_lt 0 calls && fails_at h calls

abbrev pub deliver_reply : ℕ → TwoHosts → Option Message → Reply
deliver_reply piece t None = reply.NoMessage
deliver_reply piece t (Some m) = delivery_reply t.sent (delivered (context_for piece t m.to (meets_fault piece t m)) (host_of t m.to).side m.epoch m.body).answer

-- ---- giveup, again and show

-- a host that drained says nothing to the other one
abbrev pub gave_reply : TwoHosts → MoveStage → Reply
gave_reply t Draining = reply.Resumed
gave_reply t stage = reply.ResumedSent (next_number t.sent)

abbrev pub give_up_reply : TwoHosts → Option HostName → Reply
give_up_reply t None = reply.NotOffering
give_up_reply t (Some n) = gave_reply t (stage_at t n)

abbrev pub again_reply : TwoHosts → Option HostName → Reply
again_reply t None = reply.NotPrepared
again_reply t (Some n) = reply.SentMessage (next_number t.sent)

abbrev pub show_reply : Option Message → Reply
show_reply None = reply.NoMessage
show_reply (Some m) = reply.Shown (encode_message m)

-- ---- a line of the guest

-- as for one host
abbrev pub AnswersOn : Snapshot → TwoHosts → Option HostName → Event → Reply → Type 0
AnswersOn b t None line r = r ≡ reply.Stopped
AnswersOn b t (Some n) line r = IsReplyTo b t.history (fails_at (host_of t n)) (Some line) r

-- ---- each line

-- A line of the guest acts on the host that runs, and `work` also on one that drains. A fault may be injected into the wires of either host.
abbrev pub AnswersLine : Snapshot → ℕ → TwoHosts → Event → Reply → Type 0
AnswersLine b piece t (Access access) r = AnswersOn b t (running_host t) (Access access) r
AnswersLine b piece t Work r = AnswersWork b t (working_host t) r
AnswersLine b piece t Ask r = AnswersOn b t (running_host t) Ask r
AnswersLine b piece t Reset r = AnswersOn b t (running_host t) Reset r
AnswersLine b piece t (Fail host call) r = r ≡ reply.Accepted
AnswersLine b piece t Offer r = r ≡ offer_reply b t (running_host t)
AnswersLine b piece t (Deliver k) r = r ≡ deliver_reply piece t (message_at t.sent k)
AnswersLine b piece t GiveUp r = r ≡ give_up_reply t (host_where is_leaving t)
AnswersLine b piece t Again r = r ≡ again_reply t (host_where is_prepared t)
AnswersLine b piece t (Show k) r = r ≡ show_reply (message_at t.sent k)

abbrev pub AnswersIn : Snapshot → ℕ → TwoHosts → Option Event → Reply → Type 0
AnswersIn b piece t None r = ⊥
AnswersIn b piece t (Some line) r = AnswersLine b piece t line r

-- each reply is the one to its line, after the lines and replies before it
abbrev pub InTurn : Snapshot → ℕ → Transcript → Type 0
InTurn b piece [] = ⊤
InTurn b piece (x ∷ t) = InTurn b piece t × AnswersIn b piece (hosts_after b piece t) x.line x.reply

-- the replies are those of one device over one TPM, between two hosts
pub record IsRun (b : Snapshot) (piece : ℕ) (t : Transcript) : Type 0 where
  pub legal : Legal b (hosts_after b piece t).history
  pub in_turn : InTurn b piece t
