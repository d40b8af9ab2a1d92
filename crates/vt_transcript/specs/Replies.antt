-- The lines of a script with their replies, and the history that they give. (Own definitions.)
use Rattle.std.specs.Prelude.{◌≡◌, ℕ, ◌+◌, Bool, true, false, not, ◌&&◌, nat_le, nat_lt, if◌then◌else◌, List, [], ◌∷◌, length, Option, Some, None, IsSome, ⊤}
use Rattle.crb_regs.specs.Registers.{is_executing, is_lost}
use Rattle.crb_port.specs.declared.job.Outcome.TheVariants.{Done, Cancelled, Lost}
use Rattle.tpm_core.specs.Answers.{answer}
use Rattle.vt_script.specs.declared.event.Event.{Event as Line}
use Rattle.vt_script.specs.declared.event.Event.TheVariants.{Access, Work, Ask as AskLine, Reset as ResetLine, Offer, Deliver, GiveUp, Again, Show, Fail}
use Rattle.vt_base.specs.declared.types.Reason.TheVariants as reason
use Rattle.vt_script.specs.declared.reply.Reply.{Reply}
use Rattle.vt_script.specs.declared.reply.Reply.TheVariants as replied
use Rattle.crb_history.specs.Snapshot.{Snapshot}
use Rattle.crb_history.specs.Event.{History}
use Rattle.crb_history.specs.Event.Event.{Read, Write, Claim, Sent, Exec, Finish, Ask, Reset, ResetLost}
use Rattle.crb_history.specs.Device.{phase_of, number_of, stage_of, last_command, executed, JobStage}
use Rattle.crb_history.specs.Device.JobStage.{Waiting, Claimed, HasSent, HasHeader}
use Rattle.crb_history.specs.Cancelling.{cancelled_before_claim, cancelled_in_emulator, is_waiting}
use Rattle.crb_history.specs.Legal.{Legal}

-- a line, where it is in the grammar, with its reply
pub record Exchange : Type 0 where
  pub line : Option Line
  pub reply : Reply

-- the line of an exchange
abbrev pub line_of : Exchange → Option Line
line_of x = x.line

-- the lines so far with their replies, the latest first
abbrev pub Transcript : Type 0
Transcript = List Exchange

-- one more line and its reply
abbrev pub exchange : Line → Reply → Exchange
exchange line reply = record { line = Some line; reply = reply }

-- ---- orders: the call of a number, counted from its line, on the wires between device and emulator is to fail

-- whether the reply says that a call failed
abbrev pub is_fault : Reply → Bool
is_fault (replied.Value value size) = false
is_fault replied.Accepted = false
is_fault replied.Idle = false
is_fault (replied.Claim number) = false
is_fault (replied.Sent number) = false
is_fault (replied.Exec number) = false
is_fault (replied.Done number) = false
is_fault (replied.Cancelled number) = false
is_fault (replied.Lost number) = true
is_fault replied.Link = true
is_fault replied.Asked = false
is_fault replied.FailedDevice = false
is_fault replied.NotYet = false
is_fault replied.Reset = false
is_fault replied.Stopped = false
is_fault replied.EpochEnd = false
is_fault (replied.Offered epoch message) = false
is_fault (replied.Draining number) = false
is_fault (replied.DoneOffered number epoch message) = false
is_fault (replied.DoneLink number) = true
is_fault (replied.CancelledOffered number epoch message) = false
is_fault (replied.CancelledLink number) = true
is_fault replied.NoMessage = false
is_fault replied.Ignored = false
is_fault replied.Took = false
is_fault (replied.SentMessage message) = false
is_fault replied.Running = false
is_fault replied.Resumed = false
is_fault (replied.RefusedSent reason.Link message) = true
is_fault (replied.RefusedSent reason.Busy message) = false
is_fault (replied.RefusedSent reason.Totals message) = false
is_fault (replied.RefusedSent reason.Record message) = false
is_fault (replied.RefusedSent reason.Blob message) = false
is_fault (replied.RefusedSent reason.Reply message) = false
is_fault replied.NotOffering = false
is_fault (replied.ResumedSent message) = false
is_fault replied.NotPrepared = false
is_fault (replied.Shown bytes) = false

-- the injected fault after a line and its reply: a later one takes its place, and a fault ends it
abbrev pub injected_fault_after : Option Line → Reply → Option ℕ → Option ℕ
injected_fault_after (Some (Access a)) reply injected_fault = if is_fault reply then None else injected_fault
injected_fault_after (Some Work) reply injected_fault = if is_fault reply then None else injected_fault
injected_fault_after (Some AskLine) reply injected_fault = if is_fault reply then None else injected_fault
injected_fault_after (Some ResetLine) reply injected_fault = if is_fault reply then None else injected_fault
injected_fault_after (Some Offer) reply injected_fault = if is_fault reply then None else injected_fault
injected_fault_after (Some (Deliver message)) reply injected_fault = if is_fault reply then None else injected_fault
injected_fault_after (Some GiveUp) reply injected_fault = if is_fault reply then None else injected_fault
injected_fault_after (Some Again) reply injected_fault = if is_fault reply then None else injected_fault
injected_fault_after (Some (Show message)) reply injected_fault = if is_fault reply then None else injected_fault
injected_fault_after (Some (Fail host call)) reply injected_fault = Some call
injected_fault_after None reply injected_fault = if is_fault reply then None else injected_fault

-- the number of the call that is to fail, where a fault is to be injected
abbrev pub injected_fault_of : Transcript → Option ℕ
injected_fault_of [] = None
injected_fault_of (x ∷ t) = injected_fault_after x.line x.reply (injected_fault_of t)

-- whether what follows the header of a response takes a call of its own
abbrev pub has_rest : ℕ → Bool
has_rest size = nat_lt 10 size

-- how often the wires were called for a line with this reply, by the length of the last command's response
abbrev pub calls_of : Option Line → Reply → ℕ → ℕ
calls_of (Some Work) (replied.Sent number) size = 1
calls_of (Some Work) (replied.Exec number) size = 1
calls_of (Some Work) (replied.Done number) size = if has_rest size then 1 else 0
calls_of (Some Work) _ size = 0
calls_of (Some AskLine) replied.Asked size = 2
calls_of (Some AskLine) _ size = 0
calls_of (Some ResetLine) replied.Reset size = 2
calls_of (Some ResetLine) _ size = 0
calls_of (Some (Access a)) reply size = 0
calls_of (Some Offer) reply size = 0
calls_of (Some (Deliver message)) reply size = 0
calls_of (Some GiveUp) reply size = 0
calls_of (Some Again) reply size = 0
calls_of (Some (Show message)) reply size = 0
calls_of (Some (Fail host call)) reply size = 0
calls_of None reply size = 0

-- the calls since the line of the last injected fault, with those for one line more
abbrev pub count_after : Option Line → Reply → ℕ → ℕ → ℕ
count_after (Some (Fail host call)) reply size count = 0
count_after line reply size count = count + calls_of line reply size

-- whether so many calls after `count` others reach the injected fault
abbrev pub reaches : Option ℕ → ℕ → Bool
reaches None count = false
reaches (Some call) count = nat_le call count

-- no call fails
abbrev pub none_fails : ℕ → Bool
none_fails calls = false

-- ---- the history

-- the history after a line and its reply. `fails` says whether one of so many next calls is to fail: an ask that is
-- answered `link` arrived where only the second of its two calls failed, which receives the reply.
abbrev pub with_event : Option Line → Reply → (ℕ → Bool) → History → History
with_event (Some (Access a)) (replied.Value value size) fails p = Read a value ∷ p
with_event (Some (Access a)) replied.Accepted fails p = Write a ∷ p
with_event (Some (Access a)) _ fails p = p
with_event (Some Work) (replied.Claim number) fails p = Claim ∷ p
with_event (Some Work) (replied.Sent number) fails p = Sent ∷ p
with_event (Some Work) (replied.Exec number) fails p = Exec ∷ p
with_event (Some Work) (replied.Done number) fails p = Finish Done ∷ p
with_event (Some Work) (replied.Cancelled number) fails p = Finish Cancelled ∷ p
with_event (Some Work) (replied.Lost number) fails p = Finish Lost ∷ p
with_event (Some Work) _ fails p = p
with_event (Some AskLine) replied.Asked fails p = Ask true ∷ p
with_event (Some AskLine) replied.Link fails p = Ask (not (fails 1)) ∷ p
with_event (Some AskLine) _ fails p = p
with_event (Some ResetLine) replied.Reset fails p = Reset ∷ p
with_event (Some ResetLine) replied.Link fails p = ResetLost ∷ p
with_event (Some ResetLine) _ fails p = p
with_event (Some Offer) reply fails p = p
with_event (Some (Deliver message)) reply fails p = p
with_event (Some GiveUp) reply fails p = p
with_event (Some Again) reply fails p = p
with_event (Some (Show message)) reply fails p = p
with_event (Some (Fail host call)) reply fails p = p
with_event None reply fails p = p

-- the length of the response to the last command
abbrev pub response_length : Snapshot → History → ℕ
response_length b p = length (answer b.tpm (executed b p) (last_command b p))

abbrev mutual
  -- the history that lines and replies give
  pub history : Snapshot → Transcript → History
  history b [] = []
  history b (x ∷ t) = with_event x.line x.reply (λ calls. reaches (injected_fault_of t) (call_count b t + calls)) (history b t)

  -- the calls since the line of the last injected fault
  pub call_count : Snapshot → Transcript → ℕ
  call_count b [] = 0
  call_count b (x ∷ t) = count_after x.line x.reply (response_length b (history b t)) (call_count b t)

-- whether one of so many next calls is to fail
abbrev pub fails_within : Snapshot → Transcript → ℕ → Bool
fails_within b t calls = reaches (injected_fault_of t) (call_count b t + calls)

-- ---- the one reply that each line may have

-- what the reply to a step of the worker rests on, beside the stage of the last command: whether it was held back, whether
-- a cancel came in time, its number, and the length of its response
pub record WorkerReplyInputs : Type 0 where
  pub held : Bool
  pub in_time : Bool
  pub number : ℕ
  pub size : ℕ

-- the reply to a step of the worker, by the stage of the last command
abbrev pub worker_reply_at : JobStage → WorkerReplyInputs → (ℕ → Bool) → Reply
worker_reply_at Waiting x fails = replied.Claim x.number
worker_reply_at Claimed x fails = if x.held then replied.Cancelled x.number else (if fails 1 then replied.Lost x.number else replied.Sent x.number)
worker_reply_at HasSent x fails = if fails 1 then replied.Lost x.number else replied.Exec x.number
worker_reply_at HasHeader x fails =
    if x.in_time then replied.Cancelled x.number
    else (if has_rest x.size && fails 1 then replied.Lost x.number else replied.Done x.number)

abbrev pub worker_reply_inputs : Snapshot → History → WorkerReplyInputs
worker_reply_inputs b p = record { held = cancelled_before_claim b p; in_time = cancelled_in_emulator b p; number = number_of b p; size = response_length b p }

-- the reply to a step of the worker
abbrev pub worker_reply : Snapshot → History → (ℕ → Bool) → Reply
worker_reply b p fails = if is_executing (phase_of b p) then worker_reply_at (stage_of b p) (worker_reply_inputs b p) fails else replied.Idle

-- a command is claimed and unfinished
abbrev pub is_under_way : Snapshot → History → Bool
is_under_way b p = is_executing (phase_of b p) && not (is_waiting (stage_of b p))

-- the reply to a reset
abbrev pub reset_reply : Snapshot → History → (ℕ → Bool) → Reply
reset_reply b p fails =
    if is_lost (phase_of b p) then replied.FailedDevice
    else (if is_under_way b p then replied.NotYet
    else (if fails 2 then replied.Link else replied.Reset))

-- the reply to a cancel beside the registers
abbrev pub ask_reply : (ℕ → Bool) → Reply
ask_reply fails = if fails 2 then replied.Link else replied.Asked

-- the reply is the one to this line: a value of its size to a read, `ok` to a write or a fault to inject, and else the one that is due.
-- The lines of a move are for two hosts: with one host they have no reply.
abbrev pub IsReplyTo : Snapshot → History → (ℕ → Bool) → Option Line → Reply → Type 0
IsReplyTo b p fails (Some (Access a)) (replied.Value value size) = (a.write ≡ None) × (size ≡ a.size)
IsReplyTo b p fails (Some (Access a)) replied.Accepted = IsSome a.write
IsReplyTo b p fails (Some (Access a)) _ = ⊥
IsReplyTo b p fails (Some Work) reply = reply ≡ worker_reply b p fails
IsReplyTo b p fails (Some AskLine) reply = reply ≡ ask_reply fails
IsReplyTo b p fails (Some ResetLine) reply = reply ≡ reset_reply b p fails
IsReplyTo b p fails (Some Offer) reply = ⊥
IsReplyTo b p fails (Some (Deliver message)) reply = ⊥
IsReplyTo b p fails (Some GiveUp) reply = ⊥
IsReplyTo b p fails (Some Again) reply = ⊥
IsReplyTo b p fails (Some (Show message)) reply = ⊥
IsReplyTo b p fails (Some (Fail host call)) reply = reply ≡ replied.Accepted
IsReplyTo b p fails None reply = ⊥

-- each reply is the one to its line, after the lines and replies before it
abbrev pub RepliesAreExpected : Snapshot → Transcript → Type 0
RepliesAreExpected b [] = ⊤
RepliesAreExpected b (x ∷ t) = RepliesAreExpected b t × IsReplyTo b (history b t) (fails_within b t) x.line x.reply

-- the replies are those of one device over one TPM
pub record IsRun (b : Snapshot) (t : Transcript) : Type 0 where
  pub legal : Legal b (history b t)
  pub in_turn : RepliesAreExpected b t
