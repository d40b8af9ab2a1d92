-- Two seats and the messages between them, where lines and their replies lead. (Own definitions.)
use Rattle.std.specs.Prelude.{◌≡◌, ◌++◌, ◌∷◌, [], ℕ, false, List, take, length, nat_lt, ◌+◌, Option, Some, None, Result, Ok, Err, if◌then◌else◌}
use Rattle.tpm_core.specs.Steps.{IsValid}
use Rattle.crb_port.specs.declared.job.PortState.{PortState}
use Rattle.crb_history.specs.Snapshot.{Snapshot, IsValidSnapshot}
use Rattle.crb_history.specs.Legal.{Legal}
use Rattle.vt_transcript.specs.OneHost.{OneHost}
use Rattle.vt_transcript.specs.Replies.{Transcript, is_fault}
use Rattle.vt_base.specs.declared.types.HostName.{HostName}
use Rattle.vt_base.specs.declared.types.HostName.TheVariants.{A, B}
use Rattle.move_codec.specs.declared.message.Message.{Message}
use Rattle.move_codec.specs.Encoding.{HasPiece}
use Rattle.move_core.specs.Model.{HostModel}
use Rattle.move_core.specs.Sides.{is_running, is_draining, other}
use Rattle.move_core.specs.declared.answers.OfferFault.{OfferFault}
use Rattle.move_core.specs.declared.answers.OfferFault.TheVariants as fault
use Rattle.move_core.specs.declared.answers.Offered.{Offered}
use Rattle.move_core.specs.declared.answers.Offered.TheVariants as offered
use Rattle.move_core.specs.declared.answers.Gave.{Gave}
use Rattle.move_core.specs.declared.answers.Gave.TheVariants as gave
use Rattle.move_core.specs.declared.answers.Delivered.{Delivered}
use Rattle.move_core.specs.declared.answers.Delivered.TheVariants as delivers
use Rattle.vt_script.specs.declared.event.Event.{Event}
use Rattle.vt_script.specs.declared.event.Event.TheVariants.{Access, Work, Ask, Reset, Offer, Deliver, GiveUp, Again, Show, Fail}
use Rattle.vt_script.specs.declared.reply.Reply.{Reply}
use Rattle.vt_script.specs.declared.reply.Reply.TheVariants as reply
use Rattle.two_hosts.specs.Deliveries.{Outcome}
use Rattle.two_hosts.specs.Hosts.{TwoHosts, pick, host_of, running_host, working_host, message_at, after_line, hosts_after, bag_size}
use Rattle.two_hosts.specs.Replies.{AnswersLine, IsRun, reason_in}
use Rattle.two_hosts.specs.Invariant.{DrainsUnderWay, HostsInvariant, IsSent}
use Rattle.vt_seat.specs.Follows.{CountsFault}
use Rattle.vt_seat.specs.State.{SeatState}
use Rattle.two_seats.specs.Seats.{IsSeat}

-- the seats of A and B, and the messages that were sent, the first one first
pub record TwoSeats : Type 0 where
  pub a : SeatState PortState
  pub b : SeatState PortState
  pub bag : List Message

abbrev pub seat_of : TwoSeats → HostName → SeatState PortState
seat_of w n = pick n w.a w.b

abbrev pub with_seat : TwoSeats → HostName → SeatState PortState → TwoSeats
with_seat w n s = record w { a = pick n s w.a; b = pick n w.b s }

-- the host whose guest runs
abbrev pub running_of : TwoSeats → Option HostName
running_of w = if is_running w.a.host.stage then Some A else (if is_running w.b.host.stage then Some B else None)

-- the host that drains
abbrev pub draining_of : TwoSeats → Option HostName
draining_of w = if is_draining w.a.host.stage then Some A else (if is_draining w.b.host.stage then Some B else None)

-- what is known of one of the hosts
abbrev pub one_of : TwoHosts → HostName → OneHost
one_of t n = record { history = t.history; injected_fault = (host_of t n).injected_fault; count = (host_of t n).calls }

-- The seats and the bag are where this is known of the hosts. A piece of a record or of a blob has at most `piece` bytes.
pub record FollowsBoth (b : Snapshot) (piece : ℕ) (t : TwoHosts) (w : TwoSeats) : Type 0 where
  pub fit : IsValid b.tpm
  pub invariant : HostsInvariant b t
  pub drains : DrainsUnderWay b t
  pub fits : (e : ℕ) → IsValidSnapshot (t.offered e)
  pub seats : (n : HostName) → IsSeat b piece t.history t.offered n (host_of t n) (seat_of w n)
  pub some : (m : Message) → IsSent t.sent m → HasPiece m.body
  pub bag_is : w.bag ≡ take bag_size t.sent

-- one line and its reply lead on
pub record StepsBoth (b : Snapshot) (piece : ℕ) (t : TwoHosts) (line : Event) (reply : Reply) (new : TwoSeats) : Type 0 where
  pub answers : AnswersLine b piece t line reply
  pub legal : Legal b t.history → Legal b (after_line b piece t line reply).history
  pub follows : FollowsBoth b piece (after_line b piece t line reply) new

-- ---- the two tables of deliveries

-- a host that took a message is what this says of its side, and its answer too
pub record IsOutcome (o : Outcome) (answer : Delivered) (host : HostModel PortState) : Type 0 where
  pub answer_is : answer ≡ o.answer
  pub stage_is : host.stage ≡ o.side.stage
  pub top_is : host.top ≡ o.side.top

-- ---- faults of the wires

-- the host that a message names
abbrev pub receiver_of : Option Message → Option HostName
receiver_of None = None
receiver_of (Some m) = Some m.to

-- the host whose wires a line may use
abbrev pub acts_on : TwoHosts → Event → Option HostName
acts_on t (Access access) = running_host t
acts_on t Work = working_host t
acts_on t Ask = running_host t
acts_on t Reset = running_host t
acts_on t Offer = running_host t
acts_on t (Deliver k) = receiver_of (message_at t.sent k)
acts_on t GiveUp = None
acts_on t Again = None
acts_on t (Show k) = None
acts_on t (Fail host call) = None

-- a reply that names a fault comes with one more fault of the wires of this host, and any other reply with none
abbrev pub CountsOn : Option HostName → Reply → TwoSeats → TwoSeats → Type 0
CountsOn None r old new = (is_fault r ≡ false) × (new.a.faults ≡ old.a.faults) × (new.b.faults ≡ old.b.faults)
CountsOn (Some n) r old new = CountsFault r (seat_of old n).faults (seat_of new n).faults × ((seat_of new (other n)).faults ≡ (seat_of old (other n)).faults)

abbrev pub CountsBoth : TwoHosts → Event → Reply → TwoSeats → TwoSeats → Type 0
CountsBoth t line r old new = CountsOn (acts_on t line) r old new

-- ---- runs

-- these lines and replies are a run that leads here
pub record RunsTo (b : Snapshot) (piece : ℕ) (t : Transcript) (w : TwoSeats) : Type 0 where
  pub run : IsRun b piece t
  pub follows : FollowsBoth b piece (hosts_after b piece t) w

-- ---- the bag

-- a message went into a bag of so many, or was lost where it was full, and got this number
pub record KeepsIn (most : ℕ) (m : Message) (number : ℕ) (sent new : List Message) : Type 0 where
  pub number_is : number ≡ (if nat_lt (length sent) most then length sent + 1 else 0)
  pub bag_is : new ≡ take most (sent ++ m ∷ [])

abbrev pub Keeps : Message → ℕ → List Message → List Message → Type 0
Keeps m number sent new = KeepsIn bag_size m number sent new

-- ---- the replies of a host that offers, and of one that takes a message

-- the reply for what an offer came to, with the number of its message
abbrev pub said_offer : Result Offered OfferFault → ℕ → Reply
said_offer (Ok (offered.Sent m)) number = reply.Offered m.epoch number
said_offer (Ok (offered.Draining k)) number = reply.Draining k
said_offer (Err fault.Stopped) number = reply.Stopped
said_offer (Err fault.Device) number = reply.FailedDevice
said_offer (Err fault.EpochEnd) number = reply.EpochEnd
said_offer (Err (fault.Wires f)) number = reply.Link

-- the bag after it
abbrev pub bag_offer : Result Offered OfferFault → List Message → List Message → List Message
bag_offer (Ok (offered.Sent m)) new old = new
bag_offer _ new old = old

-- ---- the replies of a host that drains

-- the reply to the end of a command that an offer follows, with its epoch and the number of its message
abbrev pub ended_offered : Reply → ℕ → ℕ → Reply
ended_offered (reply.Done k) epoch number = reply.DoneOffered k epoch number
ended_offered (reply.Cancelled k) epoch number = reply.CancelledOffered k epoch number
ended_offered r epoch number = r

-- and to one behind which a call failed
abbrev pub ended_link : Reply → Reply
ended_link (reply.Done k) = reply.DoneLink k
ended_link (reply.Cancelled k) = reply.CancelledLink k
ended_link r = r

-- the reply for the worker's step and what followed it
abbrev pub said_drained : Reply → Result (Option Message) OfferFault → ℕ → Reply
said_drained r (Ok (Some m)) number = ended_offered r m.epoch number
said_drained r (Err (fault.Wires f)) number = ended_link r
said_drained r _ number = r

-- the bag after it
abbrev pub bag_drained : Result (Option Message) OfferFault → List Message → List Message → List Message
bag_drained (Ok (Some m)) new old = new
bag_drained _ new old = old

-- ---- the replies of a host that takes its offer back

abbrev pub said_give_up : Gave → ℕ → Option Reply
said_give_up gave.NotOffering number = None
said_give_up gave.Undrained number = Some reply.Resumed
said_give_up (gave.Abort m) number = Some (reply.ResumedSent number)

-- the bag after it
abbrev pub bag_give_up : Gave → List Message → List Message → List Message
bag_give_up (gave.Abort m) new old = new
bag_give_up _ new old = old

-- the reply for what a delivery came to, with the number of the message that is sent
abbrev pub said_delivery : Delivered → ℕ → Reply
said_delivery delivers.Ignored number = reply.Ignored
said_delivery delivers.Took number = reply.Took
said_delivery (delivers.Sent m) number = reply.SentMessage number
said_delivery delivers.Runs number = reply.Running
said_delivery delivers.Resumed number = reply.Resumed
said_delivery (delivers.Refused m) number = reply.RefusedSent (reason_in m.body) number
said_delivery (delivers.Wires f) number = reply.Link

-- the bag after it
abbrev pub bag_delivery : Delivered → List Message → List Message → List Message
bag_delivery (delivers.Sent m) new old = new
bag_delivery (delivers.Refused m) new old = new
bag_delivery _ new old = old

-- the message of an answer went into a bag of so many
abbrev pub KeepsAllIn : ℕ → Delivered → ℕ → List Message → List Message → Type 0
KeepsAllIn most (delivers.Sent m) number sent new = KeepsIn most m number sent new
KeepsAllIn most (delivers.Refused m) number sent new = KeepsIn most m number sent new
KeepsAllIn most _ number sent new = Unit {0}
