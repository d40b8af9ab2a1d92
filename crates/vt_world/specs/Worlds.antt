-- A world of two hosts and the messages between them. (Own definitions.)
use Rattle.std.specs.Prelude.{◌≡◌, ℕ, Bool, true, false, Option, Some, None, is_some}
use Rattle.vt_base.specs.declared.types.HostName.{HostName}
use Rattle.vt_base.specs.declared.types.HostName.TheVariants.{A, B}
use Rattle.crb_regs.specs.Access.{Access}
use Rattle.crb_port.specs.declared.job.PortState.{PortState}
use Rattle.two_seats.specs.Both.{TwoSeats, running_of, draining_of}
use Rattle.vt_script.specs.declared.event.Event.{Event as Line}
use Rattle.vt_script.specs.declared.event.Event.TheVariants.{Access as AccessLine, Work, Ask, Reset, Offer, Deliver, GiveUp, Again, Show, Fail}
use Rattle.vt_seat.specs.State.{SeatState}
use Rattle.vt_world.specs.Pairs.{IsPairReady, PairLeads}
use Rattle.vt_world.specs.State.{PairState}

-- its hosts
abbrev pub pair_of : TwoSeats → PairState PortState
pair_of w = record { a = w.a; b = w.b }

-- the seat but for the device of its host, its worker and its wires
abbrev pub KeepsHost : SeatState PortState → SeatState PortState → Type 0
KeepsHost old new = new.host ≡ record old.host { device = new.host.device }

-- of the two hosts only the device, the worker and the wires of the one that runs changed
abbrev pub ChangesOnly : Option HostName → TwoSeats → TwoSeats → Type 0
ChangesOnly None old new = new ≡ old
ChangesOnly (Some A) old new = (new ≡ record old { a = new.a }) × KeepsHost old.a new.a
ChangesOnly (Some B) old new = (new ≡ record old { b = new.b }) × KeepsHost old.b new.b

-- a line of the guest moves no guest, sends no message, and leaves the other host as it is
pub record KeepsOthers (old new : TwoSeats) : Type 0 where
  pub running : running_of new ≡ running_of old
  pub bag : new.bag ≡ old.bag
  pub hosts : ChangesOnly (running_of old) old new

-- a line that may find no memory: one that is about messages between the hosts, and `work` while a host drains
abbrev pub takes_memory : TwoSeats → Line → Bool
takes_memory w (AccessLine a) = false
takes_memory w Work = is_some (draining_of w)
takes_memory w Ask = false
takes_memory w Reset = false
takes_memory w Offer = true
takes_memory w (Deliver message) = true
takes_memory w GiveUp = true
takes_memory w Again = true
takes_memory w (Show message) = true
takes_memory w (Fail host call) = false

-- ---- as the bus of a driver

-- a guest runs, and what it sees is where some history leads
abbrev pub IsWorldReady : TwoSeats → Type 0
IsWorldReady w = IsPairReady (pair_of w)

-- an access is one of the guest that runs, and nothing else changes
pub record WorldLeads (old : TwoSeats) (a : Access) (value : ℕ) (new : TwoSeats) : Type 0 where
  pub pair : PairLeads (pair_of old) a value (pair_of new)
  pub bag : new.bag ≡ old.bag
