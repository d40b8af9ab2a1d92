-- Two hosts with their wires. (Own definitions.)
use Rattle.std.specs.Prelude.{◌≡◌, ℕ, Bool, true, false, if◌then◌else◌}
use Rattle.crb_regs.specs.Access.{Access}
use Rattle.crb_port.specs.declared.job.PortState.{PortState}
use Rattle.move_core.specs.Model.{HostModel}
use Rattle.move_core.specs.Sides.{is_running}
use Rattle.vt_seat.specs.Wires.{WiresState}
use Rattle.vt_seat.specs.State.{WorldState, SeatState}
use Rattle.vt_seat.specs.Seats.{new_seat, world_of}
use Rattle.vt_world.specs.Bus.{IsReady, Leads}
use Rattle.vt_world.specs.State.{PairState, runs_at_a}

-- two hosts with their wires, whose workers have nothing in hand
abbrev pub new_pair : {P : Type 0} → HostModel P → HostModel P → WiresState → WiresState → PairState P
new_pair a b wires_a wires_b = record { a = new_seat a wires_a; b = new_seat b wires_b }

-- a guest runs
abbrev pub IsRunning : {P : Type 0} → PairState P → Type 0
IsRunning w = (if runs_at_a w then true else is_running w.b.host.stage) ≡ true

-- what that guest sees
abbrev pub running_world : PairState PortState → WorldState
running_world w = if runs_at_a w then world_of w.a else world_of w.b

-- ---- as the bus of a driver

-- the seat but for its device, its worker and its wires
pub record KeepsSeat (old new : SeatState PortState) : Type 0 where
  pub host : new.host ≡ record old.host { device = new.host.device }
  pub piece : new.link.emulator.piece ≡ old.link.emulator.piece

-- the seat at which no guest is stays as it is, and the other one but for its guest
abbrev pub KeepsSeats : Bool → PairState PortState → PairState PortState → Type 0
KeepsSeats true old new = KeepsSeat old.a new.a × (new.b ≡ old.b)
KeepsSeats false old new = KeepsSeat old.b new.b × (new.a ≡ old.a)

-- a guest runs, and what it sees is where some history leads
pub record IsPairReady (w : PairState PortState) : Type 0 where
  pub runs : IsRunning w
  pub ready : IsReady (running_world w)

-- an access is one of the guest that runs, and nothing else changes
pub record PairLeads (old : PairState PortState) (a : Access) (value : ℕ) (new : PairState PortState) : Type 0 where
  pub guest : Leads (running_world old) a value (running_world new)
  pub others : KeepsSeats (runs_at_a old) old new
