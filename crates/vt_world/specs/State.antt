-- What contracts see of two hosts with their wires. (Own definitions.)
use Rattle.std.specs.Prelude.{Bool, if◌then◌else◌, Option, Some, None}
use Rattle.vt_base.specs.declared.types.HostName.{HostName}
use Rattle.vt_base.specs.declared.types.HostName.TheVariants.{A, B}
use Rattle.move_core.specs.Sides.{is_running}
use Rattle.vt_seat.specs.State.{SeatState}

pub record PairState (P : Type 0) : Type 0 where
  pub a : SeatState P
  pub b : SeatState P

-- the seat of a host
abbrev pub seat_of : {P : Type 0} → HostName → PairState P → SeatState P
seat_of A w = w.a
seat_of B w = w.b

-- A's guest runs
abbrev pub runs_at_a : {P : Type 0} → PairState P → Bool
runs_at_a w = is_running w.a.host.stage

-- the host whose guest runs, if one does
abbrev pub running_host : {P : Type 0} → PairState P → Option HostName
running_host w = if runs_at_a w then Some A else (if is_running w.b.host.stage then Some B else None)
