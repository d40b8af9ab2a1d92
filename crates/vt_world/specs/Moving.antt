-- A move between two hosts. (Own definitions.)
use Rattle.std.specs.Prelude.{◌≡◌, ◌+◌, ℕ, Bool, true, false, Option, Some}
use Rattle.crb_port.specs.Views.{PortView}
use Rattle.crb_worker.specs.declared.progress.Progress.TheVariants.{Free}
use Rattle.hand_over.specs.Counts.{commands_at, pieces_from}
use Rattle.hand_over.specs.Ends.{HasMoved, IsGivenUp, IsCalm}
use Rattle.hand_over.specs.Start.{CanMove}
use Rattle.vt_seat.specs.Seats.{view_of}
use Rattle.vt_seat.specs.State.{SeatState}
use Rattle.vt_world.specs.State.{PairState, runs_at_a}

-- the guest at a seat can be moved to the other one; neither worker has a claimed job
pub record CanMoveTo {P : Type 0} (port_view : P → PortView) (source target : SeatState P) : Type 0 where
  pub can_move : CanMove port_view source.host (view_of source) target.host (view_of target)
  pub free : source.progress ≡ Free
  pub target_free : target.progress ≡ Free

-- what every move leaves: the source's link as it was, the command that the target's emulator holds, if any, and wires and workers that can serve a next
-- move
pub record LeavesSeats {P : Type 0} (source target new_source new_target : SeatState P) : Type 0 where
  pub top : new_source.host.top ≡ source.host.top + 1
  pub link : new_source.link ≡ source.link
  pub calm : IsCalm source.link.emulator.piece (view_of new_source)
  pub target_calm : IsCalm target.link.emulator.piece (view_of new_target)
  pub commands : commands_at (Some new_target.link) ≡ commands_at (Some target.link)
  pub free : new_source.progress ≡ Free
  pub target_free : new_target.progress ≡ Free

-- a move of which this message is lost, where one is
pub record Moves {P : Type 0} (port_view : P → PortView) (lost : Option ℕ) (source target new_source new_target : SeatState P) : Type 0 where
  pub moved : HasMoved port_view source.host (view_of source) target.host lost new_source.host new_target.host (view_of new_target)
  pub leaves : LeavesSeats source target new_source new_target

-- a move that the source gave up
pub record GivesUp {P : Type 0} (port_view : P → PortView) (source target new_source new_target : SeatState P) : Type 0 where
  pub given_up : IsGivenUp port_view source.host target.host new_source.host new_target.host
  pub leaves : LeavesSeats source target new_source new_target

-- ---- of two hosts, by whether A's guest runs

abbrev pub CanMoveFrom : {P : Type 0} → Bool → (P → PortView) → PairState P → Type 0
CanMoveFrom true port_view w = CanMoveTo port_view w.a w.b
CanMoveFrom false port_view w = CanMoveTo port_view w.b w.a

abbrev pub MovesFrom : {P : Type 0} → Bool → (P → PortView) → Option ℕ → PairState P → PairState P → Type 0
MovesFrom true port_view lost old new = Moves port_view lost old.a old.b new.a new.b
MovesFrom false port_view lost old new = Moves port_view lost old.b old.a new.b new.a

abbrev pub GivesUpFrom : {P : Type 0} → Bool → (P → PortView) → PairState P → PairState P → Type 0
GivesUpFrom true port_view old new = GivesUp port_view old.a old.b new.a new.b
GivesUpFrom false port_view old new = GivesUp port_view old.b old.a new.b new.a

-- the guest that runs can be moved
abbrev pub PairCanMove : {P : Type 0} → (P → PortView) → PairState P → Type 0
PairCanMove port_view w = CanMoveFrom (runs_at_a w) port_view w

-- it was moved, or ran on where it was, by the message that was lost
abbrev pub PairMoves : {P : Type 0} → (P → PortView) → Option ℕ → PairState P → PairState P → Type 0
PairMoves port_view lost old new = MovesFrom (runs_at_a old) port_view lost old new

-- it runs on where it was
abbrev pub PairGivesUp : {P : Type 0} → (P → PortView) → PairState P → PairState P → Type 0
PairGivesUp port_view old new = GivesUpFrom (runs_at_a old) port_view old new

-- the pieces of the move that was made: the record of the device that was stopped and the blobs of its TPM, in pieces of the source's sizes
abbrev pub pieces_moved_from : {P : Type 0} (here : Bool) (port_view : P → PortView) (lost : Option ℕ) (old new : PairState P) → MovesFrom here port_view lost old new → ℕ
pieces_moved_from true port_view lost old new m = pieces_from (record old.a.host { device = m.moved.stopped }) (Some old.a.link)
pieces_moved_from false port_view lost old new m = pieces_from (record old.b.host { device = m.moved.stopped }) (Some old.b.link)

abbrev pub pieces_moved : {P : Type 0} (port_view : P → PortView) (lost : Option ℕ) (old new : PairState P) → PairMoves port_view lost old new → ℕ
pieces_moved port_view lost old new m = pieces_moved_from (runs_at_a old) port_view lost old new m
