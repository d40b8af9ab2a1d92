-- What a loss leads to. (Own definitions.)
use Rattle.std.specs.Prelude.{◌≡◌, ◌==◌, ℕ, Bool, true, false, [], if◌then◌else◌}
use Rattle.crb_port.specs.Views.{PortView}
use Rattle.crb_machine.specs.Over.{GoesOn}
use Rattle.move_core.specs.declared.stage.MoveStage.{MoveStage}
use Rattle.move_core.specs.declared.stage.MoveStage.TheVariants.{Running, Released, Filling, Prepared}
use Rattle.move_core.specs.Model.{HostModel}
use Rattle.hand_over.specs.Start.{emptied}

abbrev pub has_let_go : MoveStage → Bool
has_let_go (Released e) = true
has_let_go _ = false

-- the offer was taken back: the guest runs on here
pub record Resumed {P : Type 0} (port_view : P → PortView) (h new : HostModel P) : Type 0 where
  pub rest : new ≡ record h { stage = Running; record_bytes = []; device = new.device }
  pub goes_on : GoesOn port_view h.device new.device

-- an Abort of this epoch leaves nothing of the move that it names
abbrev pub aborted : {P : Type 0} → MoveStage → ℕ → HostModel P → HostModel P
aborted (Filling e totals part place) epoch h = if e == epoch then emptied h else h
aborted (Prepared e) epoch h = if e == epoch then emptied h else h
aborted _ epoch h = h
