-- Offers that were made or refused.
use Rattle.std.proofs.Common.{◌≡◌, ◌<◌, true, false, refl, Ok, Err, arith}
use Rattle.std.specs.Prelude.{◌-◌, ◌^◌, Result}
use Rattle.crb_port.specs.Views.{PortView}
use Rattle.crb_regs.specs.Registers.{is_lost}
use Rattle.crb_regs.specs.declared.phase.Phase.{Phase}
use Rattle.crb_regs.specs.declared.phase.Phase.TheVariants as phase
use Rattle.crb_machine.specs.Over.{Stops as DeviceStops}
use Rattle.crb_machine.specs.Model.{DeviceModel}
use Rattle.move_codec.specs.declared.message.Message.{Message}
use Rattle.move_core.specs.declared.stage.MoveStage.{MoveStage}
use Rattle.move_core.specs.declared.stage.MoveStage.TheVariants.{Empty, Running, Draining, Offering, Released, Filling, Prepared}
use Rattle.move_core.specs.Sides.{is_running}
use Rattle.move_core.specs.declared.answers.OfferFault.{OfferFault}
use Rattle.move_core.specs.declared.answers.OfferFault.TheVariants.{Stopped, Device, EpochEnd, Wires}
use Rattle.move_core.specs.Model.{HostModel}
use Rattle.move_core.specs.Requests.{WiresView}
use Rattle.move_core.specs.Calls.{OffersHeld, Offers, Drains, Resumes}
use Rattle.move_core.specs.Calls.EpochEnds.{Unclaimed}

pub not_lost : (p : Phase) → (p ≡ phase.Lost → ⊥) → is_lost p ≡ false
not_lost phase.Idle other = refl
not_lost phase.Ready other = refl
not_lost phase.Reception other = refl
not_lost phase.Execution other = refl
not_lost phase.Completion other = refl
not_lost phase.Lost other = absurd (other refl)

pub runs_at : (s : MoveStage) → is_running s ≡ true → s ≡ Running
runs_at Running is = refl
runs_at Empty is = absurd cc
runs_at Draining is = absurd cc
runs_at (Offering e totals) is = absurd cc
runs_at (Released e) is = absurd cc
runs_at (Filling e totals part place) is = absurd cc
runs_at (Prepared e) is = absurd cc

-- a running host whose device was stopped doesn't offer
pub refused_from : {P Schedule : Type 0} (port_view : P → PortView) (h : HostModel P) (w v : WiresView Schedule) (f : OfferFault) (new held : HostModel P) (device : DeviceModel P)
    → h.stage ≡ Running → DeviceStops port_view h.device (Ok tt) device → OffersHeld (record h { device = device }) w (Err f) v held → Resumes port_view held new → Offers port_view h w (Err f) v new
refused_from port_view h w v Stopped new held device runs stops offers goes = absurd offers
refused_from port_view h w v Device new held device runs stops offers goes = (runs, record { device = device; stops = stops; held = held; offers = offers; ends = goes })
refused_from port_view h w v EpochEnd new held device runs stops offers goes = (runs, Unclaimed (record { device = device; stops = stops; held = held; offers = offers; ends = goes }))
refused_from port_view h w v (Wires f) new held device runs stops offers goes = (runs, record { device = device; stops = stops; held = held; offers = offers; ends = goes })

-- a draining host whose device was stopped doesn't offer: it has an epoch left
pub undrained_from : {P Schedule : Type 0} (port_view : P → PortView) (h : HostModel P) (w v : WiresView Schedule) (f : OfferFault) (new held : HostModel P) (device : DeviceModel P)
    → h.top < 2 ^ 64 - 1 → DeviceStops port_view h.device (Ok tt) device → OffersHeld (record h { stage = Running; device = device }) w (Err f) v held → Resumes port_view held new
    → Drains port_view h w (Err f) v new
undrained_from port_view h w v Stopped new held device left stops offers goes = absurd offers
undrained_from port_view h w v Device new held device left stops offers goes = record { device = device; stops = stops; held = held; offers = offers; ends = goes }
undrained_from port_view h w v EpochEnd new held device left stops offers goes = absurd (omega (arith, left, offers.1))
undrained_from port_view h w v (Wires f) new held device left stops offers goes = record { device = device; stops = stops; held = held; offers = offers; ends = goes }
