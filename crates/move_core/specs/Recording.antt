-- The record of a running host's device is written, and its guest runs on. (Own definitions.)
use Rattle.std.specs.Prelude.{◌≡◌, ℕ, true, false, List, take, Result, Ok, Err}
use Rattle.crb_regs.specs.Registers.{is_lost}
use Rattle.crb_port.specs.Views.{PortView}
use Rattle.crb_machine.specs.Model.{DeviceModel}
use Rattle.crb_machine.specs.Values.{held_values}
use Rattle.crb_machine.specs.Over.{Stops as DeviceStops}
use Rattle.device_record.specs.Records.{IsRecord}
use Rattle.move_core.specs.Calls.{Resumes}
use Rattle.move_core.specs.Model.{HostModel}
use Rattle.move_core.specs.Sides.{is_running}
use Rattle.move_core.specs.declared.stage.MoveStage.TheVariants.{Running}
use Rattle.move_core.specs.declared.answers.RecordFault.{RecordFault}
use Rattle.move_core.specs.declared.answers.RecordFault.TheVariants as fault

-- the device was stopped, it was lost or not, and it goes on
pub record StopsAndResumes {P : Type 0} (port_view : P → PortView) (h new : HostModel P) : Type 0 where
  pub device : DeviceModel P
  pub stops : DeviceStops port_view h.device (Ok tt) device
  pub resumes : Resumes port_view (record h { device = device }) new

-- the record of the device that was stopped
abbrev pub WritesRecord : {P : Type 0} → (P → PortView) → HostModel P → ℕ → List ℕ → HostModel P → Type 0
WritesRecord port_view h count bytes new = (paused : StopsAndResumes port_view h new) × (is_lost paused.device.regs.phase ≡ false) × IsRecord (take count bytes) (held_values paused.device)

-- each answer of the call with its cause
abbrev pub Records : {P : Type 0} → (P → PortView) → HostModel P → Result ℕ RecordFault → List ℕ → HostModel P → Type 0
Records port_view h (Ok count) bytes new = (h.stage ≡ Running) × WritesRecord port_view h count bytes new
Records port_view h (Err fault.Stopped) bytes new = (is_running h.stage ≡ false) × (new ≡ h)
Records port_view h (Err (fault.NotYet number)) bytes new =
    (h.stage ≡ Running) × DeviceStops port_view h.device (Err (record { number = number })) new.device × (new ≡ record h { device = new.device })
Records port_view h (Err fault.Device) bytes new = (h.stage ≡ Running) × ((paused : StopsAndResumes port_view h new) × (is_lost paused.device.regs.phase ≡ true))
