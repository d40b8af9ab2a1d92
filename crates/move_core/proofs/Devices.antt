-- Devices, held, that got the values of a record.
use Rattle.std.proofs.Common.{◌≡◌, ℕ, Bool, true, List, [], Option, Some, None, refl, sym, ap, ◌∙◌}
use Rattle.std.specs.Prelude.{is_some, unwrap_or}
use Rattle.crb_port.specs.Views.{PortView}
use Rattle.crb_regs.specs.declared.registers.Regs.{Regs}
use Rattle.crb_machine.specs.Values.{held_values}
use Rattle.crb_machine.specs.Over.{IsConsistentDevice}
use Rattle.crb_machine.specs.Model.{DeviceModel}
use Rattle.move_core.specs.Hosts.{restored}

-- a buffer that is in the device
home_is : (own_buffer : Option (List ℕ)) → is_some own_buffer ≡ true → Some (unwrap_or own_buffer []) ≡ own_buffer
home_is (Some buf) there = refl
home_is None there = cc

abbrev made : {P : Type 0} → Regs → ℕ → Bool → Option (List ℕ) → Bool → P → DeviceModel P
made regs number cancelled own_buffer held port = record { regs = regs; number = number; own_buffer = own_buffer; held = held; cancelled = cancelled; port = port }

-- a held device is determined by its values and its port
pub restored_is : {P : Type 0} (port_view : P → PortView) (d e : DeviceModel P) → IsConsistentDevice port_view e → d.held ≡ true → e.held ≡ true → e.port ≡ d.port → restored (held_values e) d ≡ e
restored_is port_view d e consistent was is port =
    ap (λ (own_buffer : Option (List ℕ)). made e.regs e.number e.cancelled own_buffer d.held d.port) (home_is e.own_buffer (consistent.held is))
    ∙ ap (λ (held : Bool). made e.regs e.number e.cancelled e.own_buffer held d.port) (was ∙ sym is)
    ∙ ap (made e.regs e.number e.cancelled e.own_buffer e.held) (sym port)
