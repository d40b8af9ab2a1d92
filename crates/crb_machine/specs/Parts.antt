-- What the device's own struct is to a contract.
use Rattle.crb_machine.specs.Model.{DeviceModel}
use Rattle.crb_machine.specs.declared.parts.DeviceParts.{DeviceParts}

abbrev pub model_of : {P : Type 0} → DeviceParts P → DeviceModel P
model_of d = record { regs = d.regs; number = d.number; own_buffer = d.own_buffer; held = d.held; cancelled = d.cancelled; port = d.port }
