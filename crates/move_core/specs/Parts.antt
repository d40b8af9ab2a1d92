-- What the host's own struct is to a contract.
use Rattle.move_core.specs.Model.{HostModel}
use Rattle.move_core.specs.declared.parts.HostParts.{HostParts}

abbrev pub model_of : {P : Type 0} → HostParts P → HostModel P
model_of h = record { name = h.name; piece = h.piece; top = h.top; stage = h.stage; record_bytes = h.record_bytes; device = h.device }
