-- Hosts keep their names in a move.
use Rattle.std.proofs.Common.{◌≡◌, ℕ, Bool, true, false, Ok, Err, ap}
use Rattle.std.specs.Prelude.{Option, Result, OnOk, OnErr}
use Rattle.std.specs.declared.alloc.AllocError.{AllocError}
use Rattle.tpm_core.specs.declared.parts.TpmParts.{TpmParts}
use Rattle.crb_port.specs.Views.{PortView}
use Rattle.crb_machine.specs.Model.{DeviceModel}
use Rattle.vt_base.specs.declared.types.HostName.{HostName}
use Rattle.move_core.specs.Model.{HostModel}
use Rattle.move_core.specs.Requests.{WiresView}
use Rattle.hand_over.specs.Ends.{MoveEnds, HasMoved, IsGivenUp}

abbrev name_of : {P : Type 0} → HostModel P → HostName
name_of h = h.name

ended_names : {P Schedule : Type 0} (arrives first : Bool) (port_view : P → PortView) (source : HostModel P) (stopped : DeviceModel P) (tpm : Option TpmParts) (target : HostModel P) (epoch : ℕ) (new_source new_target : HostModel P) (v : WiresView Schedule)
    → MoveEnds arrives first port_view source stopped tpm target epoch new_source new_target v → (new_source.name ≡ source.name) × (new_target.name ≡ target.name)
ended_names true first port_view source stopped tpm target epoch new_source new_target v ends = (ap name_of ends.source_is, ap name_of ends.target_is)
ended_names false true port_view source stopped tpm target epoch new_source new_target v (runs, left) = (ap name_of runs.source_is, ap name_of left)
ended_names false false port_view source stopped tpm target epoch new_source new_target v (runs, left) = (ap name_of runs.source_is, ap name_of left.0)

pub names_kept : {P Schedule : Type 0} (port_view : P → PortView) (result : Result (Unit {0}) AllocError) (source : HostModel P) (w : WiresView Schedule) (target : HostModel P) (lost : Option ℕ) (new_source new_target : HostModel P) (v : WiresView Schedule)
    → OnOk result (HasMoved port_view source w target lost new_source new_target v) → OnErr result (IsGivenUp port_view source target new_source new_target) → (new_source.name ≡ source.name) × (new_target.name ≡ target.name)
names_kept port_view (Ok done) source w target lost new_source new_target v moved up = ended_names _ _ port_view source moved.stopped _ target _ new_source new_target v moved.ends
names_kept port_view (Err e) source w target lost new_source new_target v moved up = (ap name_of up.taken_back.0.source_is, ap name_of up.taken_back.1.0)
