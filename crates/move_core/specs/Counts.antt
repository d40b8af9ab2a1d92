-- Which answers say that a call of the wires failed, and the count of such calls. (Own definitions.)
use Rattle.std.specs.Prelude.{◌≡◌, ℕ, Bool, true, false, Option, Result, Ok, Err}
use Rattle.vt_base.specs.Faults.{IsCounted}
use Rattle.ctrl_client.specs.declared.fault.ClientFault.{ClientFault}
use Rattle.ctrl_client.specs.declared.fault.ClientFault.TheVariants.{Link as LinkFault, Result as BadResult, Reply as BadReply}
use Rattle.vt_base.specs.declared.types.Reason.{Reason}
use Rattle.vt_base.specs.declared.types.Reason.TheVariants as reason
use Rattle.move_codec.specs.declared.message.Message.{Message}
use Rattle.move_codec.specs.declared.message.Body.{Body}
use Rattle.move_codec.specs.declared.message.Body.TheVariants as body
use Rattle.move_core.specs.declared.answers.Delivered.{Delivered}
use Rattle.move_core.specs.declared.answers.Delivered.TheVariants as delivers
use Rattle.move_core.specs.declared.answers.OfferFault.{OfferFault}
use Rattle.move_core.specs.declared.answers.OfferFault.TheVariants as fault
use Rattle.move_core.specs.declared.answers.Offered.{Offered}

-- a call of the wires failed
abbrev pub is_link : ClientFault → Bool
is_link LinkFault = true
is_link (BadResult number) = false
is_link (BadReply place) = false

-- a request ended by such a fault
abbrev pub ends_by_link : {T : Type 0} → Result T ClientFault → Bool
ends_by_link (Ok value) = false
ends_by_link (Err f) = is_link f

abbrev pub is_link_reason : Reason → Bool
is_link_reason reason.Busy = false
is_link_reason reason.Totals = false
is_link_reason reason.Record = false
is_link_reason reason.Blob = false
is_link_reason reason.Link = true
is_link_reason reason.Reply = false

abbrev pub is_link_refusal : Body → Bool
is_link_refusal (body.Offer totals) = false
is_link_refusal (body.Need part offset) = false
is_link_refusal (body.Piece part offset bytes) = false
is_link_refusal body.Prepared = false
is_link_refusal body.Commit = false
is_link_refusal body.Abort = false
is_link_refusal (body.Refuse why value) = is_link_reason why

-- the answers of `deliver` that say so: a refusal for this reason, and the fault itself
abbrev pub delivered_by_link : Delivered → Bool
delivered_by_link delivers.Ignored = false
delivered_by_link delivers.Took = false
delivered_by_link (delivers.Sent m) = false
delivered_by_link delivers.Runs = false
delivered_by_link delivers.Resumed = false
delivered_by_link (delivers.Refused m) = is_link_refusal m.body
delivered_by_link (delivers.Wires f) = is_link f

-- the answer of `offer` that says so
abbrev pub is_link_fault : OfferFault → Bool
is_link_fault fault.Stopped = false
is_link_fault fault.Device = false
is_link_fault fault.EpochEnd = false
is_link_fault (fault.Wires f) = is_link f

abbrev pub offered_by_link : Result Offered OfferFault → Bool
offered_by_link (Ok answer) = false
offered_by_link (Err f) = is_link_fault f

-- and that of `drained`
abbrev pub drained_by_link : Result (Option Message) OfferFault → Bool
drained_by_link (Ok answer) = false
drained_by_link (Err f) = is_link_fault f

-- one fault of the wires was counted if the answer says so, and none otherwise
abbrev pub CountsIf : Bool → ℕ → ℕ → Type 0
CountsIf true before now = IsCounted before now
CountsIf false before now = now ≡ before
