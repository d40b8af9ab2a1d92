use Rattle.std.proofs.Common.{sym, ap, subst, Ok, Err, ◌∙◌, List, ℕ, Option}
use Rattle.crb_machine.specs.Values.{held_values}
use Rattle.crb_machine.specs.Model.{DeviceModel}
use Rattle.device_record.specs.Records.{IsRecord}
use Rattle.device_record.specs.Layouts.{IsRefused}
use Rattle.move_codec.specs.declared.names.Part.{Part}
use Rattle.move_codec.specs.declared.names.Part.TheVariants as part
use Rattle.vt_base.specs.declared.types.Reason.TheVariants as reason
use Rattle.move_codec.specs.declared.message.Body.TheVariants as body
use Rattle.move_core.specs.declared.answers.Delivered.TheVariants.{Refused}
use Rattle.move_core.specs.declared.parts.HostParts.{HostParts}
use Rattle.move_core.specs.Parts.{model_of}
use Rattle.move_core.specs.Sides.{part_after}
use Rattle.move_core.specs.Table.{goes_to, emptied, message_from}
use Rattle.move_core.specs.Calls.{EndsIn}
use Rattle.move_core.proofs.Devices.{restored_is}
use Rattle.move_core.proofs.parts.HostParts.load.Goals as goal

pub returns-in-Ok-clause-row : goal.returns-in-Ok-clause-row
returns-in-Ok-clause-row g c =
    let port_view = g.P.PortModel.port_view in
    let e = c.load_record.new.device in
    let old = model_of c.args.self.now in
    let is = restored_is port_view old.device e c.in-Ok.ensures.consistent c.requires.held c.in-Ok.ensures.held c.in-Ok.ensures.port in
    let made = subst (λ (next : Option Part). EndsIn port_view (goes_to (record old { device = e }) c.args.epoch c.args.totals next) c.go_to.result (model_of c.go_to.new.self)) c.part_after.ensures c.go_to.ensures.made in (
      Ok (held_values e),
      subst (λ (bytes : List ℕ). IsRecord bytes (held_values e)) c.bytes.ensures.value c.in-Ok.ensures.ok,
      subst (λ (d : DeviceModel g.row.P.Denot). EndsIn port_view (goes_to (record old { device = d }) c.args.epoch c.args.totals (part_after part.Record)) c.go_to.result (model_of c.go_to.new.self)) (sym is) made,
    )

pub returns-in-Err-clause-row : goal.returns-in-Err-clause-row
returns-in-Err-clause-row g c =
    let old = model_of c.args.self.now in (
      Err c.in-Err.fault,
      subst (λ (bytes : List ℕ). IsRefused c.in-Err.fault bytes) c.bytes.ensures.value c.in-Err.ensures.refused,
      record {
        answer_is = c.refusal.ensures ∙ ap (λ (h : HostParts g.row.P.Denot). Refused (message_from h.name c.args.epoch (body.Refuse reason.Record c.in-Err.fault.place))) c.empty.ensures.emptied;
        host_is = ap model_of c.empty.ensures.emptied ∙ ap (λ (d : DeviceModel g.row.P.Denot). emptied (record old { device = d })) c.in-Err.ensures.unchanged;
      },
    )
