use Rattle.std.proofs.Common.{ℕ, ◌+◌, List, sym, ◌∙◌, ap, arith, length, [], ◌∷◌}
use Rattle.crb_regs.specs.Registers.{is_lost}
use Rattle.crb_machine.specs.Values.{held_values}
use Rattle.device_record.specs.Records.{encode_record}
use Rattle.move_codec.specs.declared.message.Body.TheVariants as body
use Rattle.move_core.specs.declared.stage.MoveStage.TheVariants.{Offering}
use Rattle.move_core.specs.Parts.{model_of}
use Rattle.move_core.specs.Table.{message_from}
use Rattle.move_core.proofs.Offers.{not_lost}
use Rattle.move_core.proofs.parts.HostParts.offer_held.Goals as goal

pub returns-in-Ok-clause-offers : goal.returns-in-Ok-clause-offers
returns-in-Ok-clause-offers g c =
    let old = model_of c.args.self.now in
    let size = sym c.write-record.ensures.size ∙ ap length c.write-record.ensures.written in (
      ap is_lost (sym c.phase.ensures) ∙ not_lost c.phase.result c.in_default.not-Lost,
      record {
        below = omega arith;
        totals = _;
        asked = c.in-Ok.ensures;
        said = c.message.ensures ∙ ap (λ (n : ℕ). message_from old.name (old.top + 1) (body.Offer (n ∷ c.in-Ok.permanent ∷ c.in-Ok.volatile ∷ c.in-Ok.saved ∷ []))) size;
        new_is =
            ap (λ (n : ℕ). record old { top = old.top + 1; stage = Offering (old.top + 1) (n ∷ c.in-Ok.permanent ∷ c.in-Ok.volatile ∷ c.in-Ok.saved ∷ []); record_bytes = c.write-record.new.self }) size
            ∙ ap (λ (bytes : List ℕ). record old { top = old.top + 1; stage = Offering (old.top + 1) (length (encode_record (held_values old.device)) ∷ c.in-Ok.permanent ∷ c.in-Ok.volatile ∷ c.in-Ok.saved ∷ []); record_bytes = bytes }) c.write-record.ensures.written;
        fit = c.write-record.ensures.is_record;
      },
    )
