use Rattle.std.proofs.Common.{◌∙◌, arith}
use Rattle.vt_base.specs.declared.types.Kind.TheVariants.{Permanent}
use Rattle.state_blobs.proofs.Fields.{permanent_size, banks_read, seed_read, boots_read}
use Rattle.state_blobs.proofs.Values.{permanent_body_read, seed_field, boots_field}
use Rattle.state_blobs.proofs.read.permanent_of.Goals as goal

pub returns-clause-seed : goal.returns-clause-seed
returns-clause-seed c v fit is =
    let g = c.args.gather.now in
    let f = c.fields-fields.result.now in
    let body = permanent_body_read g.kind f g.begun c.requires.kind c.fields-fields.ensures.valid c.fields-fields.ensures.body (permanent_size g.begun c.requires.blob) in
    seed_field f g.begun c.fields-fields.ensures.valid body ∙ seed_read v g.begun fit is

pub returns-clause-banks : goal.returns-clause-banks
returns-clause-banks c v fit is =
    let g = c.args.gather.now in
    banks_read Permanent v g.begun c.banks.result is (c.banks.ensures (omega (arith, permanent_size g.begun c.requires.blob)))

pub returns-clause-boots : goal.returns-clause-boots
returns-clause-boots c v fit is =
    let g = c.args.gather.now in
    let f = c.fields-fields.result.now in
    let body = permanent_body_read g.kind f g.begun c.requires.kind c.fields-fields.ensures.valid c.fields-fields.ensures.body (permanent_size g.begun c.requires.blob) in
    boots_field f g.begun c.fields-fields.ensures.valid body ∙ boots_read v g.begun fit is
