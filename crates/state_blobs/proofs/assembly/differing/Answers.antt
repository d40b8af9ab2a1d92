use Rattle.vt_base.specs.declared.types.Kind.TheVariants.{Volatile, Saved}
use Rattle.state_blobs.proofs.Joined.{AreFields, fields_agree, fields_disagree}
use Rattle.state_blobs.proofs.Values.{of_kind}
use Rattle.state_blobs.proofs.assembly.differing.Goals as goal

pub returns-in_err-i-clause-agrees : goal.returns-in_err-i-clause-agrees
returns-in_err-i-clause-agrees c =
    let z = c.args.saved.now in
    let v = c.args.volatile.now in
    let are : AreFields c.args.banks v.begun z.begun c.fields-2.result.now c.fields.result.now = record {
      running_valid = c.fields-2.ensures.valid;
      running_read = of_kind v.kind Volatile c.fields-2.result.now v.begun c.requires.kinds.0 c.fields-2.ensures.body;
      running_version = c.requires.volatile.1;
      state_valid = c.fields.ensures.valid;
      state_read = of_kind z.kind Saved c.fields.result.now z.begun c.requires.kinds.1 c.fields.ensures.body;
      state_version = c.requires.saved.1;
    } in
    rw c.from_residual.ensures (fields_agree c.args.banks v.begun z.begun c.fields-2.result.now c.fields.result.now are c.in_err-i.ensures.same)

pub returns-clause-place : goal.returns-clause-place
returns-clause-place c =
    let z = c.args.saved.now in
    let v = c.args.volatile.now in
    let are : AreFields c.args.banks v.begun z.begun c.fields-2.result.now c.fields.result.now = record {
      running_valid = c.fields-2.ensures.valid;
      running_read = of_kind v.kind Volatile c.fields-2.result.now v.begun c.requires.kinds.0 c.fields-2.ensures.body;
      running_version = c.requires.volatile.1;
      state_valid = c.fields.ensures.valid;
      state_read = of_kind z.kind Saved c.fields.result.now z.begun c.requires.kinds.1 c.fields.ensures.body;
      state_version = c.requires.saved.1;
    } in
    fields_disagree c.args.banks v.begun z.begun c.fields-2.result.now c.fields.result.now are c.in_ok-i.i c.in_ok-i.ensures.place c.requires.volatile.0 c.requires.saved.0 c.requires.started c.requires.there
