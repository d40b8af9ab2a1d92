use Rattle.std.proofs.Common.{ℕ, sym, subst, arith}
use Rattle.vt_base.specs.declared.types.Kind.TheVariants.{Volatile, Saved}
use Rattle.tpm_core.specs.Steps.{IsValid}
use Rattle.state_blobs.specs.Assembly.{IsNoneOrOfVersion, IsAssembled}
use Rattle.state_blobs.proofs.Fields.{permanent_size}
use Rattle.state_blobs.proofs.Joined.{put_together}
use Rattle.state_blobs.proofs.assembly.joined.Goals as goal

pub disagreement-requires-clause-volatile : goal.disagreement-requires-clause-volatile
disagreement-requires-clause-volatile c =
    let version = c.banks.ensures (omega (arith, permanent_size c.args.p.now.begun c.requires.permanent)) in
    subst (λ (n : ℕ). IsNoneOrOfVersion Volatile n c.args.v.now.begun) version c.requires.volatile

pub disagreement-requires-clause-saved : goal.disagreement-requires-clause-saved
disagreement-requires-clause-saved c =
    let version = c.banks.ensures (omega (arith, permanent_size c.args.p.now.begun c.requires.permanent)) in
    subst (λ (n : ℕ). IsNoneOrOfVersion Saved n c.args.z.now.begun) version c.requires.saved

pub of_parts-requires : goal.of_parts-requires
of_parts-requires c =
    (put_together c.args.p.now.begun c.args.v.now.begun c.args.z.now.begun _ _ _ _ _ c.parts_with-parts.result c.requires.permanent c.requires.volatile c.requires.saved c.in_default.ensures.agrees
    c.permanent_of-banks.ensures.seed c.permanent_of-banks.ensures.banks c.permanent_of-banks.ensures.boots c.running_of.ensures c.saved_of.ensures c.parts_with-parts.ensures).0

pub returns-clause-ok : goal.returns-clause-ok
returns-clause-ok c =
    let all = put_together c.args.p.now.begun c.args.v.now.begun c.args.z.now.begun _ _ _ _ _ c.parts_with-parts.result c.requires.permanent c.requires.volatile c.requires.saved c.in_default.ensures.agrees
    c.permanent_of-banks.ensures.seed c.permanent_of-banks.ensures.banks c.permanent_of-banks.ensures.boots c.running_of.ensures c.saved_of.ensures c.parts_with-parts.ensures in
    let fit : IsValid c.parts_with-parts.result = subst IsValid c.of_parts.ensures.parts c.of_parts.ensures.fit in
    subst (IsAssembled c.args.p.now.begun c.args.v.now.begun c.args.z.now.begun) (sym c.of_parts.ensures.parts) (all.1 fit)
