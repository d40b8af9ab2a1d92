use Rattle.std.proofs.Common.{◌≡◌, ◌∙◌, true, eqb, get_or, sym, ap, List, ℕ, refl, arith, rules}
use Rattle.std.specs.Prelude.{is_some}
use Rattle.vt_base.specs.declared.types.Kind.TheVariants.{Saved}
use Rattle.tpm_core.specs.declared.algorithm.Algorithm.TheVariants.{Sha384}
use Rattle.state_blobs.specs.Running.{registers_if_there}
use Rattle.state_blobs.proofs.Fields.{saved_read, decoded_saved, no_state_read, banks_read, blob_there}
use Rattle.state_blobs.proofs.Values.{state_is}
use Rattle.state_blobs.proofs.read.saved_of.Goals as goal

pub returns-then-not-has_values : goal.returns-then-not-has_values
returns-then-not-has_values c v fit exact = sym (no_state_read v c.args.gather.now.begun exact (search rules))

pub returns : goal.returns
returns c v fit exact =
    let g = c.args.gather.now in
    let f = c.fields-fields.result.now in
    let flag : eqb (get_or g.begun 9 0) 1 ≡ true = search rules in
    let there : is_some v.saved ≡ true = sym (saved_read v g.begun exact) ∙ flag in
    let is = decoded_saved v g.begun exact there in
    let own = banks_read Saved v g.begun c.banks-banks.result is (c.banks-banks.ensures (omega (arith, blob_there Saved g.begun (record { values = v; fit = fit; spelled = is })))) in
    state_is g.kind f g.begun v c.banks-banks.result _ c.requires.kind c.fields-fields.ensures.valid c.fields-fields.ensures.body fit exact own refl c.kept_registers.ensures
    (c.registers_if_two.ensures ∙ ap (λ (registers : List (List ℕ)). registers_if_there c.banks-banks.result Sha384 16 registers) c.kept_registers-2.ensures) v.saved refl there fit.kept_fits fit.kept_missing
