use Rattle.std.proofs.Common.{◌≡◌, ◌∙◌, true, eqb, get_or, sym, arith, rules}
use Rattle.vt_base.specs.declared.types.Kind.TheVariants.{Volatile}
use Rattle.tpm_core.specs.declared.algorithm.Algorithm.TheVariants.{Sha256, Sha384}
use Rattle.state_blobs.proofs.Fields.{started_read, decoded_running, banks_read, blob_there}
use Rattle.state_blobs.proofs.Values.{draws_field, running_fields, bank_read, running_is, stopped_read}
use Rattle.state_blobs.proofs.read.running_of.Goals as goal

pub returns-then-not-has_values : goal.returns-then-not-has_values
returns-then-not-has_values c v fit exact = sym (stopped_read v c.args.gather.now.begun exact (search rules))

pub returns : goal.returns
returns c v fit exact =
    let g = c.args.gather.now in
    let f = c.fields-fields.result.now in
    let valid = c.fields-fields.ensures.valid in
    let flag : eqb (get_or g.begun 9 0) 1 ≡ true = search rules in
    let on : v.started ≡ true = sym (started_read v g.begun exact) ∙ flag in
    let is = decoded_running v g.begun exact on in
    let own = banks_read Volatile v g.begun c.banks-banks.result is (c.banks-banks.ensures (omega (arith, blob_there Volatile g.begun (record { values = v; fit = fit; spelled = is })))) in
    let are = running_fields g.kind f g.begun v c.requires.kind valid c.fields-fields.ensures.body fit exact on in
    let bank = bank_read v f c.banks-banks.result fit valid own are in
    running_is v _ on (draws_field g.kind f g.begun v c.requires.kind valid c.fields-fields.ensures.body fit exact on) are.counter_is (bank Sha256) (c.registers_if_two.ensures ∙ bank Sha384)
