use Rattle.std.proofs.Common.{◌++◌, ap, sym, ◌∙◌, List, ℕ}
use Rattle.std.proofs.lemmas.List.{set-append_right}
use Rattle.vt_base.specs.Numbers.{long}
use Rattle.state_blobs.proofs.body_fields.set_permanent_byte.Goals as goal

pub returns-else-i-lt-BOOTS_PLACE : goal.returns-else-i-lt-BOOTS_PLACE
returns-else-i-lt-BOOTS_PLACE c =
    let f = c.args.fields.now in
    ap (λ (bytes : List ℕ). f.seed ++ bytes) c.long_with-fields.ensures ∙ sym (set-append_right f.seed (long f.boots) 32 c.args.i c.args.byte c.requires.valid.seed c.if-i-lt-BOOTS_PLACE.false)
