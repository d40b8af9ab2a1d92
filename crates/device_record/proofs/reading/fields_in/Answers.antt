use Rattle.std.proofs.Common.{rules, ◌≡◌, ◌∙◌, Ok, Err, sym, ap, arith}
use Rattle.vt_base.specs.Parsing.{parsed}
use Rattle.device_record.specs.Layouts.{Ending, record_layout}
use Rattle.device_record.proofs.Decided.{field_is_refused, cut_is_refused, more_is_refused, all_restores}
use Rattle.device_record.proofs.Room.{cut_is_short}
use Rattle.device_record.proofs.reading.fields_in.Goals as goal

pub overflow_cast-result : goal.overflow_cast-result
overflow_cast-result c = omega (arith, cut_is_short c.args.bytes.now c.in_default.field-0 (sym c.parse.ensures ∙ c.in_default.is))

pub returns-in_default-clause-refused : goal.returns-in_default-clause-refused
returns-in_default-clause-refused c = cut_is_refused c.args.bytes.now c.in_default.field-0 (sym c.parse.ensures ∙ c.in_default.is)

pub returns-in_err-fields-clause-refused : goal.returns-in_err-fields-clause-refused
returns-in_err-fields-clause-refused c =
    let is : parsed record_layout c.args.bytes.now ≡ Ok (Err c.in_err-fields.field-0.0) = sym c.parse.ensures ∙ c.in-Ok.is ∙ ap (λ (end : Ending). Ok end) c.in_err-fields.was in
    let refused = field_is_refused c.args.bytes.now c.in_err-fields.field-0.0 is in
    search rules

pub returns-then-bytes-total-clause-refused : goal.returns-then-bytes-total-clause-refused
returns-then-bytes-total-clause-refused c =
    let is : parsed record_layout c.args.bytes.now ≡ Ok (Ok c.in_ok-fields.fields) = sym c.parse.ensures ∙ c.in-Ok.is ∙ ap (λ (end : Ending). Ok end) c.in_ok-fields.was in
    rw c.from-total.ensures (more_is_refused c.in_ok-fields.fields c.args.bytes.now (search rules) is (omega arith))

pub returns-clause-ok : goal.returns-clause-ok
returns-clause-ok c =
    let is : parsed record_layout c.args.bytes.now ≡ Ok (Ok c.in_ok-fields.fields) = sym c.parse.ensures ∙ c.in-Ok.is ∙ ap (λ (end : Ending). Ok end) c.in_ok-fields.was in
    all_restores c.in_ok-fields.fields c.args.bytes.now (search rules) is (omega arith)
