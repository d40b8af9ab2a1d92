use Rattle.std.proofs.Common.{map, ap, sym, ◌∙◌, ◌∷◌, [], arith, Some}
use Rattle.std.specs.String.{string_bytes}
use Rattle.script_run.specs.declared.action.Task.TheVariants.{Bulk}
use Rattle.script_run.proofs.Tasks.{two-words, same-numbers}
use Rattle.script_run.proofs.action.bulk_of.Goals as goal

pub returns-clause-only : goal.returns-clause-only
returns-clause-only c = λ seed count has.
    let spelled = two-words c.args.words.now c.seed-item.result c.count-item.result c.in-len2.len_at_least c.in-len2.len_below c.seed-item.is c.count-item.is in
    let cut = spelled ∙ ap (λ x. x ∷ string_bytes c.count-item.result ∷ []) (sym c.as_str.ensures.value) ∙ ap (λ y. c.as_str.result.now ∷ y ∷ []) (sym c.as_str-2.ensures.value) in
    let same = same-numbers (map string_bytes c.args.words.now) c.as_str.result.now c.as_str-2.result.now c.in_ok-seed.seed c.in_ok-count.count seed count cut
    c.in_ok-seed.ensures.named.0 (omega (arith, c.in_ok-seed.ensures.named.1)) c.in_ok-count.ensures.named.0 (omega (arith, c.in_ok-count.ensures.named.1)) has in
    ap Some (ap (λ n. Bulk n c.in_ok-count.count) same.0 ∙ ap (Bulk seed) same.1)
