use Rattle.std.proofs.Common.{map, ap, sym, ◌∙◌, arith, refl, Some, None}
use Rattle.std.specs.String.{string_bytes}
use Rattle.std.proofs.lemmas.Str.Pattern.{split_parts}
use Rattle.script_run.proofs.Words.{no-words, cut-words, split-one, split-two, no-split}
use Rattle.script_run.proofs.options.first_option.Goals as goal

pub returns-in_err-value-in-None-clause-none : goal.returns-in_err-value-in-None-clause-none
returns-in_err-value-in-None-clause-none c =
    let lacks = split_parts 61 c.as_str-first.result.now None c.in-None.ensures.cases (omega arith) in
    let cut = cut-words c.args.words.now c.in_ok-first.rest.now c.in_ok-first.first.now c.as_str-first.result.now c.in_ok-first.ensures.cases.0 c.as_str-first.ensures.value in
    rw c.from_residual-in_err-value-in-None.ensures (no-split (map string_bytes c.args.words.now) c.as_str-first.result.now (map string_bytes c.in_ok-first.rest.now) cut (no-words c.in_ok-first.rest.now c.in_err-value-in-None.ensures.cases) lacks)

pub returns-in-Some-clause-named : goal.returns-in-Some-clause-named
returns-in-Some-clause-named c =
    let parts = split_parts 61 c.as_str-first.result.now (Some (c.in-Some.name, c.in-Some.value)) c.in-Some.ensures.cases (omega arith) in
    split-one (map string_bytes c.args.words.now) c.as_str-first.result.now c.in-Some.name.now c.in-Some.value.now (map string_bytes c.in_ok-first.rest.now)
    (cut-words c.args.words.now c.in_ok-first.rest.now c.in_ok-first.first.now c.as_str-first.result.now c.in_ok-first.ensures.cases.0 c.as_str-first.ensures.value) parts.0 parts.1

pub returns-in_ok-value-in-None-clause-named : goal.returns-in_ok-value-in-None-clause-named
returns-in_ok-value-in-None-clause-named c =
    let lacks = split_parts 61 c.as_str-first.result.now None c.in-None.ensures.cases (omega arith) in
    split-two (map string_bytes c.args.words.now) c.as_str-first.result.now c.as_str.result.now (map string_bytes c.in_ok-first.rest.now) (map string_bytes c.in_ok-value-in-None.behind.now)
    (cut-words c.args.words.now c.in_ok-first.rest.now c.in_ok-first.first.now c.as_str-first.result.now c.in_ok-first.ensures.cases.0 c.as_str-first.ensures.value)
    (cut-words c.in_ok-first.rest.now c.in_ok-value-in-None.behind.now c.in_ok-value-in-None.value.now c.as_str.result.now c.in_ok-value-in-None.ensures.cases.0 c.as_str.ensures.value) lacks
