use Rattle.std.proofs.Common.{map, ap, sym, subst, Some}
use Rattle.std.specs.String.{string_bytes}
use Rattle.script_run.specs.declared.options.Options.{Options}
use Rattle.script_run.proofs.Words.{Continues, none-left, some-left, none-some, one-some, ends-with, ends-here, some-first, goes-on, goes-back}
use Rattle.script_run.proofs.options.Options.parse.Goals as goal

pub returns-in_err-name-clause-only : goal.returns-in_err-name-clause-only
returns-in_err-name-clause-only c = λ all are.
    let next = some-first c.loop-rest.given all (map string_bytes c.loop-rest.rest.now) (some-left c.loop-rest.rest.now c.is_empty.result c.is_empty.ensures c.loop-rest-test.true) (c.loop-rest.invariant.to all are) in
    absurd (c.in_err-name.ensures.none next.name next.value next.behind next.splits)

pub returns-in_err-given-clause-only : goal.returns-in_err-given-clause-only
returns-in_err-given-clause-only c = λ all are.
    let next = goes-on c.loop-rest.given all c.in_ok-name.name.now c.in_ok-name.value.now (map string_bytes c.in_ok-name.behind.now) (map string_bytes c.loop-rest.rest.now) c.in_ok-name.ensures.named (c.loop-rest.invariant.to all are) in
    absurd (none-some next.0 (c.in_err-given.ensures.only next.0 next.1))

pub loop-rest-preserved : goal.loop-rest-preserved
loop-rest-preserved c = record {
  to = λ all are.
      let next = goes-on c.loop-rest.given all c.in_ok-name.name.now c.in_ok-name.value.now (map string_bytes c.in_ok-name.behind.now) (map string_bytes c.loop-rest.rest.now) c.in_ok-name.ensures.named (c.loop-rest.invariant.to all are) in
      subst (λ (new : Options). Continues new all (map string_bytes c.in_ok-name.behind.now)) (sym (one-some c.in_ok-given.given next.0 (c.in_ok-given.ensures.only next.0 next.1))) next.2;
  from = λ all continues.
      c.loop-rest.invariant.from all
      (goes-back c.loop-rest.given all c.in_ok-name.name.now c.in_ok-name.value.now (map string_bytes c.in_ok-name.behind.now) (map string_bytes c.loop-rest.rest.now) c.in_ok-given.given c.in_ok-name.ensures.named c.in_ok-given.ensures.named continues);
}

pub returns-clause-named : goal.returns-clause-named
returns-clause-named c =
    let none = none-left c.loop-rest.rest.now c.is_empty.result c.is_empty.ensures c.loop-rest-test.false in
    c.loop-rest.invariant.from c.loop-rest.given (subst (Continues c.loop-rest.given c.loop-rest.given) (sym none) (ends-here c.loop-rest.given))

pub returns-clause-only : goal.returns-clause-only
returns-clause-only c = λ all are.
    let none = none-left c.loop-rest.rest.now c.is_empty.result c.is_empty.ensures c.loop-rest-test.false in
    ap Some (sym (ends-with c.loop-rest.given all (map string_bytes c.loop-rest.rest.now) none (c.loop-rest.invariant.to all are)))
