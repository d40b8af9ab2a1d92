use Rattle.std.proofs.Common.{List, ◌∷◌, subst, arith}
use Rattle.vt_script.specs.declared.drive.DriveLine.{DriveLine}
use Rattle.bulk_lines.specs.Summaries.{IsSummaryOf, command_count, move_count}
use Rattle.script_run.specs.Driven.{driven}
use Rattle.script_run.specs.Calls.{HasDriven}
use Rattle.script_run.specs.Placed.{placed}
use Rattle.script_run.specs.Start.{base_of, default_start}
use Rattle.script_run.proofs.Bulks.{done-one, done-all, counts-is, counts-small, summed-more}
use Rattle.script_run.proofs.Placing.{can-respond}
use Rattle.script_run.proofs.Prefixes.{driven-more}
use Rattle.script_run.proofs.bulk.do_lines.Goals as goal

pub add-requires : goal.add-requires
add-requires c =
    let done = c.loop-line.invariant.done in
    let small = counts-small c.args.lines done.0 c.loop-line.lines done.1 c.requires.within_limit in
    record { room = omega (arith, small, done.3.commanded, done.3.moved) }

pub respond-requires-clause-waits : goal.respond-requires-clause-waits
respond-requires-clause-waits c =
    let done = c.loop-line.invariant.done in
    can-respond default_start done.0 c.loop-line.pair done.2 (omega (arith, counts-small c.args.lines done.0 c.loop-line.lines done.1 c.requires.within_limit, counts-is done.0))

pub loop-line-preserved-in_ok-respond : goal.loop-line-preserved-in_ok-respond
loop-line-preserved-in_ok-respond c =
    let done = c.loop-line.invariant.done in
    let cut = rw c.in-Some.is at c.in_ok-line.ensures.line in
    let on = driven-more default_start done.0 c.loop-line.pair c.respond.new.pair c.in-Some.line c.new-output.result.items c.respond.new.into.items done.2 (c.in_ok-respond.ensures.ok default_start done.2.history (placed default_start done.0) done.2.waits) in
    record {
      done = (
        c.in-Some.line ∷ done.0,
        done-one c.args.lines done.0 c.loop-line.lines c.next.new.self c.in-Some.line done.1 cut,
        on.driven,
        summed-more default_start done.0 c.in-Some.line c.new-output.result.items c.respond.new.into.items c.deref.result.now c.respond.new.pair c.add.new.self c.new-output.ensures.items c.deref.ensures.value on
            (c.add.ensures.added (command_count done.0) (move_count done.0) (driven (base_of default_start).tpm done.0) done.3),
      );
    }

pub loop-line-preserved : goal.loop-line-preserved
loop-line-preserved c =
    let done = c.loop-line.invariant.done in
    let cut = rw c.in-Some.is at c.in_ok-line.ensures.line in
    let on = driven-more default_start done.0 c.loop-line.pair c.respond.new.pair c.in-Some.line c.new-output.result.items c.respond.new.into.items done.2 (c.in_ok-respond.ensures.ok default_start done.2.history (placed default_start done.0) done.2.waits) in
    record {
      done = (
        c.in-Some.line ∷ done.0,
        done-one c.args.lines done.0 c.loop-line.lines c.next.new.self c.in-Some.line done.1 cut,
        on.driven,
        summed-more default_start done.0 c.in-Some.line c.new-output.result.items c.respond.new.into.items c.deref.result.now c.respond.new.pair c.add.new.self c.new-output.ensures.items c.deref.ensures.value on
            (c.add.ensures.added (command_count done.0) (move_count done.0) (driven (base_of default_start).tpm done.0) done.3),
      );
    }

pub returns-clause-summed : goal.returns-clause-summed
returns-clause-summed c =
    let done = c.loop-line.invariant.done in
    let none = rw c.in_default.is at c.in_ok-line.ensures.line in
    subst (λ (lines : List DriveLine). IsSummaryOf c.loop-line.summary (command_count lines) (move_count lines) (driven (base_of default_start).tpm lines)) (done-all c.args.lines done.0 c.loop-line.lines done.1 none) done.3

pub returns-clause-driven : goal.returns-clause-driven
returns-clause-driven c =
    let done = c.loop-line.invariant.done in
    let none = rw c.in_default.is at c.in_ok-line.ensures.line in
    subst (λ (lines : List DriveLine). HasDriven default_start lines c.loop-line.pair) (done-all c.args.lines done.0 c.loop-line.lines done.1 none) done.2
