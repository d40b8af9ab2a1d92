use Rattle.std.proofs.Common.{◌≡◌, ◌∙◌, List, ℕ, [], ◌∷◌, ◌++◌, ap, sym, subst, arith}
use Rattle.std.proofs.lemmas.List.{append_cancel_left}
use Rattle.vt_script.specs.Drive.{drive_of}
use Rattle.script_run.specs.Loop.{HasResponded}
use Rattle.script_run.specs.Placed.{placed}
use Rattle.script_run.specs.Run.{spelled}
use Rattle.script_run.proofs.Placing.{can-respond}
use Rattle.script_run.proofs.Prefixes.{are-many, responded-more}
use Rattle.script_run.proofs.drive.DrivenPairActor.act.Goals as goal

pub respond-requires-clause-waits : goal.respond-requires-clause-waits
respond-requires-clause-waits c =
    let m = c.requires.may_act in
    let d = m.here.1 in
    can-respond m.first.start d.done c.args.self.now.pair d.driven (omega (arith, m.few, are-many drive_of spelled m.lines d.done d.are))

pub returns : goal.returns
returns c =
    let m = c.requires.may_act in
    let is = sym c.in_ok-line.ensures.line ∙ c.in-Some.is in
    let one = responded-more m.first.start m.lines m.output c.args.self.now.pair c.respond.new.pair c.args.line.now c.in-Some.line c.args.into.now.items c.respond.new.into.items m.here.1 is
    (c.in_ok-respond.ensures.ok m.first.start m.here.1.driven.history (placed m.first.start m.here.1.done) m.here.1.driven.waits) in
    record {
      acts = (
        one.0,
        one.1,
        λ first lines output before.
            let d = before.1 in
            let two = responded-more first.start lines output c.args.self.now.pair c.respond.new.pair c.args.line.now c.in-Some.line c.args.into.now.items c.respond.new.into.items d is
            (c.in_ok-respond.ensures.ok first.start d.driven.history (placed first.start d.done) d.driven.waits) in
            let same : two.0 ≡ one.0 = append_cancel_left c.args.into.now.items two.0 one.0 (sym two.1 ∙ one.1) in
            (before.0, subst (λ (x : List ℕ). HasResponded first.start (lines ++ c.args.line.now ∷ []) (output ++ x) c.respond.new.pair) same two.3),
      );
    }
