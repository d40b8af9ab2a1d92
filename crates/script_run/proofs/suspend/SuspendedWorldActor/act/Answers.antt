use Rattle.std.proofs.Common.{◌∙◌, [], sym}
use Rattle.std.proofs.lemmas.List.{append-nil}
use Rattle.vt_transcript.specs.OneHost.{one_of_transcript}
use Rattle.script_run.specs.Start.{base_of}
use Rattle.script_run.proofs.Suspending.{suspended-more, not_draining}
use Rattle.script_run.proofs.suspend.SuspendedWorldActor.act.Goals as goal

pub returns : goal.returns
returns c = record {
  acts = (
    [],
    sym (append-nil c.args._into.now.items),
    λ first lines output before.
        let d = before.2 in (
          before.0,
          append-nil output ∙ before.1,
          suspended-more first.start lines c.args.self.now.world c.guest.new.self c.args.line.now c.in-Some.line c.guest.result d (sym c.plain_line.ensures.line ∙ c.in-Some.is)
              (c.guest.ensures.at_a d.here (base_of first.start) (one_of_transcript (base_of first.start) d.transcript) d.follows) (c.guest.ensures.steps (λ work none. not_draining c.args.self.now.world d.here none) (base_of first.start) first.start.piece d.hosts d.both) c.guest.ensures.others.running,
        ),
  );
}
