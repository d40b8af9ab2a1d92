use Rattle.std.proofs.Common.{List, ℕ, refl, sym, subst}
use Rattle.std.specs.Prelude.{IfSome}
use Rattle.script_run.specs.Actions.{reading_of}
use Rattle.script_run.specs.Ends.{EndOf, HasEnd}
use Rattle.script_run.specs.Output.{seen}
use Rattle.script_run.specs.Run.{Leaves}
use Rattle.script_run.specs.Words.{HasPiece}
use Rattle.script_run.specs.declared.action.Action.{Action}
use Rattle.script_run.specs.declared.ran.End.TheVariants.{Nothing}
use Rattle.script_run.proofs.Endings.{of-any}
use Rattle.script_run.proofs.top.run_action.Goals as goal

pub returns-in-Replay : goal.returns-in-Replay
returns-in-Replay g c =
    let is = sym c.in-Replay.is in
    record {
      leaves = subst (λ (x : Action). IfSome (g.S.Source.left c.args.source.now) (λ (input : List ℕ). Leaves c.replay.result.status (reading_of x input) (g.S.Source.left c.replay.new.source) (seen (g.K.Sink.written c.args.sink.now) (g.K.Sink.room c.args.sink.now) (g.K.Sink.faults c.args.sink.now)) (seen (g.K.Sink.written c.replay.new.sink) (g.K.Sink.room c.replay.new.sink) (g.K.Sink.faults c.replay.new.sink)))) is c.replay.ensures.writes;
      hands_out = subst (λ (x : Action). IfSome (g.S.Source.left c.args.source.now) (λ (input : List ℕ). EndOf x input c.replay.result.status c.replay.result.end)) is c.replay.ensures.hands_out;
      hands_out_on_ok = subst (λ (x : Action). HasEnd x c.replay.result.status c.replay.result.end) is c.replay.ensures.of_world;
      causes = c.replay.ensures.causes;
    }

pub returns-in-Drive : goal.returns-in-Drive
returns-in-Drive g c =
    let is = sym c.in-Drive.is in
    record {
      leaves = subst (λ (x : Action). IfSome (g.S.Source.left c.args.source.now) (λ (input : List ℕ). Leaves c.drive.result.status (reading_of x input) (g.S.Source.left c.drive.new.source) (seen (g.K.Sink.written c.args.sink.now) (g.K.Sink.room c.args.sink.now) (g.K.Sink.faults c.args.sink.now)) (seen (g.K.Sink.written c.drive.new.sink) (g.K.Sink.room c.drive.new.sink) (g.K.Sink.faults c.drive.new.sink)))) is c.drive.ensures.writes;
      hands_out = subst (λ (x : Action). IfSome (g.S.Source.left c.args.source.now) (λ (input : List ℕ). EndOf x input c.drive.result.status c.drive.result.end)) is c.drive.ensures.hands_out;
      hands_out_on_ok = subst (λ (x : Action). HasEnd x c.drive.result.status c.drive.result.end) is c.drive.ensures.of_pair;
      causes = c.drive.ensures.causes;
    }

pub returns-in-Suspend : goal.returns-in-Suspend
returns-in-Suspend g c =
    let is = sym c.in-Suspend.is in
    record {
      leaves = subst (λ (x : Action). IfSome (g.S.Source.left c.args.source.now) (λ (input : List ℕ). Leaves c.suspend.result (reading_of x input) (g.S.Source.left c.suspend.new.source) (seen (g.K.Sink.written c.args.sink.now) (g.K.Sink.room c.args.sink.now) (g.K.Sink.faults c.args.sink.now)) (seen (g.K.Sink.written c.suspend.new.sink) (g.K.Sink.room c.suspend.new.sink) (g.K.Sink.faults c.suspend.new.sink)))) is c.suspend.ensures.writes;
      hands_out = subst (λ (x : Action). IfSome (g.S.Source.left c.args.source.now) (λ (input : List ℕ). EndOf x input c.suspend.result Nothing)) is (of-any (g.S.Source.left c.args.source.now) refl);
      hands_out_on_ok = subst (λ (x : Action). HasEnd x c.suspend.result Nothing) is refl;
      causes = c.suspend.ensures.causes;
    }

pub returns-in-Resume : goal.returns-in-Resume
returns-in-Resume g c =
    let is = sym c.in-Resume.is in
    record {
      leaves = subst (λ (x : Action). IfSome (g.S.Source.left c.args.source.now) (λ (input : List ℕ). Leaves c.resume.result.status (reading_of x input) (g.S.Source.left c.resume.new.source) (seen (g.K.Sink.written c.args.sink.now) (g.K.Sink.room c.args.sink.now) (g.K.Sink.faults c.args.sink.now)) (seen (g.K.Sink.written c.resume.new.sink) (g.K.Sink.room c.resume.new.sink) (g.K.Sink.faults c.resume.new.sink)))) is c.resume.ensures.writes;
      hands_out = subst (λ (x : Action). IfSome (g.S.Source.left c.args.source.now) (λ (input : List ℕ). EndOf x input c.resume.result.status c.resume.result.end)) is c.resume.ensures.hands_out;
      hands_out_on_ok = subst (λ (x : Action). HasEnd x c.resume.result.status c.resume.result.end) is c.resume.ensures.of_world;
      causes = c.resume.ensures.causes;
    }

pub returns-in-Check : goal.returns-in-Check
returns-in-Check g c =
    let is = sym c.in-Check.is in
    record {
      leaves = subst (λ (x : Action). IfSome (g.S.Source.left c.args.source.now) (λ (input : List ℕ). Leaves c.check.result (reading_of x input) (g.S.Source.left c.check.new.source) (seen (g.K.Sink.written c.args.sink.now) (g.K.Sink.room c.args.sink.now) (g.K.Sink.faults c.args.sink.now)) (seen (g.K.Sink.written c.check.new.sink) (g.K.Sink.room c.check.new.sink) (g.K.Sink.faults c.check.new.sink)))) is c.check.ensures.writes;
      hands_out = subst (λ (x : Action). IfSome (g.S.Source.left c.args.source.now) (λ (input : List ℕ). EndOf x input c.check.result Nothing)) is (of-any (g.S.Source.left c.args.source.now) refl);
      hands_out_on_ok = subst (λ (x : Action). HasEnd x c.check.result Nothing) is refl;
      causes = c.check.ensures.causes;
    }

pub replay-requires : goal.replay-requires
replay-requires g c = record { piece = subst HasPiece c.in-Replay.is c.requires }

pub drive-requires : goal.drive-requires
drive-requires g c = record { piece = subst HasPiece c.in-Drive.is c.requires }

pub suspend-requires : goal.suspend-requires
suspend-requires g c = record { piece = subst HasPiece c.in-Suspend.is c.requires }

pub resume-requires : goal.resume-requires
resume-requires g c = record { piece = subst HasPiece c.in-Resume.is c.requires }
