use Rattle.std.proofs.Common.{List, ℕ, ◌++◌, [], subst, inl, inr}
use Rattle.vt_base.specs.declared.status.Status.TheVariants.{Ok}
use Rattle.vt_seat.specs.Saving.{Saves}
use Rattle.vt_seat.specs.declared.saving.Saved.{Saved}
use Rattle.vt_seat.specs.declared.saving.Saved.TheVariants as saved
use Rattle.script_run.specs.Output.{seen, Finishes}
use Rattle.script_run.proofs.suspend.save.Goals as goal

pub returns-in-Ok-Whole : goal.returns-in-Ok-Whole
returns-in-Ok-Whole g c = record {
  writes = λ b piece t follows.
      let saves = subst (λ (s : Saved). Saves b t.history s c.new-stream.result.items c.save.new.into.items) c.in-Ok-Whole.field-0-is (c.in-Ok-Whole.ensures.saves b piece t follows) in
      let fresh = subst (λ (old : List ℕ). Saves b t.history saved.Whole old c.save.new.into.items) c.new-stream.ensures.items saves in
      let finishes = subst (λ (text : List ℕ). Finishes Ok (text ++ []) c.write_and_end.result (seen (g.K.Sink.written c.args.sink.now) (g.K.Sink.room c.args.sink.now) (g.K.Sink.faults c.args.sink.now)) (seen (g.K.Sink.written c.write_and_end.new.sink) (g.K.Sink.room c.write_and_end.new.sink) (g.K.Sink.faults c.write_and_end.new.sink))) c.deref.ensures.value c.write_and_end.ensures.writes in
      inl (c.save.new.into.items, fresh, finishes);
}

pub returns-in-Ok-NotYet : goal.returns-in-Ok-NotYet
returns-in-Ok-NotYet g c = record {
  writes = λ b piece t follows.
      let saves = subst (λ (s : Saved). Saves b t.history s c.new-stream.result.items c.save.new.into.items) c.in-Ok-NotYet.field-0-is (c.in-Ok-NotYet.ensures.saves b piece t follows) in
      let fresh = subst (λ (old : List ℕ). Saves b t.history (saved.NotYet c.in-Ok-NotYet.number) old c.save.new.into.items) c.new-stream.ensures.items saves in
      inr (inl (c.in-Ok-NotYet.number, c.save.new.into.items, fresh, c.not_yet.ensures.says));
}
