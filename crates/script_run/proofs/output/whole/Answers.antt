use Rattle.std.proofs.Common.{◌∙◌, List, ℕ, subst, inr}
use Rattle.vt_base.specs.declared.status.Status.TheVariants.{Ok}
use Rattle.script_run.specs.Output.{seen, Finishes}
use Rattle.script_run.proofs.output.whole.Goals as goal

pub returns-in-Ok : goal.returns-in-Ok
returns-in-Ok g c = record {
  says = inr (subst (λ (text : List ℕ). Finishes Ok text c.write_and_end.result (seen (g.K.Sink.written c.args.sink.now) (g.K.Sink.room c.args.sink.now) (g.K.Sink.faults c.args.sink.now)) (seen (g.K.Sink.written c.write_and_end.new.sink) (g.K.Sink.room c.write_and_end.new.sink) (g.K.Sink.faults c.write_and_end.new.sink))) (c.as_bytes.ensures.value ∙ c.in-Ok.ensures.ok) c.write_and_end.ensures.writes);
}
