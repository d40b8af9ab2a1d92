use Rattle.std.proofs.Common.{List, ℕ, subst}
use Rattle.crb_port.specs.Calls.{Posts}
use Rattle.crb_port.specs.declared.job.Outcome.TheVariants.{Cancelled}
use Rattle.crb_worker.proofs.worker.answer_cancelled.Goals as goal

pub returns-clause-posted : goal.returns-clause-posted
returns-clause-posted g c =
    let Goes : List ℕ → Type 0 = λ buf. Posts (g.P.PortModel.port_view c.args.port.now) (record { number = c.args.job.number; outcome = Cancelled; buf = buf }) (g.P.PortModel.port_view c.post.new.self) in
    subst Goes c.write_short.ensures.response c.post.ensures.posts
