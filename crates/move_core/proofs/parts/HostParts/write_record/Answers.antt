use Rattle.std.proofs.Common.{refl, sym, ap, ◌∙◌}
use Rattle.crb_regs.specs.Registers.{is_lost}
use Rattle.move_core.proofs.Offers.{not_lost, runs_at}
use Rattle.move_core.proofs.parts.HostParts.write_record.Goals as goal

pub returns-in-Lost-clause-records : goal.returns-in-Lost-clause-records
returns-in-Lost-clause-records g c = (
  runs_at c.args.self.now.stage (sym c.is_running.ensures ∙ c.if-not-is_running.false),
  (
    record { device = c.stop.new.self; stops = c.in_default.ensures.stops; resumes = record { rest = refl; device = c.go_on.ensures.goes_on } },
    ap is_lost (sym c.in-Lost.ensures),
  ),
)

pub returns-clause-records : goal.returns-clause-records
returns-clause-records g c = (
  runs_at c.args.self.now.stage (sym c.is_running.ensures ∙ c.if-not-is_running.false),
  (
    record { device = c.stop.new.self; stops = c.in_default.ensures.stops; resumes = record { rest = refl; device = c.go_on-2.ensures.goes_on } },
    ap is_lost (sym c.phase.ensures) ∙ not_lost c.phase.result c.in_default-phase.not-Lost,
    record { fit = c.write_record-count.ensures.fit; spelled = c.write_record-count.ensures.text },
  ),
)
