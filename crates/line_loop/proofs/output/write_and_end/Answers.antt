use Rattle.line_loop.proofs.Endings.{failed, finishes-first, finishes-next}
use Rattle.line_loop.proofs.output.write_and_end.Goals as goal

pub returns-in_default : goal.returns-in_default
returns-in_default g c = record {
  writes = finishes-first c.args.status _ _ c.args.pending.now c.args.text.now (record { prefix = c.in_default.ensures.all; room = λ fits. failed (c.in_default.ensures.succeeds_if_promised fits); faults = c.in_default.ensures.cause.failed });
}

pub returns-in_default-write_all : goal.returns-in_default-write_all
returns-in_default-write_all g c = record {
  writes = finishes-next c.args.status _ _ _ c.args.pending.now c.args.text.now (record { appends = c.in-Ok.ensures.all; room = c.in-Ok.ensures.room; faults = c.in-Ok.ensures.counts })
      (record { prefix = c.in_default-write_all.ensures.all; room = λ fits. failed (c.in_default-write_all.ensures.succeeds_if_promised fits); faults = c.in_default-write_all.ensures.cause.failed });
}
