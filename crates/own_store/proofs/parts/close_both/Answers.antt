use Rattle.std.proofs.Common.{◌==◌, ℕ, ◌∙◌, ap, arith}
use Rattle.std.proofs.lemmas.Result.{on_ok_weaker}
use Rattle.own_store.specs.Disk.{Image}
use Rattle.own_store.specs.Slots.{is_open}
use Rattle.own_store.specs.declared.slot.Slot.TheVariants.{First, Second}
use Rattle.own_store.proofs.Slots.{closed_gate}
use Rattle.own_store.proofs.Runs.{and_call, and_off, as_err}
use Rattle.own_store.proofs.parts.close_both.Goals as goal

pub returns-clause-first : goal.returns-clause-first
returns-clause-first g c =
    let one = c.in_ok-write_at.ensures.written in
    let two = c.in_ok-write_at-2.ensures.written in
    on_ok_weaker c.sync.result
    (λ same. ap (λ (d : Image). is_open d First) same ∙ ap (λ (n : ℕ). n == 0xA5) (two.elsewhere.before 0 (omega arith)) ∙ closed_gate _ First _ c.place.ensures one.range)
    c.sync.ensures.content

pub returns-clause-second : goal.returns-clause-second
returns-clause-second g c =
    let two = c.in_ok-write_at-2.ensures.written in
    on_ok_weaker c.sync.result (λ same. ap (λ (d : Image). is_open d Second) same ∙ closed_gate _ Second _ c.place-2.ensures two.range) c.sync.ensures.content

pub returns-in_err-write_at-2-clause-calls : goal.returns-in_err-write_at-2-clause-calls
returns-in_err-write_at-2-clause-calls g c =
    as_err g.D.Disk.calls_done g.D.Disk.fails_at 3 c.args.disk.now c.write_at-2.new.self c.from_residual-in_err-write_at-2.result c.from_residual-in_err-write_at-2.ensures.0
    (and_off g.D.Disk.calls_done g.D.Disk.fails_at g.met.D.Disk.calls_join g.met.D.Disk.failure_joins c.args.disk.now c.write_at.new.self c.write_at-2.new.self 1 1 3 (omega arith) c.in_ok-write_at.ensures.calls (1, omega arith, c.in_err-write_at-2.ensures.calls))

pub returns-clause-calls : goal.returns-clause-calls
returns-clause-calls g c =
    and_call g.D.Disk.calls_done g.D.Disk.fails_at g.met.D.Disk.calls_join g.met.D.Disk.failure_joins c.args.disk.now c.write_at-2.new.self c.sync.new.self 2 c.sync.result
    (g.met.D.Disk.calls_join c.args.disk.now c.write_at.new.self c.write_at-2.new.self 1 1 c.in_ok-write_at.ensures.calls c.in_ok-write_at-2.ensures.calls) c.sync.ensures.calls
