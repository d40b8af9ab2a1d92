use Rattle.std.proofs.Common.{◌≡◌, ◌+◌, ℕ, subst, arith}
use Rattle.own_store.specs.Disk.{MakesCalls}
use Rattle.own_store.specs.Slots.{calls_to_close}
use Rattle.own_store.proofs.Runs.{and_then, and_off, as_err}
use Rattle.own_store.proofs.parts.put_body.Goals as goal

pub returns-in_err-close_gate-clause-calls : goal.returns-in_err-close_gate-clause-calls
returns-in_err-close_gate-clause-calls g c =
    let closing = c.in_err-close_gate.ensures.calls in
    as_err g.D.Disk.calls_done g.D.Disk.fails_at (calls_to_close c.args.was_open + 4) c.args.disk.now c.close_gate.new.disk c.from_residual.result c.from_residual.ensures.0
    (closing.0, omega (arith, closing.1), closing.2)

pub returns-in_err-write_body-clause-calls : goal.returns-in_err-write_body-clause-calls
returns-in_err-write_body-clause-calls g c =
    let n = calls_to_close c.args.was_open in
    as_err g.D.Disk.calls_done g.D.Disk.fails_at (n + 4) c.args.disk.now c.write_body.new.disk c.from_residual-in_err-write_body.result c.from_residual-in_err-write_body.ensures.0
    (and_off g.D.Disk.calls_done g.D.Disk.fails_at g.met.D.Disk.calls_join g.met.D.Disk.failure_joins c.args.disk.now c.close_gate.new.disk c.write_body.new.disk n 2 (n + 4) (omega arith) c.in_ok-close_gate.ensures.calls c.in_err-write_body.ensures.calls)

pub returns-clause-calls : goal.returns-clause-calls
returns-clause-calls g c =
    let n = calls_to_close c.args.was_open in
    let same : n + 2 + 2 ≡ n + 4 = omega arith in
    subst (λ (count : ℕ). MakesCalls g.D.Disk.calls_done g.D.Disk.fails_at count c.args.disk.now c.open_gate.new.disk c.open_gate.result) same
    (and_then g.D.Disk.calls_done g.D.Disk.fails_at g.met.D.Disk.calls_join g.met.D.Disk.failure_joins c.args.disk.now c.write_body.new.disk c.open_gate.new.disk (n + 2) 2 c.open_gate.result
    (g.met.D.Disk.calls_join c.args.disk.now c.close_gate.new.disk c.write_body.new.disk n 2 c.in_ok-close_gate.ensures.calls c.in_ok-write_body.ensures.calls)
    c.open_gate.ensures.calls)
