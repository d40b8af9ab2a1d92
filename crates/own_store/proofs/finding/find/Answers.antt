use Rattle.std.proofs.Common.{◌∙◌, arith}
use Rattle.std.proofs.lemmas.Result.{IfOk-weaker, err_from_is_err_and}
use Rattle.own_store.specs.Finding.{IsChosen, IsFound}
use Rattle.own_store.proofs.Openings.{finds_in, finds_none}
use Rattle.own_store.proofs.Runs.{and_off, same_err, on_ok_always}
use Rattle.own_store.proofs.finding.find.Goals as goal

pub returns-clause-found : goal.returns-clause-found
returns-clause-found g c =
    let image = g.D.Disk.content c.args.disk.now in
    let one = c.in_ok-first.ensures in
    let two = c.in_ok-second.ensures in
    let synced = c.in_ok-sync.ensures.content in
    IfOk-weaker c.choose.result (λ f. IsChosen c.in_ok-first.first c.in_ok-second.second f) (λ f. IsFound image f)
    (λ f chosen. finds_in image _ _ c.in_ok-first.first c.in_ok-second.second f synced (one.content ∙ synced) one.reading two.reading chosen)
    c.choose.ensures.chosen

pub returns-clause-none : goal.returns-clause-none
returns-clause-none g c =
    let image = g.D.Disk.content c.args.disk.now in
    let one = c.in_ok-first.ensures in
    let two = c.in_ok-second.ensures in
    let synced = c.in_ok-sync.ensures.content in
    λ is. finds_none image _ _ c.in_ok-first.first c.in_ok-second.second synced (one.content ∙ synced) one.reading two.reading (c.choose.ensures.none.0 is)

pub returns-in_err-first-clause-fails : goal.returns-in_err-first-clause-fails
returns-in_err-first-clause-fails g c =
    let p = err_from_is_err_and c.from_residual-in_err-first.result c.from_residual-in_err-first.ensures.1 in
    rw (p.1, p.2) (λ is. and_off g.D.Disk.calls_done g.D.Disk.fails_at g.met.D.Disk.calls_join g.met.D.Disk.failure_joins c.args.disk.now c.sync.new.self c.read_slot.new.disk 1 1 3 (omega arith) c.in_ok-sync.ensures.calls
    (1, omega arith, c.in_err-first.ensures.fails (same_err _ _ is)))

pub returns-in_err-second-clause-fails : goal.returns-in_err-second-clause-fails
returns-in_err-second-clause-fails g c =
    let p = err_from_is_err_and c.from_residual-in_err-second.result c.from_residual-in_err-second.ensures.1 in
    rw (p.1, p.2) (λ is. and_off g.D.Disk.calls_done g.D.Disk.fails_at g.met.D.Disk.calls_join g.met.D.Disk.failure_joins c.args.disk.now c.read_slot.new.disk c.read_slot-2.new.disk 2 1 3 (omega arith)
    (g.met.D.Disk.calls_join c.args.disk.now c.sync.new.self c.read_slot.new.disk 1 1 c.in_ok-sync.ensures.calls c.in_ok-first.ensures.calls)
    (1, omega arith, c.in_err-second.ensures.fails (same_err _ _ is)))

pub returns-clause-calls : goal.returns-clause-calls
returns-clause-calls g c =
    on_ok_always c.choose.result (g.met.D.Disk.calls_join c.args.disk.now c.read_slot.new.disk c.read_slot-2.new.disk 2 1
    (g.met.D.Disk.calls_join c.args.disk.now c.sync.new.self c.read_slot.new.disk 1 1 c.in_ok-sync.ensures.calls c.in_ok-first.ensures.calls)
    c.in_ok-second.ensures.calls)

pub returns-clause-calls_without_entry : goal.returns-clause-calls_without_entry
returns-clause-calls_without_entry g c =
    λ _. g.met.D.Disk.calls_join c.args.disk.now c.read_slot.new.disk c.read_slot-2.new.disk 2 1
    (g.met.D.Disk.calls_join c.args.disk.now c.sync.new.self c.read_slot.new.disk 1 1 c.in_ok-sync.ensures.calls c.in_ok-first.ensures.calls)
    c.in_ok-second.ensures.calls
