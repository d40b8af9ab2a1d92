use Rattle.std.proofs.Common.{sym, subst}
use Rattle.own_store.specs.Disk.{Image}
use Rattle.own_store.specs.Finding.{IsFound}
use Rattle.own_store.proofs.Openings.{is_ready}
use Rattle.own_store.proofs.ledger.Ledger.open.Goals as goal

pub invariant_of-ledger : goal.invariant_of-ledger
invariant_of-ledger g c =
    let e = c.in-Ok-find.ensures in
    let found = subst (λ (d : Image). IsFound d c.in-Ok-find.found) (sym e.content) e.found in
    λ _. is_ready g.D.Disk.content g.D.Disk.may_leave c.find.new.disk c.in-Ok-find.found e.durable found
