use Rattle.std.proofs.Common.{sym, subst}
use Rattle.own_store.specs.Body.{stored_in}
use Rattle.own_store.specs.Ledger.{IsNewer}
use Rattle.own_store.specs.declared.slot.Slot.TheVariants.{First}
use Rattle.own_store.proofs.Slots.{alone, closed_stored, empty_force}
use Rattle.own_store.proofs.Runs.{and_then}
use Rattle.own_store.proofs.parts.start_with.Goals as goal

pub put_body-requires-clause-unused : goal.put_body-requires-clause-unused
put_body-requires-clause-unused g c = alone _ First (closed_stored _ First c.in_ok-close_both.ensures.first)

pub put_body-requires-clause-newer : goal.put_body-requires-clause-newer
put_body-requires-clause-newer g c =
    subst (IsNewer (stored_in c.args.bytes.now)) (sym (empty_force _ c.in_ok-close_both.ensures.first c.in_ok-close_both.ensures.second)) c.requires.entry

pub returns-clause-calls : goal.returns-clause-calls
returns-clause-calls g c =
    and_then g.D.Disk.calls_done g.D.Disk.fails_at g.met.D.Disk.calls_join g.met.D.Disk.failure_joins c.args.disk.now c.close_both.new.disk c.put_body.new.disk 3 4 c.put_body.result c.in_ok-close_both.ensures.calls c.put_body.ensures.calls
