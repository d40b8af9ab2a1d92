use Rattle.std.proofs.Common.{◌≡◌, length, rules}
use Rattle.own_store.proofs.Openings.{reads_at}
use Rattle.own_store.proofs.finding.read_slot.Goals as goal

pub returns-clause-reading : goal.returns-clause-reading
returns-clause-reading g c =
    let size : length c.deref_mut.result.now ≡ 8192 = search rules in
    reads_at (g.D.Disk.content c.args.disk.now) c.args.slot c.place.result (length c.deref_mut.result.now) c.deref.result.now c.read.new.into c.in_ok-reading_of.field-0
    c.deref.ensures c.in_ok-read.ensures.bytes c.place.ensures size c.in_ok-reading_of.ensures
