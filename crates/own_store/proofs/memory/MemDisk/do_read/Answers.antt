use Rattle.std.proofs.Common.{◌≤◌, refl, ap, arith}
use Rattle.own_store.specs.MemDisk.{MemoryDisk}
use Rattle.own_store.proofs.Replays.{consistent_after_read}
use Rattle.own_store.proofs.memory.MemDisk.do_read.Goals as goal

pub invariant_of-self : goal.invariant_of-self
invariant_of-self c =
    let enough : 1 ≤ c.self.inside.room = omega (arith, c.requires.room, ap (λ (d : MemoryDisk). d.room) c.self.view_is) in
    consistent_after_read c.self.inside.bytes.value c.self.inside.synced.value c.self.inside.calls c.add.new.self c.self.inside.pending c.self.inside.room _ c.self.invariant enough refl
    c.add.ensures.steps c.add.ensures.entries c.add.ensures.bytes
