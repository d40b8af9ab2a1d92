use Rattle.std.proofs.Common.{◌≤◌, ◌-◌, ℕ, List, false, refl, sym, ◌∙◌, ap, subst, arith}
use Rattle.own_store.specs.MemDisk.{MemoryDisk, IsConsistentDisk}
use Rattle.own_store.proofs.Replays.{consistent_after_sync}
use Rattle.own_store.proofs.memory.MemDisk.do_sync.Goals as goal

pub invariant_of-self : goal.invariant_of-self
invariant_of-self c =
    let enough : 1 ≤ c.self.inside.room = omega (arith, c.requires.room, ap (λ (d : MemoryDisk). d.room) c.self.view_is) in
    subst (λ (l : List ℕ). IsConsistentDisk c.self.inside.bytes.value l c.add.new.self false (c.self.inside.room - 1)) (sym (c.copy_all.ensures ∙ c.deref.ensures))
    (consistent_after_sync c.self.inside.bytes.value c.self.inside.synced.value c.self.inside.calls c.add.new.self c.self.inside.pending c.self.inside.room _ c.self.invariant enough refl
    c.add.ensures.steps c.add.ensures.entries c.add.ensures.bytes)
