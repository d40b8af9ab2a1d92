use Rattle.std.proofs.Common.{◌≤◌, ◌+◌, ◌-◌, ℕ, List, true, length, refl, sym, ◌∙◌, ap, subst, arith, rules}
use Rattle.own_store.specs.Disk.{Written}
use Rattle.own_store.specs.Steps.{state, byte_at, overwritten}
use Rattle.own_store.specs.MemDisk.{MemoryDisk, IsConsistentDisk}
use Rattle.own_store.proofs.Replays.{consistent_after_write, written_to}
use Rattle.own_store.proofs.memory.MemDisk.do_write.Goals as goal

pub invariant_of-self : goal.invariant_of-self
invariant_of-self c =
    let enough : 1 ≤ c.self.inside.room = omega (arith, c.requires.room, ap (λ (d : MemoryDisk). d.room) c.self.view_is) in
    let bytes = c.overwrite.ensures ∙ ap (λ (l : List ℕ). overwritten l c.args.at c.args.bytes.now) c.deref_mut.ensures.value in
    subst (λ (l : List ℕ). IsConsistentDisk l c.self.inside.synced.value c.add_write.new.self true (c.self.inside.room - 1)) (sym bytes)
    (consistent_after_write c.self.inside.bytes.value c.self.inside.synced.value c.self.inside.calls c.add_write.new.self c.self.inside.pending c.self.inside.room _ c.args.at c.args.bytes.now c.self.invariant enough refl
    c.add_write.ensures.steps c.add_write.ensures.entries c.add_write.ensures.bytes (omega (arith, c.requires.inside)))

pub returns-clause-written : goal.returns-clause-written
returns-clause-written c =
    let size : c.args.at + length c.args.bytes.now ≤ length c.self.inside.bytes.value = search rules in
    subst (λ (d : MemoryDisk). Written c.args.at c.args.bytes.now (byte_at (state d.steps).content) (byte_at (state c.add_write.new.self.steps).content)) c.self.view_is
    (written_to c.self.inside.bytes.value c.self.inside.synced.value c.self.inside.calls c.add_write.new.self c.self.inside.pending c.self.inside.room c.args.at c.args.bytes.now c.self.invariant
    c.add_write.ensures.steps size)
