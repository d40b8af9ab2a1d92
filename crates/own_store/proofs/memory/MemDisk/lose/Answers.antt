use Rattle.std.proofs.Common.{◌∙◌, ap, subst}
use Rattle.own_store.specs.Steps.{state, after, byte_at, IsLeft}
use Rattle.own_store.specs.Steps.Step.{Lost}
use Rattle.own_store.specs.MemDisk.{MemoryDisk}
use Rattle.own_store.proofs.Replays.{consistent_after_loss, lost_content, state_to}
use Rattle.own_store.proofs.memory.MemDisk.lose.Goals as goal

pub invariant_of-self-2 : goal.invariant_of-self-2
invariant_of-self-2 c =
    consistent_after_loss c.self.inside.bytes.value c.self.inside.synced.value c.end_pending.new.bytes c.end_pending.new.synced c.self.inside.calls c.add.new.self c.self.inside.pending c.args.keep c.self.inside.room c.self.invariant
    c.if-not-self.false c.add.ensures.steps c.add.ensures.entries c.add.ensures.bytes
    (c.end_pending.ensures.content ∙ (λ i. (after (record { content = c.deref_mut.ensures.value i; synced = c.deref_mut-2.ensures.value i }) (Lost c.args.keep)).content))
    (c.end_pending.ensures.synced ∙ (λ i. (after (record { content = c.deref_mut.ensures.value i; synced = c.deref_mut-2.ensures.value i }) (Lost c.args.keep)).synced))

pub returns-clause-lost : goal.returns-clause-lost
returns-clause-lost c =
    state_to c.self.inside.calls.steps c.add.new.self.steps (Lost c.args.keep) c.add.ensures.steps
    ∙ ap (λ (d : MemoryDisk). after (state d.steps) (Lost c.args.keep)) c.self.view_is

pub returns-clause-left : goal.returns-clause-left
returns-clause-left c =
    subst (λ (d : MemoryDisk). IsLeft (state d.steps) (byte_at (state c.add.new.self.steps).content)) c.self.view_is
    (lost_content c.self.inside.calls.steps c.add.new.self.steps c.args.keep c.add.ensures.steps)
