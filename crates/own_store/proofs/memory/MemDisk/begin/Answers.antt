use Rattle.std.proofs.Common.{sym, ◌∙◌, ap}
use Rattle.own_store.specs.MemDisk.{MemoryDisk}
use Rattle.own_store.specs.InjectedLaws.{fails_by_loss, fails_by_fault}
use Rattle.own_store.proofs.memory.MemDisk.begin.Goals as goal

pub returns-in-Some-clause-fails : goal.returns-in-Some-clause-fails
returns-in-Some-clause-fails c =
    λ _. fails_by_loss c.args.self.now c.fault_comes-fails.new.self c.loss_comes.new.self c.lose.new.self c.count_fault-in-Some.new.self c.fault_comes-fails.result c.in-Some.keep _ _ (sym (ap (λ (d : MemoryDisk). d.off) c.self.view_is) ∙ c.if-self.false)
    c.fault_comes-fails.ensures.comes c.fault_comes-fails.ensures.beyond c.in-Some.ensures.comes c.lose.ensures.off c.count_fault-in-Some.ensures.counts

pub returns-then-fails-clause-fails : goal.returns-then-fails-clause-fails
returns-then-fails-clause-fails c =
    λ _. fails_by_fault c.args.self.now c.fault_comes-fails.new.self c.loss_comes.new.self c.count_fault-then-fails.new.self _ (sym (ap (λ (d : MemoryDisk). d.off) c.self.view_is) ∙ c.if-self.false)
    (c.fault_comes-fails.ensures.comes c.if-fails.true) (c.loss_comes.ensures.beyond c.in_default.is) c.count_fault-then-fails.ensures.counts
