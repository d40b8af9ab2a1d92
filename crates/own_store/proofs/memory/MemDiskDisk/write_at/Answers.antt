use Rattle.std.proofs.Common.{◌++◌, ◌∷◌, [], subst}
use Rattle.own_store.specs.Disk.{Written}
use Rattle.own_store.specs.Steps.Step.{Wrote}
use Rattle.own_store.specs.MemDisk.{MemoryDisk, memory_content}
use Rattle.own_store.specs.InjectedLaws.{begun_and_done}
use Rattle.own_store.proofs.Replays.{elapses_to, elapses_lost, torn_lost, torn_write, step_added}
use Rattle.own_store.proofs.memory.MemDiskDisk.write_at.Goals as goal

pub returns-then-not-begin-clause-time : goal.returns-then-not-begin-clause-time
returns-then-not-begin-clause-time c = elapses_lost c.args.self.now.steps c.begin.new.self.steps (c.begin.ensures.steps c.if-not-begin.true)

pub returns-then-not-begin-clause-calls : goal.returns-then-not-begin-clause-calls
returns-then-not-begin-clause-calls c = c.begin.ensures.fails c.if-not-begin.true

pub returns-clause-calls : goal.returns-clause-calls
returns-clause-calls c = begun_and_done c.args.self.now c.begin.new.self c.do_write.new.self (c.begin.new.self.steps ++ (Wrote c.args.at c.args.bytes.now) ∷ []) (c.begin.ensures.begins c.if-not-begin.false) c.do_write.ensures.done

pub returns-clause-time : goal.returns-clause-time
returns-clause-time c = elapses_to c.args.self.now.steps c.do_write.new.self.steps (Wrote c.args.at c.args.bytes.now) (step_added c.args.self.now c.begin.new.self c.do_write.new.self (Wrote c.args.at c.args.bytes.now) (c.begin.ensures.begins c.if-not-begin.false) c.do_write.ensures.done)

pub returns-then-not-begin-clause-crash : goal.returns-then-not-begin-clause-crash
returns-then-not-begin-clause-crash c = torn_lost c.args.self.now.steps c.begin.new.self.steps c.args.at _ (c.begin.ensures.steps c.if-not-begin.true)

pub returns-clause-crash : goal.returns-clause-crash
returns-clause-crash c =
    let begins = c.begin.ensures.begins c.if-not-begin.false in
    torn_write c.args.self.now.steps c.do_write.new.self.steps c.args.at c.args.bytes.now (step_added c.args.self.now c.begin.new.self c.do_write.new.self (Wrote c.args.at c.args.bytes.now) begins c.do_write.ensures.done)
    (subst (λ (d : MemoryDisk). Written c.args.at c.args.bytes.now (memory_content d) (memory_content c.do_write.new.self)) begins.after c.do_write.ensures.written)
