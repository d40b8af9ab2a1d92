use Rattle.std.proofs.Common.{◌++◌, ◌∷◌, [], ap}
use Rattle.own_store.specs.Steps.{State, byte_at}
use Rattle.own_store.specs.Steps.Step.{Synced}
use Rattle.own_store.specs.InjectedLaws.{begun_and_done}
use Rattle.own_store.proofs.Replays.{elapses_to, elapses_lost, fewer_to, fewer_lost, only_synced, state_to, step_added}
use Rattle.own_store.proofs.memory.MemDiskDisk.sync.Goals as goal

pub returns-then-not-begin-clause-time : goal.returns-then-not-begin-clause-time
returns-then-not-begin-clause-time c = elapses_lost c.args.self.now.steps c.begin.new.self.steps (c.begin.ensures.steps c.if-not-begin.true)

pub returns-then-not-begin-clause-calls : goal.returns-then-not-begin-clause-calls
returns-then-not-begin-clause-calls c = c.begin.ensures.fails c.if-not-begin.true

pub returns-clause-calls : goal.returns-clause-calls
returns-clause-calls c = begun_and_done c.args.self.now c.begin.new.self c.do_sync.new.self (c.begin.new.self.steps ++ Synced ∷ []) (c.begin.ensures.begins c.if-not-begin.false) c.do_sync.ensures.done

pub returns-clause-time : goal.returns-clause-time
returns-clause-time c = elapses_to c.args.self.now.steps c.do_sync.new.self.steps Synced (step_added c.args.self.now c.begin.new.self c.do_sync.new.self Synced (c.begin.ensures.begins c.if-not-begin.false) c.do_sync.ensures.done)

pub returns-then-not-begin-clause-crash : goal.returns-then-not-begin-clause-crash
returns-then-not-begin-clause-crash c = fewer_lost c.args.self.now.steps c.begin.new.self.steps (c.begin.ensures.steps c.if-not-begin.true)

pub returns-clause-crash : goal.returns-clause-crash
returns-clause-crash c = fewer_to c.args.self.now.steps c.do_sync.new.self.steps Synced tt (step_added c.args.self.now c.begin.new.self c.do_sync.new.self Synced (c.begin.ensures.begins c.if-not-begin.false) c.do_sync.ensures.done)

pub returns-clause-content : goal.returns-clause-content
returns-clause-content c =
    ap (λ (s : State). byte_at s.content)
    (state_to c.args.self.now.steps c.do_sync.new.self.steps Synced (step_added c.args.self.now c.begin.new.self c.do_sync.new.self Synced (c.begin.ensures.begins c.if-not-begin.false) c.do_sync.ensures.done))

pub returns-clause-durable : goal.returns-clause-durable
returns-clause-durable c = only_synced c.args.self.now.steps c.do_sync.new.self.steps (step_added c.args.self.now c.begin.new.self c.do_sync.new.self Synced (c.begin.ensures.begins c.if-not-begin.false) c.do_sync.ensures.done)
