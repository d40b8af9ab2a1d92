use Rattle.std.proofs.Common.{rules, ◌≡◌, sym, subst}
use Rattle.std.specs.Prelude.{None, IsSome}
use Rattle.vt_seat.specs.Seats.{world_of}
use Rattle.vt_seat.specs.Follows.{RefinesOneHost}
use Rattle.vt_seat.proofs.Lines.{write-steps, read-steps}
use Rattle.vt_seat.proofs.Steps.{the_same}
use Rattle.vt_seat.proofs.Counted.{follows_any, steps_any}
use Rattle.vt_seat.proofs.seat.Seat+PlainPort.access.Goals as goal

pub returns-then-is_some-clause-steps : goal.returns-then-is_some-clause-steps
returns-then-is_some-clause-steps c = λ b t follows.
    let some : IsSome c.args.access.now.write = search rules in
    steps_any b t _ _ _ _ _ _ 0 _ (write-steps b t c.self.inside.host.device c.write-then-is_some.new.self.device c.self.inside.worker c.self.inside.wires.link c.self.inside.wires.calls_to_fault c.args.access.now
    (follows_any b t _ _ _ _ _ 0 (subst (λ s. RefinesOneHost b t (world_of s)) (sym c.self.view_is) follows)) c.write.ensures.within some (the_same _ _ c.write-then-is_some.ensures.exact))

pub returns-clause-steps : goal.returns-clause-steps
returns-clause-steps c = λ b t follows.
    let none : c.args.access.now.write ≡ None = search rules in
    rw c.size.ensures.value (steps_any b t _ _ _ _ _ _ 0 _ (read-steps b t c.self.inside.host.device c.read.new.self.device c.self.inside.worker c.self.inside.wires.link c.self.inside.wires.calls_to_fault c.args.access.now c.read.result
    (follows_any b t _ _ _ _ _ 0 (subst (λ s. RefinesOneHost b t (world_of s)) (sym c.self.view_is) follows)) c.write.ensures.within none (the_same _ _ c.read.ensures.exact) c.read.ensures.exact_value))
