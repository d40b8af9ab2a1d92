use Rattle.std.proofs.Common.{◌≤◌, length, take, ap, arith, Err}
use Rattle.std.proofs.lemmas.Grind.{common_steps}
use Rattle.crb_history.specs.Device.{executed}
use Rattle.vt_world.specs.Pairs.{running_world}
use Rattle.script_run.proofs.Answering.{called, not_failed}
use Rattle.script_run.proofs.Guests.{guest-answers, guest-fails, place-answers}
use Rattle.script_run.proofs.drive.call.Goals as goal

pub unreachable-requires : goal.unreachable-requires
unreachable-requires c =
    let rests = c.requires.rests in
    not_failed rests.0 rests.1 (running_world c.args.pair.now) c.args.command.now c.requires.sized (λ i. omega (arith, c.type_inv.command i)) rests.2 (running_world c.call.new.bus) 8 (length c.args.into.now) c.in-Err._fault
    (omega arith) c.requires.room
    (c.answers_are_responses.ensures.response rests.0.tpm (executed rests.0 rests.1) c.args.command.now rests.2.after.follows.fit)
    (λ n is. let fits = rw (c.in-Err.is, is) at c.call.type_inv in omega (arith, fits))
    (λ is. c.in-Err.ensures.size.0 (ap Err is) c.requires.sized)
    (guest-fails c.args.pair.now c.call.new.bus c.args.command.now 8 (length c.args.into.now) c.in-Err._fault c.in-Err.ensures.err)

pub returns-clause-calls : goal.returns-clause-calls
returns-clause-calls c = λ b p rest.
    let short : length (take c.in-Ok.count c.call.new.into) ≤ 3968 = grind (arith, common_steps, c.in-Ok.ensures.length) in
    called b p (running_world c.args.pair.now) c.args.command.now c.requires.sized (λ i. omega (arith, c.type_inv.command i)) rest (running_world c.call.new.bus) 8 (take c.in-Ok.count c.call.new.into)
    short
    (c.answers_are_responses.ensures.response b.tpm (executed b p) c.args.command.now rest.after.follows.fit)
    (guest-answers c.args.pair.now c.call.new.bus c.args.command.now 8 (take c.in-Ok.count c.call.new.into) c.in-Ok.ensures.ok)

pub returns-clause-place : goal.returns-clause-place
returns-clause-place c = λ piece s movable.
    place-answers c.accesses_keep_the_placement.ensures.kept piece s c.args.command.now 8 (take c.in-Ok.count c.call.new.into) c.args.pair.now c.call.new.bus movable c.in-Ok.ensures.ok
